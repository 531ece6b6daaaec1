-- What a program in C may rely on that lists and asks for chains: the outcomes of the definitions are read off the numbers, and two results that the contracts allow are equal.
use mathlib.Core.Path.{◌≡◌, refl, sym, ◌∙◌}
use mathlib.Core.List.{List, ◌++◌}
use Prim.Native.Nat.{ℕ}
use native.Mathlib.Omega.{arith}
use lib.ListN.{length}
use borrow.Author.Tests.{ne_eqb}
use Rattle.lineage.specs.Question.{downstream}
use Rattle.lineage.specs.Calls.{Outcome, refused, answered, FormsTaken, index_in, ask_early, list_early, list_late, list_answer, list_marks, list_work, list_output}
use Rattle.chain.specs.Traced.{Traced, none, steps, traced, chain_late, chain_answer, chain_marks, chain_work, chain_output}
use Rattle.face.specs.declared.DrobistenCounted.{DrobistenCounted}
use Rattle.face.specs.Host.{host_counted, counted_by}
use Rattle.face.proofs.Theorems.{Numbered, numbered, counted_back}
use Rattle.face_list.specs.declared.DrobistenChained.{DrobistenChained}
use Rattle.face_list.specs.Chained.{host_chained, chained_by}

-- an outcome whose refusal is not 0 is read back
chained_back : (o : Outcome Traced) → Numbered o → chained_by (host_chained o) ≡ o
chained_back (refused number extra) some = rw (ne_eqb number 0 (λ e. omega arith)) refl
chained_back (answered none) some = refl
chained_back (answered (steps count)) some = refl

pub listed_read : (T : FormsTaken) (b : List ℕ) (u m w o : ℕ) → counted_by (host_counted (list_answer T b u m w o)) ≡ list_answer T b u m w o
unfolding list_answer
listed_read T b u m w o =
    counted_back (list_answer T b u m w o)
    (numbered (length (downstream (index_in b) u)) (list_early T b u m w ++ list_late b u o)
    (omega arith, (omega arith, (omega arith, (omega arith, (omega arith, (omega arith, (omega arith, (omega arith, tt)))))))))

pub chained_read : (T : FormsTaken) (b : List ℕ) (u v m w o : ℕ) → chained_by (host_chained (chain_answer T b u v m w o)) ≡ chain_answer T b u v m w o
unfolding chain_answer
chained_read T b u v m w o =
    chained_back (chain_answer T b u v m w o)
    (numbered (traced (index_in b) u v) (ask_early T b u v m w ++ chain_late b u v o)
    (omega arith, (omega arith, (omega arith, (omega arith, (omega arith, (omega arith, (omega arith, (omega arith, (omega arith, tt))))))))))

-- what `drobisten_list`, that on a turned index, and `drobisten_chain` may return and leave, by their contracts
pub record Lists (T : FormsTaken) (b : List ℕ) (u : ℕ) (marks work out : List ℕ) (r : DrobistenCounted) (m w o : List ℕ) : Type 0 where
  pub returns : r ≡ host_counted (list_answer T b u (length marks) (length work) (length out))
  pub leaves : m ≡ list_marks T b u marks (length work)
  pub clears : w ≡ list_work T b u (length marks) work
  pub writes : o ≡ list_output T b u (length marks) (length work) out

pub record Chains (T : FormsTaken) (b : List ℕ) (u v : ℕ) (marks work out : List ℕ) (r : DrobistenChained) (m w o : List ℕ) : Type 0 where
  pub returns : r ≡ host_chained (chain_answer T b u v (length marks) (length work) (length out))
  pub leaves : m ≡ chain_marks T b u v marks (length work)
  pub clears : w ≡ chain_work T b u v (length marks) work
  pub writes : o ≡ chain_output T b u v (length marks) (length work) out

-- two results are equal
pub listed_once :
    {T : FormsTaken} {b : List ℕ} {u : ℕ} {marks work out : List ℕ} {r r' : DrobistenCounted} {m m' w w' o o' : List ℕ}
    → Lists T b u marks work out r m w o → Lists T b u marks work out r' m' w' o' → (r ≡ r') × ((m ≡ m') × ((w ≡ w') × (o ≡ o')))
listed_once A B = (A.returns ∙ sym B.returns, (A.leaves ∙ sym B.leaves, (A.clears ∙ sym B.clears, A.writes ∙ sym B.writes)))

pub chained_once :
    {T : FormsTaken} {b : List ℕ} {u v : ℕ} {marks work out : List ℕ} {r r' : DrobistenChained} {m m' w w' o o' : List ℕ}
    → Chains T b u v marks work out r m w o → Chains T b u v marks work out r' m' w' o' → (r ≡ r') × ((m ≡ m') × ((w ≡ w') × (o ≡ o')))
chained_once A B = (A.returns ∙ sym B.returns, (A.leaves ∙ sym B.leaves, (A.clears ∙ sym B.clears, A.writes ∙ sym B.writes)))
