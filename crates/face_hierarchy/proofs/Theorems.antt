-- What a program in C may rely on that turns an index of form 2 into form 4 or back: the outcomes of the definitions are read off the numbers, and two results that the
-- contracts allow are equal. Building, opening and asking are as at any other form (`BuildsForm` of face_build, `Inspects` and `Questions` of face_ask).
use mathlib.Core.Path.{◌≡◌, sym, ◌∙◌}
use mathlib.Core.List.{List, ◌++◌}
use Prim.Native.Nat.{ℕ}
use native.Mathlib.Omega.{arith}
use lib.ListN.{length}
use Rattle.lineage.specs.Stored.{form_of}
use Rattle.convert.specs.Convert.{converted, convert_early, convert_marks, convert_work}
use Rattle.hierarchy.specs.Turn.{turn_late, turn_answer, turn_output}
use Rattle.face.specs.declared.DrobistenCounted.{DrobistenCounted}
use Rattle.face.specs.Host.{host_counted, counted_by}
use Rattle.face.proofs.Theorems.{numbered, counted_back}

pub turned_read : (from to : ℕ) (b : List ℕ) (m w o : ℕ) → counted_by (host_counted (turn_answer from to b m w o)) ≡ turn_answer from to b m w o
unfolding turn_answer
turned_read from to b m w o =
    counted_back (turn_answer from to b m w o)
    (numbered (length (converted (form_of to) b)) (convert_early from b m w ++ turn_late to b o)
    (omega arith, (omega arith, (omega arith, (omega arith, (omega arith, (omega arith, (omega arith, (omega arith, (omega arith, tt))))))))))

-- what the conversions may return and leave, by their contracts
pub record Turns (from to : ℕ) (b marks work out : List ℕ) (r : DrobistenCounted) (m w o : List ℕ) : Type 0 where
  pub returns : r ≡ host_counted (turn_answer from to b (length marks) (length work) (length out))
  pub leaves : m ≡ convert_marks from b marks (length work)
  pub clears : w ≡ convert_work from b (length marks) work
  pub writes : o ≡ turn_output from to b (length marks) (length work) out

-- two results are equal
pub turned_once :
    {from to : ℕ} {b marks work out : List ℕ} {r r' : DrobistenCounted} {m m' w w' o o' : List ℕ}
    → Turns from to b marks work out r m w o → Turns from to b marks work out r' m' w' o' → (r ≡ r') × ((m ≡ m') × ((w ≡ w') × (o ≡ o')))
turned_once A B = (A.returns ∙ sym B.returns, (A.leaves ∙ sym B.leaves, (A.clears ∙ sym B.clears, A.writes ∙ sym B.writes)))
