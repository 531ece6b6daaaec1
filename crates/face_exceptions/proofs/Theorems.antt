-- What a program in C may rely on that builds, opens and asks exception lists: the outcomes of the definitions are read off the numbers, and two results that the contracts
-- allow are equal.
use mathlib.Core.Path.{◌≡◌, refl, sym, ◌∙◌}
use mathlib.Core.List.{List, ◌++◌}
use Prim.Native.Nat.{ℕ}
use native.Mathlib.Omega.{arith}
use lib.ListN.{length}
use borrow.Author.Tests.{ne_eqb}
use Rattle.lineage.specs.Calls.{Outcome, refused, answered, index_in}
use Rattle.laws_exceptions.specs.Exceptions.{encode_exceptions, says_by_exceptions}
use Rattle.exceptions.specs.Calls.{form_one_checks, build_late, exceptions_built, exceptions_output, open_late, ListCounts, list_counts, exceptions_opened, ask_late, exceptions_asked, exception_marks}
use Rattle.exceptions_all.specs.Batch.{all_late, all_exceptions, exceptions_answers}
use Rattle.face.specs.declared.DrobistenAskedAll.{DrobistenAskedAll}
use Rattle.face.specs.declared.DrobistenCounted.{DrobistenCounted}
use Rattle.face.specs.declared.DrobistenSaid.{DrobistenSaid}
use Rattle.face.specs.Host.{host_asked_all, host_counted, host_said, asked_all_by, counted_by, said_by}
use Rattle.face.proofs.Theorems.{Numbered, numbered, asked_all_back, counted_back, said_back}
use Rattle.face_exceptions.specs.declared.DrobistenLists.{DrobistenLists}
use Rattle.face_exceptions.specs.Lists.{host_lists, lists_by}

-- an outcome whose refusal is not 0 is read back
lists_back : (o : Outcome ListCounts) → Numbered o → lists_by (host_lists o) ≡ o
lists_back (refused number extra) some = rw (ne_eqb number 0 (λ e. omega arith)) refl
lists_back (answered a) some = refl

pub lists_built_read : (b : List ℕ) (m o : ℕ) → counted_by (host_counted (exceptions_built b m o)) ≡ exceptions_built b m o
unfolding exceptions_built
lists_built_read b m o =
    counted_back (exceptions_built b m o)
    (numbered (length (encode_exceptions (index_in b))) (form_one_checks b m ++ build_late b o)
    (omega arith, (omega arith, (omega arith, (omega arith, (omega arith, (omega arith, (omega arith, tt))))))))

pub lists_opened_read : (b lists : List ℕ) (m : ℕ) → lists_by (host_lists (exceptions_opened b lists m)) ≡ exceptions_opened b lists m
unfolding exceptions_opened
lists_opened_read b lists m =
    lists_back (exceptions_opened b lists m)
    (numbered (list_counts (index_in b)) (form_one_checks b m ++ open_late b lists)
    (omega arith, (omega arith, (omega arith, (omega arith, (omega arith, (omega arith, (omega arith, tt))))))))

pub lists_asked_read : (b lists : List ℕ) (u v m : ℕ) → said_by (host_said (exceptions_asked b lists u v m)) ≡ exceptions_asked b lists u v m
unfolding exceptions_asked
lists_asked_read b lists u v m =
    said_back (exceptions_asked b lists u v m)
    (numbered (says_by_exceptions (index_in b) u v) (form_one_checks b m ++ ask_late b lists u v)
    (omega arith, (omega arith, (omega arith, (omega arith, (omega arith, (omega arith, (omega arith, (omega arith, (omega arith, tt))))))))))

pub lists_asked_all_read : (b lists S T : List ℕ) (m a : ℕ) → asked_all_by (host_asked_all (all_exceptions b lists S T m a)) ≡ all_exceptions b lists S T m a
unfolding all_exceptions
lists_asked_all_read b lists S T m a =
    asked_all_back (all_exceptions b lists S T m a)
    (numbered (length S) (form_one_checks b m ++ all_late b lists S T a)
    (omega arith, (omega arith, (omega arith, (omega arith, (omega arith, (omega arith, (omega arith, (omega arith, (omega arith, tt))))))))))

-- what the four calls may return and leave, by their contracts
pub record BuildsLists (b marks out : List ℕ) (r : DrobistenCounted) (m o : List ℕ) : Type 0 where
  pub returns : r ≡ host_counted (exceptions_built b (length marks) (length out))
  pub leaves : m ≡ exception_marks b marks
  pub writes : o ≡ exceptions_output b (length marks) out

pub record OpensLists (b lists marks : List ℕ) (r : DrobistenLists) (m : List ℕ) : Type 0 where
  pub returns : r ≡ host_lists (exceptions_opened b lists (length marks))
  pub leaves : m ≡ exception_marks b marks

pub record AsksLists (b lists : List ℕ) (u v : ℕ) (marks : List ℕ) (r : DrobistenSaid) (m : List ℕ) : Type 0 where
  pub returns : r ≡ host_said (exceptions_asked b lists u v (length marks))
  pub leaves : m ≡ exception_marks b marks

pub record AsksAllLists (b lists S T marks answers : List ℕ) (r : DrobistenAskedAll) (m a : List ℕ) : Type 0 where
  pub returns : r ≡ host_asked_all (all_exceptions b lists S T (length marks) (length answers))
  pub leaves : m ≡ exception_marks b marks
  pub writes : a ≡ exceptions_answers b lists S T (length marks) answers

-- two results are equal
pub lists_built_once :
    {b marks out : List ℕ} {r r' : DrobistenCounted} {m m' o o' : List ℕ}
    → BuildsLists b marks out r m o → BuildsLists b marks out r' m' o' → (r ≡ r') × ((m ≡ m') × (o ≡ o'))
lists_built_once A B = (A.returns ∙ sym B.returns, (A.leaves ∙ sym B.leaves, A.writes ∙ sym B.writes))

pub lists_opened_once :
    {b lists marks : List ℕ} {r r' : DrobistenLists} {m m' : List ℕ} → OpensLists b lists marks r m → OpensLists b lists marks r' m' → (r ≡ r') × (m ≡ m')
lists_opened_once A B = (A.returns ∙ sym B.returns, A.leaves ∙ sym B.leaves)

pub lists_asked_once :
    {b lists : List ℕ} {u v : ℕ} {marks : List ℕ} {r r' : DrobistenSaid} {m m' : List ℕ}
    → AsksLists b lists u v marks r m → AsksLists b lists u v marks r' m' → (r ≡ r') × (m ≡ m')
lists_asked_once A B = (A.returns ∙ sym B.returns, A.leaves ∙ sym B.leaves)

pub lists_asked_all_once :
    {b lists S T marks answers : List ℕ} {r r' : DrobistenAskedAll} {m m' a a' : List ℕ}
    → AsksAllLists b lists S T marks answers r m a → AsksAllLists b lists S T marks answers r' m' a' → (r ≡ r') × ((m ≡ m') × (a ≡ a'))
lists_asked_all_once A B = (A.returns ∙ sym B.returns, (A.leaves ∙ sym B.leaves, A.writes ∙ sym B.writes))
