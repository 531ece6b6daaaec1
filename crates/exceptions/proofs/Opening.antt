-- Exception lists open exactly where the index opens and they are its exceptions, and what is answered then is how many they are. The contract allows one result.
use Rattle.std.specs.Prelude.{Result}
use mathlib.Core.Bool.{true, false, not}
use mathlib.Core.Logic.{◌↔◌}
use mathlib.Core.Path.{◌≡◌, refl, sym, ap, subst, ◌∙◌}
use mathlib.Core.List.{List, [], ◌∷◌, ◌++◌}
use Prim.Native.Nat.{ℕ}
use lib.ListN.{length}
use borrow.Author.Tests.{not-false}
use Rattle.lineage.specs.Lists.{same_list}
use Rattle.lineage.specs.Stored.{Counts, counts_in}
use Rattle.lineage.specs.Calls.{Check, answered, host, contents_check, index_in, open_answer, open_marks}
use Rattle.laws.specs.Checks.{Pass}
use Rattle.laws.proofs.Lists.{same_list_lem, same_self}
use Rattle.laws.proofs.Checks.{stops_outcome, pass_front, pass_behind, pass_both, answered_pass, answered_is}
use Rattle.laws_exceptions.specs.Exceptions.{encode_exceptions}
use Rattle.exceptions.specs.Calls.{form_one_checks, open_late, ListCounts, list_counts, exceptions_opened, exception_marks}
use Rattle.exceptions.specs.declared.Opened.{Opened}
use Rattle.refusals.specs.declared.Refusal.{Refusal}
use Rattle.refusals.proofs.Told.{outcome_once}
use Rattle.exceptions.specs.Opened.{opened_of}

-- the marks after each call on exception lists are those of opening the index
pub exception_marks_lem : (b marks : List ℕ) → exception_marks b marks ≡ open_marks host b marks 0
unfolding exception_marks open_marks
exception_marks_lem b marks = refl

module _ (b lists : List ℕ) (marks : ℕ) where
  abbrev first : List Check
  first = form_one_checks b marks

  abbrev own : List ℕ
  own = encode_exceptions (index_in b)

  -- lists that are the index's exceptions pass
  pub passes : Pass first → (contents_check b).applies ≡ false → lists ≡ encode_exceptions (index_in b) → Pass (first ++ open_late b lists)
  passes p c e =
      let same : same_list lists own ≡ true = subst (λ (z : List ℕ). same_list lists z ≡ true) e (same_self lists) in
      pass_both first (open_late b lists) p (c, (ap not same, tt))

  -- the lists open exactly where the index does and they are its exceptions
  pub exceptions_exactly :
      ((a : ListCounts) × (exceptions_opened b lists marks ≡ answered a)) ↔ (((a : Counts) × (open_answer host b marks 0 ≡ answered a)) × (lists ≡ encode_exceptions (index_in b)))
  unfolding exceptions_opened open_answer
  exceptions_exactly = (
    (λ h.
        let (a, e) = h in
        let p = answered_pass (list_counts (index_in b)) (first ++ open_late b lists) a e in
        let late = pass_behind first (open_late b lists) p in (
          (counts_in b, stops_outcome (counts_in b) (first ++ (contents_check b ∷ [])) 6 (pass_both first (contents_check b ∷ []) (pass_front first (open_late b lists) p) (late.0, tt))),
          same_list_lem lists own (not-false (same_list lists own) late.1.0),
        )),
    λ h.
        let ((a, e), is) = h in
        let p = answered_pass (counts_in b) (first ++ (contents_check b ∷ [])) a e in
        let all = passes (pass_front first (contents_check b ∷ []) p) (pass_behind first (contents_check b ∷ []) p).0 is in
        (list_counts (index_in b), stops_outcome (list_counts (index_in b)) (first ++ open_late b lists) 7 all),
  )

  -- and what is answered are their counts
  pub opened_counts : (a : ListCounts) → exceptions_opened b lists marks ≡ answered a → a ≡ list_counts (index_in b)
  unfolding exceptions_opened
  opened_counts a e = answered_is (list_counts (index_in b)) (first ++ open_late b lists) a e

-- two results that the contract allows are equal
pub record Allowed (b lists marks : List ℕ) (r : Result Opened Refusal) (marks' : List ℕ) : Type 0 where
  pub answers : opened_of r ≡ exceptions_opened b lists (length marks)
  pub leaves : marks' ≡ exception_marks b marks

abbrev opened_like : ListCounts → Opened
opened_like z = record { groups = z.groups; entries = z.entries }

opened_one : (o o' : Opened) → ◌≡◌ {A = ListCounts} (record { groups = o.groups; entries = o.entries }) (record { groups = o'.groups; entries = o'.entries }) → o ≡ o'
opened_one o o' e = ap (λ (z : ListCounts). opened_like z) e

pub opened_once : {b lists marks : List ℕ} {r r' : Result Opened Refusal} {m m' : List ℕ} → Allowed b lists marks r m → Allowed b lists marks r' m' → (r ≡ r') × (m ≡ m')
opened_once A B = (outcome_once _ opened_one _ _ (A.answers ∙ sym B.answers), A.leaves ∙ sym B.leaves)
