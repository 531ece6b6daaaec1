-- What `prepare` answers and leaves: what its checks come to, and behind them the marks of what the changed vertices reach.
use mathlib.Core.Bool.{Bool, true, false, cond}
use mathlib.Core.Path.{◌≡◌, refl, sym, ap, subst, ◌∙◌}
use mathlib.Core.List.{List, [], ◌∷◌}
use Prim.Native.Nat.{ℕ, ◌≤◌}
use native.Mathlib.Omega.{arith}
use lib.Dec.{leb}
use lib.ListN.{length}
use borrow.Author.Tests.{ltb-false, leb-false}
use Rattle.std.specs.Prelude.{Option, Some, None, position}
use Rattle.lineage.specs.Lists.{any, cleared}
use Rattle.lineage.specs.Stored.{counts_in}
use Rattle.lineage.specs.Calls.{Check, check, Outcome, refused, answered, outcome, FormsTaken, form_checks, index_in}
use Rattle.laws.specs.Checks.{Pass, Told}
use Rattle.laws.proofs.Checks.{outcome_told, answered_pass, answered_is}
use Rattle.laws.proofs.Lists.{any_none}
use Rattle.numbers.proofs.Cleared.{cleared_past}
use Rattle.stored_header.specs.declared.Layout.{Layout}
use Rattle.stored_header.specs.Header.{layout_in, Laid}
use Rattle.stored_header.proofs.Laid.{n_is}
use Rattle.open.proofs.Called.{Called}
use Rattle.stored.proofs.Contents.{names_many}
use Rattle.rules_states.specs.Rules.{position_of, rules_checks, rules_work}
use Rattle.rules_states.specs.Marks.{InRange, affected_marks}
use Rattle.rules_states.proofs.Positions.{position_found}
use Rattle.rules_states.proofs.Affected.{marks_behind_same}
use Rattle.rules.specs.Settled.{prepared_answer, prepared_marks}

some_at : {at p : ℕ} (t : Bool) → Some at ≡ cond t (Some p) None → (t ≡ true) × (at ≡ p)
some_at true e = (refl, cc)
some_at false e = cc

none_at : (p : ℕ) (t : Bool) → ◌≡◌ {A = Option ℕ} None (cond t (Some p) None) → t ≡ false
none_at p true e = cc
none_at p false e = refl

-- 14 as code tests it: a position is found, which is the refusal's extra number, or none
module _ {b : List ℕ} {l : Layout} (L : Laid b l) (changed : List ℕ) {r : Option ℕ} (found : r ≡ position (leb l.n) changed) where
  found_in : r ≡ cond (any (leb (counts_in b).n) changed) (Some (position_of (leb (counts_in b).n) changed)) None
  found_in = found ∙ ap (λ (n : ℕ). position (leb n) changed) (n_is L) ∙ position_found (leb (counts_in b).n) changed

  pub one_out : {at : ℕ} → r ≡ Some at → (any (leb (counts_in b).n) changed ≡ true) × (at ≡ position_of (leb (counts_in b).n) changed)
  one_out e = some_at (any (leb (counts_in b).n) changed) (sym e ∙ found_in)

  pub none_out : r ≡ None → any (leb (counts_in b).n) changed ≡ false
  none_out e = none_at _ (any (leb (counts_in b).n) changed) (sym e ∙ found_in)

-- where none is n or more, all are in range
pub in_range : {n m : ℕ} → n ≡ m → (changed : List ℕ) → any (leb m) changed ≡ false → InRange n changed
in_range {n} {m} e changed none = record { low = λ u i. omega (arith, leb-false m u (any_none (leb m) changed none u i)) }

-- the marks behind those of the vertices are as they were lent, cleared or not
pub affected_again : (b changed marks : List ℕ) {clear : List ℕ} {n : ℕ} → clear ≡ cleared n marks → n ≡ (counts_in b).n
    → affected_marks (index_in b) changed clear ≡ affected_marks (index_in b) changed marks
affected_again b changed marks {clear} {n} e is = marks_behind_same (index_in b) changed clear marks (rw (names_many b, ← is, e) (cleared_past n marks))

-- 14
abbrev own : (b changed : List ℕ) → List Check
own b changed = check (any (leb (counts_in b).n) changed) 14 (position_of (leb (counts_in b).n) changed) ∷ []

-- what may be answered, and what marks and words may hold afterwards
pub prepares : {T : FormsTaken} {b : List ℕ} (changed : List ℕ) {marks work : List ℕ} {o : Outcome ℕ} {m w marked : List ℕ} {stops : Bool}
    → Called T b marks work (own b changed) [] (counts_in b).n o m w stops → marked ≡ cond stops m (affected_marks (index_in b) changed marks)
    → record {
      result_value : o ≡ prepared_answer T b changed (length marks) (length work);
      marks_after : marked ≡ prepared_marks T b changed marks (length work);
      work_after : w ≡ rules_work T b changed (length marks) work;
    }
unfolding prepared_answer prepared_marks rules_work
prepares changed {marks} C e = record { result_value = C.says; marks_after = e ∙ rw (C.all, ← C.leaves) refl; work_after = C.clears }

-- none of 10 to 13 and 6 is 14
pub header_own : (T : FormsTaken) (b : List ℕ) (marks work : ℕ) {x y : ℕ} → refused x y ≡ outcome (form_checks T b marks work) (layout_in b) → x ≡ 14 → ⊥
header_own T b marks work e =
    subst (Told (λ n z. n ≡ 14 → ⊥) (λ (l : Layout). Unit {0})) (sym e)
    (outcome_told (layout_in b) (λ n z. n ≡ 14 → ⊥) (λ (l : Layout). Unit {0}) (form_checks T b marks work) (
      (λ z. omega (arith, z)),
      ((λ z. omega (arith, z)), ((λ z. omega (arith, z)), ((λ z. omega (arith, z)), ((λ z. omega (arith, z)), tt)))),
    ) tt)

-- behind the checks
module _ (T : FormsTaken) (b changed marks work : List ℕ) {n : ℕ} (e : answered n ≡ prepared_answer T b changed (length marks) (length work)) where
  pub prepared_pass : Pass (rules_checks T b changed (length marks) (length work))
  unfolding prepared_answer
  prepared_pass = answered_pass (counts_in b).n (rules_checks T b changed (length marks) (length work)) n (sym e)

  pub prepared_n : n ≡ (counts_in b).n
  unfolding prepared_answer
  prepared_n = answered_is (counts_in b).n (rules_checks T b changed (length marks) (length work)) n (sym e)

  -- there is a mark for each vertex
  pub prepared_room : n ≤ length marks
  prepared_room = omega (arith, prepared_n, ltb-false (length marks) (counts_in b).n prepared_pass.1.1.1.0)
