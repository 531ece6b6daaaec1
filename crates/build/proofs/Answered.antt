-- A build at a form's row, from its two halves. Where a check of 1 to 7 refuses, it refuses for all, and nothing is altered; where all pass, 8, 22 and 9 and the build
-- behind them decide, and the needed words are set to 0.
use mathlib.Core.Bool.{Bool, cond}
use mathlib.Core.Path.{◌≡◌, sym, ap, ◌∙◌}
use mathlib.Core.List.{List, [], ◌++◌}
use Prim.Native.Nat.{ℕ, ◌≤◌}
use native.Mathlib.Omega.{arith}
use lib.ListN.{length, drop}
use Rattle.lineage.specs.Lists.{cleared}
use Rattle.lineage.specs.Stored.{Form, encode}
use Rattle.lineage.specs.Calls.{Check, Outcome, refused, answered, outcome, Input, work_needed, built, length_of, build_early, build_late, build_answer, build_output, build_work}
use Rattle.numbers.proofs.Cleared.{cleared_kept}
use Rattle.stored_header.specs.declared.Row.{Row}
use Rattle.laws.specs.Checks.{Pass, Comes}
use Rattle.laws.proofs.Checks.{answered_pass, answered_is, refused_comes, rest_comes}
use Rattle.build.specs.Input.{form_by}
use Rattle.build.specs.Admitted.{Admitted}
use Rattle.build.specs.Answers.{LateBuilt}
use Rattle.build.proofs.Checks.{admitted}

-- what a build at a form answers and leaves
abbrev pub Answers : Form → Input → (work out : List ℕ) → Outcome ℕ → (work' out' : List ℕ) → Type 0
Answers F B work out said work' out' =
    (said ≡ build_answer F B (length work) (length out)) × ((work' ≡ build_work F B work) × (out' ≡ build_output F B (length work) out))

module _ (form : ℕ) (row : Row) (B : Input) (work out : List ℕ) where
  abbrev F : Form
  F = form_by form row

  abbrev early : List Check
  early = build_early F B (length work)

  abbrev late : List Check
  late = build_late F B (length out)

  answers_by : {o : Outcome ℕ} {kept stops : Bool}
      → Comes early late (length_of F (built B)) o kept stops
      → Answers F B work out o (cond kept work (cleared (work_needed B.graph) work)) (cond stops out (encode F (built B) ++ drop (length_of F (built B)) out))
  unfolding build_answer build_work build_output encode
  answers_by C = (sym C.says, (rw C.before, rw C.all))

  pub early_refused : {x y : ℕ} → refused x y ≡ outcome early (work_needed B.graph) → Answers F B work out (refused x y) work out
  early_refused h = answers_by (refused_comes (length_of F (built B)) (work_needed B.graph) early [] late _ _ (sym h))

  module _ {needed : ℕ} (passed : answered needed ≡ outcome early (work_needed B.graph)) where
    needed_is : needed ≡ work_needed B.graph
    needed_is = answered_is (work_needed B.graph) early needed (sym passed)

    pass : Pass early
    pass = answered_pass (work_needed B.graph) early needed (sym passed)

    pub admitted_row : Admitted F B (length work)
    admitted_row = admitted F B (length work) pass

    module _ {said : Outcome ℕ} {w₁ out₁ : List ℕ} (L : LateBuilt F B work out said w₁ out₁) where
      pub needed_there : needed ≤ length w₁
      needed_there = omega (arith, needed_is, L.kept.long, admitted_row.room)

      pub late_answered : {w₂ : List ℕ} → w₂ ≡ cleared needed w₁ → Answers F B work out said w₂ out₁
      unfolding build_output
      late_answered e =
          let (o, (w, p)) = answers_by (rest_comes (length_of F (built B)) early [] late pass (sym L.answer)) in
          (o, (e ∙ ap (λ (n : ℕ). cleared n w₁) needed_is ∙ cleared_kept (work_needed B.graph) L.kept ∙ w, L.output ∙ p))
