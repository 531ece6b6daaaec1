-- The program's build, at form 1. Where it finishes, the first bytes of its output, as many as it returned, are the stored form of what was built, and the questions
-- are asked of these.
use mathlib.Core.List.{List}
use mathlib.Core.Path.{◌≡◌, refl, sym, ap, ◌∙◌}
use Prim.Native.Nat.{ℕ, ◌≤◌}
use native.Mathlib.Omega.{arith}
use lib.ListN.{length, take, length-take}
use Rattle.lineage.specs.Stored.{form1}
use Rattle.lineage.specs.Calls.{answered, Input, build_answer, build_call}
use Rattle.std.specs.Prelude.{Result}
use Rattle.refusals.specs.declared.Refusal.{Refusal}
use Rattle.build.specs.Answers.{built_of}
use Rattle.build.proofs.Theorems.{Finished, Allowed, finished, total_right, build_stores}
use Rattle.text.specs.Text.{Text}
use Rattle.text.specs.Output.{answers_to, work_lent, index_lent, input_of, after_build}

-- form 1 is taken, so the call's answer is the build's at form 1
pub call_form1 : (B : Input) (work out : ℕ) → build_call 1 B work out ≡ build_answer form1 B work out
unfolding build_call
call_form1 B work out = refl

module _ (t : Text) {work index work' index' : List ℕ} {r : Result ℕ Refusal} (X : Allowed 1 (input_of t) work index r work' index') {total : ℕ} (done : built_of r ≡ answered total) where
  abbrev D : Finished form1 (input_of t)
  D = finished X done

  -- the output has so many bytes
  pub stored_within : total ≤ length index'
  stored_within = omega (arith, length-take total index', ap length (build_stores D), total_right D)

  -- asked of these, the questions are answered as is defined
  pub stored_answers : build_answer form1 (input_of t) work_lent index_lent ≡ answered total
      → answers_to (take total index') t.asked ≡ after_build t (build_answer form1 (input_of t) work_lent index_lent)
  stored_answers e = ap (λ (b : List ℕ). answers_to b t.asked) (build_stores D) ∙ ap (after_build t) (sym e)
