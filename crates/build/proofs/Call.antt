-- The call is told the form: one that it does not take is refused before all else and nothing is altered; otherwise it is the build at that form.
use mathlib.Core.Bool.{Bool, true, false, not, ◌&&◌, cond}
use mathlib.Core.Path.{◌≡◌, refl, subst, subst⁻¹}
use mathlib.Core.List.{List}
use Prim.Native.Nat.{ℕ, zero, suc}
use native.Mathlib.Omega.{arith}
use lib.Dec.{leb}
use lib.ListN.{length}
use borrow.Author.Tests.{leb-true}
use Rattle.lineage.specs.Stored.{form_of, is_form}
use Rattle.lineage.specs.Calls.{Outcome, refused, answered, refuse, takes, ordinary, Input, build_answer, build_output, build_work, build_call, build_call_output, build_call_work}
use Rattle.laws.proofs.Tests.{both}
use Rattle.build.proofs.Answered.{Answers}

-- a form that is taken is one of the table
pub taken_known : (form : ℕ) → takes ordinary form ≡ true → is_form form ≡ true
taken_known form taken = (both (leb 1 form && leb form 2) (is_form form) taken).1

-- none of those that the call takes is one of plain hierarchies
pub ordinary_plain : (form : ℕ) → takes ordinary form ≡ true → (form_of form).tree ≡ false
ordinary_plain zero taken = refl
ordinary_plain (suc zero) taken = refl
ordinary_plain (suc (suc zero)) taken = refl
ordinary_plain (suc (suc (suc form))) taken =
    let number : ℕ = suc (suc (suc form)) in
    let within = (both (leb 1 number && leb number 2) (is_form number) taken).0 in
    absurd (omega (arith, leb-true number 2 (both (leb 1 number) (leb number 2) within).1))

-- what the call answers and leaves
abbrev pub CallAnswers : ℕ → Input → (work out : List ℕ) → Outcome ℕ → (work' out' : List ℕ) → Type 0
CallAnswers form B work out said work' out' =
    (said ≡ build_call form B (length work) (length out)) × ((work' ≡ build_call_work form B work) × (out' ≡ build_call_output form B (length work) out))

-- the same, by whether the form is taken
abbrev TakenAnswers : Bool → ℕ → Input → (work out : List ℕ) → Outcome ℕ → (work' out' : List ℕ) → Type 0
TakenAnswers t form B work out said work' out' =
    (said ≡ refuse (not t) 11 form (build_answer (form_of form) B (length work) (length out)))
    × ((work' ≡ cond t (build_work (form_of form) B work) work) × (out' ≡ cond t (build_output (form_of form) B (length work) out) out))

module _ (form : ℕ) (B : Input) (work out : List ℕ) where
  -- a form that is not taken
  pub call_refused : takes ordinary form ≡ false → CallAnswers form B work out (refused 11 form) work out
  unfolding build_call build_call_output build_call_work
  call_refused other = subst⁻¹ (λ (t : Bool). TakenAnswers t form B work out (refused 11 form) work out) other (refl, (refl, refl))

  -- a form that is taken
  module _ (taken : takes ordinary form ≡ true) {said : Outcome ℕ} {work' out' : List ℕ} where
    pub call_answered : Answers (form_of form) B work out said work' out' → CallAnswers form B work out said work' out'
    unfolding build_call build_call_output build_call_work
    call_answered a = subst⁻¹ (λ (t : Bool). TakenAnswers t form B work out said work' out') taken a

    pub call_at : CallAnswers form B work out said work' out' → Answers (form_of form) B work out said work' out'
    unfolding build_call build_call_output build_call_work
    call_at a = subst (λ (t : Bool). TakenAnswers t form B work out said work' out') taken a

  -- what is answered was taken
  pub call_taken : {total : ℕ} → build_call form B (length work) (length out) ≡ answered total → takes ordinary form ≡ true
  unfolding build_call
  call_taken {total} = at (takes ordinary form)
    where
      at : (t : Bool) → refuse (not t) 11 form (build_answer (form_of form) B (length work) (length out)) ≡ answered total → t ≡ true
      at true e = refl
      at false e = let z : ◌≡◌ {A = ℕ} 0 1 = cc in absurd (omega arith)
