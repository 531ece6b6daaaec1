-- A refusal of many pairs is the only one with its number and its extra number, since 16 is told of the answer list alone; and no check of the header is 16.
use mathlib.Core.Path.{◌≡◌, sym, subst}
use mathlib.Core.List.{List}
use Prim.Native.Nat.{ℕ}
use native.Mathlib.Omega.{arith}
use Rattle.std.specs.Prelude.{Result, Ok, Err}
use Rattle.lineage.specs.Calls.{refused, outcome, FormsTaken, form_checks}
use Rattle.laws.specs.Checks.{Told}
use Rattle.laws.proofs.Checks.{outcome_told}
use Rattle.stored_header.specs.declared.Layout.{Layout}
use Rattle.stored_header.specs.Header.{layout_in}
use Rattle.refusals.proofs.Told.{outcome_once}
use Rattle.ask_all.specs.declared.BatchRefusal.{BatchRefusal}
use Rattle.ask_all.specs.declared.BatchRefusal.TheVariants.{Refused, AnswersShort}
use Rattle.ask_all.specs.Batched.{batched_of, Own}

pub batched_one : (r r' : Result ℕ BatchRefusal) → Own r → Own r' → batched_of r ≡ batched_of r' → r ≡ r'
batched_one (Ok c) (Ok c') o o' e = cc
batched_one (Ok c) (Err r') o o' e = cc
batched_one (Err r) (Ok c') o o' e = cc
batched_one (Err (Refused r)) (Err (Refused r')) o o' e = let same = outcome_once (λ (n : ℕ). n) (λ n n' z. z) (Err r) (Err r') e in cc
batched_one (Err (Refused r)) (Err (AnswersShort pairs)) o o' e = absurd (o (cc))
batched_one (Err (AnswersShort pairs)) (Err (Refused r')) o o' e = absurd (o' (cc))
batched_one (Err (AnswersShort pairs)) (Err (AnswersShort pairs')) o o' e = cc

abbrev Other : ℕ → ℕ → Type 0
Other number extra = number ≡ 16 → ⊥

abbrev Any : Layout → Type 0
Any l = Unit {0}

pub header_own : (T : FormsTaken) (b : List ℕ) (m w : ℕ) {x y : ℕ} → refused x y ≡ outcome (form_checks T b m w) (layout_in b) → x ≡ 16 → ⊥
header_own T b m w e =
    subst (Told Other Any) (sym e)
    (outcome_told (layout_in b) Other Any (form_checks T b m w)
    ((λ z. omega (arith, z)), ((λ z. omega (arith, z)), ((λ z. omega (arith, z)), ((λ z. omega (arith, z)), ((λ z. omega (arith, z)), tt))))) tt)
