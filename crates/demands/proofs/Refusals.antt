-- The outcome of checks in order is a refusal exactly where it is that of the first check that applies: along the list, a check that does not apply leaves the
-- outcome to those behind it.
use mathlib.Core.Bool.{Bool, true, false}
use mathlib.Core.Logic.{◌↔◌}
use mathlib.Core.Path.{◌≡◌, refl, ap, ◌∙◌}
use mathlib.Core.List.{List, [], ◌∷◌}
use Prim.Native.Nat.{ℕ, zero, suc, ◌<◌}
use native.Mathlib.Nat.{not-suc-le-zero}
use native.Mathlib.Omega.{arith}
use lib.ListN.{length, get_or}
use Rattle.lineage.specs.Calls.{Check, check, refused, refuse, outcome}
use Rattle.demands.specs.Calls.{Refuses}

abbrev none : Check
none = check false 0 0

behind : (c : Check) (cs : List Check) (n : ℕ) → c.applies ≡ false → ((i : ℕ) → i < n → (get_or cs i none).applies ≡ false)
    → (i : ℕ)
    → i < suc n
    → (get_or (c ∷ cs) i none).applies ≡ false
behind c cs n h b zero l = h
behind c cs n h b (suc i) l = b i (omega arith)

module _ {A : Type 0} (a : A) (number extra : ℕ) where
  to : (cs : List Check) → outcome cs a ≡ refused number extra → Refuses cs number extra
  to [] e = let z : ◌≡◌ {A = ℕ} 0 1 = cc in absurd (omega arith)
  to (c ∷ cs) e = at c.applies refl e (to cs)
    where
      at : (t : Bool) → c.applies ≡ t → refuse t c.number c.extra (outcome cs a) ≡ refused number extra
          → (outcome cs a ≡ refused number extra → Refuses cs number extra)
          → Refuses (c ∷ cs) number extra
      at true h f ih =
          let same_number : c.number ≡ number = cc in
          let same-extra : c.extra ≡ extra = cc in
          record {
            at = 0;
            within = omega arith;
            none_before = λ i l. absurd (not-suc-le-zero l);
            here = λ i. record { applies = h i; number = same_number i; extra = same-extra i };
          }
      at false h f ih =
          let R : Refuses cs number extra = ih f in
          record { at = suc R.at; within = omega (arith, R.within); none_before = behind c cs R.at h R.none_before; here = R.here }

  from : (cs : List Check) (at : ℕ) → at < length cs → ((i : ℕ) → i < at → (get_or cs i none).applies ≡ false) → get_or cs at none ≡ check true number extra
      → outcome cs a ≡ refused number extra
  from [] at l b h = absurd (not-suc-le-zero l)
  from (c ∷ cs) zero l b h = ap (λ (d : Check). refuse d.applies d.number d.extra (outcome cs a)) h
  from (c ∷ cs) (suc at) l b h =
      ap (λ (t : Bool). refuse t c.number c.extra (outcome cs a)) (b 0 (omega arith)) ∙ from cs at (omega arith) (λ i m. b (suc i) (omega arith)) h

  pub first_refusal : (cs : List Check) → (outcome cs a ≡ refused number extra) ↔ Refuses cs number extra
  first_refusal cs = (to cs, λ R. from cs R.at R.within R.none_before R.here)
