-- The added edges one by one: spreading over those that are left comes to spreading over all.
use mathlib.Core.Bool.{Bool, true, false, not, ◌||◌, or_assoc, or-false}
use mathlib.Core.Path.{◌≡◌, refl, sym, ap, ap₂, ◌∙◌}
use mathlib.Core.List.{List, [], ◌∷◌}
use Prim.Native.Nat.{ℕ, suc, ◌+◌, ◌≤◌, ◌<◌}
use native.Mathlib.Numerals.{add-one}
use lib.Dec.{eqb}
use lib.ListN.{length, get_or, set, drop, drop_of_length-le}
use lib.Seq.{drop-cons}
use borrow.Author.Tests.{eq-eqb, ne_eqb}
use Rattle.reach_rounds.specs.Rounds.{leads_out, crossed, spread_over, one_led_out}

pub record Spreading (names S T : List ℕ) (i : ℕ) (before marks : List ℕ) (changed : Bool) : Type 0 where
  pub rest : spread_over names (drop i S) (drop i T) marks ≡ spread_over names S T before
  pub stir : (changed || one_led_out names (drop i S) (drop i T) marks) ≡ one_led_out names S T before

module _
    {names S T : List ℕ} {i : ℕ} {before marks : List ℕ} {changed : Bool} (P : Spreading names S T i before marks changed)
    {s t : ℕ} (hs : i < length S) (ht : i < length T) (is : s ≡ get_or S i 0) (it : t ≡ get_or T i 0)
  where
    next : {after : List ℕ} {now : Bool} → crossed names s t marks ≡ after → now ≡ (changed || leads_out names marks s t)
        → Spreading names S T (i + 1) before after now
    unfolding spread_over one_led_out
    next {after} {now} e n =
        let r : spread_over names (s ∷ drop (suc i) S) (t ∷ drop (suc i) T) marks ≡ spread_over names S T before =
        ap₂ (λ a b. spread_over names a b marks) (ap (λ x. x ∷ drop (suc i) S) is ∙ sym (drop-cons S i 0 hs)) (ap (λ x. x ∷ drop (suc i) T) it ∙ sym (drop-cons T i 0 ht)) ∙ P.rest in
        let q : (changed || one_led_out names (s ∷ drop (suc i) S) (t ∷ drop (suc i) T) marks) ≡ one_led_out names S T before =
        ap₂ (λ a b. changed || one_led_out names a b marks) (ap (λ x. x ∷ drop (suc i) S) is ∙ sym (drop-cons S i 0 hs)) (ap (λ x. x ∷ drop (suc i) T) it ∙ sym (drop-cons T i 0 ht)) ∙ P.stir in record {
          rest = rw (add-one, ← e) r;
          stir = rw (add-one, ← e, n) (or_assoc changed (leads_out names marks s t) (one_led_out names (drop (suc i) S) (drop (suc i) T) (crossed names s t marks)) ∙ q);
        }

    pub spreading_crossed : {to : ℕ} → leads_out names marks s t ≡ true → to ≡ get_or names t 0 → Spreading names S T (i + 1) before (set marks to 1) true
    unfolding crossed
    spreading_crossed {to} h named = next (rw (h, named) refl) (rw h (sym (or-true changed)))
      where
        or-true : (b : Bool) → (b || true) ≡ true
        or-true true = refl
        or-true false = refl

    pub spreading_passed : leads_out names marks s t ≡ false → Spreading names S T (i + 1) before marks changed
    unfolding crossed
    spreading_passed h = next (rw h refl) (rw h (sym (or-false changed)))

pub spreading_all :
    {names S T : List ℕ} {i : ℕ} {before marks : List ℕ} {changed : Bool} → Spreading names S T i before marks changed → length S ≤ i
    → (marks ≡ spread_over names S T before) × (changed ≡ one_led_out names S T before)
unfolding spread_over one_led_out
spreading_all {names} {S} {T} {i} {before} {marks} {changed} P h =
    let none : drop i S ≡ [] = drop_of_length-le S h in (
      ap (λ l. spread_over names l (drop i T) marks) (sym none) ∙ P.rest,
      sym (or-false changed) ∙ ap (λ l. changed || one_led_out names l (drop i T) marks) (sym none) ∙ P.stir,
    )

-- the two tests of an edge
module _ (names marks : List ℕ) (s t : ℕ) {from : ℕ} (is : from ≡ get_or names s 0) where
  pub out_not : (get_or marks from 0 ≡ 1 → ⊥) → false ≡ leads_out names marks s t
  unfolding leads_out
  out_not h = let e : eqb (get_or marks (get_or names s 0) 0) 1 ≡ false = ne_eqb (get_or marks (get_or names s 0) 0) 1 (rw is at h) in rw e refl

  pub out_by : {to : ℕ} → get_or marks from 0 ≡ 1 → to ≡ get_or names t 0 → not (eqb (get_or marks to 0) 1) ≡ leads_out names marks s t
  unfolding leads_out
  out_by h it = let e : eqb (get_or marks (get_or names s 0) 0) 1 ≡ true = eq-eqb (get_or marks (get_or names s 0) 0) 1 (rw is at h) in rw (e, it) refl
