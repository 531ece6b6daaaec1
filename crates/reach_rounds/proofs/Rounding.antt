-- Rounds one by one: those that are left, from the marks as they are, come to all.
use mathlib.Core.Bool.{true, false}
use mathlib.Core.Path.{◌≡◌, refl, sym, ap, ◌∙◌}
use mathlib.Core.List.{List, [], ◌∷◌}
use Prim.Native.Nat.{ℕ, zero, suc, ◌<◌}
use native.Mathlib.Omega.{arith}
use lib.ListN.{length, get_or}
use borrow.Author.Tests.{eq-eqb, ne_eqb}
use Rattle.laws.proofs.Tests.{or_false_left, or_false_right}
use Rattle.reach_rounds.specs.Rounds.{is_marked, leads_out, crossed, spread_over, one_led_out, rounds}

-- where no edge leads out nothing changes
pub spread_still : (names S T marks : List ℕ) → one_led_out names S T marks ≡ false → spread_over names S T marks ≡ marks
unfolding spread_over one_led_out crossed
spread_still names [] T marks h = refl
spread_still names (s ∷ S) [] marks h = refl
spread_still names (s ∷ S) (t ∷ T) marks h =
    let out : leads_out names marks s t ≡ false = or_false_left (leads_out names marks s t) (one_led_out names S T (crossed names s t marks)) h in
    let same : crossed names s t marks ≡ marks = rw out refl in
    let rest : one_led_out names S T marks ≡ false =
    ap (one_led_out names S T) (sym same) ∙ or_false_right (leads_out names marks s t) (one_led_out names S T (crossed names s t marks)) h in
    ap (spread_over names S T) same ∙ spread_still names S T marks rest

-- so many rounds are left
pub record Rounding (names S T : List ℕ) (v : ℕ) (sweep : List ℕ → List ℕ) (left : ℕ) (first marks : List ℕ) : Type 0 where
  pub rest : rounds names S T v sweep left marks ≡ rounds names S T v sweep (length S) first

-- the marks are swept
module _
    {names S T : List ℕ} {v : ℕ} {sweep : List ℕ → List ℕ} {left : ℕ} {first marks swept : List ℕ}
    (R : Rounding names S T v sweep left first marks) (is : swept ≡ sweep marks)
  where
    -- what so many rounds come to
    comes : {m : List ℕ} (l : ℕ) → left ≡ l → rounds names S T v sweep l marks ≡ m → m ≡ rounds names S T v sweep (length S) first
    comes l e r = sym r ∙ ap (λ f. rounds names S T v sweep f marks) (sym e) ∙ R.rest

    -- no round is left
    pub rounding_last : left < 1 → swept ≡ rounds names S T v sweep (length S) first
    unfolding rounds
    rounding_last h = comes 0 (omega arith) (sym is)

    -- the target is marked
    pub rounding_hit : is_marked names swept v ≡ true → swept ≡ rounds names S T v sweep (length S) first
    unfolding rounds
    rounding_hit h = at left refl
      where
        at : (l : ℕ) → left ≡ l → swept ≡ rounds names S T v sweep (length S) first
        at zero e = comes 0 e (sym is)
        at (suc l) e = comes (suc l) e (rw (← is, h) refl)

    module _ (miss : is_marked names swept v ≡ false) {after : List ℕ} (spreads : after ≡ spread_over names S T swept) where
      -- no edge leads out
      pub rounding_still : 0 < left → one_led_out names S T swept ≡ false → (after ≡ swept) × (after ≡ rounds names S T v sweep (length S) first)
      unfolding rounds
      rounding_still some s = (same, same ∙ at left refl)
        where
          same : after ≡ swept
          same = spreads ∙ spread_still names S T swept s

          at : (l : ℕ) → left ≡ l → swept ≡ rounds names S T v sweep (length S) first
          at zero e = absurd (omega arith)
          at (suc l) e = comes (suc l) e (rw (← is, miss, s) refl)

      -- one round less is left
      pub rounding_next : {l : ℕ} → left ≡ suc l → one_led_out names S T swept ≡ true → Rounding names S T v sweep l first after
      unfolding rounds
      rounding_next {l} some s = record { rest = rw spreads (comes (suc l) some (rw (← is, miss, s) refl)) }

-- the mark that was read is the vertex's
module _ (names marks : List ℕ) (v : ℕ) {name : ℕ} (is : name ≡ get_or names v 0) where
  pub mark_yes : get_or marks name 0 ≡ 1 → is_marked names marks v ≡ true
  mark_yes h = eq-eqb _ 1 (rw is at h)

  pub mark_no : (get_or marks name 0 ≡ 1 → ⊥) → is_marked names marks v ≡ false
  mark_no h = ne_eqb _ 1 (rw is at h)
