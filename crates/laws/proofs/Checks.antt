-- The first check that applies decides: its refusal is the outcome, and buffers are altered exactly where it stands behind the checks that alter nothing. A call
-- makes its checks in order, so each of its returns knows where they stop: the tests that led there say so one by one.
use mathlib.Core.Bool.{Bool, true, false}
use mathlib.Core.Path.{◌≡◌, refl, sym, ◌∙◌}
use mathlib.Core.List.{List, [], ◌∷◌, ◌++◌, append-nil}
use Prim.Native.Nat.{ℕ, zero, suc}
use native.Mathlib.Omega.{arith}
use lib.Dec.{ltb, leb-suc-zero, leb-suc-suc}
use lib.ListN.{length}
use borrow.Author.Tests.{lt-ltb}
use Rattle.lineage.specs.Lists.{Every}
use Rattle.lineage.specs.Calls.{Check, Outcome, refused, answered, refuse, outcome, any_applies}
use Rattle.laws.specs.Checks.{Stops, Pass, stopped, Told, Comes}

-- one of the first checks applies exactly where all stop before their end
pub stops_early : (early late : List Check) (i : ℕ) → Stops (early ++ late) i → any_applies early ≡ ltb i (length early)
stops_early [] late i s = sym (leb-suc-zero i)
stops_early (c ∷ early) late zero s = rw s (sym (lt-ltb 0 (suc (length early)) (omega arith)))
stops_early (c ∷ early) late (suc i) s = rw s.0 (stops_early early late i s.1 ∙ sym (leb-suc-suc (suc i) (length early)))

-- none of some checks and of others behind them applies exactly where none of either does
pub pass_front : (cs ds : List Check) → Pass (cs ++ ds) → Pass cs
pass_front [] ds p = tt
pass_front (c ∷ cs) ds p = (p.0, pass_front cs ds p.1)

pub pass_behind : (cs ds : List Check) → Pass (cs ++ ds) → Pass ds
pass_behind [] ds p = p
pass_behind (c ∷ cs) ds p = pass_behind cs ds p.1

pub pass_both : (cs ds : List Check) → Pass cs → Pass ds → Pass (cs ++ ds)
pass_both [] ds p q = q
pass_both (c ∷ cs) ds p q = (p.0, pass_both cs ds p.1 q)

module _ {A : Type 0} (a : A) where
  pub stops_outcome : (cs : List Check) (i : ℕ) → Stops cs i → outcome cs a ≡ stopped cs i a
  stops_outcome [] i s = refl
  stops_outcome (c ∷ cs) zero s = rw s
  stops_outcome (c ∷ cs) (suc i) s = rw s.0 (stops_outcome cs i s.1)

  -- an answer is given only where no check applies, and it is the one behind them
  pub answered_pass : (cs : List Check) (l : A) → outcome cs a ≡ answered l → Pass cs
  answered_pass [] l e = tt
  answered_pass (c ∷ cs) l e = at c.applies e (answered_pass cs l)
    where
      at : (t : Bool) → refuse t c.number c.extra (outcome cs a) ≡ answered l → (outcome cs a ≡ answered l → Pass cs) → (t ≡ false) × Pass cs
      at true e ih = let z : ◌≡◌ {A = ℕ} 0 1 = cc in absurd (omega arith)
      at false e ih = (refl, ih e)

  pub answered_is : (cs : List Check) (l : A) → outcome cs a ≡ answered l → l ≡ a
  answered_is [] l e = cc
  answered_is (c ∷ cs) l e = at c.applies e (answered_is cs l)
    where
      at : (t : Bool) → refuse t c.number c.extra (outcome cs a) ≡ answered l → (outcome cs a ≡ answered l → l ≡ a) → l ≡ a
      at true e ih = let z : ◌≡◌ {A = ℕ} 0 1 = cc in absurd (omega arith)
      at false e ih = ih e

  -- What a call's checks come to. Some of the first refuse:
  pub refused_comes : {B : Type 0} (z : B) (cs early late : List Check) (x y : ℕ) → outcome cs z ≡ refused x y → Comes (cs ++ early) late a (refused x y) true true
  refused_comes z [] early late x y e = let w : ◌≡◌ {A = ℕ} 0 1 = cc in absurd (omega arith)
  refused_comes z (c ∷ cs) early late x y e = at c.applies refl e (refused_comes z cs early late x y)
    where
      at : (t : Bool) → c.applies ≡ t → refuse t c.number c.extra (outcome cs z) ≡ refused x y
          → (outcome cs z ≡ refused x y → Comes (cs ++ early) late a (refused x y) true true) → Comes (c ∷ (cs ++ early)) late a (refused x y) true true
      at true h e ih = record { says = rw h (cc); before = rw h; all = rw h }
      at false h e ih = let C = ih e in record { says = rw h C.says; before = rw h C.before; all = rw h C.all }

  -- the first pass, and those behind them stop at number i
  pub stops_comes : (cs early late : List Check) (i : ℕ) → Pass cs → Stops (early ++ late) i
      → Comes (cs ++ early) late a (stopped (early ++ late) i a) (ltb i (length early)) (ltb i (length (early ++ late)))
  stops_comes [] early late i p s = record { says = stops_outcome (early ++ late) i s; before = stops_early early late i s; all = stops_early (early ++ late) [] i (rw append-nil s) }
  stops_comes (c ∷ cs) early late i p s =
      let C = stops_comes cs early late i p.1 s in record { says = rw p.0 C.says; before = rw p.0 C.before; all = rw p.0 C.all }

  -- all pass but the last ones, which come to o
  pub rest_comes : (early mid late : List Check) {o : Outcome A} → Pass (early ++ mid) → outcome late a ≡ o → Comes early (mid ++ late) a o false (any_applies late)
  rest_comes [] [] late p e = record { says = e; before = refl; all = refl }
  rest_comes [] (c ∷ mid) late p e = let C = rest_comes [] mid late p.1 e in record { says = rw p.0 C.says; before = refl; all = rw p.0 C.all }
  rest_comes (c ∷ early) mid late p e =
      let C = rest_comes early mid late p.1 e in record { says = rw p.0 C.says; before = rw p.0 C.before; all = rw p.0 C.all }

  -- what holds of every refusal and of the answer holds of the outcome
  pub outcome_told : (R : ℕ → ℕ → Type 0) (P : A → Type 0) (cs : List Check) → Every (λ c. R c.number c.extra) cs → P a → Told R P (outcome cs a)
  outcome_told R P [] each own = own
  outcome_told R P (c ∷ cs) (first, each) own = at c.applies (outcome_told R P cs each own)
    where
      at : (t : Bool) → Told R P (outcome cs a) → Told R P (refuse t c.number c.extra (outcome cs a))
      at true told = first
      at false told = told
