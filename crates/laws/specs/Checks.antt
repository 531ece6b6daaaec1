-- Where the checks of a call stop, and what they come to there.
use Rattle.std.specs.Prelude.{Bool, true, false, ◌≡◌, List, [], ◌∷◌, ◌++◌, ℕ, zero, suc, length}
use Rattle.lineage.specs.Calls.{Check, Outcome, refused, answered, outcome, any_applies}

-- number i, from 0, applies and none before it does; where i is the number of checks, none applies
abbrev pub Stops : List Check → ℕ → Type 0
Stops [] zero = Unit {0}
Stops [] (suc i) = ⊥
Stops (c ∷ cs) zero = c.applies ≡ true
Stops (c ∷ cs) (suc i) = (c.applies ≡ false) × Stops cs i

-- none applies
abbrev pub Pass : List Check → Type 0
Pass cs = Stops cs (length cs)

module _ {A : Type 0} where
  -- the refusal of number i, or the answer behind the last
  abbrev pub stopped : List Check → ℕ → A → Outcome A
  stopped [] i a = answered a
  stopped (c ∷ cs) zero a = refused c.number c.extra
  stopped (c ∷ cs) (suc i) a = stopped cs i a

  -- a property of a refusal's numbers, and one of an answer
  abbrev pub Told : (ℕ → ℕ → Type 0) → (A → Type 0) → Outcome A → Type 0
  Told R P (refused number extra) = R number extra
  Told R P (answered a) = P a

  -- what a call's checks come to, of which the early ones alter nothing: the outcome, whether an early one applies, and whether any does. Every buffer
  -- afterwards is picked by these two
  pub record Comes (early late : List Check) (a : A) (o : Outcome A) (kept stops : Bool) : Type 0 where
    pub says : outcome (early ++ late) a ≡ o
    pub before : any_applies early ≡ kept
    pub all : any_applies (early ++ late) ≡ stops
