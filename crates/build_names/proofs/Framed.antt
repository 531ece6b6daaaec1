-- The open vertices stand on the stack, each further up than those that were entered before it: so what stands from one of them on holds no vertex of a frame
-- below.
use mathlib.Core.Bool.{true, false}
use mathlib.Core.Path.{◌≡◌, sym, ap, ◌∙◌}
use mathlib.Core.List.{List, [], ◌∷◌, ◌++◌}
use Prim.Native.Nat.{ℕ, suc, ◌<◌}
use native.Mathlib.Decide.{ℕ_discrete}
use native.Mathlib.Omega.{arith}
use lib.ListN.{length, get_or, set, take, drop, take-append-drop, length-take}
use lib.Seq.{get_or-set_same, get_or-set_other}
use Rattle.lineage.specs.Lists.{among, position}
use Rattle.laws.proofs.Lists.{here, in_left, in_right}
use Rattle.laws.proofs.Positions.{position_past, position_left, position_low_in, position_in, position_low}

pub record Framed (F S : List ℕ) (d : ℕ) : Type 0 where
  pub on : (i : ℕ) → i < d → among (get_or F i 0) S ≡ true
  pub rise : (i j : ℕ) → i < j → j < d → position (get_or F i 0) S < position (get_or F j 0) S

pub framed_none : (F S : List ℕ) → Framed F S 0
framed_none F S = record { on = λ i h. absurd (omega arith); rise = λ i j h l. absurd (omega arith) }

pub framed_fewer : {F S : List ℕ} {d : ℕ} → Framed F S (suc d) → Framed F S d
framed_fewer f = record { on = λ i h. f.on i (omega arith); rise = λ i j h l. f.rise i j h (omega arith) }

-- one more is entered
module _ {F S : List ℕ} {d : ℕ} (f : Framed F S d) (v : ℕ) (off : among v S ≡ false) (fits : d < length F) where
  top : get_or (set F d v) d 0 ≡ v
  top = get_or-set_same F d v 0 fits

  under : (i : ℕ) → i < d → get_or (set F d v) i 0 ≡ get_or F i 0
  under i h = get_or-set_other F d i v 0 (λ e. omega arith)

  on_more : (i : ℕ) → i < suc d → Dec (i ≡ d) → among (get_or (set F d v) i 0) (S ++ (v ∷ [])) ≡ true
  on_more i h (yes e) = rw (e, top) (in_right v S (v ∷ []) (here v []))
  on_more i h (no e) = rw (under i (omega arith)) (in_left (get_or F i 0) S (v ∷ []) (f.on i (omega arith)))

  rise_more : (i j : ℕ) → i < j → j < suc d → Dec (j ≡ d) → position (get_or (set F d v) i 0) (S ++ (v ∷ [])) < position (get_or (set F d v) j 0) (S ++ (v ∷ []))
  rise_more i j h l (yes e) =
      rw (e, top, under i (omega arith))
      (omega (arith, position_in (get_or F i 0) S (v ∷ []) (f.on i (omega arith)), position_past v S (v ∷ []) off))
  rise_more i j h l (no e) =
      rw (
        under i (omega arith),
        under j (omega arith),
        position_left (get_or F i 0) S (v ∷ []) (f.on i (omega arith)),
        position_left (get_or F j 0) S (v ∷ []) (f.on j (omega arith)),
      )
      (f.rise i j h (omega arith))

  pub framed_more : Framed (set F d v) (S ++ (v ∷ [])) (suc d)
  framed_more = record { on = λ i h. on_more i h (ℕ_discrete i d); rise = λ i j h l. rise_more i j h l (ℕ_discrete j d) }

-- what stands from the last one on is taken
module _ {F S : List ℕ} {d : ℕ} (f : Framed F S (suc d)) where
  abbrev k : ℕ
  k = position (get_or F d 0) S

  split : S ≡ take k S ++ drop k S
  split = sym (take-append-drop k S)

  short : length (take k S) ≡ k
  short = length-take k S ∙ omega (arith, position_low (get_or F d 0) S (f.on d (omega arith)))

  on_still : (i : ℕ) → i < d → among (get_or F i 0) (take k S) ≡ true
  on_still i h = position_low_in (get_or F i 0) (take k S) (drop k S) (omega (arith, short, f.rise i d h (omega arith), ap (position (get_or F i 0)) split))

  same_place : (i : ℕ) → i < d → position (get_or F i 0) S ≡ position (get_or F i 0) (take k S)
  same_place i h = ap (position (get_or F i 0)) split ∙ position_left (get_or F i 0) (take k S) (drop k S) (on_still i h)

  pub framed_taken : Framed F (take k S) d
  framed_taken = record { on = on_still; rise = λ i j h l. omega (arith, same_place i (omega arith), same_place j l, f.rise i j h (omega arith)) }
