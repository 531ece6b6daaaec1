-- The list of x, place by place: each exception puts its entry behind those of the places before it, and the list goes on from there. So where the place at hand is an
-- exception the list is longer than what stands of it, and the next entry is that place's.
use mathlib.Core.Bool.{true, false}
use mathlib.Core.Path.{◌≡◌, refl, sym, ap, ◌∙◌}
use mathlib.Core.List.{List, [], ◌∷◌, ◌++◌, map, map-append, append_assoc, append-nil}
use Prim.Native.Nat.{ℕ, zero, suc, ◌+◌, ◌<◌, ◌≤◌}
use native.Mathlib.Decide.{dec_le}
use native.Mathlib.Numerals.{add-one}
use native.Mathlib.Omega.{arith}
use lib.ListN.{length, get_or, take, drop, length-append, take-append-drop}
use lib.Seq.{take_all, take-append-le, get_or-append_seam}
use Rattle.lineage.specs.Lists.{upto, those}
use Rattle.lineage.specs.Index.{Index}
use Rattle.laws.proofs.Lists.{length_upto, those_append, those_yes, those_no}
use Rattle.laws_exceptions.specs.Exceptions.{is_exception, exceptions_of, entry, entries_of}

-- the first of the numbers below k, and the others behind them
pub take_upto : (i k : ℕ) → i ≤ k → take i (upto k) ≡ upto i
take_upto i zero h = let e : i ≡ 0 = omega arith in rw e
take_upto i (suc k) h =
    elim (dec_le i k) [
      | yes l ↦ take-append-le i (upto k) (k ∷ []) (omega (arith, length_upto k)) ∙ take_upto i k l
      | no l ↦ let e : i ≡ suc k = omega arith in rw e (take_all (suc k) (upto (suc k)) (omega (arith, length_upto (suc k))))
    ]

upto_from : (y k : ℕ) → y < k → upto k ≡ upto y ++ (y ∷ drop (suc y) (upto k))
upto_from y k h =
    sym (take-append-drop (suc y) (upto k))
    ∙ ap (◌++ drop (suc y) (upto k)) (take_upto (suc y) k h)
    ∙ append_assoc (upto y) (y ∷ []) (drop (suc y) (upto k))

-- the entries of the places below y
unfoldable pub row_to : Index → ℕ → ℕ → List ℕ
unfolding is_exception
row_to I x y = map (entry I x) (those (is_exception I x) (upto y))

module _ (I : Index) (x : ℕ) where
  pub row_none : row_to I x 0 ≡ []
  unfolding row_to
  row_none = refl

  pub row_all : (y : ℕ) → y ≡ length I.groups → row_to I x y ≡ entries_of I x
  unfolding row_to exceptions_of
  row_all y e = rw e

  -- the places before y, and others behind them
  row_with : (y : ℕ) (rest : List ℕ) → map (entry I x) (those (is_exception I x) (upto y ++ rest)) ≡ row_to I x y ++ map (entry I x) (those (is_exception I x) rest)
  unfolding row_to
  row_with y rest = ap (map (entry I x)) (those_append (is_exception I x) (upto y) rest) ∙ map-append (entry I x) (those (is_exception I x) (upto y)) (those (is_exception I x) rest)

  pub row_over : (y : ℕ) → is_exception I x y ≡ false → row_to I x (y + 1) ≡ row_to I x y
  unfolding row_to
  row_over y f = rw (add-one y) (row_with y (y ∷ []) ∙ rw (those_no (is_exception I x) y [] f) (append-nil (row_to I x y)))

  module _ (y : ℕ) (t : is_exception I x y ≡ true) where
    row_here : (rest : List ℕ) → map (entry I x) (those (is_exception I x) (upto y ++ (y ∷ rest))) ≡ row_to I x y ++ (entry I x y ∷ map (entry I x) (those (is_exception I x) rest))
    row_here rest = row_with y (y ∷ rest) ∙ ap (λ (z : List ℕ). row_to I x y ++ map (entry I x) z) (those_yes (is_exception I x) y rest t)

    pub row_more : row_to I x (y + 1) ≡ row_to I x y ++ (entry I x y ∷ [])
    unfolding row_to
    row_more = rw (add-one y) (row_here [])

    module _ (h : y < length I.groups) where
      -- what stands behind the entry of y
      abbrev behind : List ℕ
      behind = map (entry I x) (those (is_exception I x) (drop (suc y) (upto (length I.groups))))

      goes_on : entries_of I x ≡ row_to I x y ++ (entry I x y ∷ behind)
      unfolding exceptions_of
      goes_on = ap (λ (z : List ℕ). map (entry I x) (those (is_exception I x) z)) (upto_from y (length I.groups) h) ∙ row_here (drop (suc y) (upto (length I.groups)))

      pub row_room : length (row_to I x y) < length (entries_of I x)
      row_room = omega (arith, ap length goes_on, length-append (row_to I x y) (entry I x y ∷ behind))

      pub row_next : get_or (entries_of I x) (length (row_to I x y)) 0 ≡ entry I x y
      row_next = ap (λ (z : List ℕ). get_or z (length (row_to I x y)) 0) goes_on ∙ get_or-append_seam (row_to I x y) (entry I x y) behind 0
