-- Pairs of numbers, one after the other: their firsts or seconds, pair by pair.
use mathlib.Core.List.{List, [], ◌∷◌, ◌++◌}
use mathlib.Core.Path.{◌≡◌, refl, sym, ap, ◌∙◌}
use Prim.Native.Nat.{ℕ, zero, suc, ◌+◌, ◌*◌, ◌≤◌, ◌<◌}
use native.Mathlib.Nat.{zero-add}
use native.Mathlib.Numerals.{add-one}
use native.Mathlib.Omega.{arith}
use lib.ListN.{length, get_or, take, set}
use lib.Seq.{take-suc-set}
use Rattle.text.specs.Text.{of_pairs}

of_two : (x y : ℕ) (s : List ℕ) (k : ℕ) → k < 2 → get_or (x ∷ y ∷ []) k 0 ≡ get_or (x ∷ (y ∷ s)) k 0
of_two x y s zero h = refl
of_two x y s (suc zero) h = refl
of_two x y s (suc (suc k)) h = absurd (omega arith)

-- one pair more
pair_more : (k : ℕ) → k < 2 → (i : ℕ) (s : List ℕ) → suc i * 2 ≤ length s → of_pairs k (take (suc i * 2) s) ≡ of_pairs k (take (i * 2) s) ++ (get_or s (i * 2 + k) 0 ∷ [])
pair_more k h i [] l = absurd (omega arith)
pair_more k h i (x ∷ []) l = absurd (omega arith)
pair_more k h zero (x ∷ (y ∷ s)) l = rw (zero-add k, of_two x y s k h)
pair_more k h (suc i) (x ∷ (y ∷ s)) l =
    let more : suc (suc i) * 2 ≡ suc (suc (suc i * 2)) = omega arith in
    let these : suc i * 2 ≡ suc (suc (i * 2)) = omega arith in
    let there : suc i * 2 + k ≡ suc (suc (i * 2 + k)) = omega arith in
    ap (λ (n : ℕ). of_pairs k (take n (x ∷ (y ∷ s)))) more
    ∙ (ap (λ (ns : List ℕ). get_or (x ∷ y ∷ []) k 0 ∷ ns) (pair_more k h i s (omega arith))
    ∙ rw (there, these))

-- a turn: the number of one pair more stands in the list
pub column_turns : (pairs into : List ℕ) (k i : ℕ) → k < 2 → (i + 1) * 2 ≤ length pairs → i < length into → take i into ≡ of_pairs k (take (i * 2) pairs)
    → take (i + 1) (set into i (get_or pairs (i * 2 + k) 0)) ≡ of_pairs k (take ((i + 1) * 2) pairs)
column_turns pairs into k i h l room e =
    rw (add-one i, take-suc-set into i (get_or pairs (i * 2 + k) 0) room, e) (sym (pair_more k h i pairs (omega arith)))
