-- A part of a list: its length and its elements, of two lists one after the other, of a part, one element more, and the whole.
use mathlib.Core.Path.{◌≡◌, ap, ◌∙◌}
use mathlib.Core.List.{List, [], ◌∷◌, ◌++◌}
use Prim.Native.Nat.{ℕ, zero, suc, ◌+◌, ◌-◌, ◌≤◌, ◌<◌}
use native.Mathlib.Omega.{arith}
use native.Mathlib.Nat.{sub-zero, zero-sub, suc-sub-suc, not-suc-le-zero}
use native.Mathlib.Numerals.{add-one}
use lib.ListN.{length, get_or, take, drop, length-take, length-drop}
use lib.Seq.{take-suc, get_or-take, get_or-drop, take-length, take-nil, take-take, take-append-le, drop-append-le, drop-drop, drop-cons}
use Rattle.lineage.specs.Lists.{part}

module _ {A : Type 0} where
  pub part_length : (s : List A) (at size : ℕ) → at + size ≤ length s → length (part s at size) ≡ size
  unfolding part
  part_length s at size h = simp (length-take, length-drop) (omega arith)

  -- what stands behind the first of two lists
  pub drop_past : (a b : List A) (n : ℕ) → length a ≤ n → drop n (a ++ b) ≡ drop (n - length a) b
  drop_past [] b n h = rw sub-zero
  drop_past (x ∷ a) b zero h = absurd (not-suc-le-zero h)
  drop_past (x ∷ a) b (suc n) h =
      let e : n - length a ≡ suc n - suc (length a) = omega arith in
      drop_past a b n (omega arith) ∙ ap (λ (k : ℕ). drop k b) e

  -- in the first of two lists, in the second
  pub part_left : (a b : List A) (at size : ℕ) → at + size ≤ length a → part (a ++ b) at size ≡ part a at size
  unfolding part
  part_left a b at size h =
      rw (drop-append-le at a b (omega arith)) (take-append-le size (drop at a) b (omega (arith, length-drop at a)))

  pub part_right : (a b : List A) (at size : ℕ) → length a ≤ at → part (a ++ b) at size ≡ part b (at - length a) size
  unfolding part
  part_right a b at size h = rw (drop_past a b at h)

  -- a part of what stands from a position on, of what stands before one
  pub part_drop : (s : List A) (n at size : ℕ) → part (drop n s) at size ≡ part s (n + at) size
  unfolding part
  part_drop s n at size = rw (drop-drop at n s)

  drop_take : (s : List A) (at n : ℕ) → drop at (take n s) ≡ take (n - at) (drop at s)
  drop_take s zero n = rw sub-zero
  drop_take [] (suc at) n = rw (take-nil {A = A} n, take-nil {A = A} (n - suc at))
  drop_take (x ∷ s) (suc at) zero = rw zero-sub
  drop_take (x ∷ s) (suc at) (suc n) = drop_take s at n ∙ rw (suc-sub-suc n at)

  pub part_take : (s : List A) (n at size : ℕ) → at + size ≤ n → part (take n s) at size ≡ part s at size
  unfolding part
  part_take s n at size h = rw (drop_take s at n) (take-take size (n - at) (drop at s) (omega arith))

  -- a part of a part
  pub part_part : (s : List A) (a n at size : ℕ) → at + size ≤ n → part (part s a n) at size ≡ part s (a + at) size
  unfolding part
  part_part s a n at size h = part_take (drop a s) n at size h ∙ part_drop s a at size

  -- one element more
  pub part_more : (s : List A) (at i : ℕ) (d : A) → at + i < length s → part s at (i + 1) ≡ part s at i ++ (get_or s (at + i) d ∷ [])
  unfolding part
  part_more s at i d h = rw (add-one i, take-suc (drop at s) i d (omega (arith, length-drop at s)), get_or-drop at s i d)

  -- it is not longer than its size
  pub part_beyond : (s : List A) (at size i : ℕ) → size ≤ i → length (part s at size) ≤ i
  unfolding part
  part_beyond s at size i h = omega (arith, length-take size (drop at s))

  -- the whole
  pub part_whole : (s : List A) (n : ℕ) → length s ≡ n → part s 0 n ≡ s
  unfolding part
  part_whole s n e = rw (← e) (take-length s)

-- number i of a part
pub part_at : (s : List ℕ) (at size i : ℕ) → i < size → get_or s (at + i) 0 ≡ get_or (part s at size) i 0
unfolding part
part_at s at size i h = rw (get_or-take size (drop at s) i 0 h, get_or-drop at s i 0)

-- the first of the numbers from e to `to`, and none where e is no less
pub part_first : (xs : List ℕ) (e to : ℕ) → e < to → to ≤ length xs → part xs e (to - e) ≡ get_or xs e 0 ∷ part xs (e + 1) (to - (e + 1))
unfolding part
part_first xs e to h l =
    let n : to - e ≡ suc (to - (e + 1)) = omega arith in
    ap (λ z. take z (drop e xs)) n ∙ rw (drop-cons xs e 0 (omega arith), add-one e)

pub part_empty : (xs : List ℕ) (e to : ℕ) → to ≤ e → part xs e (to - e) ≡ []
unfolding part
part_empty xs e to h =
    let n : to - e ≡ 0 = omega arith in
    ap (λ z. take z (drop e xs)) n
