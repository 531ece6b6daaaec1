-- Sections written one after the other behind a header: each stands at its offset, and the last offset is the length of it all.
use mathlib.Core.Path.{◌≡◌, refl, sym, ap, ◌∙◌}
use mathlib.Core.List.{List, [], ◌∷◌, ◌++◌, map, append_assoc, append-nil}
use Prim.Native.Nat.{ℕ, zero, suc, ◌+◌, ◌*◌, ◌-◌, ◌≤◌, ◌<◌}
use native.Mathlib.Omega.{arith}
use native.Mathlib.Nat.{not-suc-le-zero}
use lib.ListN.{length, get_or, take, length-append}
use Rattle.lineage.specs.Lists.{joined, part}
use Rattle.lineage.specs.Numbers.{written}
use Rattle.lineage.specs.Stored.{offsets_from, total_length}
use Rattle.laws.proofs.Parts.{part_left, part_right, part_whole}
use Rattle.laws.proofs.Joined.{take_block}
use Rattle.numbers.specs.Put.{put}
use Rattle.numbers.proofs.Put.{put_next}
use Rattle.numbers.proofs.Written.{written_long}

abbrev pub lengths : List (List ℕ) → List ℕ
lengths X = map length X

module _ (w : ℕ) where
  -- section i stands at offset i
  pub offsets_part : (before : List ℕ) (X : List (List ℕ)) (at i : ℕ)
      → at ≡ length before
      → i < length X
      → part (before ++ joined (map (written w) X)) (get_or (offsets_from w at (lengths X)) i 0) (w * get_or (lengths X) i 0) ≡ written w (get_or X i [])
  offsets_part before [] at i e h = absurd (not-suc-le-zero h)
  offsets_part before (x ∷ X) at zero e h =
      let here : at - length before ≡ 0 = omega arith in
      part_right before (written w x ++ joined (map (written w) X)) at (w * length x) (omega arith)
      ∙ ap (λ (p : ℕ). part (written w x ++ joined (map (written w) X)) p (w * length x)) here
      ∙ part_left (written w x) (joined (map (written w) X)) 0 (w * length x) (omega (arith, written_long w x))
      ∙ part_whole (written w x) (w * length x) (written_long w x)
  offsets_part before (x ∷ X) at (suc i) e h =
      ap (λ (z : List ℕ). part z (get_or (offsets_from w (at + w * length x) (lengths X)) i 0) (w * get_or (lengths X) i 0))
      (sym (append_assoc before (written w x) (joined (map (written w) X))))
      ∙ offsets_part (before ++ written w x) X (at + w * length x) i
      (omega (arith, length-append before (written w x), written_long w x))
      (omega arith)

  -- the last offset is the length
  pub offsets_last : (before : List ℕ) (X : List (List ℕ)) (at : ℕ)
      → at ≡ length before
      → length (before ++ joined (map (written w) X)) ≡ get_or (offsets_from w at (lengths X)) (length X) 0
  offsets_last before [] at e = omega (arith, length-append before [])
  offsets_last before (x ∷ X) at e =
      ap length (sym (append_assoc before (written w x) (joined (map (written w) X))))
      ∙ offsets_last (before ++ written w x) X (at + w * length x) (omega (arith, length-append before (written w x), written_long w x))

  -- sections written into lent bytes, each at its offset
  abbrev pub put_sections : List ℕ → ℕ → List (List ℕ) → List ℕ
  put_sections s at [] = s
  put_sections s at (x ∷ X) = put_sections (put s at (written w x)) (at + w * length x) X

  -- one more of them
  pub sections_more : (X : List (List ℕ)) (s : List ℕ) (at i : ℕ)
      → i < length X
      → put (put_sections s at (take i X)) (get_or (offsets_from w at (lengths X)) i 0) (written w (get_or X i [])) ≡ put_sections s at (take (suc i) X)
  sections_more [] s at i h = absurd (not-suc-le-zero h)
  sections_more (x ∷ X) s at zero h = refl
  sections_more (x ∷ X) s at (suc i) h = sections_more X (put s at (written w x)) (at + w * length x) i (omega arith)

  -- are written one after the other
  pub sections_put_lem : (before : List ℕ) (X : List (List ℕ)) (s : List ℕ) (at : ℕ)
      → at ≡ length before
      → put_sections (put s 0 before) at X ≡ put s 0 (before ++ joined (map (written w) X))
  sections_put_lem before [] s at e = ap (put s 0) (sym (append-nil before))
  sections_put_lem before (x ∷ X) s at e =
      let here : at ≡ 0 + length before = omega arith in
      ap (λ (z : List ℕ). put_sections z (at + w * length x) X)
      (ap (λ (p : ℕ). put (put s 0 before) p (written w x)) here ∙ put_next s 0 before (omega arith) (written w x))
      ∙ sections_put_lem (before ++ written w x) X s (at + w * length x) (omega (arith, length-append before (written w x), written_long w x))
      ∙ ap (put s 0) (append_assoc before (written w x) (joined (map (written w) X)))

-- Bytes cut at the offsets.
module _ (w : ℕ) (b : List ℕ) where
  -- the stretches of these sizes from a position on
  abbrev pub cut : ℕ → List ℕ → List (List ℕ)
  cut at [] = []
  cut at (size ∷ sizes) = part b at (w * size) ∷ cut (at + w * size) sizes

  -- joined behind what stands before them they are the bytes up to the last offset
  pub cut_joined : (at : ℕ) (sizes : List ℕ) → take at b ++ joined (cut at sizes) ≡ take (get_or (offsets_from w at sizes) (length sizes) 0) b
  cut_joined at [] = append-nil (take at b)
  cut_joined at (size ∷ sizes) =
      sym (append_assoc (take at b) (part b at (w * size)) (joined (cut (at + w * size) sizes)))
      ∙ ap (λ (z : List ℕ). z ++ joined (cut (at + w * size) sizes)) (sym (take_block b at (w * size)))
      ∙ cut_joined (at + w * size) sizes

  offsets_rise : (at : ℕ) (sizes : List ℕ) → at ≤ get_or (offsets_from w at sizes) (length sizes) 0
  offsets_rise at [] = omega arith
  offsets_rise at (size ∷ sizes) = omega (arith, offsets_rise (at + w * size) sizes)

  -- each stretch ends where the next one starts, and by the last offset
  pub offsets_next : (at : ℕ) (sizes : List ℕ) (i : ℕ)
      → i < length sizes
      → get_or (offsets_from w at sizes) (suc i) 0 ≡ get_or (offsets_from w at sizes) i 0 + w * get_or sizes i 0
  offsets_next at [] i h = absurd (not-suc-le-zero h)
  offsets_next at (size ∷ []) zero h = refl
  offsets_next at (size ∷ (next ∷ sizes)) zero h = refl
  offsets_next at (size ∷ sizes) (suc i) h = offsets_next (at + w * size) sizes i (omega arith)

  pub offsets_within : (at : ℕ) (sizes : List ℕ) (i : ℕ)
      → i < length sizes
      → get_or (offsets_from w at sizes) i 0 + w * get_or sizes i 0 ≤ get_or (offsets_from w at sizes) (length sizes) 0
  offsets_within at [] i h = absurd (not-suc-le-zero h)
  offsets_within at (size ∷ sizes) zero h = offsets_rise (at + w * size) sizes
  offsets_within at (size ∷ sizes) (suc i) h = offsets_within (at + w * size) sizes i (omega arith)

-- the total length
pub total_length_lem : (w z n k c d : ℕ) → total_length w z n k c d ≡ 48 + w + w * n + 3 * (w * k) + w * c + w * (d * ((z + 1) * k))
total_length_lem w z n k c d = omega arith

pub total_at_2 : (n k c d : ℕ) → total_length 2 3 n k c d ≡ 50 + 2 * n + 6 * k + 2 * c + 8 * (d * k)
total_at_2 n k c d = omega (arith, total_length_lem 2 3 n k c d)

pub total_at_4 : (n k c d : ℕ) → total_length 4 3 n k c d ≡ 52 + 4 * n + 12 * k + 4 * c + 16 * (d * k)
total_at_4 n k c d = omega (arith, total_length_lem 4 3 n k c d)

-- that of form 4, of one labelling
pub total_in_pairs : (n k c : ℕ) → total_length 4 2 n k c 1 ≡ 52 + 4 * n + 24 * k + 4 * c
total_in_pairs n k c = omega (arith, total_length_lem 4 2 n k c 1)
