-- Numbers written one after the other, and read again. At any width: what was written is read, and bytes that are read as numbers are those numbers' bytes.
use mathlib.Core.Path.{◌≡◌, refl, sym, ap, ap₂, ◌∙◌}
use mathlib.Core.List.{List, [], ◌∷◌, ◌++◌, map, map-map, append_assoc, append-nil}
use Prim.Native.Nat.{ℕ, zero, suc, ◌+◌, ◌*◌, ◌/◌, ◌%◌, ◌^◌, ◌≤◌, ◌<◌}
use native.Mathlib.Omega.{arith}
use native.Mathlib.Decide.{dec_lt}
use native.Mathlib.Nat.{mul-zero, mul-suc}
use lib.ListN.{length, get_or, take, length-append, length-map, get_or-eq_default}
use lib.Seq.{take_all, length-take-le}
use Rattle.std.proofs.lemmas.List.{take_more}
use Rattle.lineage.specs.Lists.{upto, joined, part, Every}
use Rattle.lineage.specs.Numbers.{le_at, num_at, numbers, le_bytes, written}
use Rattle.laws.proofs.Every.{every_of, every_at}
use Rattle.laws.proofs.Joined.{Sized, sized_map, block_at, blocks_of}
use Rattle.laws.proofs.Lists.{get_d_mapped, table_is}
use Rattle.laws.proofs.Parts.{part_left, part_beyond, part_length, part_at}
use Rattle.numbers.specs.Put.{put}
use Rattle.numbers.proofs.Put.{put_none, put_next}
use Rattle.numbers.proofs.Numbers.{room, le_own, le_tail, le_bytes_lem, bytes_long, numbers_long, numbers_next}

pub written_long : (w : ℕ) (xs : List ℕ) → length (written w xs) ≡ w * length xs
written_long w [] = sym (mul-zero w)
written_long w (x ∷ xs) =
    omega (arith, length-append (le_bytes w x) (written w xs), bytes_long w x, written_long w xs, mul-suc w (length xs))

pub written_append : (w : ℕ) (xs ys : List ℕ) → written w (xs ++ ys) ≡ written w xs ++ written w ys
written_append w [] ys = refl
written_append w (x ∷ xs) ys = rw (written_append w xs ys) (sym (append_assoc (le_bytes w x) (written w xs) (written w ys)))

bytes_sized : (w : ℕ) (xs : List ℕ) → Sized w (map (le_bytes w) xs)
bytes_sized w xs = sized_map (le_bytes w) w xs (every_of (λ x. length (le_bytes w x) ≡ w) (bytes_long w) xs)

-- a number of the first of two stretches
pub num_front : (w : ℕ) (a b : List ℕ) (i : ℕ) → w * i + w ≤ length a → num_at w (a ++ b) i ≡ num_at w a i
num_front w a b i h =
    le_own w (a ++ b) (w * i) ∙ ap (λ (z : List ℕ). le_at w z 0) (part_left a b (w * i) w h) ∙ sym (le_own w a (w * i))

-- what was written is read
pub written_at : (w : ℕ) (xs : List ℕ) (i : ℕ) → Every (λ x. x < 256 ^ w) xs → i < length xs → num_at w (written w xs) i ≡ get_or xs i 0
written_at w xs i h l =
    le_own w (written w xs) (w * i)
    ∙ ap (λ (z : List ℕ). le_at w z 0)
    (block_at w (map (le_bytes w) xs) i (bytes_sized w xs) (omega (arith, length-map xs (le_bytes w))) ∙ get_d_mapped (le_bytes w) xs i 0 [] l)
    ∙ le_bytes_lem w (get_or xs i 0) (every_at (λ x. x < 256 ^ w) xs i 0 h l)

pub numbers_written : (w : ℕ) (xs : List ℕ) → Every (λ x. x < 256 ^ w) xs → numbers w (written w xs) (length xs) ≡ xs
unfolding numbers
numbers_written w xs h = table_is (num_at w (written w xs)) xs (length xs) 0 refl (λ i l. written_at w xs i h l)

-- each is a byte
abbrev pub Bytes : List ℕ → Type 0
Bytes s = (i : ℕ) → get_or s i 0 < 256

pub bytes_part : (s : List ℕ) (at size : ℕ) → Bytes s → Bytes (part s at size)
bytes_part s at size small i =
    elim (dec_lt i size) [
      | yes l ↦ omega (arith, part_at s at size i l, small (at + i))
      | no l ↦ omega (arith, get_or-eq_default (part s at size) 0 (part_beyond s at size i (omega arith)))
    ]

-- the bytes of a number that is read are those bytes
bytes_le : (w : ℕ) (s : List ℕ) → Bytes s → length s ≡ w → le_bytes w (le_at w s 0) ≡ s
unfolding le_at
bytes_le zero [] small e = refl
bytes_le zero (x ∷ s) small e = absurd (omega arith)
bytes_le (suc w) [] small e = absurd (omega arith)
bytes_le (suc w) (x ∷ s) small e =
    let rest : le_at w (x ∷ s) 1 ≡ le_at w s 0 = le_tail w x s 0 in
    let low : (x + 256 * le_at w (x ∷ s) 1) % 256 ≡ x = omega (arith, small 0) in
    let high : (x + 256 * le_at w (x ∷ s) 1) / 256 ≡ le_at w s 0 = omega (arith, small 0) in
    ap₂ (λ (z : ℕ) (zs : List ℕ). z ∷ zs) low (ap (le_bytes w) high ∙ bytes_le w s (λ i. small (suc i)) (omega arith))

number_bytes : (w : ℕ) (s : List ℕ) (n i : ℕ) → Bytes s → length s ≡ w * n → i < n → le_bytes w (num_at w s i) ≡ part s (w * i) w
number_bytes w s n i small e l =
    ap (le_bytes w) (le_own w s (w * i))
    ∙ bytes_le w (part s (w * i) w) (bytes_part s (w * i) w small) (part_length s (w * i) w (room w i n (length s) l (omega arith)))

-- bytes that are read as numbers are those numbers written
pub written_numbers : (w : ℕ) (s : List ℕ) (n : ℕ) → Bytes s → length s ≡ w * n → written w (numbers w s n) ≡ s
unfolding numbers
written_numbers w s n small e =
    ap joined (map-map (le_bytes w) (num_at w s) (upto n))
    ∙ blocks_of (λ i. le_bytes w (num_at w s i)) w s n (λ i l. number_bytes w s n i small e l)
    ∙ take_all (w * n) s (omega arith)

-- numbers behind numbers
pub written_next : (w at : ℕ) (s : List ℕ) (xs ys : List ℕ) (p : ℕ)
    → p ≡ at + w * length xs
    → at + w * length xs ≤ length s
    → put (put s at (written w xs)) p (written w ys) ≡ put s at (written w (xs ++ ys))
written_next w at s xs ys p e h =
    let here : p ≡ at + length (written w xs) = omega (arith, written_long w xs) in
    ap (λ (q : ℕ). put (put s at (written w xs)) q (written w ys)) here
    ∙ put_next s at (written w xs) (omega (arith, written_long w xs)) (written w ys)
    ∙ ap (put s at) (sym (written_append w xs ys))

-- one number, as a list of its own
pub written_one : (w a : ℕ) → le_bytes w a ≡ written w (a ∷ [])
written_one w a = sym (append-nil (le_bytes w a))

-- Numbers written one by one: xs are, and one more makes ys of them.
written_more : (w at : ℕ) (s t xs ys : List ℕ) (p i v : ℕ)
    → t ≡ put s at (written w xs)
    → length xs ≡ i
    → p ≡ at + w * i
    → ys ≡ xs ++ (v ∷ [])
    → at + w * i ≤ length s
    → put t p (le_bytes w v) ≡ put s at (written w ys)
written_more w at s t xs ys p i v e long here more fits =
    let behind : at + w * i ≡ at + w * length xs = ap (λ (n : ℕ). at + w * n) (sym long) in
    ap₂ (λ (z x : List ℕ). put z p x) e (written_one w v)
    ∙ written_next w at s xs (v ∷ []) p (here ∙ behind) (omega arith)
    ∙ ap (λ (z : List ℕ). put s at (written w z)) (sym more)

-- Words: none of them yet, and one more.
module _ (w at : ℕ) (words s : List ℕ) where
  abbrev pub words_put : ℕ → List ℕ
  words_put i = put s at (written w (take i words))

  pub words_none : s ≡ words_put 0
  words_none = sym (put_none s at)

  pub words_more : (t : List ℕ) (p i v : ℕ)
      → t ≡ words_put i
      → p ≡ at + w * i
      → v ≡ get_or words i 0
      → i < length words
      → at + w * i + w ≤ length s
      → put t p (le_bytes w v) ≡ words_put (i + 1)
  words_more t p i v e ep ev h fits =
      written_more w at s t (take i words) (take (i + 1) words) p i v e (length-take-le i words (omega arith)) ep
      (take_more words i 0 h ∙ ap (λ (x : ℕ). take i words ++ (x ∷ [])) (sym ev))
      (omega arith)

  -- all of them
  pub words_all : {i : ℕ} → length words ≤ i → words_put i ≡ put s at (written w words)
  words_all {i} h = ap (λ (z : List ℕ). put s at (written w z)) (take_all i words h)

-- Numbers of w bytes, written as numbers of v: none of them yet, and one more.
module _ (v at w : ℕ) (from s : List ℕ) where
  abbrev pub numbers_put : ℕ → List ℕ
  numbers_put i = put s at (written v (numbers w from i))

  pub numbers_none : s ≡ numbers_put 0
  unfolding numbers
  numbers_none = sym (put_none s at)

  pub numbers_more : (t : List ℕ) (p i x : ℕ)
      → t ≡ numbers_put i
      → p ≡ at + v * i
      → x ≡ num_at w from i
      → at + v * i + v ≤ length s
      → put t p (le_bytes v x) ≡ numbers_put (i + 1)
  numbers_more t p i x e ep ex fits =
      written_more v at s t (numbers w from i) (numbers w from (i + 1)) p i x e (numbers_long w from i) ep
      (numbers_next w from i ∙ ap (λ (y : ℕ). numbers w from i ++ (y ∷ [])) (sym ex))
      (omega arith)
