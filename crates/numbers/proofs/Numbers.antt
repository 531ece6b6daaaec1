-- The laws of little-endian numbers, at any width. A number is made of its own w bytes alone; so the bytes of a number are read as that number, and the
-- numbers of a stretch are a list of their own.
use mathlib.Core.Path.{◌≡◌, refl, sym, ap, ◌∙◌}
use mathlib.Core.List.{List, [], ◌∷◌, ◌++◌, map, map-append}
use Prim.Native.Nat.{ℕ, zero, suc, ◌+◌, ◌-◌, ◌*◌, ◌/◌, ◌%◌, ◌^◌, ◌≤◌, ◌<◌}
use native.Mathlib.Omega.{arith}
use native.Mathlib.Numerals.{add-one}
use native.Mathlib.Nat.{mul-le-mul_left, mul-le-mul_right, mul-suc, mul-add, pow-suc, add-zero, add_assoc}
use lib.Dec.{ltb}
use lib.ListN.{length, get_or, take, drop, set}
use lib.Seq.{ext_get_or}
use Rattle.lineage.specs.Lists.{upto, part}
use Rattle.lineage.specs.Numbers.{le_at, num_at, numbers, le_bytes}
use Rattle.laws.specs.Rising.{Rises}
use Rattle.laws.proofs.Rising.{those_short}
use Rattle.laws.specs.Rising.{count_below}
use Rattle.laws.proofs.Halving.{Side, sides}
use Rattle.laws.proofs.Lists.{table_long, table_at}
use Rattle.laws.proofs.Parts.{part_length, part_at}
use Rattle.numbers.specs.Put.{put}
use Rattle.numbers.specs.Regions.{Part}
use Rattle.numbers.proofs.Put.{put_sets}

-- number i of k lies within l bytes
pub room : (w i k l : ℕ) → i < k → w * k ≤ l → w * i + w ≤ l
room w i k l h r = omega (arith, mul-le-mul_left w h, mul-suc w i)

-- numbers take at least as many bytes as there are numbers
pub count_low : (w n : ℕ) → 2 ≤ w → n ≤ w * n
count_low w n h = omega (arith, mul-le-mul_right n h)

-- a number of a stretch is a number of the whole
pub le_part : (w : ℕ) (s : List ℕ) (b size p : ℕ) → p + w ≤ size → le_at w (part s b size) p ≡ le_at w s (b + p)
unfolding le_at
le_part zero s b size p h = refl
le_part (suc w) s b size p h =
    omega (arith, part_at s b size p (omega arith), ap (le_at w s) (add_assoc b p 1), le_part w s b size (p + 1) (omega arith))

-- it is made of its own bytes alone
pub le_own : (w : ℕ) (s : List ℕ) (p : ℕ) → le_at w s p ≡ le_at w (part s p w) 0
le_own w s p = sym (le_part w s p w 0 (omega arith) ∙ ap (le_at w s) (add-zero p))

-- without the first byte
pub le_tail : (w a : ℕ) (s : List ℕ) (p : ℕ) → le_at w (a ∷ s) (p + 1) ≡ le_at w s p
unfolding le_at
le_tail zero a s p = refl
le_tail (suc w) a s p = omega (arith, ap (λ (n : ℕ). get_or (a ∷ s) n 0) (add-one p), le_tail w a s (p + 1))

-- the bytes of a number: how many, and that they make it
pub bytes_long : (w v : ℕ) → length (le_bytes w v) ≡ w
bytes_long zero v = refl
bytes_long (suc w) v = ap suc (bytes_long w (v / 256))

pub le_bytes_lem : (w v : ℕ) → v < 256 ^ w → le_at w (le_bytes w v) 0 ≡ v
unfolding le_at
le_bytes_lem zero v h = omega arith
le_bytes_lem (suc w) v h =
    omega (arith, le_tail w (v % 256) (le_bytes w (v / 256)) 0, le_bytes_lem w (v / 256) (omega (arith, pow-suc 256 w)))

module _ (w : ℕ) (s : List ℕ) where
  -- number i of the part that holds n numbers from number a on
  pub num_part : (a n i : ℕ) → i < n → num_at w (part s (w * a) (w * n)) i ≡ num_at w s (a + i)
  num_part a n i h =
      le_part w s (w * a) (w * n) (w * i) (room w i n (w * n) h (omega arith)) ∙ ap (le_at w s) (sym (mul-add w a i))

  -- the numbers of a stretch as a list
  pub numbers_long : (k : ℕ) → length (numbers w s k) ≡ k
  unfolding numbers
  numbers_long k = table_long (num_at w s) k

  pub numbers_at : (k i : ℕ) → i < k → get_or (numbers w s k) i 0 ≡ num_at w s i
  unfolding numbers
  numbers_at k i h = table_at (num_at w s) k i 0 h

  -- one more of them
  pub numbers_next : (k : ℕ) → numbers w s (k + 1) ≡ numbers w s k ++ (num_at w s k ∷ [])
  unfolding numbers
  numbers_next k = ap (λ (n : ℕ). map (num_at w s) (upto n)) (add-one k) ∙ map-append (num_at w s) (upto k) (k ∷ [])

-- how many of them are below v is on the side of position i that number i tells, where they rise
module _ (w k : ℕ) (s : List ℕ) (v : ℕ) where
  pub count_most : count_below v (numbers w s k) ≤ k
  count_most = omega (arith, those_short (λ x. ltb x v) (numbers w s k), numbers_long w s k)

  module _ (rise : Rises (numbers w s k)) (i r : ℕ) (low : i < k) (e : r ≡ num_at w s i) where
    side : Side v (numbers w s k) i
    side = sides v (numbers w s k) rise i (omega (arith, numbers_long w s k))

    pub count_over : r < v → i < count_below v (numbers w s k)
    count_over h = side.0 (omega (arith, numbers_at w s k i low))

    pub count_under : v ≤ r → count_below v (numbers w s k) ≤ i
    count_under h = side.1 (omega (arith, numbers_at w s k i low))

-- the numbers of a part are a part of the numbers
pub numbers_part : (w : ℕ) (s : List ℕ) (k a n : ℕ) → a + n ≤ k → numbers w (part s (w * a) (w * n)) n ≡ part (numbers w s k) a n
numbers_part w s k a n h =
    let t : List ℕ = part s (w * a) (w * n) in
    let long : length (part (numbers w s k) a n) ≡ n = part_length (numbers w s k) a n (omega (arith, numbers_long w s k)) in
    ext_get_or 0 (numbers w t n) (part (numbers w s k) a n) (numbers_long w t n ∙ sym long)
    (λ i l.
    let j : i < n = omega (arith, numbers_long w t n) in
    numbers_at w t n i j ∙ num_part w s a n i j ∙ sym (numbers_at w s k (a + i) (omega arith)) ∙ part_at (numbers w s k) a n i j)

-- a part from number to number
pub part_by : (w from count a e : ℕ) (s : List ℕ)
    → a ≡ w * from
    → e ≡ w * (from + count)
    → w * (from + count) ≤ length s
    → Part s (w * from) (w * count) (take (e - a) (drop a s))
unfolding part
part_by w from count a e s ea ee h =
    let size : e - a ≡ w * count = omega (arith, mul-add w from count) in
    record {
      is = rw (size, ea);
      long = rw (size, ea) (part_length s (w * from) (w * count) (omega (arith, mul-add w from count)));
    }

pub part_from : (w from from' size : ℕ) (s r : List ℕ) → from ≡ from' → Part s (w * from) size r → Part s (w * from') size r
part_from w from from' size s r e P = rw (← e) P

-- a number has room at the width that is told
pub room_at : (w v i l : ℕ) → w ≡ v → w * i + w ≤ l → v * i + v ≤ l
room_at w v i l e h = rw (← e) h

-- two bytes and four, read
pub num_two : (w i r : ℕ) (s : List ℕ) → w ≡ 2 → r ≡ le_at 2 s (2 * i) → r ≡ num_at w s i
num_two w i r s e h = cc

le_four : (s : List ℕ) (p : ℕ) → le_at 4 s p ≡ le_at 2 s p + 65536 * le_at 2 s (p + 2)
unfolding le_at
le_four s p = simp add_assoc (omega arith)

pub num_four : (w i a b : ℕ) (s : List ℕ) → w ≡ 4 → a ≡ le_at 2 s (4 * i) → b ≡ le_at 2 s (4 * i + 2) → a + 65536 * b ≡ num_at w s i
num_four w i a b s e h k = cc (le_four s (4 * i))

-- two bytes and four, stored one by one
put_first : (s : List ℕ) (p v : ℕ) → p + 2 ≤ length s → set (set s p (v % 256)) (p + 1) (v / 256 % 256) ≡ put s p (le_bytes 2 v)
put_first s p v h = rw add-one (put_sets s p (le_bytes 2 v) h)

put_all : (s : List ℕ) (p v : ℕ)
    → p + 4 ≤ length s
    → set (set (set (set s p (v % 256)) (p + 1) (v / 256 % 256)) (p + 2) (v / 256 / 256 % 256)) (p + 3) (v / 256 / 256 / 256 % 256) ≡ put s p (le_bytes 4 v)
put_all s p v h =
    let two : p + 2 ≡ suc (suc p) = omega arith in
    let three : p + 3 ≡ suc (suc (suc p)) = omega arith in
    rw (add-one, two, three) (put_sets s p (le_bytes 4 v) h)

pub put_two : (w p v a b : ℕ) (s : List ℕ)
    → w ≡ 2
    → p + w ≤ length s
    → a ≡ v % 256
    → b ≡ v / 256 % 256
    → set (set s p a) (p + 1) b ≡ put s p (le_bytes w v)
put_two w p v a b s e h ea eb = cc (put_first s p v (omega arith))

pub put_four : (w p v a b c d : ℕ) (s : List ℕ)
    → w ≡ 4
    → p + w ≤ length s
    → a ≡ v % 256
    → b ≡ v / 256 % 256
    → c ≡ v / 256 / 256 % 256
    → d ≡ v / 256 / 256 / 256 % 256
    → set (set (set (set s p a) (p + 1) b) (p + 2) c) (p + 3) d ≡ put s p (le_bytes w v)
put_four w p v a b c d s e h ea eb ec ed = cc (put_all s p v (omega arith))
