-- The numbers of the labels section. Those of one labelling are z of each of k groups, triples or pairs, and k places, (z + 1)k in all; so labelling j is block j
-- of the section, and what is read from the blocks is what was written, both ways.
use mathlib.Core.Path.{◌≡◌, refl, sym, ap, ◌∙◌}
use mathlib.Core.List.{List, [], ◌∷◌, ◌++◌, map, map-map}
use Prim.Native.Nat.{ℕ, suc, ◌+◌, ◌*◌, ◌-◌, ◌≤◌, ◌<◌}
use native.Mathlib.Omega.{arith}
use native.Mathlib.Nat.{mul_comm, add-zero}
use native.Mathlib.Numerals.{add-one}
use lib.ListN.{length, get_or, take, length-append, length-map, get_or-append}
use lib.Seq.{take_all, drop-cons}
use Rattle.lineage.specs.Lists.{upto, joined, part, Every}
use Rattle.lineage.specs.Labels.{Labelling}
use Rattle.lineage.specs.Stored.{label_of, label_numbers, labelling_at}
use Rattle.laws.proofs.Lists.{get_d_mapped, table_long, table_at, table_is}
use Rattle.laws.proofs.Parts.{part_right, part_whole, part_length, part_at}
use Rattle.laws.proofs.Every.{every_of, every_at, every_from}
use Rattle.laws.proofs.Joined.{Sized, sized_map, blocks_long, block_at, blocks_of, take_block}
use Rattle.numbers.proofs.Numbers.{room}
use Rattle.stored_header.specs.Header.{Stride}
use Rattle.stored_header.proofs.Forms.{stride_each}
use Rattle.stored.specs.Fits.{Full}
use Rattle.stored.proofs.Held.{labelling_within, number_low}

-- the numbers of one group: z of them, s first, e last, and before it m, which in a pair is s
module _ {z : ℕ} (Z : Stride z) (l : Labelling) (p : ℕ) where
  pub label_long : length (label_of z l p) ≡ z
  label_long = stride_each (λ y. length (label_of y l p) ≡ y) refl refl Z

  label_s : get_or (label_of z l p) 0 0 ≡ get_or l.s p 0
  label_s = stride_each (λ y. get_or (label_of y l p) 0 0 ≡ get_or l.s p 0) refl refl Z

  label_m : (z ≡ 2 → l.m ≡ l.s) → get_or (label_of z l p) (z - 2) 0 ≡ get_or l.m p 0
  label_m =
      stride_each (λ y. (y ≡ 2 → l.m ≡ l.s) → get_or (label_of y l p) (y - 2) 0 ≡ get_or l.m p 0)
      (λ alike. ap (λ (ms : List ℕ). get_or ms p 0) (sym (alike refl)))
      (λ alike. refl)
      Z

  label_e : get_or (label_of z l p) (z - 1) 0 ≡ get_or l.e p 0
  label_e = stride_each (λ y. get_or (label_of y l p) (y - 1) 0 ≡ get_or l.e p 0) refl refl Z

module _ {z : ℕ} (Z : Stride z) (k : ℕ) (l : Labelling) where
  abbrev tuples : List ℕ
  tuples = joined (map (label_of z l) (upto k))

  tuples_sized : Sized z (map (label_of z l) (upto k))
  tuples_sized = sized_map (label_of z l) z (upto k) (every_of (λ p. length (label_of z l p) ≡ z) (label_long Z l) (upto k))

  tuples_long : length tuples ≡ z * k
  tuples_long = blocks_long z (map (label_of z l) (upto k)) tuples_sized ∙ ap (λ (n : ℕ). z * n) (table_long (label_of z l) k)

  -- (z + 1)k numbers
  pub numbers_of_long : length l.by_rank ≡ k → length (label_numbers z k l) ≡ (z + 1) * k
  numbers_of_long e = omega (arith, length-append tuples l.by_rank, tuples_long)

  -- number i of those of p
  tuple_at : (p i : ℕ) → p < k → i < z → get_or (label_numbers z k l) (z * p + i) 0 ≡ get_or (label_of z l p) i 0
  tuple_at p i h t =
      get_or-append tuples l.by_rank 0 (z * p + i) (omega (arith, tuples_long, number_low z k p i h t))
      ∙ part_at tuples (z * p) z i t
      ∙ ap (λ (x : List ℕ). get_or x i 0)
      (block_at z (map (label_of z l) (upto k)) p tuples_sized (omega (arith, table_long (label_of z l) k)) ∙ table_at (label_of z l) k p [] h)

  -- the places by rank
  places_at : length l.by_rank ≡ k → part (label_numbers z k l) (z * k) k ≡ l.by_rank
  places_at e =
      let here : z * k - length tuples ≡ 0 = omega (arith, tuples_long) in
      part_right tuples l.by_rank (z * k) k (omega (arith, tuples_long))
      ∙ ap (λ (at : ℕ). part l.by_rank at k) here
      ∙ part_whole l.by_rank k e

-- a labelling from its numbers
module _ {z : ℕ} (Z : Stride z) (k : ℕ) (l : Labelling) (h : Full z k l) where
  s_read : map (λ p. get_or (label_numbers z k l) (z * p) 0) (upto k) ≡ l.s
  s_read =
      table_is (λ p. get_or (label_numbers z k l) (z * p) 0) l.s k 0 h.s
      (λ p b. ap (λ (q : ℕ). get_or (label_numbers z k l) q 0) (sym (add-zero (z * p))) ∙ tuple_at Z k l p 0 b (omega (arith, Z.low)) ∙ label_s Z l p)

  m_read : map (λ p. get_or (label_numbers z k l) (z * p + (z - 2)) 0) (upto k) ≡ l.m
  m_read =
      table_is (λ p. get_or (label_numbers z k l) (z * p + (z - 2)) 0) l.m k 0 h.m
      (λ p b. tuple_at Z k l p (z - 2) b (omega (arith, Z.low)) ∙ label_m Z l p h.alike)

  e_read : map (λ p. get_or (label_numbers z k l) (z * p + (z - 1)) 0) (upto k) ≡ l.e
  e_read =
      table_is (λ p. get_or (label_numbers z k l) (z * p + (z - 1)) 0) l.e k 0 h.e
      (λ p b. tuple_at Z k l p (z - 1) b (omega (arith, Z.low)) ∙ label_e Z l p)

  labelling_read : (N : List ℕ) (j : ℕ) → part N (j * ((z + 1) * k)) ((z + 1) * k) ≡ label_numbers z k l → labelling_at z k N j ≡ l
  unfolding labelling_at
  labelling_read N j own = rw (own, s_read, m_read, e_read, places_at Z k l h.by_rank)

-- the labellings of a section that was written
module _ {z : ℕ} (Z : Stride z) (k : ℕ) (ls : List Labelling) (h : Every (Full z k) ls) where
  abbrev size : ℕ
  size = (z + 1) * k

  abbrev blocks : List (List ℕ)
  blocks = map (label_numbers z k) ls

  blocks_sized : Sized size blocks
  blocks_sized =
      sized_map (label_numbers z k) size ls
      (every_from (Full z k) (λ l. length (label_numbers z k l) ≡ size) (λ l f. numbers_of_long Z k l f.by_rank) ls h)

  pub labels_long : length (joined blocks) ≡ length ls * size
  labels_long =
      blocks_long size blocks blocks_sized ∙ ap (λ (n : ℕ). size * n) (length-map ls (label_numbers z k)) ∙ mul_comm size (length ls)

  none : Labelling
  none = record { s = []; m = []; e = []; by_rank = [] }

  own_block : (j : ℕ) → j < length ls → part (joined blocks) (j * size) size ≡ label_numbers z k (get_or ls j none)
  own_block j l =
      ap (λ (at : ℕ). part (joined blocks) at size) (mul_comm j size)
      ∙ block_at size blocks j blocks_sized (omega (arith, length-map ls (label_numbers z k)))
      ∙ get_d_mapped (label_numbers z k) ls j none [] l

  pub labels_read : map (labelling_at z k (joined blocks)) (upto (length ls)) ≡ ls
  labels_read =
      table_is (labelling_at z k (joined blocks)) ls (length ls) none refl
      (λ j l. labelling_read Z k (get_or ls j none) (every_at (Full z k) ls j none h l) (joined blocks) j (own_block j l))

-- the section of the labellings that were read
two_part : (s : List ℕ) (q : ℕ) → q + 2 ≤ length s → part s q 2 ≡ get_or s q 0 ∷ get_or s (q + 1) 0 ∷ []
unfolding part
two_part s q h =
    rw add-one
    (ap (take 2)
    (drop-cons s q 0 (omega arith) ∙ ap (λ (x : List ℕ). get_or s q 0 ∷ x) (drop-cons s (suc q) 0 (omega arith))))

three_part : (s : List ℕ) (q : ℕ) → q + 3 ≤ length s → part s q 3 ≡ get_or s q 0 ∷ get_or s (q + 1) 0 ∷ get_or s (q + 2) 0 ∷ []
unfolding part
three_part s q h =
    let two : q + 2 ≡ suc (suc q) = omega arith in
    rw (add-one, two)
    (ap (take 3)
    (drop-cons s q 0 (omega arith)
    ∙ ap (λ (x : List ℕ). get_or s q 0 ∷ x)
    (drop-cons s (suc q) 0 (omega arith) ∙ ap (λ (x : List ℕ). get_or s (suc q) 0 ∷ x) (drop-cons s (suc (suc q)) 0 (omega arith)))))

-- the numbers of a group that was read from these
label_again : {z : ℕ} → Stride z → (l : Labelling) (own : List ℕ) (p : ℕ)
    → get_or l.s p 0 ≡ get_or own (z * p) 0
    → get_or l.m p 0 ≡ get_or own (z * p + (z - 2)) 0
    → get_or l.e p 0 ≡ get_or own (z * p + (z - 1)) 0
    → z * p + z ≤ length own
    → label_of z l p ≡ part own (z * p) z
label_again Z l own p =
    stride_each
    (λ z. get_or l.s p 0 ≡ get_or own (z * p) 0
    → get_or l.m p 0 ≡ get_or own (z * p + (z - 2)) 0
    → get_or l.e p 0 ≡ get_or own (z * p + (z - 1)) 0
    → z * p + z ≤ length own
    → label_of z l p ≡ part own (z * p) z)
    (λ s m e h. rw (s, e) (sym (two_part own (2 * p) h)))
    (λ s m e h. rw (s, m, e) (sym (three_part own (3 * p) h)))
    Z

module _ {z : ℕ} (Z : Stride z) (k : ℕ) (N : List ℕ) (j : ℕ) (fits : j * ((z + 1) * k) + (z + 1) * k ≤ length N) where
  abbrev own : List ℕ
  own = part N (j * ((z + 1) * k)) ((z + 1) * k)

  own_long : length own ≡ (z + 1) * k
  own_long = part_length N (j * ((z + 1) * k)) ((z + 1) * k) fits

  tuple_again : (p : ℕ) → p < k → label_of z (labelling_at z k N j) p ≡ part own (z * p) z
  unfolding labelling_at
  tuple_again p h =
      label_again Z (labelling_at z k N j) own p
      (table_at (λ q. get_or own (z * q) 0) k p 0 h)
      (table_at (λ q. get_or own (z * q + (z - 2)) 0) k p 0 h)
      (table_at (λ q. get_or own (z * q + (z - 1)) 0) k p 0 h)
      (omega (arith, own_long, room z p k (z * k) h (omega arith)))

  numbers_again : label_numbers z k (labelling_at z k N j) ≡ own
  unfolding labelling_at
  numbers_again =
      ap (λ (x : List ℕ). x ++ part own (z * k) k) (blocks_of (label_of z (labelling_at z k N j)) z own k tuple_again)
      ∙ sym (take_block own (z * k) k)
      ∙ take_all (z * k + k) own (omega (arith, own_long))

pub labels_written : {z : ℕ} → Stride z → (k d : ℕ) (N : List ℕ) → length N ≡ d * ((z + 1) * k)
    → joined (map (label_numbers z k) (map (labelling_at z k N) (upto d))) ≡ N
labels_written {z} Z k d N e =
    let size : ℕ = (z + 1) * k in
    ap joined (map-map (label_numbers z k) (labelling_at z k N) (upto d))
    ∙ blocks_of (λ j. label_numbers z k (labelling_at z k N j)) size N d
    (λ j h.
    numbers_again Z k N j (omega (arith, labelling_within size d j h))
    ∙ ap (λ (at : ℕ). part N at size) (mul_comm j size))
    ∙ take_all (size * d) N (omega (arith, mul_comm size d))
