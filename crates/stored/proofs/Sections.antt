-- The laws of the sections' lists. Each list is a table over places, so its element is found by its place; a row is a run of the children's numbers;
-- and what `decode` reads of a whole image is what its six stretches hold.
use mathlib.Core.Bool.{true}
use mathlib.Core.Path.{◌≡◌, refl, sym, ap, ◌∙◌}
use mathlib.Core.List.{List, [], map}
use Prim.Native.Nat.{ℕ, suc, ◌+◌, ◌-◌, ◌*◌, ◌≤◌, ◌<◌}
use native.Mathlib.Omega.{arith}
use native.Mathlib.Nat.{add-zero}
use native.Mathlib.Numerals.{add-one}
use lib.ListN.{length, get_or}
use lib.Seq.{ext_get_or}
use Rattle.lineage.specs.Lists.{upto, part}
use Rattle.lineage.specs.Labels.{Labelling}
use Rattle.lineage.specs.Numbers.{num_at, numbers}
use Rattle.lineage.specs.Sound.{starts_pass}
use Rattle.lineage.specs.Stored.{Form, Counts, counts_in, stretch, section, row_at, labelling_at, decode}
use Rattle.laws.proofs.Starts.{pass_rises, pass_low}
use Rattle.laws.proofs.Parts.{part_length, part_at}
use Rattle.laws.proofs.Lists.{table_long, table_at, table_same}
use Rattle.numbers.proofs.Numbers.{num_part, numbers_long, numbers_at}
use Rattle.stored.specs.Sections.{children_in, labelling_in, tuples_of, places_of, labels_in, index_from}
use Rattle.stored_header.specs.Header.{Stride}
use Rattle.stored.proofs.Held.{labelling_within, number_low}

-- child starts, by what is read of them; where they pass, none is above the next, nor above c
module _ (w : ℕ) (starts : List ℕ) (k : ℕ) where
  pub start_at : (p : ℕ) → p ≤ k → get_or (numbers w starts (k + 1)) p 0 ≡ num_at w starts p
  start_at p h = numbers_at w starts (k + 1) p (omega arith)

  pub next_at : (p : ℕ) → p < k → get_or (numbers w starts (k + 1)) (suc p) 0 ≡ num_at w starts (p + 1)
  next_at p h = rw (add-one p) (start_at (suc p) h)

  module _ (c : ℕ) (pass : starts_pass (numbers w starts (k + 1)) k c ≡ true) where
    pub starts_rise : (p : ℕ) → p < k → num_at w starts p ≤ num_at w starts (p + 1)
    starts_rise p h = omega (arith, pass_rises (numbers w starts (k + 1)) k c pass p h, start_at p (omega arith), next_at p h)

    pub starts_within : (p : ℕ) → p ≤ k → num_at w starts p ≤ c
    starts_within p h = omega (arith, pass_low (numbers w starts (k + 1)) k c pass p h, start_at p h)

module _ (w : ℕ) (starts children : List ℕ) (k c : ℕ) where
  pub children_long : length (children_in w starts children k c) ≡ k
  unfolding children_in
  children_long = table_long (row_at (numbers w starts (k + 1)) (numbers w children c)) k

  module _ (p : ℕ) (low : p < k) where
    pub children_at_lem : get_or (children_in w starts children k c) p [] ≡ row_at (numbers w starts (k + 1)) (numbers w children c) p
    unfolding children_in
    children_at_lem = table_at (row_at (numbers w starts (k + 1)) (numbers w children c)) k p [] low

    -- the children of p are the numbers from child start to next child start
    pub row_is : get_or (children_in w starts children k c) p [] ≡ part (numbers w children c) (num_at w starts p) (num_at w starts (p + 1) - num_at w starts p)
    unfolding row_at
    row_is = children_at_lem ∙ rw (start_at w starts k p (omega arith), next_at w starts k p low) refl

    module _ (fits : num_at w starts p ≤ num_at w starts (p + 1)) (within : num_at w starts (p + 1) ≤ c) where
      pub row_long : length (get_or (children_in w starts children k c) p []) ≡ num_at w starts (p + 1) - num_at w starts p
      row_long =
          rw row_is
          (part_length (numbers w children c) (num_at w starts p) (num_at w starts (p + 1) - num_at w starts p) (omega (arith, numbers_long w children c)))

      pub row_at_lem : (i : ℕ) → i < num_at w starts (p + 1) - num_at w starts p
          → get_or (get_or (children_in w starts children k c) p []) i 0 ≡ num_at w children (num_at w starts p + i)
      row_at_lem i h =
          rw row_is
          (sym (part_at (numbers w children c) (num_at w starts p) (num_at w starts (p + 1) - num_at w starts p) i h)
          ∙ numbers_at w children c (num_at w starts p + i) (omega arith))

module _ (w z : ℕ) (tuples places : List ℕ) (k : ℕ) where
  pub s_long : length (labelling_in w z tuples places k).s ≡ k
  unfolding labelling_in
  s_long = table_long (λ p. num_at w tuples (z * p)) k

  pub m_long : length (labelling_in w z tuples places k).m ≡ k
  unfolding labelling_in
  m_long = table_long (λ p. num_at w tuples (z * p + (z - 2))) k

  pub e_long : length (labelling_in w z tuples places k).e ≡ k
  unfolding labelling_in
  e_long = table_long (λ p. num_at w tuples (z * p + (z - 1))) k

  pub places_long : length (labelling_in w z tuples places k).by_rank ≡ k
  unfolding labelling_in
  places_long = numbers_long w places k

  module _ (p : ℕ) (low : p < k) where
    pub s_at : get_or (labelling_in w z tuples places k).s p 0 ≡ num_at w tuples (z * p)
    unfolding labelling_in
    s_at = table_at (λ q. num_at w tuples (z * q)) k p 0 low

    pub m_at : get_or (labelling_in w z tuples places k).m p 0 ≡ num_at w tuples (z * p + (z - 2))
    unfolding labelling_in
    m_at = table_at (λ q. num_at w tuples (z * q + (z - 2))) k p 0 low

    pub e_at : get_or (labelling_in w z tuples places k).e p 0 ≡ num_at w tuples (z * p + (z - 1))
    unfolding labelling_in
    e_at = table_at (λ q. num_at w tuples (z * q + (z - 1))) k p 0 low

    pub place_at : get_or (labelling_in w z tuples places k).by_rank p 0 ≡ num_at w places p
    unfolding labelling_in
    place_at = numbers_at w places k p low

pub labels_long : (w z : ℕ) (labels : List ℕ) (k d : ℕ) → length (labels_in w z labels k d) ≡ d
unfolding labels_in
labels_long w z labels k d = table_long (λ j. labelling_in w z (tuples_of w z labels k j) (places_of w z labels k j) k) d

same_labelling :
    {s s' m m' e e' r r' : List ℕ} → s ≡ s' → m ≡ m' → e ≡ e' → r ≡ r'
    → ◌≡◌ {A = Labelling} (record { s = s; m = m; e = e; by_rank = r }) (record { s = s'; m = m'; e = e'; by_rank = r' })
same_labelling a b c d = cc

-- labelling j of a labels section is what its two stretches hold
module _ (w : ℕ) {z : ℕ} (Z : Stride z) (labels : List ℕ) (k d j : ℕ) (low : j < d) where
  abbrev size : ℕ
  size = (z + 1) * k

  abbrev all : List ℕ
  all = numbers w labels (d * size)

  own_at : (i : ℕ) → i < size → get_or (part all (j * size) size) i 0 ≡ num_at w labels (j * size + i)
  own_at i h =
      sym (part_at all (j * size) size i h) ∙ numbers_at w labels (d * size) (j * size + i) (omega (arith, labelling_within size d j low))

  number_at : (p i : ℕ) → p < k → i < z → get_or (part all (j * size) size) (z * p + i) 0 ≡ num_at w (tuples_of w z labels k j) (z * p + i)
  unfolding tuples_of
  number_at p i h t =
      let few : z * p + i < z * k = number_low z k p i h t in
      own_at (z * p + i) (omega arith) ∙ sym (num_part w labels (j * size) (z * k) (z * p + i) few)

  first_at : (p : ℕ) → p < k → get_or (part all (j * size) size) (z * p) 0 ≡ num_at w (tuples_of w z labels k j) (z * p)
  first_at p h = rw add-zero at (number_at p 0 h (omega (arith, Z.low)))

  places_are : part (part all (j * size) size) (z * k) k ≡ numbers w (places_of w z labels k j) k
  unfolding places_of
  places_are =
      ext_get_or 0 _ _ (own_long ∙ sym (numbers_long w (part labels (w * (j * size + z * k)) (w * k)) k))
      (λ i h. let b : i < k = rw own_long at h in
      sym (part_at (part all (j * size) size) (z * k) k i b)
      ∙ own_at (z * k + i) (omega arith)
      ∙ moved i
      ∙ sym (num_part w labels (j * size + z * k) k i b)
      ∙ sym (numbers_at w (part labels (w * (j * size + z * k)) (w * k)) k i b))
    where
      own_long : length (part (part all (j * size) size) (z * k) k) ≡ k
      own_long =
          part_length (part all (j * size) size) (z * k) k
          (omega (arith, part_length all (j * size) size (omega (arith, labelling_within size d j low, numbers_long w labels (d * size)))))

      moved : (i : ℕ) → num_at w labels (j * size + (z * k + i)) ≡ num_at w labels (j * size + z * k + i)
      moved i = ap (num_at w labels) (omega arith)

  pub labelling_is : labelling_at z k (numbers w labels (d * ((z + 1) * k))) j ≡ labelling_in w z (tuples_of w z labels k j) (places_of w z labels k j) k
  unfolding labelling_at labelling_in
  labelling_is =
      same_labelling
      (table_same (λ p. get_or own (z * p) 0) (λ p. num_at w tuples (z * p)) k first_at)
      (table_same (λ p. get_or own (z * p + (z - 2)) 0) (λ p. num_at w tuples (z * p + (z - 2))) k (λ p h. number_at p (z - 2) h (omega (arith, Z.low))))
      (table_same (λ p. get_or own (z * p + (z - 1)) 0) (λ p. num_at w tuples (z * p + (z - 1))) k (λ p h. number_at p (z - 1) h (omega (arith, Z.low))))
      places_are
    where
      own : List ℕ
      own = part all (j * size) size

      tuples : List ℕ
      tuples = tuples_of w z labels k j

pub labels_are_lem : (w : ℕ) {z : ℕ} → Stride z → (labels : List ℕ) (k d : ℕ)
    → map (labelling_at z k (numbers w labels (d * ((z + 1) * k)))) (upto d) ≡ labels_in w z labels k d
unfolding labels_in
labels_are_lem w {z} Z labels k d =
    table_same (labelling_at z k (numbers w labels (d * ((z + 1) * k)))) (λ j. labelling_in w z (tuples_of w z labels k j) (places_of w z labels k j) k) d
    (λ j h. labelling_is w Z labels k d j h)

-- what `decode` reads of an image is what its six stretches hold
pub decode_is :
    (F : Form) → Stride F.by_place → (b : List ℕ)
    → (let a : Counts = counts_in b in
    let at : ℕ → List ℕ = stretch F.width F.by_place a b in
    decode F b ≡ index_from F.width F.by_place a.n a.k a.c a.d (at 0) (at 1) (at 2) (at 3) (at 4) (at 5))
unfolding decode index_from section children_in
decode_is F Z b = rw (labels_are_lem F.width Z (stretch F.width F.by_place (counts_in b) b 5) (counts_in b).k (counts_in b).d)
