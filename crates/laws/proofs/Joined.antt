-- Lists one after the other: their members, and one list more. Where all are of one size, block j of them all is list j, and what is cut into blocks is the
-- blocks joined.
use mathlib.Core.Bool.{true, false≢true}
use mathlib.Core.Logic.{inl, inr}
use mathlib.Core.Path.{◌≡◌, refl, sym, ap, ap₂, ◌∙◌}
use mathlib.Core.List.{List, [], ◌∷◌, ◌++◌, map, map-append, append_assoc, append-nil}
use Prim.Native.Nat.{ℕ, zero, suc, ◌+◌, ◌*◌, ◌-◌, ◌<◌}
use native.Mathlib.Omega.{arith}
use native.Mathlib.Nat.{mul-zero, mul-suc, not-suc-le-zero}
use lib.ListN.{length, get_or, take, length-append}
use lib.Seq.{take-add}
use Rattle.lineage.specs.Lists.{upto, among, joined, part, Every}
use Rattle.laws.proofs.Lists.{in_append, in_left, in_right, table_long}
use Rattle.laws.proofs.Every.{every_table}
use Rattle.laws.proofs.Parts.{part_left, part_right, part_whole}

-- a member of one of the lists is a member of them all, and the other way round
pub in_joined : (rows : List (List ℕ)) (p x : ℕ) → among x (get_or rows p []) ≡ true → among x (joined rows) ≡ true
in_joined [] p x i = i
in_joined (row ∷ rows) zero x i = in_left x row (joined rows) i
in_joined (row ∷ rows) (suc p) x i = in_right x row (joined rows) (in_joined rows p x i)

pub joined_in : (rows : List (List ℕ)) (x : ℕ) → among x (joined rows) ≡ true → (p : ℕ) × (p < length rows) × (among x (get_or rows p []) ≡ true)
joined_in [] x i = absurd (false≢true i)
joined_in (row ∷ rows) x i =
    elim (in_append x row (joined rows) i) [
      | inl j ↦ (0, omega arith, j)
      | inr j ↦ let (p, h, c) = joined_in rows x j in (suc p, omega arith, c)
    ]

module _ {A : Type 0} where
  pub joined_append : (X Y : List (List A)) → joined (X ++ Y) ≡ joined X ++ joined Y
  joined_append [] Y = refl
  joined_append (x ∷ X) Y = rw (joined_append X Y) (sym (append_assoc x (joined X) (joined Y)))

  -- one more entry of a table
  pub joined_more : (f : ℕ → List A) (n : ℕ) → joined (map f (upto (suc n))) ≡ joined (map f (upto n)) ++ f n
  joined_more f n =
      ap joined (map-append f (upto n) (n ∷ []))
      ∙ joined_append (map f (upto n)) (f n ∷ [])
      ∙ ap (λ (z : List A). joined (map f (upto n)) ++ z) (append-nil (f n))

  -- all are of this size
  abbrev pub Sized : ℕ → List (List A) → Type 0
  Sized size X = Every (λ x. length x ≡ size) X

  pub sized_map : {B : Type 0} (f : B → List A) (size : ℕ) (xs : List B) → Every (λ x. length (f x) ≡ size) xs → Sized size (map f xs)
  sized_map f size [] h = tt
  sized_map f size (x ∷ xs) h = (h.0, sized_map f size xs h.1)

  pub blocks_long : (size : ℕ) (X : List (List A)) → Sized size X → length (joined X) ≡ size * length X
  blocks_long size [] h = sym (mul-zero size)
  blocks_long size (x ∷ X) h = omega (arith, length-append x (joined X), h.0, blocks_long size X h.1, mul-suc size (length X))

  pub block_at : (size : ℕ) (X : List (List A)) (j : ℕ) → Sized size X → j < length X → part (joined X) (size * j) size ≡ get_or X j []
  block_at size [] j h l = absurd (not-suc-le-zero l)
  block_at size (x ∷ X) zero h l = rw (mul-zero size) (part_left x (joined X) 0 size (omega (arith, h.0)) ∙ part_whole x size h.0)
  block_at size (x ∷ X) (suc j) h l =
      let e : size * suc j - length x ≡ size * j = omega (arith, h.0, mul-suc size j) in
      part_right x (joined X) (size * suc j) size (omega (arith, h.0, mul-suc size j))
      ∙ ap (λ (at : ℕ). part (joined X) at size) e
      ∙ block_at size X j h.1 (omega arith)

  pub table_blocks_long : (f : ℕ → List A) (size n : ℕ) → ((j : ℕ) → j < n → length (f j) ≡ size) → length (joined (map f (upto n))) ≡ size * n
  table_blocks_long f size n sized =
      blocks_long size (map f (upto n)) (every_table (λ x. length x ≡ size) f n sized) ∙ ap (λ (m : ℕ). size * m) (table_long f n)

  -- what stands before a part, and the part
  pub take_block : (s : List A) (at size : ℕ) → take (at + size) s ≡ take at s ++ part s at size
  unfolding part
  take_block s at size = take-add at size s

  pub blocks_of : (f : ℕ → List A) (size : ℕ) (s : List A) (n : ℕ)
      → ((j : ℕ) → j < n → f j ≡ part s (size * j) size)
      → joined (map f (upto n)) ≡ take (size * n) s
  blocks_of f size s zero h = rw (mul-zero size)
  blocks_of f size s (suc n) h =
      joined_more f n
      ∙ ap₂ ◌++◌ (blocks_of f size s n (λ j l. h j (omega arith))) (h n (omega arith))
      ∙ sym (take_block s (size * n) size)
      ∙ ap (λ (m : ℕ). take m s) (sym (mul-suc size n))
