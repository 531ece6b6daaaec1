-- The bytes of an index as they are written: all that stands before the labels, and the labels behind it. Where every group has its level and its children and every rank its
-- place, the offsets that the counts give are where each part begins and where all ends.
use mathlib.Core.Path.{◌≡◌, sym, ap, ◌∙◌}
use mathlib.Core.List.{List, [], ◌∷◌, ◌++◌, map, append_assoc, append-nil}
use Prim.Native.Nat.{ℕ, ◌+◌, ◌*◌, ◌≤◌}
use native.Mathlib.Nat.{mul_comm}
use native.Mathlib.Omega.{arith}
use lib.ListN.{length, get_or, drop, length-append, length-map}
use Rattle.lineage.specs.Lists.{joined, Every}
use Rattle.lineage.specs.Numbers.{written}
use Rattle.lineage.specs.Labels.{Labelling}
use Rattle.lineage.specs.Index.{Index}
use Rattle.lineage.specs.Stored.{Form, Counts, sizes, offsets, offsets_from, starts_from, label_numbers, sections, counts_of, header, encode}
use Rattle.lineage.specs.Calls.{length_of}
use Rattle.laws.proofs.Starts.{starts_long}
use Rattle.laws.proofs.Every.{every_from}
use Rattle.laws.proofs.Joined.{sized_map, blocks_long}
use Rattle.numbers.specs.Put.{put}
use Rattle.numbers.proofs.Put.{put_start}
use Rattle.numbers.proofs.Written.{written_long}
use Rattle.stored_header.specs.Header.{Stride}
use Rattle.stored.proofs.LabelNumbers.{numbers_of_long}
use Rattle.stored.proofs.Offsets.{lengths, offsets_last}
use Rattle.build_writing.proofs.Behind.{put_before}

-- every group has its level and its children, and every rank its place
pub record Whole (I : Index) : Type 0 where
  pub levels : length I.levels ≡ length I.groups
  pub children : length I.children ≡ length I.groups
  pub ranks : Every (λ l. length l.by_rank ≡ length I.groups) I.labels

-- the sections before the labels, and the numbers of the labels
abbrev pub first_sections : Index → List (List ℕ)
first_sections I = I.names ∷ I.groups ∷ I.levels ∷ starts_from 0 I.children ∷ joined I.children ∷ []

abbrev pub label_section : ℕ → Index → List ℕ
label_section z I = joined (map (label_numbers z (length I.groups)) I.labels)

module _ (F : Form) (I : Index) where
  -- all that stands before the labels
  abbrev front : List ℕ
  front = written 4 (header F (counts_of I)) ++ joined (map (written F.width) (first_sections I))

  encode_parts : encode F I ≡ front ++ written F.width (label_section F.by_place I)
  unfolding encode
  encode_parts = simp (append_assoc, append-nil)

  module _ (stride : Stride F.by_place) (whole : Whole I) where
    abbrev a : Counts
    a = counts_of I

    labels_many : length (label_section F.by_place I) ≡ a.d * ((F.by_place + 1) * a.k)
    labels_many =
        let size : ℕ = (F.by_place + 1) * a.k in
        let block : Labelling → List ℕ = label_numbers F.by_place a.k in
        blocks_long size (map block I.labels)
        (sized_map block size I.labels
        (every_from (λ l. length l.by_rank ≡ a.k) (λ l. length (block l) ≡ size) (λ l e. numbers_of_long stride a.k l e) I.labels whole.ranks))
        ∙ ap (λ (n : ℕ). size * n) (length-map I.labels block)
        ∙ mul_comm size a.d

    whole_sizes : lengths (sections F.by_place I) ≡ sizes F.by_place a.n a.k a.c a.d
    whole_sizes =
        let levels = whole.levels in
        let starts : length (starts_from 0 I.children) ≡ a.k + 1 = omega (arith, starts_long 0 I.children, whole.children) in
        rw (levels, starts, labels_many)

    -- the labels begin at their offset
    front_long : length front ≡ get_or (offsets F.width F.by_place a.n a.k a.c a.d) 5 0
    front_long =
        offsets_last F.width (written 4 (header F a)) (first_sections I) 48 (sym (written_long 4 (header F a)))
        ∙ ap (λ (z : List ℕ). get_or (offsets_from F.width 48 z) 5 0) whole_sizes

    -- and all ends at the total length
    pub whole_long : length (encode F I) ≡ length_of F I
    unfolding encode
    whole_long =
        offsets_last F.width (written 4 (header F a)) (sections F.by_place I) 48 (sym (written_long 4 (header F a)))
        ∙ ap (λ (z : List ℕ). get_or (offsets_from F.width 48 z) 6 0) whole_sizes

    -- the labels written at their offset, and then all that stands before them
    pub index_put : (out : List ℕ) (at : ℕ)
        → at ≡ get_or (offsets F.width F.by_place a.n a.k a.c a.d) 5 0
        → length_of F I ≤ length out
        → put (put out at (written F.width (label_section F.by_place I))) 0 front ≡ encode F I ++ drop (length_of F I) out
    index_put out at e h =
        let here : at ≡ length front = omega (arith, front_long) in
        let fits : length front ≤ length out =
        omega (arith, whole_long, ap length encode_parts, length-append front (written F.width (label_section F.by_place I))) in
        ap (λ (p : ℕ). put (put out p (written F.width (label_section F.by_place I))) 0 front) here
        ∙ put_before out front (written F.width (label_section F.by_place I)) fits
        ∙ ap (put out 0) (sym encode_parts)
        ∙ put_start out (encode F I)
        ∙ ap (λ (n : ℕ). encode F I ++ drop n out) whole_long
