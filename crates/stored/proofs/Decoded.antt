-- Bytes whose header passes, read and written again. Header and sections, cut at the offsets, make up the bytes; each section's numbers written are its
-- stretch. Where the child starts pass too, the index that is read has these very sections, so writing it gives the bytes back.
use mathlib.Core.Bool.{true}
use mathlib.Core.Path.{◌≡◌, sym, ap, ap₂, subst, ◌∙◌}
use mathlib.Core.List.{List, [], ◌∷◌, ◌++◌, map}
use Prim.Native.Nat.{ℕ, ◌*◌, ◌<◌}
use native.Mathlib.Omega.{arith}
use lib.ListN.{length, get_or, take}
use lib.Seq.{take_all}
use borrow.Author.Tests.{eqb-true}
use Rattle.lineage.specs.Lists.{joined, part}
use Rattle.lineage.specs.Numbers.{numbers, written}
use Rattle.lineage.specs.Stored.{Form, Counts, sizes, offsets, starts_from, label_numbers, sections, counts_of, header, encode, header_at, counts_in, form_of, stretch, section, labelling_at, decode}
use Rattle.lineage.specs.Sound.{starts_pass}
use Rattle.lineage.specs.Calls.{index_in}
use Rattle.laws.specs.Laid.{Laid as LaidRows}
use Rattle.laws.proofs.Lists.{table_long}
use Rattle.laws.proofs.Parts.{part_whole, part_length}
use Rattle.laws.proofs.Starts.{pass_laid, rows_joined, starts_again}
use Rattle.numbers.proofs.Numbers.{numbers_long, numbers_part}
use Rattle.numbers.proofs.Written.{Bytes, bytes_part, written_numbers}
use Rattle.stored_header.specs.declared.Layout.{Layout}
use Rattle.stored_header.specs.Header.{Stride, layout_in, Laid}
use Rattle.stored_header.proofs.Forms.{form_within}
use Rattle.stored.proofs.LabelNumbers.{labels_written}
use Rattle.stored.proofs.Offsets.{cut, cut_joined, offsets_within}

-- The index that bytes of a form hold has the sections that are read, and their counts, where the child starts pass.
module _ (G : Form) (b : List ℕ) where
  abbrev at : ℕ → List ℕ
  at i = section G.width G.by_place (counts_in b) b i

  abbrev counts : Counts
  counts = counts_in b

  abbrev pub sections_in : List (List ℕ)
  sections_in = at 0 ∷ at 1 ∷ at 2 ∷ at 3 ∷ at 4 ∷ at 5 ∷ []

  pub section_long : (i : ℕ) → length (at i) ≡ get_or (sizes G.by_place counts.n counts.k counts.c counts.d) i 0
  unfolding section
  section_long i = numbers_long G.width (stretch G.width G.by_place counts b i) (get_or (sizes G.by_place counts.n counts.k counts.c counts.d) i 0)

  module _ (starts : starts_pass (at 3) counts.k counts.c ≡ true) where
    laid : LaidRows (at 3) (at 4) counts.k
    laid = pass_laid (at 3) counts.k counts.c starts (at 4) (section_long 4)

    starts_are : starts_from 0 (decode G b).children ≡ at 3
    unfolding decode
    starts_are = starts_again laid (omega (arith, section_long 3))

    children_are : joined (decode G b).children ≡ at 4
    unfolding decode
    children_are = rows_joined laid

    labels_are_lem : Stride G.by_place → joined (map (label_numbers G.by_place (length (decode G b).groups)) (decode G b).labels) ≡ at 5
    unfolding decode
    labels_are_lem Z =
        ap (λ (k : ℕ). joined (map (label_numbers G.by_place k) (decode G b).labels)) (section_long 1)
        ∙ labels_written Z counts.k counts.d (at 5) (section_long 5)

    pub sections_are : Stride G.by_place → sections G.by_place (decode G b) ≡ sections_in
    unfolding decode
    sections_are Z = rw (starts_are, children_are, labels_are_lem Z)

    pub counts_are : counts_of (decode G b) ≡ counts
    unfolding decode
    counts_are =
        let c : length (joined (decode G b).children) ≡ counts.c = ap length children_are ∙ section_long 4 in
        let d : length (decode G b).labels ≡ counts.d = table_long (labelling_at G.by_place counts.k (at 5)) counts.d in
        rw (section_long 0, section_long 1, c, d)

-- Bytes of a layout: header and sections, written, are the bytes.
module _ {b : List ℕ} {l : Layout} (L : Laid b l) (small : Bytes b) where
  abbrev F : Form
  F = form_of (header_at b 0)

  abbrev w : ℕ
  w = F.width

  abbrev z : ℕ
  z = F.by_place

  abbrev a : Counts
  a = counts_in b

  M : Laid b (layout_in b)
  M = subst (Laid b) L.is L

  -- the numbers of a section, written, are its stretch
  stretch_long : (i : ℕ) → i < 6 → length (stretch w z a b i) ≡ w * get_or (sizes z a.n a.k a.c a.d) i 0
  unfolding stretch
  stretch_long i h =
      let o : List ℕ = offsets w z a.n a.k a.c a.d in
      let s : List ℕ = sizes z a.n a.k a.c a.d in
      part_length b (get_or o i 0) (w * get_or s i 0) (omega (arith, offsets_within w b 48 s i h, M.long))

  pub section_written : (i : ℕ) → i < 6 → written w (section w z a b i) ≡ stretch w z a b i
  unfolding section stretch
  section_written i h =
      let o : List ℕ = offsets w z a.n a.k a.c a.d in
      let s : List ℕ = sizes z a.n a.k a.c a.d in
      written_numbers w (stretch w z a b i) (get_or s i 0) (bytes_part b (get_or o i 0) (w * get_or s i 0) small) (stretch_long i h)

  -- the header, written, is the first 48 bytes
  header_is : header F a ≡ numbers 4 (part b 0 48) 12
  unfolding numbers
  header_is =
      ap₂ (λ (form : ℕ) (o : List ℕ). form ∷ a.n ∷ a.k ∷ a.c ∷ a.d ∷ o) (eqb-true F.number (header_at b 0) M.known) (sym M.offsets)
      ∙ sym (numbers_part 4 b 12 0 12 (omega arith) ∙ part_whole (numbers 4 b 12) 12 (numbers_long 4 b 12))

  pub header_written : written 4 (header F a) ≡ take 48 b
  unfolding part
  header_written =
      ap (written 4) header_is
      ∙ written_numbers 4 (part b 0 48) 12 (bytes_part b 0 48 small) (part_length b 0 48 (omega (arith, M.long)))

  sections_written : map (written w) (sections_in F b) ≡ cut w b 48 (sizes z a.n a.k a.c a.d)
  unfolding stretch
  sections_written =
      rw (section_written 0 (omega arith), section_written 1 (omega arith), section_written 2 (omega arith), section_written 3 (omega arith), section_written 4 (omega arith), section_written 5 (omega arith))

  pub bytes_written : written 4 (header F a) ++ joined (map (written w) (sections_in F b)) ≡ b
  bytes_written =
      ap₂ (λ (h : List ℕ) (s : List (List ℕ)). h ++ joined s) header_written sections_written
      ∙ cut_joined w b 48 (sizes z a.n a.k a.c a.d)
      ∙ take_all (layout_in b).total b (omega (arith, M.long))

  -- where the child starts pass, the bytes are written again from the index that they hold
  pub encode_decode : starts_pass (section w z a b 3) a.k a.c ≡ true → encode F (index_in b) ≡ b
  unfolding encode
  encode_decode starts =
      ap₂ (λ (x : Counts) (s : List (List ℕ)). written 4 (header F x) ++ joined (map (written w) s)) (counts_are F b starts) (sections_are F b starts (form_within (header_at b 0)).stride)
      ∙ bytes_written
