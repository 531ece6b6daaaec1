-- An index that fits a form, written: its header is read again and passes, each section is read again, and so the index is.
use mathlib.Core.Bool.{true, ◌&&◌}
use mathlib.Core.Path.{◌≡◌, sym, ap, ap₂, subst, ◌∙◌}
use mathlib.Core.List.{List, [], map}
use Prim.Native.Nat.{ℕ, ◌+◌, ◌*◌, ◌^◌, ◌≤◌, ◌<◌}
use native.Mathlib.Omega.{arith}
use native.Mathlib.Nat.{mul-le-mul}
use lib.ListN.{length, get_or}
use borrow.Author.Tests.{eq-eqb}
use Rattle.lineage.specs.Lists.{upto, joined, part, same_list, Every}
use Rattle.lineage.specs.Numbers.{numbers, written}
use Rattle.lineage.specs.Labels.{Labelling}
use Rattle.lineage.specs.Index.{Index}
use Rattle.lineage.specs.Stored.{Form, Counts, sizes, offsets, offsets_from, total_length, sections, starts_from, counts_of, header, encode, header_at, counts_in, form_of, is_form, counts_fit, offsets_fit, stretch, section, row_at, labelling_at, decode}
use Rattle.lineage.specs.Calls.{FormsTaken, takes, index_in}
use Rattle.laws.proofs.Lists.{get_d_mapped, same_self}
use Rattle.laws.proofs.Every.{every_at}
use Rattle.laws.proofs.Starts.{starts_long, rows_read}
use Rattle.numbers.specs.Bounds.{vertex_bound}
use Rattle.numbers.proofs.Written.{written_long, num_front, written_at, numbers_written}
use Rattle.laws.specs.Checks.{Pass}
use Rattle.stored_header.specs.Header.{layout_in, offsets_in, header_checks, Laid}
use Rattle.stored.specs.Fits.{Fits}
use Rattle.stored_header.proofs.Forms.{Within, form_within}
use Rattle.stored_header.proofs.Checked.{all_right}
use Rattle.stored_header.proofs.Laid.{Bounded, fit_bounds, right_laid}
use Rattle.stored.proofs.LabelNumbers.{labels_long, labels_read}
use Rattle.stored.proofs.Offsets.{lengths, offsets_part, offsets_last}

-- the index of bytes at given counts
abbrev decode_by : ℕ → ℕ → Counts → List ℕ → Index
decode_by w z a b = record {
  names = section w z a b 0;
  groups = section w z a b 1;
  levels = section w z a b 2;
  children = map (row_at (section w z a b 3) (section w z a b 4)) (upto a.k);
  labels = map (labelling_at z a.k (section w z a b 5)) (upto a.d);
}

index_is : {I : Index} {names groups levels : List ℕ} {children : List (List ℕ)} {labels : List Labelling}
    → names ≡ I.names
    → groups ≡ I.groups
    → levels ≡ I.levels
    → children ≡ I.children
    → labels ≡ I.labels
    → record { names = names; groups = groups; levels = levels; children = children; labels = labels } ≡ I
index_is e f g h i = rw (e, f, g, h, i)

-- every number of a header within the bounds is of 32 bits
pub header_fits : (F : Form) (a : Counts) → F.number < 2 ^ 32 → Bounded F a → Every (λ x. x < 2 ^ 32) (header F a)
header_fits F a number B =
    let w = B.width.high in
    let vertices = mul-le-mul w B.vertices in
    let k : a.k ≤ vertex_bound = omega arith in
    let groups = mul-le-mul w k in
    let entries = mul-le-mul w B.entries in
    let by : F.by_place + 1 ≤ 4 = omega (arith, B.stride.high) in
    let labels = mul-le-mul w (mul-le-mul B.most (mul-le-mul by k)) in
    (number, (omega arith, (omega arith, (omega arith, (omega arith, (omega arith, (omega arith, (omega arith, (omega arith, (omega arith, (omega arith, (omega arith, tt))))))))))))

-- a header whose numbers are of 32 bits is read again
module _ (F : Form) (I : Index) (small : Every (λ x. x < 256 ^ 4) (header F (counts_of I))) where
  pub header_again : (i : ℕ) → i < 12 → header_at (encode F I) i ≡ get_or (header F (counts_of I)) i 0
  unfolding encode
  header_again i h =
      let numbers : List ℕ = header F (counts_of I) in
      num_front 4 (written 4 numbers) (joined (map (written F.width) (sections F.by_place I))) i (omega (arith, written_long 4 numbers))
      ∙ written_at 4 numbers i small h

  pub counts_again : counts_in (encode F I) ≡ counts_of I
  counts_again = rw (header_again 1 (omega arith), header_again 2 (omega arith), header_again 3 (omega arith), header_again 4 (omega arith))

module _ {F : Form} {I : Index} (E : Fits F I) where
  abbrev a : Counts
  a = counts_of I

  within : Within F
  within = subst Within E.known (form_within F.number)

  bounded : Bounded F a
  bounded = subst (λ (G : Form). counts_fit G a ≡ true → Bounded G a) E.known (fit_bounds F.number a) E.counts

  -- the sections have the sizes that the counts give
  sizes_are : lengths (sections F.by_place I) ≡ sizes F.by_place a.n a.k a.c a.d
  sizes_are =
      let levels = E.levels in
      let starts : length (starts_from 0 I.children) ≡ a.k + 1 = omega (arith, starts_long 0 I.children, E.children) in
      let labels = labels_long within.stride a.k I.labels E.labels in
      rw (levels, starts, labels)

  -- the numbers of its header are of 32 bits
  pub header_small : Every (λ x. x < 256 ^ 4) (header F a)
  header_small = header_fits F a within.number bounded

  -- the header is read again
  pub header_read : (i : ℕ) → i < 12 → header_at (encode F I) i ≡ get_or (header F a) i 0
  header_read = header_again F I header_small

  pub counts_read : counts_in (encode F I) ≡ a
  counts_read = counts_again F I header_small

  -- each section is read again
  stretch_read : (i : ℕ) → i < 6 → stretch F.width F.by_place a (encode F I) i ≡ written F.width (get_or (sections F.by_place I) i [])
  unfolding encode stretch
  stretch_read i h =
      subst
      (λ (z : List ℕ). part (encode F I) (get_or (offsets_from F.width 48 z) i 0) (F.width * get_or z i 0) ≡ written F.width (get_or (sections F.by_place I) i []))
      sizes_are
      (offsets_part F.width (written 4 (header F a)) (sections F.by_place I) 48 i (sym (written_long 4 (header F a))) h)

  section_read : (i : ℕ) → i < 6 → section F.width F.by_place a (encode F I) i ≡ get_or (sections F.by_place I) i []
  unfolding section
  section_read i h =
      let size : get_or (sizes F.by_place a.n a.k a.c a.d) i 0 ≡ length (get_or (sections F.by_place I) i []) =
      ap (λ (z : List ℕ). get_or z i 0) (sym sizes_are) ∙ get_d_mapped length (sections F.by_place I) i [] 0 h in
      ap₂ (numbers F.width) (stretch_read i h) size
      ∙ numbers_written F.width (get_or (sections F.by_place I) i []) (every_at (Every (λ x. x < 256 ^ F.width)) (sections F.by_place I) i [] E.small h)

  children_read : map (row_at (section F.width F.by_place a (encode F I) 3) (section F.width F.by_place a (encode F I) 4)) (upto a.k) ≡ I.children
  children_read =
      ap₂ (λ (s t : List ℕ). map (row_at s t) (upto a.k)) (section_read 3 (omega arith)) (section_read 4 (omega arith))
      ∙ ap (λ (k : ℕ). map (row_at (starts_from 0 I.children) (joined I.children)) (upto k)) (sym E.children)
      ∙ rows_read I.children

  labellings_read : map (labelling_at F.by_place a.k (section F.width F.by_place a (encode F I) 5)) (upto a.d) ≡ I.labels
  labellings_read =
      ap (λ (s : List ℕ). map (labelling_at F.by_place a.k s) (upto a.d)) (section_read 5 (omega arith))
      ∙ labels_read within.stride a.k I.labels E.labels

  -- the index is read again
  pub decode_encode : decode F (encode F I) ≡ I
  unfolding decode
  decode_encode =
      ap (λ (z : Counts). decode_by F.width F.by_place z (encode F I)) counts_read
      ∙ index_is (section_read 0 (omega arith)) (section_read 1 (omega arith)) (section_read 2 (omega arith)) children_read labellings_read

  -- it is as long as its counts say
  pub encode_long : length (encode F I) ≡ total_length F.width F.by_place a.n a.k a.c a.d
  unfolding encode
  encode_long =
      offsets_last F.width (written 4 (header F a)) (sections F.by_place I) 48 (sym (written_long 4 (header F a)))
      ∙ ap (λ (z : List ℕ). get_or (offsets_from F.width 48 z) 6 0) sizes_are

  -- its header passes
  form_read : form_of (header_at (encode F I) 0) ≡ F
  form_read = ap form_of (header_read 0 (omega arith)) ∙ E.known

  offsets_read : offsets_in (encode F I) ≡ offsets F.width F.by_place a.n a.k a.c a.d
  offsets_read =
      rw (header_read 5 (omega arith), header_read 6 (omega arith), header_read 7 (omega arith), header_read 8 (omega arith), header_read 9 (omega arith), header_read 10 (omega arith), header_read 11 (omega arith))

  offsets_fit_lem : offsets_fit F a (encode F I) ≡ true
  offsets_fit_lem =
      let o : List ℕ = offsets F.width F.by_place a.n a.k a.c a.d in
      ap₂ ◌&&◌
      (ap (λ (z : List ℕ). same_list z o) offsets_read ∙ same_self o)
      (eq-eqb (length (encode F I)) (total_length F.width F.by_place a.n a.k a.c a.d) encode_long)

  known_read : is_form (header_at (encode F I) 0) ≡ true
  known_read = ap is_form (header_read 0 (omega arith)) ∙ eq-eqb (form_of F.number).number F.number (ap (λ (G : Form). G.number) E.known)

  counts_fit_lem : counts_fit (form_of (header_at (encode F I) 0)) (counts_in (encode F I)) ≡ true
  counts_fit_lem = ap₂ counts_fit form_read counts_read ∙ E.counts

  offsets_right : offsets_fit (form_of (header_at (encode F I) 0)) (counts_in (encode F I)) (encode F I) ≡ true
  offsets_right = ap₂ (λ (G : Form) (z : Counts). offsets_fit G z (encode F I)) form_read counts_read ∙ offsets_fit_lem

  -- in a call that takes the form
  pub encode_passes : (T : FormsTaken) → takes T F.number ≡ true → Pass (header_checks T (encode F I))
  encode_passes T taken =
      all_right T (encode F I) (omega (arith, encode_long)) (ap (takes T) (header_read 0 (omega arith)) ∙ taken) counts_fit_lem offsets_right

  pub encode_laid : Laid (encode F I) (layout_in (encode F I))
  encode_laid = right_laid (encode F I) known_read counts_fit_lem offsets_right

  -- the bytes hold the index
  pub index_encode : index_in (encode F I) ≡ I
  index_encode = ap (λ (G : Form). decode G (encode F I)) form_read ∙ decode_encode
