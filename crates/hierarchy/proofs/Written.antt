-- Header, the numbers between header and labels, and the labels, put one behind the other, are the index at the other form. What stands between header and labels are five
-- sections one behind the other, so their numbers are those of the bytes from the twelfth on.
use mathlib.Core.Bool.{true}
use mathlib.Core.Path.{◌≡◌, refl, sym, ap, ap₂, subst⁻¹, ◌∙◌}
use mathlib.Core.List.{List, [], ◌∷◌, ◌++◌, map, append-nil, append_assoc}
use Prim.Native.Nat.{ℕ, ◌+◌, ◌*◌, ◌^◌, ◌≤◌, ◌<◌}
use native.Mathlib.Omega.{arith}
use lib.ListN.{length, get_or, take, drop, length-append}
use borrow.Author.Tests.{eqb-true}
use Rattle.lineage.specs.Lists.{joined, part, Every}
use Rattle.lineage.specs.Numbers.{numbers, written}
use Rattle.lineage.specs.Labels.{Labelling}
use Rattle.lineage.specs.Index.{Index}
use Rattle.lineage.specs.Sound.{starts_pass}
use Rattle.lineage.specs.Stored.{Form, Counts, sizes, offsets, total_length, label_numbers, sections, header, encode, header_at, counts_in, form_of, stretch, section}
use Rattle.lineage.specs.Calls.{index_in}
use Rattle.laws.proofs.Parts.{part_drop}
use Rattle.laws.proofs.Joined.{joined_append, take_block}
use Rattle.numbers.specs.Put.{put}
use Rattle.numbers.specs.Regions.{Part}
use Rattle.numbers.proofs.Numbers.{numbers_long, numbers_part}
use Rattle.numbers.proofs.Written.{written_long, written_append, written_next}
use Rattle.stored_header.specs.declared.Layout.{Layout}
use Rattle.stored_header.specs.Header.{Stride, layout_by, Sited, header_of, Laid}
use Rattle.stored_header.proofs.Forms.{form_within}
use Rattle.stored_header.proofs.Laid.{sited_by, width_is, n_is, k_is, c_is, d_is}
use Rattle.stored.specs.Sections.{Section, Labellings, tuples_of, places_of}
use Rattle.stored.proofs.Sections.{places_long}
use Rattle.stored.proofs.LabelNumbers.{numbers_of_long}
use Rattle.stored.proofs.Offsets.{total_length_lem}
use Rattle.stored.proofs.Contents.{contents_starts, stretch_of, whole}
use Rattle.stored.proofs.Encoded.{header_fits}
use Rattle.stored.proofs.Decoded.{sections_are, counts_are}
use Rattle.convert.specs.Convert.{converted}
use Rattle.stored.specs.declared.reading.Labels.{Labels}
use Rattle.hierarchy_labels.specs.Turned.{labelling_of, Turns}
use Rattle.sound_places.specs.Lent.{SoundBytes}
use Rattle.hierarchy.specs.Fit.{Between}
use Rattle.hierarchy.proofs.Sections.{labelling_one}

-- Parts of a list one behind the other.
part_join : (s : List ℕ) (at m n : ℕ) → part s at m ++ part s (at + m) n ≡ part s at (m + n)
unfolding part
part_join s at m n = ap (λ (x : List ℕ). part s at m ++ x) (sym (part_drop s at m n)) ∙ sym (take_block (drop at s) m n)

-- parts of these sizes from a position on, and the sum of the sizes
abbrev runs : List ℕ → ℕ → List ℕ → List (List ℕ)
runs s at [] = []
runs s at (m ∷ sizes) = part s at m ∷ runs s (at + m) sizes

abbrev total : List ℕ → ℕ
total [] = 0
total (m ∷ sizes) = m + total sizes

runs_joined : (s : List ℕ) (at : ℕ) (sizes : List ℕ) → joined (runs s at sizes) ≡ part s at (total sizes)
unfolding part
runs_joined s at [] = refl
runs_joined s at (m ∷ sizes) = ap (λ (x : List ℕ). part s at m ++ x) (runs_joined s (at + m) sizes) ∙ part_join s at m (total sizes)

-- sections written one behind the other are their numbers written
written_joined : (w : ℕ) (X : List (List ℕ)) → joined (map (written w) X) ≡ written w (joined X)
written_joined w [] = refl
written_joined w (x ∷ X) = ap (λ (z : List ℕ). written w x ++ z) (written_joined w X) ∙ sym (written_append w x (joined X))

-- the numbers of a stretch that starts at a number, as a part of all numbers
run_at : (b : List ℕ) (all o at m : ℕ) → o ≡ 4 * at → at + m ≤ all → numbers 4 (part b o (4 * m)) m ≡ part (numbers 4 b all) at m
run_at b all o at m e h = ap (λ (p : ℕ). numbers 4 (part b p (4 * m)) m) e ∙ numbers_part 4 b all at m h

module _ {b : List ℕ} {l : Layout} (K : SoundBytes b l) {form : ℕ} {to : Layout} (B : Between b l form to) where
  abbrev F : Form
  F = form_of (header_at b 0)

  abbrev G : Form
  G = form_of form

  abbrev a : Counts
  a = counts_in b

  abbrev I : Index
  I = index_in b

  abbrev y : ℕ
  y = G.by_place

  abbrev L : Laid b l
  L = K.laid

  narrow : F.width ≡ 4
  narrow = sym (width_is L) ∙ B.both.width

  starts : starts_pass (section F.width F.by_place a b 3) a.k a.c ≡ true
  starts = contents_starts F b K.contents

  -- The layout, and the header that it has there, whose numbers are of 32 bits.
  pub sited : Sited to
  sited = sited_by to 4 y a B.laid

  laid_as : to ≡ layout_by G.width y a
  laid_as = B.laid ∙ ap (λ (w : ℕ). layout_by w y a) (sym B.both.wide)

  header_is : header_of form to ≡ header G a
  header_is =
      ap (header_of form) laid_as
      ∙ ap (λ (x : ℕ). x ∷ a.n ∷ a.k ∷ a.c ∷ a.d ∷ offsets G.width y a.n a.k a.c a.d) (sym (eqb-true G.number form B.both.known))

  pub header_small : Every (λ x. x < 2 ^ 32) (header_of form to)
  header_small =
      subst⁻¹ (Every (λ x. x < 2 ^ 32)) header_is
      (header_fits G a (form_within form).number
      (record {
        width = (form_within form).width;
        stride = (form_within form).stride;
        vertices = omega (arith, L.vertices, n_is L);
        groups = omega (arith, L.groups, n_is L, k_is L);
        entries = omega (arith, L.entries, c_is L);
        least = omega (arith, L.least, d_is L);
        most = omega (arith, L.most, d_is L);
      }))

  pub total_small : to.total < 2 ^ 32
  total_small = header_small.1.1.1.1.1.1.1.1.1.1.1.0

  -- Between header and labels.
  abbrev five : List ℕ
  five = a.n ∷ a.k ∷ a.k ∷ (a.k + 1) ∷ a.c ∷ []

  abbrev all : List ℕ
  all = numbers 4 b (12 + total five)

  section_run : (i at : ℕ) → (let s : List ℕ = sizes F.by_place a.n a.k a.c a.d in
      get_or (offsets 4 F.by_place a.n a.k a.c a.d) i 0 ≡ 4 * at → at + get_or s i 0 ≤ 12 + total five
      → section 4 F.by_place a b i ≡ part all at (get_or s i 0))
  unfolding section stretch
  section_run i at e h = run_at b (12 + total five) _ at _ e h

  sections_run : take 5 (sections y I) ≡ runs all 12 five
  sections_run =
      ap (take 5) (sections_are F b starts (form_within (header_at b 0)).stride)
      ∙ ap (λ (w : ℕ). section w F.by_place a b 0 ∷ section w F.by_place a b 1 ∷ section w F.by_place a b 2 ∷ section w F.by_place a b 3 ∷ section w F.by_place a b 4 ∷ []) narrow
      ∙ rw (
        section_run 0 12 (omega arith) (omega arith),
        section_run 1 (12 + a.n) (omega arith) (omega arith),
        section_run 2 (12 + a.n + a.k) (omega arith) (omega arith),
        section_run 3 (12 + a.n + a.k + a.k) (omega arith) (omega arith),
        section_run 4 (12 + a.n + a.k + a.k + (a.k + 1)) (omega arith) (omega arith),
      ) refl

  front_is : joined (take 5 (sections y I)) ≡ numbers 4 (part b 48 (4 * total five)) (total five)
  front_is = ap joined sections_run ∙ runs_joined all 12 five ∙ sym (numbers_part 4 b (12 + total five) 12 (total five) (omega arith))

  -- The labels.
  groups_many : length I.groups ≡ l.k
  groups_many = ap (λ (z : Counts). z.k) (counts_are F b starts) ∙ sym (k_is L)

  module _ {labels : List ℕ} (M : Section b l 5 labels) where
    abbrev own : List ℕ
    own = label_numbers y l.k (labelling_of 4 l.stride labels l.k)

    last_is : get_or (sections y I) 5 [] ≡ own
    last_is =
        ap₂ (λ (k : ℕ) (ls : List Labelling). joined (map (label_numbers y k) ls)) groups_many (labelling_one L M B.one)
        ∙ append-nil (label_numbers y l.k (labelling_of l.width l.stride labels l.k))
        ∙ ap (λ (w : ℕ). label_numbers y l.k (labelling_of w l.stride labels l.k)) B.both.width

    -- All of it.
    bytes_are_lem : written 4 ((header_of form to ++ joined (take 5 (sections y I))) ++ get_or (sections y I) 5 []) ≡ converted G b
    unfolding encode
    bytes_are_lem =
        let H : List ℕ = header_of form to in
        let X : List (List ℕ) = sections y I in
        let whole : joined (take 5 X) ++ get_or X 5 [] ≡ joined X =
        sym (joined_append (take 5 X) (get_or X 5 [] ∷ []) ∙ ap (λ (x : List ℕ). joined (take 5 X) ++ x) (append-nil (get_or X 5 []))) in
        ap (written 4) (append_assoc H (joined (take 5 X)) (get_or X 5 []) ∙ ap (λ (x : List ℕ). H ++ x) whole)
        ∙ written_append 4 H (joined X)
        ∙ ap₂ (λ (h x : List ℕ). written 4 h ++ x) (header_is ∙ ap (header G) (sym (counts_are F b starts)))
        (sym (written_joined 4 X) ∙ ap (λ (w : ℕ). joined (map (written w) X)) (sym B.both.wide))

    own_long : length own ≡ (y + 1) * l.k
    own_long = numbers_of_long (form_within form).stride l.k (labelling_of 4 l.stride labels l.k) (places_long 4 l.stride (tuples_of 4 l.stride labels l.k 0) (places_of 4 l.stride labels l.k 0) l.k)

  one_labelling : a.d ≡ 1
  one_labelling = sym (d_is L) ∙ B.one

  -- as long as the layout says
  pub converted_long : to.total ≡ length (converted G b)
  converted_long =
      let H : List ℕ = header_of form to in
      let front : List ℕ = joined (take 5 (sections y I)) in
      let last : List ℕ = get_or (sections y I) 5 [] in
      let M : Section b l 5 (stretch_of L 5) = whole L 5 (omega arith) in
      let total_is : to.total ≡ total_length 4 y a.n a.k a.c a.d = ap (λ (z : Layout). z.total) B.laid in
      let labels : a.d * ((y + 1) * a.k) ≡ (y + 1) * l.k =
      ap₂ (λ (d k : ℕ). d * ((y + 1) * k)) one_labelling (sym (k_is L)) ∙ (let once : 1 * ((y + 1) * l.k) ≡ (y + 1) * l.k = omega arith in once) in
      let long : length last ≡ (y + 1) * l.k = ap length (last_is M) ∙ own_long M in
      let between : length front ≡ total five = ap length front_is ∙ numbers_long 4 (part b 48 (4 * total five)) (total five) in
      let bytes : length (converted G b) ≡ 4 * length ((H ++ front) ++ last) = ap length (sym (bytes_are_lem M)) ∙ written_long 4 ((H ++ front) ++ last) in
      omega (arith, total_is, total_length_lem 4 y a.n a.k a.c a.d, labels, long, between, bytes, length-append (H ++ front) last, length-append H front)

  -- the layout's numbers
  pub to_stride : to.stride ≡ y
  to_stride = ap (λ (z : Layout). z.stride) B.laid

  pub to_labels : to.labels ≡ 48 + 4 * total five
  to_labels = ap (λ (z : Layout). z.labels) B.laid ∙ (let same : 48 + 4 * a.n + 4 * a.k + 4 * a.k + 4 * (a.k + 1) + 4 * a.c ≡ 48 + 4 * total five = omega arith in same)

  pub to_total : to.total ≡ to.labels + 4 * ((to.stride + 1) * l.k)
  to_total =
      let one : to.d ≡ 1 = ap (λ (z : Layout). z.d) B.laid ∙ one_labelling in
      let many : to.k ≡ l.k = ap (λ (z : Layout). z.k) B.laid ∙ sym (k_is L) in
      let wide : to.width ≡ 4 = ap (λ (z : Layout). z.width) B.laid in
      sited.total_at
      ∙ ap₂ (λ (w k : ℕ). to.labels + w * (to.d * ((to.stride + 1) * k))) wide many
      ∙ ap (λ (d : ℕ). to.labels + 4 * (d * ((to.stride + 1) * l.k))) one
      ∙ (let once : to.labels + 4 * (1 * ((to.stride + 1) * l.k)) ≡ to.labels + 4 * ((to.stride + 1) * l.k) = omega arith in once)

  pub counted : {count : ℕ} → count ≡ l.n + (3 * l.k + 1 + l.c) → count ≡ total five
  counted e = omega (arith, n_is L, k_is L, c_is L)

  -- header, numbers and labels put one behind the other
  pub put_whole : {labels : List ℕ} → Section b l 5 labels → (out s t u : List ℕ) (count : ℕ) {r : List ℕ} → Part b (4 * 12) (4 * count) r
      → count ≡ l.n + (3 * l.k + 1 + l.c)
      → to.total ≤ length out
      → s ≡ put out 0 (written 4 (header_of form to))
      → t ≡ put s 48 (written 4 (numbers 4 r count))
      → u ≡ put t to.labels (written 4 (label_numbers to.stride l.k (labelling_of 4 l.stride labels l.k)))
      → u ≡ put out 0 (converted G b)
  put_whole {labels} M out s t u count {r} R n room es et eu =
      let H : List ℕ = header_of form to in
      let front : List ℕ = joined (take 5 (sections y I)) in
      let last : List ℕ = get_or (sections y I) 5 [] in
      let between : length front ≡ total five = ap length front_is ∙ numbers_long 4 (part b 48 (4 * total five)) (total five) in
      let same : numbers 4 r count ≡ front =
      ap (λ (x : List ℕ). numbers 4 x count) R.is ∙ ap (λ (m : ℕ). numbers 4 (part b 48 (4 * m)) m) (counted n) ∙ sym front_is in
      let there : t ≡ put out 0 (written 4 (H ++ front)) =
      et ∙ ap₂ (λ (z x : List ℕ). put z 48 (written 4 x)) es same ∙ written_next 4 0 out H front 48 (omega arith) (omega (arith, to_total, to_labels)) in
      eu
      ∙ ap₂ (λ (z x : List ℕ). put z to.labels (written 4 x)) there
      (ap (λ (k : ℕ). label_numbers k l.k (labelling_of 4 l.stride labels l.k)) to_stride ∙ sym (last_is M))
      ∙ written_next 4 0 out (H ++ front) last to.labels (omega (arith, to_labels, between, length-append H front)) (omega (arith, to_total, to_labels, between, length-append H front))
      ∙ ap (put out 0) (bytes_are_lem M)

  -- what is lent to the labels' part
  pub labelled : {labels : List ℕ} → Section b l 5 labels → Labellings 4 l.stride labels l.k 1
  labelled {labels} M = record {
    width = record { low = omega arith; high = omega arith; even = refl };
    stride = L.stride;
    groups_few = omega (arith, L.vertices, L.groups);
    labellings_few = omega arith;
    long = let long : 4 * (1 * ((l.stride + 1) * l.k)) ≡ length labels = sym (M.long ∙ ap₂ (λ (w d : ℕ). w * (d * ((l.stride + 1) * l.k))) B.both.width B.one) in omega arith;
  }

  pub turns : {m : Labels} → m.width ≡ 4 → m.k ≡ l.k → m.d ≡ 1 → (out : List ℕ) → to.total ≤ length out → Turns out to.labels m to.stride
  turns {m} wide many one out room = record {
    one = one;
    stride = subst⁻¹ Stride to_stride (form_within form).stride;
    room = rw (wide, many) (let fits : to.labels + 4 * ((to.stride + 1) * l.k) ≤ length out = omega (arith, to_total) in fits);
  }

  -- the numbers between header and labels lie in the bytes, and where they go in the output
  pub held : {count : ℕ} → count ≡ l.n + (3 * l.k + 1 + l.c) → (12 + count < 2 ^ 32) × (4 * (12 + count) ≤ length b)
  held e = (omega (arith, L.vertices, L.groups, L.entries), omega (arith, L.long, L.sited, lengthened))
    where
      lengthened : l.labels ≡ 48 + 4 * (l.n + (3 * l.k + 1 + l.c))
      lengthened =
          (let at : l.labels ≡ 48 + l.width * l.n + l.width * l.k + l.width * l.k + l.width * (l.k + 1) + l.width * l.c = omega (arith, L.sited) in at)
          ∙ ap (λ (w : ℕ). 48 + w * l.n + w * l.k + w * l.k + w * (l.k + 1) + w * l.c) B.both.width
          ∙ (let same : 48 + 4 * l.n + 4 * l.k + 4 * l.k + 4 * (l.k + 1) + 4 * l.c ≡ 48 + 4 * (l.n + (3 * l.k + 1 + l.c)) = omega arith in same)
