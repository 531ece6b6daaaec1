-- Header and six sections, each copied to where the other form's layout has it, are the index at that form: the sections of sound bytes are those of the index
-- that they hold, and so are its counts.
use mathlib.Core.Bool.{true}
use mathlib.Core.Path.{◌≡◌, refl, sym, ap, ap₂, subst⁻¹, ◌∙◌}
use mathlib.Core.List.{List, [], ◌∷◌, ◌++◌, map}
use Prim.Native.Nat.{ℕ, ◌+◌, ◌^◌, ◌<◌}
use native.Mathlib.Omega.{arith}
use native.Mathlib.Numerals.{add-one}
use lib.ListN.{length, get_or, take}
use borrow.Author.Tests.{eqb-true}
use Rattle.lineage.specs.Lists.{joined, Every}
use Rattle.lineage.specs.Numbers.{Width, numbers, written}
use Rattle.lineage.specs.Stored.{Form, Counts, sizes, offsets, offsets_from, sections, counts_of, header, encode, header_at, counts_in, form_of, section}
use Rattle.lineage.specs.Sound.{starts_pass}
use Rattle.lineage.specs.Calls.{index_in}
use Rattle.laws.proofs.Lists.{table_at}
use Rattle.numbers.specs.Put.{put}
use Rattle.numbers.proofs.Written.{written_long}
use Rattle.stored_header.specs.declared.Layout.{Layout}
use Rattle.stored_header.specs.Header.{layout_by, offsets_of, header_of, Laid}
use Rattle.stored_header.proofs.Forms.{form_within}
use Rattle.stored_header.proofs.Laid.{width_is, stride_is, n_is, k_is, c_is, d_is}
use Rattle.stored.specs.Sections.{Section}
use Rattle.stored.proofs.Contents.{contents_starts}
use Rattle.stored.proofs.Offsets.{lengths, put_sections, sections_more, sections_put_lem, offsets_last}
use Rattle.stored.proofs.Encoded.{header_fits}
use Rattle.stored.proofs.Decoded.{sections_in, section_long, sections_are, counts_are}
use Rattle.sound_places.specs.declared.SoundImage.{SoundImage}
use Rattle.convert.specs.Convert.{converted}
use Rattle.convert.specs.Fit.{Turns}

-- the form of the bytes
abbrev form_in : List ℕ → Form
form_in b = form_of (header_at b 0)

-- its sections have the sizes that the counts give
sections_sized : (F : Form) (b : List ℕ)
    → (let a : Counts = counts_in b in lengths (sections_in F b) ≡ sizes F.by_place a.n a.k a.c a.d)
sections_sized F b = rw (section_long F b 0, section_long F b 1, section_long F b 2, section_long F b 3, section_long F b 4, section_long F b 5)

-- the first i sections written behind a header, in another width
abbrev pub sections_put : (b : List ℕ) → (to : Layout) → List ℕ → ℕ → List ℕ
sections_put b to s i = put_sections to.width s 48 (take i (sections_in (form_in b) b))

-- one more of them
section_next : (v : ℕ) (F : Form) (b s : List ℕ) (i : ℕ) → i < 6
    → (let a : Counts = counts_in b in
    put (put_sections v s 48 (take i (sections_in F b))) (get_or (offsets v F.by_place a.n a.k a.c a.d) i 0) (written v (section F.width F.by_place a b i))
    ≡ put_sections v s 48 (take (i + 1) (sections_in F b)))
section_next v F b s i low =
    let X : List (List ℕ) = sections_in F b in
    ap₂ (λ (sized x : List ℕ). put (put_sections v s 48 (take i X)) (get_or (offsets_from v 48 sized) i 0) (written v x))
    (sym (sections_sized F b))
    (sym (table_at (section F.width F.by_place (counts_in b) b) 6 i [] low))
    ∙ sections_more v X s 48 i low
    ∙ ap (λ (n : ℕ). put_sections v s 48 (take n X)) (sym (add-one i))

module _ {s : SoundImage} {form : ℕ} {to : Layout} (T : Turns s form to) where
  abbrev b : List ℕ
  b = s.image.bytes.now

  abbrev l : Layout
  l = s.image.layout

  abbrev F : Form
  F = form_in b

  abbrev G : Form
  G = form_of form

  abbrev a : Counts
  a = counts_in b

  abbrev z : ℕ
  z = F.by_place

  abbrev L : Laid b l
  L = s.image.laid

  same : G.by_place ≡ z
  same = T.alike ∙ stride_is L

  laid_as : to ≡ layout_by G.width z a
  laid_as = T.laid ∙ ap (λ (y : ℕ). layout_by G.width y a) same

  -- its width is 2 or 4
  pub wide : (to.width ≡ 2 → ⊥) → to.width ≡ 4
  wide n = let W : Width to.width = subst⁻¹ (λ (t : Layout). Width t.width) T.laid (form_within form).width in omega (arith, W.low, W.high, W.even, n)

  -- The header is that of the same counts at the other form, and its numbers are of 32 bits.
  header_is : header_of form to ≡ header G a
  header_is =
      ap (header_of form) T.laid
      ∙ ap (λ (x : ℕ). x ∷ a.n ∷ a.k ∷ a.c ∷ a.d ∷ offsets G.width G.by_place a.n a.k a.c a.d) (sym (eqb-true G.number form T.known))

  pub header_small : Every (λ x. x < 2 ^ 32) (header_of form to)
  header_small =
      subst⁻¹ (Every (λ x. x < 2 ^ 32)) header_is
      (header_fits G a (form_within form).number
      (record {
        width = (form_within form).width;
        stride = (form_within form).stride;
        vertices = omega (arith, L.vertices, n_is L);
        groups = omega (arith, L.groups, n_is L, k_is L);
        entries = omega (arith, L.entries, c_is L);
        least = omega (arith, L.least, d_is L);
        most = omega (arith, L.most, d_is L);
      }))

  pub total_small : to.total < 2 ^ 32
  total_small = header_small.1.1.1.1.1.1.1.1.1.1.1.0

  -- Header and sections are the index at the other form, and as long as its layout says.
  starts : starts_pass (section F.width z a b 3) a.k a.c ≡ true
  starts = contents_starts F b s.contents

  bytes_are_lem : written 4 (header_of form to) ++ joined (map (written to.width) (sections_in F b)) ≡ converted G b
  unfolding encode
  bytes_are_lem =
      ap₂ (λ (h : List ℕ) (v : ℕ). written 4 h ++ joined (map (written v) (sections_in F b)))
      (header_is ∙ ap (header G) (sym (counts_are F b starts)))
      (ap (λ (t : Layout). t.width) T.laid)
      ∙ ap (λ (X : List (List ℕ)). written 4 (header G (counts_of (index_in b))) ++ joined (map (written G.width) X))
      (sym (sections_are F b starts (form_within (header_at b 0)).stride) ∙ ap (λ (y : ℕ). sections y (index_in b)) (sym same))

  pub converted_long : to.total ≡ length (converted G b)
  converted_long =
      let X : List (List ℕ) = sections_in F b in
      let front : List ℕ = written 4 (header_of form to) in
      subst⁻¹ (λ (t : Layout). t.total ≡ get_or (offsets_from t.width 48 (sizes z a.n a.k a.c a.d)) 6 0) laid_as refl
      ∙ ap (λ (sized : List ℕ). get_or (offsets_from to.width 48 sized) 6 0) (sym (sections_sized F b))
      ∙ sym (offsets_last to.width front X 48 (sym (written_long 4 (header_of form to))))
      ∙ ap length bytes_are_lem

  pub sections_whole : (out h t : List ℕ) → h ≡ put out 0 (written 4 (header_of form to)) → t ≡ sections_put b to h 6 → t ≡ put out 0 (converted G b)
  sections_whole out h t e f =
      let X : List (List ℕ) = sections_in F b in
      f
      ∙ ap (λ (x : List ℕ). put_sections to.width x 48 X) e
      ∙ sections_put_lem to.width (written 4 (header_of form to)) X out 48 (sym (written_long 4 (header_of form to)))
      ∙ ap (put out 0) bytes_are_lem

  -- Section i.
  module _ (i : ℕ) (low : i < 6) where
    offset_is : get_or (offsets_of to) i 0 ≡ get_or (offsets to.width z a.n a.k a.c a.d) i 0
    offset_is = subst⁻¹ (λ (t : Layout). get_or (offsets_of t) i 0 ≡ get_or (offsets t.width z a.n a.k a.c a.d) i 0) laid_as refl

    section_is : section l.width l.stride a b i ≡ section F.width z a b i
    section_is = ap₂ (λ (v y : ℕ). section v y a b i) (width_is L) (stride_is L)

    pub sections_next : (h t u : List ℕ)
        → t ≡ sections_put b to h i
        → u ≡ put t (get_or (offsets_of to) i 0) (written to.width (section l.width l.stride a b i))
        → u ≡ sections_put b to h (i + 1)
    sections_next h t u e f =
        f
        ∙ ap (λ (x : List ℕ). put t (get_or (offsets_of to) i 0) (written to.width x)) section_is
        ∙ ap₂ (λ (x : List ℕ) (p : ℕ). put x p (written to.width (section F.width z a b i))) e offset_is
        ∙ section_next to.width F b h i low

    -- at is its offset, and size the number of its numbers
    module _ {at size : ℕ} (at_is : at ≡ get_or (offsets_of to) i 0) (size_is : size ≡ get_or (sizes l.stride l.n l.k l.c l.d) i 0) where
      size_in : size ≡ get_or (sizes z a.n a.k a.c a.d) i 0
      size_in = size_is ∙ ap (λ (t : Layout). get_or (sizes t.stride t.n t.k t.c t.d) i 0) L.is

      module _ {r : List ℕ} (S : Section b l i r) where
        pub section_copied : (out : List ℕ) {v : ℕ} → to.width ≡ v → {t : List ℕ} → t ≡ put out at (written v (numbers l.width r size))
            → t ≡ put out (get_or (offsets_of to) i 0) (written to.width (section l.width l.stride a b i))
        unfolding section
        section_copied out w e =
            e
            ∙ ap (λ (y : ℕ). put out at (written y (numbers l.width r size))) (sym w)
            ∙ ap₂ (λ (p : ℕ) (xs : List ℕ). put out p (written to.width xs)) at_is
            (ap₂ (numbers l.width) S.is (size_in ∙ ap (λ (y : ℕ). get_or (sizes y a.n a.k a.c a.d) i 0) (sym (stride_is L))))
