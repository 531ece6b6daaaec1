-- What bytes have whose header passes: a known form, counts within the bounds of every form, and sections one after the other that fill the bytes.
use mathlib.Core.Bool.{true, false, ◌&&◌}
use mathlib.Core.Path.{◌≡◌, refl, ap, subst⁻¹, ◌∙◌}
use mathlib.Core.List.{List}
use Prim.Native.Nat.{ℕ, ◌≤◌, ◌<◌}
use native.Mathlib.Omega.{arith}
use lib.Dec.{eqb, leb}
use lib.ListN.{length}
use borrow.Author.Tests.{leb-true, eqb-true, not-false, le-leb, lt-leb}
use Rattle.lineage.specs.Lists.{same_list, cleared}
use Rattle.lineage.specs.Numbers.{Width}
use Rattle.lineage.specs.Stored.{Form, Counts, header_at, counts_in, form_of, is_form, counts_fit, offsets_fit, most_labellings}
use Rattle.lineage.specs.Calls.{FormsTaken, takes, words_in}
use Rattle.laws.specs.Checks.{Pass}
use Rattle.laws.proofs.Tests.{neither, both}
use Rattle.laws.proofs.Lists.{same_list_lem}
use Rattle.numbers.specs.Bounds.{vertex_bound, entry_bound}
use Rattle.stored_header.specs.declared.Layout.{Layout}
use Rattle.stored_header.specs.Header.{Stride, layout_by, layout_in, words_of, offsets_in, offsets_of, offsets_agree, header_checks, Sited, Laid}
use Rattle.stored_header.proofs.Forms.{Within, form_within}

-- counts that fit a form
pub record Bounded (F : Form) (a : Counts) : Type 0 where
  pub width : Width F.width
  pub stride : Stride F.by_place
  pub vertices : a.n ≤ vertex_bound
  pub groups : a.k ≤ a.n
  pub entries : a.c ≤ entry_bound
  pub least : 1 ≤ a.d
  pub most : a.d ≤ most_labellings

pub fit_bounds : (form : ℕ) (a : Counts) → counts_fit (form_of form) a ≡ true → Bounded (form_of form) a
fit_bounds form a fit =
    let F : Form = form_of form in
    let W : Within F = form_within form in
    let n = both (leb a.n F.vertices) _ fit in
    let k = both (leb a.k a.n) _ n.1 in
    let c = both (leb a.c F.entries) _ k.1 in
    let d = both (leb 1 a.d) _ c.1 in
    record {
      width = W.width;
      stride = W.stride;
      vertices = omega (arith, leb-true a.n F.vertices n.0, W.vertices);
      groups = leb-true a.k a.n k.0;
      entries = omega (arith, leb-true a.c F.entries c.0, W.entries);
      least = leb-true 1 a.d d.0;
      most = omega (arith, leb-true a.d F.labellings d.1, W.labellings);
    }

-- the bounds of a layout that such counts give
pub laid_bounds : {F : Form} {a : Counts} {l : Layout} {w z : ℕ} → Bounded F a → l ≡ layout_by w z a
    → (l.n ≤ vertex_bound) × ((l.k ≤ l.n) × (l.c ≤ entry_bound))
laid_bounds B e = subst⁻¹ (λ (l : Layout). (l.n ≤ vertex_bound) × ((l.k ≤ l.n) × (l.c ≤ entry_bound))) e (B.vertices, (B.groups, B.entries))

-- a layout that a width, numbers by place and counts give
pub sited_by : (l : Layout) (w z : ℕ) (a : Counts) → l ≡ layout_by w z a → Sited l
sited_by l w z a e =
    subst⁻¹ Sited e (record {
      names_at = refl;
      groups_at = refl;
      levels_at = refl;
      starts_at = refl;
      children_at_lem = refl;
      labels_at = refl;
      total_at = refl;
    })

-- a form that a call takes is one of the table
pub taken_form : (T : FormsTaken) (number : ℕ) → takes T number ≡ true → is_form number ≡ true
taken_form T number h = (both (leb T.least number && leb number T.most) (is_form number) h).1

module _ (b : List ℕ) where
  -- bytes whose header is right are laid out as it says
  pub right_laid : is_form (header_at b 0) ≡ true
      → counts_fit (form_of (header_at b 0)) (counts_in b) ≡ true
      → offsets_agree b (layout_in b) ≡ true
      → Laid b (layout_in b)
  right_laid known fit agree =
      let o = both (same_list (offsets_in b) (offsets_of (layout_in b))) (eqb (length b) (layout_in b).total) agree in
      let B : Bounded (form_of (header_at b 0)) (counts_in b) = fit_bounds (header_at b 0) (counts_in b) fit in
      record {
        known = known;
        is = refl;
        offsets = same_list_lem (offsets_in b) (offsets_of (layout_in b)) o.0;
        width = B.width;
        stride = B.stride;
        vertices = B.vertices;
        groups = B.groups;
        entries = B.entries;
        least = B.least;
        most = B.most;
        sited = sited_by (layout_in b) (form_of (header_at b 0)).width (form_of (header_at b 0)).by_place (counts_in b) refl;
        long = eqb-true (length b) (layout_in b).total o.1;
      }

  -- so are those whose header passes
  pub header_laid : (T : FormsTaken) → Pass (header_checks T b) → Laid b (layout_in b)
  header_laid T p =
      let F : Form = form_of (header_at b 0) in
      let w = neither (counts_fit F (counts_in b)) (offsets_fit F (counts_in b) b) p.1.1.0 in
      right_laid (taken_form T (header_at b 0) (not-false (takes T (header_at b 0)) p.1.0)) w.0 w.1

-- the numbers of a layout are those of the bytes
module _ {b : List ℕ} {l : Layout} (L : Laid b l) where
  pub width_is : l.width ≡ (form_of (header_at b 0)).width
  width_is = ap (λ (z : Layout). z.width) L.is

  pub stride_is : l.stride ≡ (form_of (header_at b 0)).by_place
  stride_is = ap (λ (z : Layout). z.stride) L.is

  pub n_is : l.n ≡ (counts_in b).n
  n_is = ap (λ (z : Layout). z.n) L.is

  pub k_is : l.k ≡ (counts_in b).k
  k_is = ap (λ (z : Layout). z.k) L.is

  pub c_is : l.c ≡ (counts_in b).c
  c_is = ap (λ (z : Layout). z.c) L.is

  pub d_is : l.d ≡ (counts_in b).d
  d_is = ap (λ (z : Layout). z.d) L.is

  pub words_are : words_of l ≡ words_in b
  words_are = ap words_of L.is

  -- so are marks that are cleared below n, and the tests of a vertex (14)
  pub cleared_in : (marks : List ℕ) {m : List ℕ} → m ≡ cleared l.n marks → m ≡ cleared (counts_in b).n marks
  cleared_in marks e = e ∙ ap (λ (n : ℕ). cleared n marks) n_is

  pub vertex_out : {v : ℕ} → l.n ≤ v → leb (counts_in b).n v ≡ true
  vertex_out {v} h = le-leb (counts_in b).n v (omega (arith, n_is))

  pub vertex_in : {v : ℕ} → v < l.n → leb (counts_in b).n v ≡ false
  vertex_in {v} h = lt-leb (counts_in b).n v (omega (arith, n_is))
