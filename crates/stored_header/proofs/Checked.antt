-- Which of the checks 10 to 13 and 6 decides, of a header as code reads it.
use mathlib.Core.Bool.{Bool, true, false, not, ◌||◌, ◌&&◌, and-true}
use mathlib.Core.Path.{◌≡◌, sym, ap, ap₂, subst, subst⁻¹, ◌∙◌}
use mathlib.Core.List.{List}
use Prim.Native.Nat.{ℕ, ◌+◌, ◌*◌, ◌≤◌, ◌<◌}
use native.Mathlib.Omega.{arith}
use lib.Dec.{eqb, leb, ltb}
use lib.ListN.{length}
use borrow.Author.Tests.{lt-ltb, le-ltb}
use Rattle.lineage.specs.Numbers.{Width}
use Rattle.lineage.specs.Stored.{Form, Counts, header_at, counts_in, form_of, counts_fit, offsets_fit}
use Rattle.lineage.specs.Calls.{Check, refused, answered, outcome, FormsTaken, takes, words_in, form_checks}
use Rattle.laws.proofs.Tests.{or_left, or_right}
use Rattle.stored_header.specs.declared.Row.{Row}
use Rattle.stored_header.specs.declared.Layout.{Layout}
use Rattle.laws.specs.Checks.{Pass}
use Rattle.stored_header.specs.Header.{Stride, row_of, counts, layout_by, layout_in, words_of, offsets_agree, header_checks}
use Rattle.laws.proofs.Checks.{stops_outcome}

-- the tests of the counts at a form's row
pub fit_by : (row : Row) (form n k c d : ℕ)
    → row ≡ row_of form
    → (leb n row.vertices && (leb k n && (leb c row.entries && (leb 1 d && leb d row.labellings)))) ≡ counts_fit (form_of form) (counts n k c d)
fit_by row form n k c d e = ap (λ (r : Row). leb n r.vertices && (leb k n && (leb c r.entries && (leb 1 d && leb d r.labellings)))) e

-- the tests of the offsets one by one
pub agree_by : (b : List ℕ) (l : Layout) (names groups levels starts children labels total : Bool)
    → names ≡ eqb (header_at b 5) l.names
    → groups ≡ eqb (header_at b 6) l.groups
    → levels ≡ eqb (header_at b 7) l.levels
    → starts ≡ eqb (header_at b 8) l.starts
    → children ≡ eqb (header_at b 9) l.children
    → labels ≡ eqb (header_at b 10) l.labels
    → total ≡ eqb (header_at b 11) l.total
    → ((names && (groups && (levels && (starts && (children && (labels && total)))))) && eqb (length b) l.total) ≡ offsets_agree b l
agree_by b l names groups levels starts children labels total e f g h i j k = rw (e, f, g, h, i, j, k, and-true)

-- a layout from the bytes of each section
pub laid_by : (w z n k c d q names groups levels starts children labels : ℕ)
    → names ≡ w * n
    → groups ≡ w * k
    → levels ≡ w * k
    → starts ≡ w * (k + 1)
    → children ≡ w * c
    → q ≡ d * ((z + 1) * k)
    → labels ≡ w * q
    → record {
      width = w;
      stride = z;
      n = n;
      k = k;
      c = c;
      d = d;
      names = 48;
      groups = 48 + names;
      levels = 48 + names + groups;
      starts = 48 + names + groups + levels;
      children = 48 + names + groups + levels + starts;
      labels = 48 + names + groups + levels + starts + children;
      total = 48 + names + groups + levels + starts + children + labels;
    } ≡ layout_by w z (counts n k c d)
laid_by w z n k c d q names groups levels starts children labels e f g h i j m = rw (e, f, g, h, i, m, j)

-- a header as code reads it: its form with that form's row, and its counts
pub record Read (b : List ℕ) (form : ℕ) (row : Row) (n k c d : ℕ) : Type 0 where
  pub long : 48 ≤ length b
  pub form_is : form ≡ header_at b 0
  pub row_is : row ≡ row_of form
  pub n_is : n ≡ header_at b 1
  pub k_is : k ≡ header_at b 2
  pub c_is : c ≡ header_at b 3
  pub d_is : d ≡ header_at b 4

pub width_in : {b : List ℕ} {form : ℕ} {row : Row} {n k c d : ℕ} → Read b form row n k c d → Width (form_of form).width → Width row.width
width_in R h = subst⁻¹ (λ (r : Row). Width r.width) R.row_is h

pub stride_in : {b : List ℕ} {form : ℕ} {row : Row} {n k c d : ℕ} → Read b form row n k c d → Stride (form_of form).by_place → Stride row.stride
stride_in R h = subst⁻¹ (λ (r : Row). Stride r.stride) R.row_is h

module _ (T : FormsTaken) (b : List ℕ) (marks words : ℕ) where
  abbrev checks : List Check
  checks = form_checks T b marks words

  pub header_short : length b < 48 → refused 10 0 ≡ outcome checks (layout_in b)
  header_short h = sym (stops_outcome (layout_in b) checks 0 (lt-ltb (length b) 48 h))

  module _ {form : ℕ} (long : 48 ≤ length b) (form_is : form ≡ header_at b 0) where
    pub header_untaken : takes T form ≡ false → refused 11 form ≡ outcome checks (layout_in b)
    header_untaken h =
        ap (refused 11) form_is ∙ sym (stops_outcome (layout_in b) checks 1 (le-ltb (length b) 48 long, ap not (sym (ap (takes T) form_is) ∙ h)))

  module _ {form : ℕ} {row : Row} {n k c d : ℕ} (R : Read b form row n k c d) (taken : takes T form ≡ true) where
    abbrev F : Form
    F = form_of (header_at b 0)

    long : ltb (length b) 48 ≡ false
    long = le-ltb (length b) 48 R.long

    formed : not (takes T (header_at b 0)) ≡ false
    formed = ap not (sym (ap (takes T) R.form_is) ∙ taken)

    counts_in_lem : counts n k c d ≡ counts_in b
    counts_in_lem = rw (R.n_is, R.k_is, R.c_is, R.d_is)

    fit_in : counts_fit F (counts_in b) ≡ counts_fit (form_of form) (counts n k c d)
    fit_in = sym (ap₂ (λ (f : ℕ) (a : Counts). counts_fit (form_of f) a) R.form_is counts_in_lem)

    pub header_counts : counts_fit (form_of form) (counts n k c d) ≡ false → refused 12 0 ≡ outcome checks (layout_in b)
    header_counts h = sym (stops_outcome (layout_in b) checks 2 (long, (formed, or_left _ (ap not (fit_in ∙ h)))))

    module _ (fit : counts_fit (form_of form) (counts n k c d) ≡ true) {l : Layout} (l-is : l ≡ layout_by row.width row.stride (counts n k c d)) where
      layout_in_lem : l ≡ layout_in b
      layout_in_lem =
          l-is
          ∙ ap (λ (r : Row). layout_by r.width r.stride (counts n k c d)) R.row_is
          ∙ ap₂ (λ (f : ℕ) (a : Counts). layout_by (form_of f).width (form_of f).by_place a) R.form_is counts_in_lem

      agree_in : offsets_fit F (counts_in b) b ≡ offsets_agree b l
      agree_in = sym (ap (offsets_agree b) layout_in_lem)

      pub header_offsets : offsets_agree b l ≡ false → refused 12 0 ≡ outcome checks (layout_in b)
      header_offsets h = sym (stops_outcome (layout_in b) checks 2 (long, (formed, or_right (not (counts_fit F (counts_in b))) (ap not (agree_in ∙ h)))))

      module _ (agree : offsets_agree b l ≡ true) where
        right : (not (counts_fit F (counts_in b)) || not (offsets_fit F (counts_in b) b)) ≡ false
        right = rw (fit_in ∙ fit, agree_in ∙ agree)

        pub marks_short : marks < n → refused 13 n ≡ outcome checks (layout_in b)
        marks_short h =
            ap (refused 13) R.n_is
            ∙ sym (stops_outcome (layout_in b) checks 3 (long, (formed, (right, lt-ltb marks (counts_in b).n (omega (arith, R.n_is))))))

        module _ {needed : ℕ} (needed_is : needed ≡ words_of l) (room : n ≤ marks) where
          marked : ltb marks (counts_in b).n ≡ false
          marked = le-ltb marks (counts_in b).n (omega (arith, R.n_is))

          words_in_lem : needed ≡ words_in b
          words_in_lem = needed_is ∙ ap words_of layout_in_lem

          pub words_short : words < needed → refused 6 needed ≡ outcome checks (layout_in b)
          words_short h =
              ap (refused 6) words_in_lem
              ∙ sym (stops_outcome (layout_in b) checks 4 (long, (formed, (right, (marked, lt-ltb words (words_in b) (subst (λ (x : ℕ). words < x) words_in_lem h))))))

          pub header_passes : needed ≤ words → answered l ≡ outcome checks (layout_in b)
          header_passes h =
              ap answered layout_in_lem
              ∙ sym (stops_outcome (layout_in b) checks 5 (long, (formed, (right, (marked, (le-ltb words (words_in b) (subst (λ (x : ℕ). x ≤ words) words_in_lem h), tt))))))

-- a header that is right passes
pub all_right : (T : FormsTaken) (b : List ℕ) → 48 ≤ length b
    → takes T (header_at b 0) ≡ true
    → counts_fit (form_of (header_at b 0)) (counts_in b) ≡ true
    → offsets_fit (form_of (header_at b 0)) (counts_in b) b ≡ true
    → Pass (header_checks T b)
all_right T b long e f g = (le-ltb (length b) 48 long, (ap not e, (rw (f, g), tt)))
