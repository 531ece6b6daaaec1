-- What a header says, as code has it: a row of the table of forms, a layout, and the refusals that the header alone decides.
use Rattle.std.specs.Prelude.{Bool, true, ◌&&◌, ◌≡◌, List, [], ◌∷◌, map, ℕ, ◌+◌, ◌*◌, ◌≤◌, eqb, length, get_or, take, Result}
use Rattle.lineage.specs.Lists.{upto, same_list}
use Rattle.lineage.specs.Numbers.{Width}
use Rattle.lineage.specs.Stored.{Counts, offsets, header_at, counts_in, form_of, is_form, most_labellings}
use Rattle.lineage.specs.Calls.{Check, Outcome, FormsTaken, words_for, form_checks}
use Rattle.numbers.specs.Bounds.{vertex_bound, entry_bound}
use Rattle.stored_header.specs.declared.Row.{Row}
use Rattle.stored_header.specs.declared.Layout.{Layout}
use Rattle.refusals.specs.declared.Refusal.{Refusal}
use Rattle.refusals.specs.Refusals.{outcome_by}

-- the numbers of one group by place: s, m and e, or s and e
pub record Stride (z : ℕ) : Type 0 where
  pub low : 2 ≤ z
  pub high : z ≤ 3

-- the row of the form with this number; where there is none, the first form's
abbrev pub row_of : ℕ → Row
row_of number = record {
  known = is_form number;
  width = (form_of number).width;
  vertices = (form_of number).vertices;
  edges = (form_of number).edges;
  entries = (form_of number).entries;
  labellings = (form_of number).labellings;
  stride = (form_of number).by_place;
  tree = (form_of number).tree;
}

-- the row of a form of 32-bit numbers, which all have the same bounds but for their labellings
abbrev pub wide_row : ℕ → ℕ → Bool → Row
wide_row labellings stride tree =
    record {
      known = true;
      width = 4;
      vertices = 200000;
      edges = 1000000;
      entries = 1000000;
      labellings = labellings;
      stride = stride;
      tree = tree;
    }

-- n, k, c and d together
abbrev pub counts : ℕ → ℕ → ℕ → ℕ → Counts
counts n k c d = record { n = n; k = k; c = c; d = d }

-- the layout that a width, the numbers by place and counts give
abbrev pub layout_by : ℕ → ℕ → Counts → Layout
layout_by w z a =
    let o : List ℕ = offsets w z a.n a.k a.c a.d in
    record {
      width = w;
      stride = z;
      n = a.n;
      k = a.k;
      c = a.c;
      d = a.d;
      names = get_or o 0 0;
      groups = get_or o 1 0;
      levels = get_or o 2 0;
      starts = get_or o 3 0;
      children = get_or o 4 0;
      labels = get_or o 5 0;
      total = get_or o 6 0;
    }

-- the layout of bytes whose header passes
abbrev pub layout_in : List ℕ → Layout
layout_in b = layout_by (form_of (header_at b 0)).width (form_of (header_at b 0)).by_place (counts_in b)

-- the offsets and the total that a header gives, and those of a layout
abbrev pub offsets_in : List ℕ → List ℕ
offsets_in b = map (λ i. header_at b (5 + i)) (upto 7)

abbrev pub offsets_of : Layout → List ℕ
offsets_of l = l.names ∷ l.groups ∷ l.levels ∷ l.starts ∷ l.children ∷ l.labels ∷ l.total ∷ []

-- the header of a form's number and a layout
abbrev pub header_of : ℕ → Layout → List ℕ
header_of form l = form ∷ l.n ∷ l.k ∷ l.c ∷ l.d ∷ offsets_of l

-- the offsets are the same, and the bytes are of that total
abbrev pub offsets_agree : List ℕ → Layout → Bool
offsets_agree b l = same_list (offsets_in b) (offsets_of l) && eqb (length b) l.total

-- the words that a call is lent beside bytes of a layout
abbrev pub words_of : Layout → ℕ
words_of l = words_for l.width (counts l.n l.k l.c l.d)

-- those of the checks 10 to 13 and 6 that the header alone decides
abbrev pub header_checks : FormsTaken → List ℕ → List Check
header_checks T b = take 3 (form_checks T b 0 0)

-- what a header says, as an outcome
abbrev pub header_outcome : Result Layout Refusal → Outcome Layout
header_outcome = outcome_by (λ l. l)

-- each section starts where the one before it ends, the first behind the header; at the end of the last is the total
pub record Sited (l : Layout) : Type 0 where
  pub names_at : l.names ≡ 48
  pub groups_at : l.groups ≡ l.names + l.width * l.n
  pub levels_at : l.levels ≡ l.groups + l.width * l.k
  pub starts_at : l.starts ≡ l.levels + l.width * l.k
  pub children_at_lem : l.children ≡ l.starts + l.width * (l.k + 1)
  pub labels_at : l.labels ≡ l.children + l.width * l.c
  pub total_at : l.total ≡ l.labels + l.width * (l.d * ((l.stride + 1) * l.k))

-- the bytes have this layout, whose counts are within the bounds of every form: what a header that passes gives, and all that the calls above need of it
pub record Laid (b : List ℕ) (l : Layout) : Type 0 where
  pub known : is_form (header_at b 0) ≡ true
  pub is : l ≡ layout_in b
  pub offsets : offsets_in b ≡ offsets_of l
  pub width : Width l.width
  pub stride : Stride l.stride
  pub vertices : l.n ≤ vertex_bound
  pub groups : l.k ≤ l.n
  pub entries : l.c ≤ entry_bound
  pub least : 1 ≤ l.d
  pub most : l.d ≤ most_labellings
  pub sited : Sited l
  pub long : length b ≡ l.total
