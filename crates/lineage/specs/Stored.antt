-- The stored forms (document 01, "Stored form 1" and "Bounds"; document 02, [6], [13] and [14]), at a form's width: header, sections, total length; written and read.
use Rattle.std.specs.Prelude.{Bool, true, false, ◌&&◌, cond, List, [], ◌∷◌, ◌++◌, map, ℕ, suc, ◌+◌, ◌-◌, ◌*◌, eqb, leb, length, get_or}
use Rattle.lineage.specs.Lists.{upto, joined, part, same_list}
use Rattle.lineage.specs.Numbers.{num_at, numbers, written}
use Rattle.lineage.specs.Labels.{Labelling}
use Rattle.lineage.specs.Index.{Index}

-- the most labellings: d is 1 to 5
abbrev pub most_labellings : ℕ
most_labellings = 5

-- a form: its number, the width of its section numbers, the most vertices, edges, child entries and labellings that it takes, how many numbers a labelling has by
-- place, and whether no group may be a child of two others
pub record Form : Type 0 where
  pub number : ℕ
  pub width : ℕ
  pub vertices : ℕ
  pub edges : ℕ
  pub entries : ℕ
  pub labellings : ℕ
  pub by_place : ℕ
  pub tree : Bool

-- form 1: 16-bit numbers; n 0 to 4,096; edges 0 to 16,384; c at most 16,384
abbrev pub form1 : Form
form1 = record {
  number = 1;
  width = 2;
  vertices = 4096;
  edges = 16384;
  entries = 16384;
  labellings = most_labellings;
  by_place = 3;
  tree = false;
}

-- form 2: 32-bit numbers; n 0 to 200,000; edges 0 to 1,000,000; c at most 1,000,000
abbrev pub form2 : Form
form2 = record {
  number = 2;
  width = 4;
  vertices = 200000;
  edges = 1000000;
  entries = 1000000;
  labellings = most_labellings;
  by_place = 3;
  tree = false;
}

-- form 3: an index over the turned edges, otherwise laid out and bounded like form 2
abbrev pub form3 : Form
form3 = record {
  number = 3;
  width = 4;
  vertices = 200000;
  edges = 1000000;
  entries = 1000000;
  labellings = most_labellings;
  by_place = 3;
  tree = false;
}

-- form 4: a plain hierarchy with exactly one order; form 2 and its bounds, without the m numbers
abbrev pub form4 : Form
form4 = record {
  number = 4;
  width = 4;
  vertices = 200000;
  edges = 1000000;
  entries = 1000000;
  labellings = 1;
  by_place = 2;
  tree = true;
}

-- the forms that are there
abbrev pub forms : List Form
forms = form1 ∷ form2 ∷ form3 ∷ form4 ∷ []

-- the header's length: twelve 32-bit numbers
abbrev pub header_length : ℕ
header_length = 48

-- the numbers in each section: names n, group list k, levels k, child starts k + 1, children c, labels (z + 1)k for each labelling: z by place, one by rank
abbrev pub sizes : ℕ → ℕ → ℕ → ℕ → ℕ → List ℕ
sizes z n k c d = n ∷ k ∷ k ∷ (k + 1) ∷ c ∷ (d * ((z + 1) * k)) ∷ []

-- sections of these sizes follow each other without gaps: where each starts, and at the end the total length
abbrev pub offsets_from : ℕ → ℕ → List ℕ → List ℕ
offsets_from w at [] = at ∷ []
offsets_from w at (size ∷ more) = at ∷ offsets_from w (at + w * size) more

-- the offsets of the six sections, then the total length
abbrev pub offsets : ℕ → ℕ → ℕ → ℕ → ℕ → ℕ → List ℕ
offsets w z n k c d = offsets_from w header_length (sizes z n k c d)

-- the total length
abbrev pub total_length : ℕ → ℕ → ℕ → ℕ → ℕ → ℕ → ℕ
total_length w z n k c d = get_or (offsets w z n k c d) 6 0

-- child starts: positions in the children, first 0, last c
abbrev pub starts_from : ℕ → List (List ℕ) → List ℕ
starts_from at [] = at ∷ []
starts_from at (hs ∷ more) = at ∷ starts_from (at + length hs) more

-- a labelling: k triples s, m, e by place, or k pairs s, e where two numbers are by place; then k places by rank
abbrev pub triple : Labelling → ℕ → List ℕ
triple l p = get_or l.s p 0 ∷ get_or l.m p 0 ∷ get_or l.e p 0 ∷ []

abbrev pub pair : Labelling → ℕ → List ℕ
pair l p = get_or l.s p 0 ∷ get_or l.e p 0 ∷ []

abbrev pub label_of : ℕ → Labelling → ℕ → List ℕ
label_of z l p = cond (eqb z 2) (pair l p) (triple l p)

abbrev pub label_numbers : ℕ → ℕ → Labelling → List ℕ
label_numbers z k l = joined (map (label_of z l) (upto k)) ++ l.by_rank

-- names, group list, levels, child starts, children, labels, in that order
abbrev pub sections : ℕ → Index → List (List ℕ)
sections z I =
    I.names
    ∷ I.groups
    ∷ I.levels
    ∷ starts_from 0 I.children
    ∷ joined I.children
    ∷ joined (map (label_numbers z (length I.groups)) I.labels)
    ∷ []

-- n, k, c and d
pub record Counts : Type 0 where
  pub n : ℕ
  pub k : ℕ
  pub c : ℕ
  pub d : ℕ

abbrev pub counts_of : Index → Counts
counts_of I = record { n = length I.names; k = length I.groups; c = length (joined I.children); d = length I.labels }

-- header: form, n, groups k, child entries c, labellings d, then the offsets, then the total length
abbrev pub header : Form → Counts → List ℕ
header F a = F.number ∷ a.n ∷ a.k ∷ a.c ∷ a.d ∷ offsets F.width F.by_place a.n a.k a.c a.d

-- the bytes: the header as 32-bit numbers, then the sections at the form's width
unfoldable pub encode : Form → Index → List ℕ
encode F I = written 4 (header F (counts_of I)) ++ joined (map (written F.width) (sections F.by_place I))

-- number i of a header
abbrev pub header_at : List ℕ → ℕ → ℕ
header_at b i = num_at 4 b i

-- the counts that a header gives
abbrev pub counts_in : List ℕ → Counts
counts_in b = record { n = header_at b 1; k = header_at b 2; c = header_at b 3; d = header_at b 4 }

-- the form with this number; where there is none, the first
abbrev pub form_from : List Form → ℕ → Form
form_from [] number = form1
form_from (F ∷ more) number = cond (eqb F.number number) F (form_from more number)

abbrev pub form_of : ℕ → Form
form_of number = form_from forms number

-- a form has this number
abbrev pub is_form : ℕ → Bool
is_form number = eqb (form_of number).number number

-- every count is within its bounds, and k is not over n
abbrev pub counts_fit : Form → Counts → Bool
counts_fit F a = leb a.n F.vertices && (leb a.k a.n && (leb a.c F.entries && (leb 1 a.d && leb a.d F.labellings)))

-- the offsets and the total are those that the counts give, and the bytes are of that total
abbrev pub offsets_fit : Form → Counts → List ℕ → Bool
offsets_fit F a b =
    let o : List ℕ = offsets F.width F.by_place a.n a.k a.c a.d in
    same_list (map (λ i. header_at b (5 + i)) (upto 7)) o && eqb (length b) (get_or o 6 0)

-- each section is its own stretch of the stored bytes, which starts at the header's offset
unfoldable pub stretch : ℕ → ℕ → Counts → List ℕ → ℕ → List ℕ
stretch w z a b i =
    part b (get_or (offsets w z a.n a.k a.c a.d) i 0) (w * get_or (sizes z a.n a.k a.c a.d) i 0)

-- the numbers of section i
unfoldable pub section : ℕ → ℕ → Counts → List ℕ → ℕ → List ℕ
unfolding stretch numbers
section w z a b i = numbers w (stretch w z a b i) (get_or (sizes z a.n a.k a.c a.d) i 0)

-- one group's children, from child start to next child start
unfoldable pub row_at : List ℕ → List ℕ → ℕ → List ℕ
unfolding part
row_at starts children p = part children (get_or starts p 0) (get_or starts (suc p) 0 - get_or starts p 0)

-- labelling j of a labels section: of a group's z numbers s is the first, e the last, and m the one before it, which in a pair is s
unfoldable pub labelling_at : ℕ → ℕ → List ℕ → ℕ → Labelling
unfolding part
labelling_at z k numbers j =
    let own : List ℕ = part numbers (j * ((z + 1) * k)) ((z + 1) * k) in
    record {
      s = map (λ p. get_or own (z * p) 0) (upto k);
      m = map (λ p. get_or own (z * p + (z - 2)) 0) (upto k);
      e = map (λ p. get_or own (z * p + (z - 1)) 0) (upto k);
      by_rank = part own (z * k) k;
    }

-- the index that bytes of a form hold, whatever they hold
unfoldable pub decode : Form → List ℕ → Index
unfolding section row_at labelling_at
decode F b =
    let a : Counts = counts_in b in
    let at : ℕ → List ℕ = section F.width F.by_place a b in
    record {
      names = at 0;
      groups = at 1;
      levels = at 2;
      children = map (row_at (at 3) (at 4)) (upto a.k);
      labels = map (labelling_at F.by_place a.k (at 5)) (upto a.d);
    }
