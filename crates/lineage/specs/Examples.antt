-- The reckoned examples of document 01, P1 to P10, the sample text's five answers and the slips that need an example of their own: one table,
-- a single claim, by computation. Questions are asked of the stored bytes, through every check, at both forms; those of a plain hierarchy at form 4. A second table has refusals of every kind.
use Rattle.std.specs.Prelude.{◌≡◌, refl, Bool, true, false, List, [], ◌∷◌, ◌++◌, map, ℕ, suc, ◌-◌, length, get_or, set, replicate, take}
use Rattle.std.proofs.Math.Dec.{leb-zero}
use Rattle.lineage.specs.Lists.{upto, Every, cleared}
use Rattle.lineage.specs.Graph.{Graph, condense}
use Rattle.lineage.specs.Labels.{Labelling}
use Rattle.lineage.specs.Index.{index_of}
use Rattle.lineage.specs.Stored.{Form, form1, form2, form4, Counts, encode}
use Rattle.lineage.specs.Calls.{Outcome, refused, answered, Said, host, ordinary, hierarchy, build_answer, build_call, open_answer, ask_answer, ask_marks, ask_work, list_answer, list_output}

-- Graph G: n = 6, edges 0-1, 1-2, 2-1, 0-3, 3-4, 2-4, 5-5
abbrev G : Graph
G = record { n = 6; sources = 0 ∷ 1 ∷ 2 ∷ 0 ∷ 3 ∷ 2 ∷ 5 ∷ []; targets = 1 ∷ 2 ∷ 1 ∷ 3 ∷ 4 ∷ 4 ∷ 5 ∷ [] }

-- H is the graph of the sample text
abbrev H : Graph
H = record { n = 4; sources = 0 ∷ 0 ∷ 3 ∷ []; targets = 1 ∷ 2 ∷ 1 ∷ [] }

-- order A is 0 to 5, B is 5 to 0
abbrev A : List ℕ
A = 0 ∷ 1 ∷ 2 ∷ 3 ∷ 4 ∷ 5 ∷ []

abbrev B : List ℕ
B = 5 ∷ 4 ∷ 3 ∷ 2 ∷ 1 ∷ 0 ∷ []

-- H's two orders
abbrev rising : List ℕ
rising = 0 ∷ 1 ∷ 2 ∷ 3 ∷ []

abbrev falling : List ℕ
falling = 3 ∷ 2 ∷ 1 ∷ 0 ∷ []

-- n = 0, no edges
abbrev none : Graph
none = record { n = 0; sources = []; targets = [] }

-- edges 2-1, 1-2, 0-2: the edges name 2 before 1
abbrev turned : Graph
turned = record { n = 3; sources = 2 ∷ 1 ∷ 0 ∷ []; targets = 1 ∷ 2 ∷ 2 ∷ [] }

-- a plain hierarchy: G without its edge 2-4, so that 4 is a child of 3's group alone
abbrev T : Graph
T = record { n = 6; sources = 0 ∷ 1 ∷ 2 ∷ 0 ∷ 3 ∷ 5 ∷ []; targets = 1 ∷ 2 ∷ 1 ∷ 3 ∷ 4 ∷ 5 ∷ [] }

-- no plain hierarchy, though under the rising order m is s in every group: edges 1-0, 0-2, 1-2
abbrev alike : Graph
alike = record { n = 3; sources = 1 ∷ 0 ∷ 1 ∷ []; targets = 0 ∷ 2 ∷ 2 ∷ [] }

-- s, m and e of a place
data Label : Type 0 where
  label : ℕ → ℕ → ℕ → Label

abbrev labels_in : List Labelling → ℕ → List Label
labels_in [] k = []
labels_in (l ∷ ls) k = map (λ p. label (get_or l.s p 0) (get_or l.m p 0) (get_or l.e p 0)) (upto k)

abbrev stored : Form → Graph → List (List ℕ) → List ℕ
stored F g orders = encode F (index_of g orders)

-- words that suffice for every example
abbrev words : ℕ
words = 200

abbrev said : Bool → ℕ → ℕ → ℕ → Said
said says reason opened deciding = record { says = says; reason = reason; opened = opened; deciding = deciding }

abbrev counts : ℕ → ℕ → ℕ → ℕ → Counts
counts n k c d = record { n = n; k = k; c = c; d = d }

-- a buffer lent with 7 in each of its elements
abbrev lent : ℕ → List ℕ
lent size = replicate size 7

-- the outcome of a list with room for one vertex less: 16 and the count; an empty list needs no room
abbrev one_short : List ℕ → Outcome ℕ
one_short [] = answered 0
one_short (v ∷ vs) = refused 16 (suc (length vs))

-- the bytes with another byte at one position
abbrev altered : List ℕ → ℕ → ℕ → List ℕ
altered bytes i x = set bytes i x

-- n vertices, and lists of so many sources and targets
abbrev bare : ℕ → (sources targets : ℕ) → Graph
bare n sources targets = record { n = n; sources = replicate sources 0; targets = replicate targets 0 }

-- the bytes of G under A, and the same with 3's inner interval over a group that is not below it: its m, at byte 114, is 1; and so at form 2, at byte 180
abbrev sound : List ℕ
sound = stored form1 G (A ∷ [])

abbrev unsound : List ℕ
unsound = altered sound 114 1

abbrev wide : List ℕ
wide = stored form2 G (A ∷ [])

abbrev wide_unsound : List ℕ
wide_unsound = altered wide 180 1

-- the bytes of T under B at form 4, and the same with 3's s, at byte 164, above that of its child
abbrev plain : List ℕ
plain = stored form4 T (B ∷ [])

abbrev plain_unsound : List ℕ
plain_unsound = altered plain 164 3

-- a question and its outcome
data Question : Type 0 where
  question : (u v : ℕ) → Outcome Said → Question

data Example : Type 0 where
  groups_are : Graph → (names groups : List ℕ) → Example
  levels_are : Graph → List ℕ → Example
  labels_are : Graph → (order : List ℕ) → List Label → Example
  answer_is : Graph → (orders : List (List ℕ)) → (u v : ℕ) → Said → (marks : List ℕ) → Example
  totals_are : Graph → (orders : List (List ℕ)) → (total1 total2 : ℕ) → Example
  every_question_is : Graph → (orders : List (List ℕ)) → Outcome Said → Example
  questions_are : Graph → (orders : List (List ℕ)) → List Question → Example
  list_is : Graph → (orders : List (List ℕ)) → (u : ℕ) → List ℕ → Example
  opens_as : (bytes : List ℕ) → (marks : ℕ) → Outcome Counts → Example
  host_opens_as : (bytes : List ℕ) → (marks : ℕ) → Outcome Counts → Example
  words_are : (bytes : List ℕ) → (u v : ℕ) → (lent after : List ℕ) → Example
  builds_as : (form : ℕ) → Graph → (d : ℕ) → (orders : List ℕ) → (work out : ℕ) → Outcome ℕ → Example
  asks_as : (bytes : List ℕ) → (marks : ℕ) → List Question → Example
  lists_as : (bytes : List ℕ) → (u marks out : ℕ) → Outcome ℕ → Example
  hierarchy_builds_as : Graph → (d : ℕ) → (orders : List ℕ) → (work out : ℕ) → Outcome ℕ → Example
  hierarchy_opens_as : (bytes : List ℕ) → (marks work : ℕ) → Outcome Counts → Example
  hierarchy_answer_is : (bytes : List ℕ) → (u v : ℕ) → Said → Example
  all_refuse : (bytes : List ℕ) → (vertex marks work : ℕ) → (number extra : ℕ) → Example

abbrev Asked : List ℕ → ℕ → Question → Type 0
Asked bytes marks (question u v o) = ask_answer ordinary bytes u v marks words ≡ o

-- at form 1 and at form 2
abbrev AtBoth : (Form → Type 0) → Type 0
AtBoth P = P form1 × P form2

abbrev Right : Example → Type 0
Right (groups_are g names groups) = ((condense g).names ≡ names) × ((condense g).groups ≡ groups)
Right (levels_are g levels) = (index_of g []).levels ≡ levels
Right (labels_are g order labels) = labels_in (index_of g (order ∷ [])).labels (length (index_of g (order ∷ [])).groups) ≡ labels
Right (answer_is g orders u v a marks) =
    AtBoth (λ F.
    (ask_answer ordinary (stored F g orders) u v g.n words ≡ answered a)
    × (ask_marks ordinary (stored F g orders) u v (lent (suc g.n)) words ≡ marks ++ (7 ∷ [])))
Right (totals_are g orders total1 total2) = (length (stored form1 g orders) ≡ total1) × (length (stored form2 g orders) ≡ total2)
Right (every_question_is g orders o) = AtBoth (λ F. (u v : ℕ) → ask_answer ordinary (stored F g orders) u v g.n words ≡ o)
Right (questions_are g orders qs) = AtBoth (λ F. Every (Asked (stored F g orders) g.n) qs)
Right (list_is g orders u vs) =
    AtBoth (λ F.
    (list_answer ordinary (stored F g orders) u g.n words (length vs) ≡ answered (length vs))
    × (list_output ordinary (stored F g orders) u g.n words (lent (suc (length vs))) ≡ vs ++ (7 ∷ []))
    × (list_answer ordinary (stored F g orders) u g.n words (length vs - 1) ≡ one_short vs))
Right (opens_as bytes marks o) = open_answer ordinary bytes marks words ≡ o
Right (host_opens_as bytes marks o) = open_answer host bytes marks 0 ≡ o
Right (words_are bytes u v before after) = ask_work ordinary bytes u v 6 before ≡ after
Right (builds_as form g d orders work out o) = build_call form (record { graph = g; d = d; orders = orders }) work out ≡ o
Right (asks_as bytes marks qs) = Every (Asked bytes marks) qs
Right (lists_as bytes u marks out o) = list_answer ordinary bytes u marks words out ≡ o
Right (hierarchy_builds_as g d orders work out o) = build_answer form4 (record { graph = g; d = d; orders = orders }) work out ≡ o
Right (hierarchy_opens_as bytes marks work o) = open_answer hierarchy bytes marks work ≡ o
Right (hierarchy_answer_is bytes u v a) =
    (ask_answer hierarchy bytes u v 6 words ≡ answered a) × (ask_marks hierarchy bytes u v (lent 7) words ≡ replicate 6 0 ++ (7 ∷ []))
Right (all_refuse bytes vertex marks work number extra) =
    (open_answer ordinary bytes marks work ≡ refused number extra)
    × (ask_answer ordinary bytes vertex vertex marks work ≡ refused number extra)
    × (list_answer ordinary bytes vertex marks work 0 ≡ refused number extra)

abbrev table : List Example
table =
    -- P1 to P10
    groups_are G (0 ∷ 1 ∷ 1 ∷ 3 ∷ 4 ∷ 5 ∷ []) (0 ∷ 1 ∷ 3 ∷ 4 ∷ 5 ∷ [])
    ∷ levels_are G (2 ∷ 1 ∷ 1 ∷ 0 ∷ 0 ∷ [])
    ∷ labels_are G A (label 1 1 4 ∷ label 1 1 2 ∷ label 1 3 3 ∷ label 1 1 1 ∷ label 5 5 5 ∷ [])
    ∷ labels_are G B (label 2 2 5 ∷ label 2 4 4 ∷ label 2 2 3 ∷ label 2 2 2 ∷ label 1 1 1 ∷ [])
    ∷ answer_is G (A ∷ []) 3 4 (said true 5 1 1) (0 ∷ 0 ∷ 0 ∷ 1 ∷ 0 ∷ 0 ∷ [])
    ∷ answer_is G (A ∷ B ∷ []) 3 4 (said true 2 0 2) (0 ∷ 0 ∷ 0 ∷ 0 ∷ 0 ∷ 0 ∷ [])
    ∷ answer_is G (A ∷ []) 0 5 (said false 4 0 1) (0 ∷ 0 ∷ 0 ∷ 0 ∷ 0 ∷ 0 ∷ [])
    ∷ answer_is H (falling ∷ []) 3 2 (said false 4 0 1) (0 ∷ 0 ∷ 0 ∷ 0 ∷ [])
    ∷ totals_are H (rising ∷ []) 120 192
    ∷ totals_are G (A ∷ B ∷ []) 180 312
    ∷ totals_are none ([] ∷ []) 50 52
    ∷ every_question_is none ([] ∷ []) (refused 14 0)
    -- the sample text
    ∷ questions_are H
    (rising ∷ [])
    (question 3 2 (answered (said false 6 1 0))
    ∷ question 0 2 (answered (said true 2 0 1))
    ∷ question 1 1 (answered (said true 1 0 0))
    ∷ question 2 0 (answered (said false 3 0 0))
    ∷ question 4 0 (refused 14 0)
    ∷ [])
    -- of two labellings that both rule the target out, the first is named
    ∷ answer_is G (A ∷ B ∷ []) 0 5 (said false 4 0 1) (0 ∷ 0 ∷ 0 ∷ 0 ∷ 0 ∷ 0 ∷ [])
    -- a vertex of n or more, source first
    ∷ questions_are H (rising ∷ []) (question 0 4 (refused 14 1) ∷ question 9 4 (refused 14 0) ∷ [])
    -- names do not move with the sequence of the edges
    ∷ groups_are turned (0 ∷ 1 ∷ 1 ∷ []) (0 ∷ 1 ∷ [])
    -- bytes open, and are refused where 3's inner interval covers a group that is not below it: its m, at byte 114, becomes 1
    ∷ opens_as sound 6 (answered (counts 6 5 4 1))
    ∷ opens_as unsound 6 (refused 15 0)
    ∷ opens_as wide 6 (answered (counts 6 5 4 1))
    ∷ opens_as wide_unsound 6 (refused 15 0)
    -- the C host stays with form 1
    ∷ host_opens_as sound 6 (answered (counts 6 5 4 1))
    ∷ host_opens_as wide 6 (refused 11 2)
    -- at form 2 the needed words, here 176, are 0 after an answer and after 15, and later words untouched; form 1 leaves them, and so does 14
    ∷ words_are wide 3 4 (lent 178) (replicate 176 0 ++ lent 2)
    ∷ words_are wide_unsound 3 4 (lent 178) (replicate 176 0 ++ lent 2)
    ∷ words_are wide 3 6 (lent 178) (lent 178)
    ∷ words_are sound 3 4 (lent 178) (lent 178)
    -- downstream lists: of 2, whose group has 1 too; of 3 and 0, groups of one; of 5, which has only a self-loop
    ∷ list_is G (A ∷ []) 2 (1 ∷ 2 ∷ 4 ∷ [])
    ∷ list_is G (A ∷ []) 3 (4 ∷ [])
    ∷ list_is G (A ∷ []) 0 (1 ∷ 2 ∷ 3 ∷ 4 ∷ [])
    ∷ list_is G (A ∷ []) 5 []
    -- the two ends of a build
    ∷ builds_as 1 G 2 (A ++ B) 188 180 (answered 180)
    ∷ builds_as 1 G 2 (A ++ B) 188 179 (refused 9 180)
    ∷ builds_as 1 G 2 (A ++ (5 ∷ 4 ∷ 3 ∷ 2 ∷ 1 ∷ 1 ∷ [])) 188 0 (refused 8 1)
    ∷ builds_as 2 G 2 (A ++ B) 188 312 (answered 312)
    ∷ builds_as 2 G 2 (A ++ B) 188 311 (refused 9 312)
    -- a plain hierarchy: built, opened and asked; where two groups share a child, m and s being alike does not help
    ∷ labels_are T B (label 2 2 5 ∷ label 4 4 4 ∷ label 2 2 3 ∷ label 2 2 2 ∷ label 1 1 1 ∷ [])
    ∷ hierarchy_builds_as T 1 B 184 208 (answered 208)
    ∷ hierarchy_opens_as plain 6 172 (answered (counts 6 5 3 1))
    ∷ hierarchy_opens_as plain_unsound 6 172 (refused 15 0)
    ∷ hierarchy_answer_is plain 2 1 (said true 1 0 0)
    ∷ hierarchy_answer_is plain 0 4 (said true 2 0 1)
    ∷ hierarchy_answer_is plain 4 0 (said false 3 0 0)
    ∷ hierarchy_answer_is plain 3 2 (said false 4 0 1)
    ∷ hierarchy_answer_is plain 0 5 (said false 4 0 1)
    ∷ labels_are alike (0 ∷ 1 ∷ 2 ∷ []) (label 1 1 2 ∷ label 1 1 3 ∷ label 1 1 1 ∷ [])
    ∷ opens_as (stored form2 alike ((0 ∷ 1 ∷ 2 ∷ []) ∷ [])) 3 (answered (counts 3 3 3 1))
    ∷ hierarchy_opens_as (stored form4 alike ((0 ∷ 1 ∷ 2 ∷ []) ∷ [])) 3 124 (refused 15 0)
    ∷ []

claim : Every Right table
unfolding condense index_of encode cleared open_answer ask_answer ask_marks ask_work list_answer list_output build_answer build_call
claim =
    ((refl, refl), (refl, (refl, (refl, (((refl, refl), (refl, refl)), (((refl, refl), (refl, refl)), (((refl, refl), (refl, refl)), (((refl, refl), (refl, refl)), ((refl, refl), ((refl, refl), ((refl, refl), (((λ u v. rw leb-zero), (λ u v. rw leb-zero)), (((refl, (refl, (refl, (refl, (refl, tt))))), (refl, (refl, (refl, (refl, (refl, tt)))))), (((refl, refl), (refl, refl)), (((refl, (refl, tt)), (refl, (refl, tt))), ((refl, refl), (refl, (refl, (refl, (refl, (refl, (refl, (refl, (refl, (refl, (refl, (((refl, refl, refl), (refl, refl, refl)), (((refl, refl, refl), (refl, refl, refl)), (((refl, refl, refl), (refl, refl, refl)), (((refl, refl, refl), (refl, refl, refl)), (refl, (refl, (refl, (refl, (refl, (refl, (refl, (refl, (refl, ((refl, refl), ((refl, refl), ((refl, refl), ((refl, refl), ((refl, refl), (refl, (refl, (refl, tt)))))))))))))))))))))))))))))))))))))))))))))))

-- Refusals of every kind, with their extra numbers: in each row the next check applies too, so that their order shows.
abbrev refusals : List Example
refusals =
    -- a build: 11, then 1 to 9, of which 1 and 3 are by the form's own bounds
    builds_as 0 (bare 4097 1 0) 1 [] 0 0 (refused 11 0)
    ∷ builds_as 3 (bare 200001 1 0) 1 [] 0 0 (refused 11 3)
    ∷ builds_as 4 (bare 200001 1 0) 1 [] 0 0 (refused 11 4)
    ∷ builds_as 1 (bare 4097 1 0) 1 [] 0 0 (refused 1 0)
    ∷ builds_as 2 (bare 200001 1 0) 1 [] 0 0 (refused 1 0)
    ∷ builds_as 2 (bare 200000 1 0) 1 [] 0 0 (refused 2 0)
    ∷ builds_as 1 (bare 6 16385 0) 1 [] 0 0 (refused 2 0)
    ∷ builds_as 1 (bare 6 16385 16385) 0 [] 0 0 (refused 3 0)
    ∷ builds_as 2 (bare 6 16385 16385) 0 [] 0 0 (refused 4 0)
    ∷ builds_as 1 (bare 6 1 1) 0 A 0 0 (refused 4 0)
    ∷ builds_as 1 (bare 6 1 1) 6 A 0 0 (refused 4 0)
    ∷ builds_as 1 (bare 6 1 1) 2 A 0 0 (refused 5 0)
    ∷ builds_as 1 (bare 0 1 1) 1 [] 67 0 (refused 6 68)
    ∷ builds_as 1 (record { n = 2; sources = 0 ∷ 2 ∷ []; targets = 1 ∷ 0 ∷ [] }) 1 (1 ∷ 1 ∷ []) 104 0 (refused 7 1)
    ∷ builds_as 1 (bare 2 0 0) 2 (1 ∷ 0 ∷ 1 ∷ 1 ∷ []) 96 0 (refused 8 1)
    ∷ builds_as 1 (bare 2 0 0) 1 (1 ∷ 0 ∷ []) 96 81 (refused 9 82)
    -- a build of a plain hierarchy: 4 by its one order, and 22 between 8 and 9, of the smallest name of a shared group
    ∷ hierarchy_builds_as (bare 200001 1 0) 2 [] 0 0 (refused 1 0)
    ∷ hierarchy_builds_as T 2 A 0 0 (refused 4 0)
    ∷ hierarchy_builds_as G 1 (5 ∷ 4 ∷ 3 ∷ 2 ∷ 1 ∷ 1 ∷ []) 188 0 (refused 8 0)
    ∷ hierarchy_builds_as G 1 B 188 0 (refused 22 4)
    ∷ hierarchy_builds_as T 1 B 184 207 (refused 9 208)
    -- its opening: 11 unless the form is 4, 12 for two labellings, then as at form 2; other calls do not take form 4
    ∷ hierarchy_opens_as (take 48 wide) 5 0 (refused 11 2)
    ∷ opens_as plain 5 (refused 11 4)
    ∷ hierarchy_opens_as (stored form4 T (A ∷ B ∷ [])) 5 0 (refused 12 0)
    ∷ hierarchy_opens_as plain_unsound 5 171 (refused 13 6)
    ∷ hierarchy_opens_as plain_unsound 6 171 (refused 6 172)
    -- open, ask and list: 10 to 13, and 6 at form 2; the vertex is out of range each time
    ∷ all_refuse (take 47 (altered sound 0 3)) 6 5 0 10 0
    ∷ all_refuse (take 48 (altered sound 1 1)) 6 5 0 11 257
    ∷ all_refuse (take 48 (altered wide 0 3)) 6 5 0 11 3
    ∷ all_refuse (take 48 sound) 6 5 0 12 0
    ∷ all_refuse (altered sound 0 2) 6 5 0 12 0
    ∷ all_refuse unsound 6 5 0 13 6
    ∷ all_refuse wide_unsound 6 5 175 13 6
    ∷ all_refuse wide_unsound 6 6 175 6 176
    -- ask and list: 14, 15, and 16 of a list
    ∷ asks_as unsound 6 (question 6 6 (refused 14 0) ∷ question 0 6 (refused 14 1) ∷ question 0 0 (refused 15 0) ∷ [])
    ∷ asks_as wide_unsound 6 (question 6 6 (refused 14 0) ∷ question 0 6 (refused 14 1) ∷ question 0 0 (refused 15 0) ∷ [])
    ∷ lists_as unsound 6 6 0 (refused 14 0)
    ∷ lists_as unsound 2 6 0 (refused 15 0)
    ∷ lists_as sound 2 6 2 (refused 16 3)
    ∷ []

all_refused : Every Right refusals
unfolding index_of encode open_answer ask_answer list_answer build_answer build_call
all_refused =
    (refl, (refl, (refl, (refl, (refl, (refl, (refl, (refl, (refl, (refl, (refl, (refl, (refl, (refl, (refl, (refl, (refl, (refl, (refl, (refl, (refl, (refl, (refl, (refl, (refl, (refl, ((refl, refl, refl), ((refl, refl, refl), ((refl, refl, refl), ((refl, refl, refl), ((refl, refl, refl), ((refl, refl, refl), ((refl, refl, refl), ((refl, refl, refl), ((refl, (refl, (refl, tt))), ((refl, (refl, (refl, tt))), (refl, (refl, (refl, tt)))))))))))))))))))))))))))))))))))))))
