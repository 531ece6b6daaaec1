-- The calls (document 01, "Refusal numbers, in order of checking"; document 02, [6], [13] and [14]): of each call its checks in order, its answer, and what every lent buffer
-- holds afterwards, as functions of what was lent and of the forms that the call takes.
use Rattle.std.specs.Prelude.{Bool, true, false, not, ◌||◌, ◌&&◌, cond, List, [], ◌∷◌, ◌++◌, map, ℕ, ◌+◌, ◌*◌, eqb, leb, ltb, length, get_or, drop}
use Rattle.lineage.specs.Lists.{upto, any, among, first_of, part, cleared}
use Rattle.lineage.specs.Graph.{Graph, turned_graph}
use Rattle.lineage.specs.Index.{Index, index_of}
use Rattle.lineage.specs.Question.{Answer, answer, downstream}
use Rattle.lineage.specs.Stored.{Form, header_length, Counts, counts_of, total_length, encode, header_at, counts_in, form_of, is_form, counts_fit, offsets_fit, decode}
use Rattle.lineage.specs.Sound.{shared, is_tree, contents_sound}

-- one check: when it applies, the refusal's number, the extra number
pub record Check : Type 0 where
  pub applies : Bool
  pub number : ℕ
  pub extra : ℕ

abbrev pub check : Bool → ℕ → ℕ → Check
check applies number extra = record { applies = applies; number = number; extra = extra }

-- a refusal with its number and its extra number, or an answer
pub data Outcome (A : Type 0) : Type 0 where
  refused : ℕ → ℕ → Outcome A
  answered : A → Outcome A

module _ {A : Type 0} where
  abbrev pub refuse : Bool → ℕ → ℕ → Outcome A → Outcome A
  refuse true number extra rest = refused number extra
  refuse false number extra rest = rest

  -- each refusal is given exactly when its check applies and none above it does
  abbrev pub outcome : List Check → A → Outcome A
  outcome [] a = answered a
  outcome (c ∷ cs) a = refuse c.applies c.number c.extra (outcome cs a)

-- some check applies
abbrev pub any_applies : List Check → Bool
any_applies [] = false
any_applies (c ∷ cs) = c.applies || any_applies cs

-- the forms that a call takes: those numbered from the least to the most
pub record FormsTaken : Type 0 where
  pub least : ℕ
  pub most : ℕ

abbrev pub forms_taken : (least most : ℕ) → FormsTaken
forms_taken least most = record { least = least; most = most }

-- the C host and the text program stay with form 1; every other call on indexes that are not turned takes forms 1 and 2
abbrev pub host : FormsTaken
host = forms_taken 1 1

abbrev pub ordinary : FormsTaken
ordinary = forms_taken 1 2

-- the calls on a turned index take form 3 alone
abbrev pub turned : FormsTaken
turned = forms_taken 3 3

-- and those on a plain hierarchy form 4 alone
abbrev pub hierarchy : FormsTaken
hierarchy = forms_taken 4 4

-- a call that takes these forms takes the one with this number
abbrev pub takes : FormsTaken → ℕ → Bool
takes T number = (leb T.least number && leb number T.most) && is_form number

-- Build.

-- what a build is lent, but for its work memory and its output
pub record Input : Type 0 where
  pub graph : Graph
  pub d : ℕ
  pub orders : List ℕ

-- order i of an order list
abbrev pub order_at : ℕ → List ℕ → ℕ → List ℕ
order_at n orders i = part orders (i * n) n

abbrev pub orders_of : Input → List (List ℕ)
orders_of B = map (order_at B.graph.n B.orders) (upto B.d)

-- what a turned build is lent: the edge list as given; it turns it itself
abbrev pub turned_input : Input → Input
turned_input B = record { graph = turned_graph B.graph; d = B.d; orders = B.orders }

-- an edge end is n or more
abbrev pub bad_edge : Graph → ℕ → Bool
bad_edge G i = leb G.n (get_or G.sources i 0) || leb G.n (get_or G.targets i 0)

-- the order, n numbers, is no permutation: some number below n does not stand in it
abbrev pub bad_order : ℕ → List ℕ → ℕ → Bool
bad_order n orders i = any (λ v. not (among v (order_at n orders i))) (upto n)

-- build work memory: 16n + 4 x edges + 64 words
abbrev pub work_needed : Graph → ℕ
work_needed G = 16 * G.n + 4 * length G.sources + 64

-- the index that is built, and its total length at a form
abbrev pub built : Input → Index
built B = index_of B.graph (orders_of B)

abbrev pub length_of : Form → Index → ℕ
length_of F I = let a : Counts = counts_of I in total_length F.width F.by_place a.n a.k a.c a.d

-- 22, at a form of plain hierarchies: a group is a child of two others; the extra number is the smallest such name
abbrev pub tree_check : Form → Index → Check
tree_check F I =
    check (F.tree && not (is_tree I.children)) 22 (get_or I.groups (first_of (shared I.children) (upto (length I.children)) 0) 0)

-- refusals 1 to 7 alter nothing
abbrev pub build_early : Form → Input → ℕ → List Check
build_early F B work =
    let G : Graph = B.graph in
    check (ltb F.vertices G.n) 1 0
    ∷ check (not (eqb (length G.sources) (length G.targets))) 2 0
    ∷ check (ltb F.edges (length G.sources)) 3 0
    ∷ check (eqb B.d 0 || ltb F.labellings B.d) 4 0
    ∷ check (not (eqb (length B.orders) (B.d * G.n))) 5 0
    ∷ check (ltb work (work_needed G)) 6 (work_needed G)
    ∷ check (any (bad_edge G) (upto (length G.sources))) 7 (first_of (bad_edge G) (upto (length G.sources)) 0)
    ∷ []

-- 8 and the refusals checked later
abbrev pub build_late : Form → Input → ℕ → List Check
build_late F B out =
    check (any (bad_order B.graph.n B.orders) (upto B.d)) 8 (first_of (bad_order B.graph.n B.orders) (upto B.d) 0)
    ∷ tree_check F (built B)
    ∷ check (ltb out (length_of F (built B))) 9 (length_of F (built B))
    ∷ []

-- a finished build returns the total length
unfoldable pub build_answer : Form → Input → (work out : ℕ) → Outcome ℕ
unfolding index_of is_tree
build_answer F B work out = outcome (build_early F B work ++ build_late F B out) (length_of F (built B))

-- the output after a build: unchanged by every refusal; past what is written it keeps its contents
unfoldable pub build_output : Form → Input → ℕ → List ℕ → List ℕ
unfolding encode index_of is_tree
build_output F B work out =
    cond (any_applies (build_early F B work ++ build_late F B (length out))) out (encode F (built B) ++ drop (length_of F (built B)) out)

-- the work memory after a build: from 8 on the needed words are 0 and later words untouched
unfoldable pub build_work : Form → Input → List ℕ → List ℕ
build_work F B work = cond (any_applies (build_early F B (length work))) work (cleared (work_needed B.graph) work)

-- build is told the form: 11 first of all for one that it does not take, and then nothing is altered; the rest as before, at that form
unfoldable pub build_call : ℕ → Input → (work out : ℕ) → Outcome ℕ
unfolding build_answer
build_call form B work out = refuse (not (takes ordinary form)) 11 form (build_answer (form_of form) B work out)

unfoldable pub build_call_output : ℕ → Input → ℕ → List ℕ → List ℕ
unfolding build_output
build_call_output form B work out = cond (takes ordinary form) (build_output (form_of form) B work out) out

unfoldable pub build_call_work : ℕ → Input → List ℕ → List ℕ
unfolding build_work
build_call_work form B work = cond (takes ordinary form) (build_work (form_of form) B work) work

-- The calls on stored bytes.

-- the words that a call is lent beside bytes of a form: 16n + 4c + 64, and none where the numbers are of 16 bits
abbrev pub words_for : ℕ → Counts → ℕ
words_for width a = cond (eqb width 2) 0 (16 * a.n + 4 * a.c + 64)

abbrev pub words_in : List ℕ → ℕ
words_in b = words_for (form_of (header_at b 0)).width (counts_in b)

-- 10 to 13, then 6, for bytes, and marks and words of these lengths
abbrev pub form_checks : FormsTaken → List ℕ → (marks work : ℕ) → List Check
form_checks T b marks work =
    let form : ℕ = header_at b 0 in
    let a : Counts = counts_in b in
    check (ltb (length b) header_length) 10 0
    ∷ check (not (takes T form)) 11 form
    ∷ check (not (counts_fit (form_of form) a) || not (offsets_fit (form_of form) a b)) 12 0
    ∷ check (ltb marks a.n) 13 a.n
    ∷ check (ltb work (words_in b)) 6 (words_in b)
    ∷ []

-- 15
abbrev pub contents_check : List ℕ → Check
contents_check b = check (not (contents_sound (form_of (header_at b 0)) b)) 15 0

-- the index that bytes of their form hold
abbrev pub index_in : List ℕ → Index
index_in b = decode (form_of (header_at b 0)) b

-- marks after a call whose checks before 15 are these: unchanged where one of them applies, otherwise 0 below n
abbrev pub marks_after : List Check → List ℕ → List ℕ → List ℕ
marks_after early b marks = cond (any_applies early) marks (cleared (counts_in b).n marks)

-- and the words: unchanged, or those needed at 0 and later words untouched
abbrev pub work_after : List Check → List ℕ → List ℕ → List ℕ
work_after early b work = cond (any_applies early) work (cleared (words_in b) work)

-- open: n, k, c and d
unfoldable pub open_answer : FormsTaken → List ℕ → (marks work : ℕ) → Outcome Counts
unfolding contents_sound
open_answer T b marks work = outcome (form_checks T b marks work ++ (contents_check b ∷ [])) (counts_in b)

unfoldable pub open_marks : FormsTaken → List ℕ → (marks : List ℕ) → (work : ℕ) → List ℕ
open_marks T b marks work = marks_after (form_checks T b (length marks) work) b marks

unfoldable pub open_work : FormsTaken → List ℕ → (marks : ℕ) → (work : List ℕ) → List ℕ
open_work T b marks work = work_after (form_checks T b marks (length work)) b work

-- ask: yes or no, the reason, the number of groups opened, and the number of the labelling that decided (0 where none did)
pub record Said : Type 0 where
  pub says : Bool
  pub reason : ℕ
  pub opened : ℕ
  pub deciding : ℕ

abbrev pub said_of : Answer → Said
said_of a = record { says = a.says; reason = a.reason; opened = a.opened; deciding = a.deciding }

-- 14: vertex n or more, source first
abbrev pub ask_early : FormsTaken → List ℕ → (source target marks work : ℕ) → List Check
ask_early T b source target marks work =
    form_checks T b marks work ++ (check (leb (counts_in b).n source) 14 0 ∷ check (leb (counts_in b).n target) 14 1 ∷ [])

unfoldable pub ask_answer : FormsTaken → List ℕ → (source target marks work : ℕ) → Outcome Said
unfolding contents_sound answer decode
ask_answer T b source target marks work =
    outcome (ask_early T b source target marks work ++ (contents_check b ∷ [])) (said_of (answer (index_in b) source target))

-- marks after a question: those of the answer below n, where there is one
unfoldable pub ask_marks : FormsTaken → List ℕ → (source target : ℕ) → (marks : List ℕ) → (work : ℕ) → List ℕ
unfolding contents_sound answer decode
ask_marks T b source target marks work =
    cond (any_applies (ask_early T b source target (length marks) work ++ (contents_check b ∷ [])))
    (marks_after (ask_early T b source target (length marks) work) b marks)
    ((answer (index_in b) source target).marks ++ drop (counts_in b).n marks)

unfoldable pub ask_work : FormsTaken → List ℕ → (source target marks : ℕ) → (work : List ℕ) → List ℕ
ask_work T b source target marks work = work_after (ask_early T b source target marks (length work)) b work

-- list: the vertices downstream of a vertex
abbrev pub list_early : FormsTaken → List ℕ → (vertex marks work : ℕ) → List Check
list_early T b vertex marks work = form_checks T b marks work ++ (check (leb (counts_in b).n vertex) 14 0 ∷ [])

abbrev pub list_late : List ℕ → (vertex out : ℕ) → List Check
list_late b vertex out =
    let count : ℕ = length (downstream (index_in b) vertex) in
    contents_check b ∷ check (ltb out count) 16 count ∷ []

-- their count
unfoldable pub list_answer : FormsTaken → List ℕ → (vertex marks work out : ℕ) → Outcome ℕ
unfolding contents_sound downstream decode
list_answer T b vertex marks work out =
    outcome (list_early T b vertex marks work ++ list_late b vertex out) (length (downstream (index_in b) vertex))

-- the out list: unchanged by every refusal; the list behind the vertices is untouched
unfoldable pub list_output : FormsTaken → List ℕ → (vertex marks work : ℕ) → (out : List ℕ) → List ℕ
unfolding contents_sound downstream decode
list_output T b vertex marks work out =
    let found : List ℕ = downstream (index_in b) vertex in
    cond (any_applies (list_early T b vertex marks work ++ list_late b vertex (length out))) out (found ++ drop (length found) out)

unfoldable pub list_marks : FormsTaken → List ℕ → (vertex : ℕ) → (marks : List ℕ) → (work : ℕ) → List ℕ
list_marks T b vertex marks work = marks_after (list_early T b vertex (length marks) work) b marks

unfoldable pub list_work : FormsTaken → List ℕ → (vertex marks : ℕ) → (work : List ℕ) → List ℕ
list_work T b vertex marks work = work_after (list_early T b vertex marks (length work)) b work
