-- Demand 2: groups, levels, labels and walk are GRAIL's as document 01 states them; yes exactly when a path of zero or more edges exists. A group is named by its
-- smallest vertex. What is stored opens again with the same answers, and bytes open only if some edge list, of any length, and some orders would have produced
-- exactly those bytes. All of it at every form: what a call takes is T, the bytes name their form.
use Rattle.std.specs.Prelude.{true, ◌↔◌, ◌≡◌, List, ◌++◌, ℕ, ◌<◌, ◌≤◌, length, take, drop, Result}
use Rattle.lineage.specs.Lists.{Every}
use Rattle.lineage.specs.Graph.{Graph, turned_graph, Ends, Reaches}
use Rattle.lineage.specs.Labels.{Order}
use Rattle.lineage.specs.Index.{Index, index_of}
use Rattle.lineage.specs.Stored.{Form, form3, form4, Counts, counts_of, counts_fit, encode, header_at, counts_in, form_of}
use Rattle.lineage.specs.Question.{place_in, answer}
use Rattle.lineage.specs.Sound.{is_tree}
use Rattle.lineage.specs.Calls.{answered, FormsTaken, host, ordinary, hierarchy, takes, words_in, Input, turned_input, orders_of, length_of, index_in, Said, said_of}
use Rattle.laws_answers.specs.Answers.{Holds, Opened, Marked}
use Rattle.numbers.proofs.Written.{Bytes}
use Rattle.refusals.specs.declared.Refusal.{Refusal}
use Rattle.build.specs.Admitted.{Admitted}
use Rattle.build.specs.Answers.{built_of}
use Rattle.build.proofs.Theorems as build
use Rattle.build.proofs.Hierarchy as plain
use Rattle.open.specs.declared.Opened.{Opened as OpenAnswer}
use Rattle.open.specs.Opened.{opened_of}
use Rattle.open.specs.Yields.{Yields}
use Rattle.open.proofs.Theorem as opening
use Rattle.ask.specs.declared.Asked.{Asked}
use Rattle.ask.specs.Asked.{asked_of}
use Rattle.ask.proofs.Theorems as ask
use Rattle.face.specs.declared.DrobistenAsked.{DrobistenAsked}
use Rattle.turned.proofs.Theorems as turning
use Rattle.face.proofs.Theorems as face
use Rattle.demands.specs.Grail.{Grail}

-- the form that bytes are of
abbrev pub form_in : List ℕ → Form
form_in b = form_of (header_at b 0)

-- a finished build from a graph under some orders, at some form, left these bytes, by what its contract allows
pub record Builds (G : Graph) (orders : List (List ℕ)) (b : List ℕ) : Type 0 where
  pub form : ℕ
  pub input : Input
  pub work : List ℕ
  pub out : List ℕ
  pub r : Result ℕ Refusal
  pub work' : List ℕ
  pub out' : List ℕ
  pub allowed : build.Allowed form input work out r work' out'
  pub total : ℕ
  pub finished : built_of r ≡ answered total
  pub from_graph : input.graph ≡ G
  pub from_orders : orders_of input ≡ orders
  pub left : take total out' ≡ b

-- a question from u to v on the index I of a graph G: what is answered, and the marks left
pub record Right (G : Graph) (I : Index) (u v : ℕ) (marks : List ℕ) (r : Result Asked Refusal) (m : List ℕ) : Type 0 where
  -- the answer and the marks of document 01, "A question"
  pub said : asked_of r ≡ answered (said_of (answer I u v))
  pub marked : m ≡ (answer I u v).marks ++ drop G.n marks
  -- yes exactly when a path of zero or more edges exists
  pub path : ((answer I u v).says ≡ true) ↔ Reaches G u v
  -- the first rule that holds decides
  pub rule : Holds I (place_in I u) (place_in I v) (answer I u v).reason
  pub none_before : (q : ℕ) → q < (answer I u v).reason → Holds I (place_in I u) (place_in I v) q → ⊥
  -- the groups that the walk opens are counted and marked, each once
  pub walk : (o : List ℕ) × Opened I (place_in I u) (place_in I v) (answer I u v).reason o × Marked I o (answer I u v)

-- the bytes are those of the index of a graph under some orders
pub record Stored (G : Graph) (orders : List (List ℕ)) (b : List ℕ) : Type 0 where
  pub ends : Ends G
  pub permuted : Every (Order G.n) orders
  pub bytes : encode (form_in b) (index_of G orders) ≡ b
  pub holds : index_of G orders ≡ index_in b
  -- its groups, levels and labels are GRAIL's
  pub grail : Grail G orders (index_in b)
  -- it opens, by every call that takes its form
  pub opens : (T : FormsTaken) (marks work : List ℕ) (r : Result OpenAnswer Refusal) (m w : List ℕ) → takes T (header_at b 0) ≡ true
      → G.n ≤ length marks
      → words_in b ≤ length work
      → opening.Allowed T b marks work r m w
      → opened_of r ≡ answered (counts_of (index_of G orders))
  -- every question between vertices is answered, and rightly; the host's too, which takes form 1
  pub asks : (T : FormsTaken) (u v : ℕ) (marks work : List ℕ) (r : Result Asked Refusal) (m w : List ℕ) → takes T (header_at b 0) ≡ true
      → u < G.n
      → v < G.n
      → G.n ≤ length marks
      → words_in b ≤ length work
      → ask.Allowed T b u v marks work r m w
      → Right G (index_of G orders) u v marks r m
  pub host_asks : (u v : ℕ) (marks : List ℕ) (r : DrobistenAsked) (m : List ℕ) → takes host (header_at b 0) ≡ true
      → u < G.n
      → v < G.n
      → G.n ≤ length marks
      → face.Asks b u v marks r m
      → (r.refusal ≡ 0) × ((r.yes ≡ 1) ↔ Reaches G u v)

pub record AsGrail : Type 0 where
  -- edges between vertices and orders within the bounds of a form that is taken, with room for work and output, are built
  pub finishes : {form : ℕ} {B : Input} {work out : List ℕ} {r : Result ℕ Refusal} {work' out' : List ℕ} → build.Allowed form B work out r work' out'
      → takes ordinary form ≡ true
      → Admitted (form_of form) B (length work)
      → Every (Order B.graph.n) (orders_of B)
      → length_of (form_of form) (index_of B.graph (orders_of B)) ≤ length out
      → built_of r ≡ answered (length_of (form_of form) (index_of B.graph (orders_of B)))
  -- what a finished build leaves is a stored index of its edge list under its orders
  pub built : {G : Graph} {orders : List (List ℕ)} {b : List ℕ} → Builds G orders b → Stored G orders b
  -- turned edges and orders within form 3's bounds are built, and what is left is a stored index of the turned edge list
  pub finishes_turned : {B : Input} {work out : List ℕ} {r : Result ℕ Refusal} {work' out' : List ℕ} → turning.Allowed B work out r work' out'
      → Admitted form3 (turned_input B) (length work)
      → Every (Order B.graph.n) (orders_of B)
      → length_of form3 (index_of (turned_graph B.graph) (orders_of B)) ≤ length out
      → built_of r ≡ answered (length_of form3 (index_of (turned_graph B.graph) (orders_of B)))
  pub built_turned : {B : Input} {work out : List ℕ} {r : Result ℕ Refusal} {work' out' : List ℕ} {total : ℕ} → turning.Allowed B work out r work' out'
      → built_of r ≡ answered total
      → Stored (turned_graph B.graph) (orders_of B) (take total out')
  -- a plain hierarchy under one order within form 4's bounds is built, and what is left is a stored index of its edge list
  pub finishes_hierarchy : {B : Input} {work out : List ℕ} {r : Result ℕ Refusal} {work' out' : List ℕ} → plain.Allowed B work out r work' out'
      → Admitted form4 B (length work)
      → Every (Order B.graph.n) (orders_of B)
      → is_tree (index_of B.graph (orders_of B)).children ≡ true
      → length_of form4 (index_of B.graph (orders_of B)) ≤ length out
      → built_of r ≡ answered (length_of form4 (index_of B.graph (orders_of B)))
  pub built_hierarchy : {B : Input} {work out : List ℕ} {r : Result ℕ Refusal} {work' out' : List ℕ} {total : ℕ} → plain.Allowed B work out r work' out'
      → built_of r ≡ answered total
      → Stored B.graph (orders_of B) (take total out')
  -- bytes open as a plain hierarchy exactly when some accepted build of one writes them
  pub opened_hierarchy : {b marks work : List ℕ} {r : Result OpenAnswer Refusal} {m w : List ℕ} → Bytes b → (counts_in b).n ≤ length marks → words_in b ≤ length work
      → opening.Allowed hierarchy b marks work r m w
      → ((a : Counts) × (opened_of r ≡ answered a)) ↔ plain.Written b
  -- bytes open exactly when their form is taken and some edge list, of any length, and some orders yield them within the form's bounds
  pub opened : {T : FormsTaken} {b marks work : List ℕ} {r : Result OpenAnswer Refusal} {m w : List ℕ} → Bytes b → (counts_in b).n ≤ length marks → words_in b ≤ length work
      → opening.Allowed T b marks work r m w
      → ((a : Counts) × (opened_of r ≡ answered a))
      ↔ ((takes T (header_at b 0) ≡ true) × ((Y : Yields (form_in b) b) × (counts_fit (form_in b) (counts_of (index_of Y.graph Y.orders)) ≡ true)))
  -- bytes that open are a stored index of whatever edge list and d orders yield them (without a vertex 2^32 orders more would yield them too)
  pub yielded : {T : FormsTaken} {b marks work : List ℕ} {r : Result OpenAnswer Refusal} {m w : List ℕ} {a : Counts} → opening.Allowed T b marks work r m w → opened_of r ≡ answered a
      → (Y : Yields (form_in b) b)
      → length Y.orders ≡ a.d
      → Stored Y.graph Y.orders b
  -- they answer every question between their vertices, with the marks that the definition gives
  pub answers : {T : FormsTaken} {b marks work : List ℕ} {r : Result OpenAnswer Refusal} {m w : List ℕ} {a : Counts} → opening.Allowed T b marks work r m w → opened_of r ≡ answered a
      → {u v : ℕ} {marks' work' : List ℕ} {r' : Result Asked Refusal} {m' w' : List ℕ} → u < a.n → v < a.n → a.n ≤ length marks'
      → words_in b ≤ length work'
      → ask.Allowed T b u v marks' work' r' m' w'
      → (asked_of r' ≡ answered (said_of (answer (index_in b) u v))) × (m' ≡ (answer (index_in b) u v).marks ++ drop a.n marks')
  -- an answer is yes exactly when a path of zero or more edges exists, in whatever edge list yields the bytes under whatever orders; the host's too
  pub path : {T : FormsTaken} {b : List ℕ} {u v : ℕ} {marks work : List ℕ} {r : Result Asked Refusal} {m w : List ℕ} {s : Said} → ask.Allowed T b u v marks work r m w
      → asked_of r ≡ answered s
      → (Y : Yields (form_in b) b)
      → (s.says ≡ true) ↔ Reaches Y.graph u v
  pub host_path : {b : List ℕ} {u v : ℕ} {marks : List ℕ} {r : DrobistenAsked} {m : List ℕ} → face.Asks b u v marks r m → r.refusal ≡ 0
      → (Y : Yields (form_in b) b)
      → (r.yes ≡ 1) ↔ Reaches Y.graph u v
