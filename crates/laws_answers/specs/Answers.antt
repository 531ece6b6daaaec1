-- What an answer's reason, deciding labelling, count and marks are to say (document 01, "A question"), each told by a relation; x and t are the
-- source's and the target's groups, by place. And what a downstream list is to hold (document 02, [2]).
use Rattle.std.specs.Prelude.{Bool, true, false, cond, ◌≡◌, List, [], ◌∷◌, map, ℕ, suc, ◌<◌, ◌≤◌, length, get_or, replicate}
use Rattle.lineage.specs.Lists.{among, upto, ones}
use Rattle.lineage.specs.Graph.{Graph, Reaches}
use Rattle.lineage.specs.Labels.{Labelling}
use Rattle.lineage.specs.Index.{Index}
use Rattle.lineage.specs.Question.{inside, outside, rule2, rule3, rule4, net_of, walk, Answer}
use Rattle.laws.specs.Leads.{OneGroup}
use Rattle.laws.specs.Rising.{Distinct}
use Rattle.laws_answers.specs.Walks.{nowhere, yes_at, Walks}

-- the marks before a question: n bytes, all 0
abbrev pub no_marks : Index → List ℕ
no_marks I = replicate (length I.names) 0

-- rule number r holds
pub data Holds (I : Index) (x t : ℕ) : ℕ → Type 0 where
  same : x ≡ t → Holds I x t 1
  inner : rule2 I x t ≡ true → Holds I x t 2
  level : rule3 I x t ≡ true → Holds I x t 3
  outer : rule4 I x t ≡ true → Holds I x t 4
  found : (walk I t x (no_marks I)).found ≡ true → Holds I x t 5
  otherwise : Holds I x t 6

-- the labelling at position i, from 0, passes the test, and none before it does
pub record First (p : Labelling → Bool) (ls : List Labelling) (i : ℕ) : Type 0 where
  pub within : i < length ls
  pub passes : (d : Labelling) → p (get_or ls i d) ≡ true
  pub none_before : (d : Labelling) (j : ℕ) → j < i → p (get_or ls j d) ≡ false

-- the deciding number by reason: from 1 the first labelling that passes the test of rule 2 or 4, after a walk at the child that ended it; otherwise 0
pub data Deciding (I : Index) (x t : ℕ) : ℕ → ℕ → Type 0 where
  by_inner : {i : ℕ} → First (inside x t) I.labels i → Deciding I x t 2 (suc i)
  by_outer : {i : ℕ} → First (outside x t) I.labels i → Deciding I x t 4 (suc i)
  by_walk_lem : {h i : ℕ} {o : List ℕ} → Walks (net_of I t) x (yes_at h) o → First (inside h t) I.labels i → Deciding I x t 5 (suc i)
  none_1 : Deciding I x t 1 0
  none_3 : Deciding I x t 3 0
  none_6 : Deciding I x t 6 0

-- the groups opened by reason, the last first: none under 1 to 4, otherwise those of the walk
pub data Opened (I : Index) (x t : ℕ) : ℕ → List ℕ → Type 0 where
  unopened : {r : ℕ} → r ≤ 4 → Opened I x t r []
  finding : {h : ℕ} {o : List ℕ} → Walks (net_of I t) x (yes_at h) o → Opened I x t 5 o
  failing : {o : List ℕ} → Walks (net_of I t) x nowhere o → Opened I x t 6 o

-- n marks: byte i is 1 if i names one of the groups and 0 otherwise
abbrev pub marks_of : Index → List ℕ → List ℕ
marks_of I o = map (λ i. cond (among i (map (λ p. get_or I.groups p 0) o)) 1 0) (upto (length I.names))

-- the groups, each once, are those that an answer counts and marks
pub record Marked (I : Index) (o : List ℕ) (a : Answer) : Type 0 where
  pub once : Distinct o
  pub low : (p : ℕ) → among p o ≡ true → p < length I.children
  -- the count is the number of the groups, and of the marks left
  pub count : a.opened ≡ length o
  pub left : a.opened ≡ ones a.marks
  -- the marks are theirs
  pub marks : a.marks ≡ marks_of I o

-- v is downstream of u: any other vertex that u reaches, and u itself where another vertex is in its group. Each speaks of another vertex, so a self-loop
-- brings neither about
pub data Downstream (G : Graph) (u : ℕ) : ℕ → Type 0 where
  other : {v : ℕ} → (v ≡ u → ⊥) → Reaches G u v → Downstream G u v
  itself : {w : ℕ} → (w ≡ u → ⊥) → OneGroup G u w → Downstream G u u

-- the graph with a self-loop more, at x
abbrev pub looped : Graph → ℕ → Graph
looped G x = record { n = G.n; sources = x ∷ G.sources; targets = x ∷ G.targets }

-- a stands in the list, of orders or of labellings
pub data Member {A : Type 0} (a : A) : List A → Type 0 where
  front : {bs : List A} → Member a (a ∷ bs)
  behind : {b : A} {bs : List A} → Member a bs → Member a (b ∷ bs)

-- b says what a says, opens no group that a does not open, and counts no more
pub record NoMore (a b : Answer) : Type 0 where
  pub says : b.says ≡ a.says
  pub marks : (i : ℕ) → get_or b.marks i 0 ≡ 1 → get_or a.marks i 0 ≡ 1
  pub count : b.opened ≤ a.opened
