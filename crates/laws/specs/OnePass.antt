-- Groups by one traversal, as a fold over the traversal. It carries the vertices that are entered and have no group yet, as they were entered (the stack), the groups that
-- are found, and of the vertex that is open last the low: the least number of what was come upon below it, where a vertex's number is one more than its place on the stack. Where
-- that is the vertex's own number when it is left, all from its place on is its group; else its vertices stay on the stack, and its low is passed to the vertex below.
use Rattle.std.specs.Prelude.{Bool, true, false, ◌≡◌, List, [], ◌∷◌, ◌++◌, ℕ, suc, min, ◌≤◌, ◌<◌, eqb, length, get_or, drop}
use Rattle.lineage.specs.Lists.{among, position, least}
use Rattle.lineage.specs.Labels.{Forest}
use Rattle.laws.specs.Leads.{Leads}
use Rattle.laws.specs.Visits.{Visits, over, skip, enter}

pub record Stage : Type 0 where
  pub stack : List ℕ
  pub groups : List (List ℕ)
  pub low : ℕ

-- a seen vertex is come upon: one that has a group is not on the stack, and is then above the low
abbrev pub lowered : ℕ → Stage → Stage
lowered q s = record { stack = s.stack; groups = s.groups; low = min s.low (suc (position q s.stack)) }

-- an unseen vertex is entered
abbrev pub opened : ℕ → Stage → Stage
opened p s = record { stack = s.stack ++ (p ∷ []); groups = s.groups; low = suc (length s.stack) }

-- a vertex is left, which was entered at s: its low is its own number, or is not
abbrev pub left_by : Bool → Stage → Stage → Stage
left_by true s t = record { stack = s.stack; groups = drop (length s.stack) t.stack ∷ t.groups; low = min s.low t.low }
left_by false s t = record { stack = t.stack; groups = t.groups; low = min s.low t.low }

abbrev pub left : Stage → Stage → Stage
left s t = left_by (eqb t.low (suc (length s.stack))) s t

abbrev pub stage_after : {next : ℕ → List ℕ} {todo seen : List ℕ} {f : Forest} → Visits next todo seen f → Stage → Stage
stage_after over s = s
stage_after (skip {p = p} a r) s = stage_after r (lowered p s)
stage_after (enter {p = p} a r t) s = stage_after t (left s (stage_after r (opened p s)))

-- before the first vertex
abbrev pub at_first : Stage
at_first = record { stack = []; groups = []; low = 0 }

-- the groups that a traversal from its roots finds
abbrev pub groups_from : {next : ℕ → List ℕ} {roots : List ℕ} {f : Forest} → Visits next roots [] f → List (List ℕ)
groups_from visits = (stage_after visits at_first).groups

-- two numbers stand in the same list
pub data Together : List (List ℕ) → ℕ → ℕ → Type 0 where
  both : {t : List ℕ} {ts : List (List ℕ)} {u v : ℕ} → among u t ≡ true → among v t ≡ true → Together (t ∷ ts) u v
  beyond : {t : List ℕ} {ts : List (List ℕ)} {u v : ℕ} → Together ts u v → Together (t ∷ ts) u v

-- exactly one of the lists holds v
abbrev pub OnlyOne : List (List ℕ) → ℕ → Type 0
OnlyOne ts v = (i : ℕ) × (i < length ts) × (among v (get_or ts i []) ≡ true) × ((j : ℕ) → among v (get_or ts j []) ≡ true → j ≡ i)

-- the least number of a list that is not empty
abbrev pub least_of : List ℕ → ℕ
least_of xs = least (get_or xs 0 0) xs

-- the least of the list that holds v
abbrev pub name_in : List (List ℕ) → ℕ → ℕ
name_in [] v = v
name_in (t ∷ ts) v = elim (among v t) [ true ↦ least_of t | false ↦ name_in ts v ]

-- of each root the name is the least of what it reaches and is reached from
pub record GroupNames (next : ℕ → List ℕ) (roots names : List ℕ) : Type 0 where
  pub there : (v : ℕ) → among v roots ≡ true → Leads next v (get_or names v 0)
  pub back : (v : ℕ) → among v roots ≡ true → Leads next (get_or names v 0) v
  pub least : (v u : ℕ) → among v roots ≡ true → Leads next v u → Leads next u v → get_or names v 0 ≤ u
