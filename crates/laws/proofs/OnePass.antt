-- Groups by one traversal. At its end nothing is on the stack: no vertex is open, so nothing reaches one. All that the traversal started from stands in a group, each vertex in
-- one only, and what stands in a group is what reaches its vertices and is reached by them: the least of them is the name of each. This holds whatever the sequence in the rows.
use mathlib.Core.Bool.{Bool, true, false, false≢true}
use mathlib.Core.Logic.{◌⊎◌, inl, inr, ◌↔◌}
use mathlib.Core.Path.{◌≡◌, refl, sym, ap, ◌∙◌}
use mathlib.Core.List.{List, [], ◌∷◌}
use Prim.Native.Nat.{ℕ, zero, suc, ◌≤◌, ◌<◌}
use native.Mathlib.Omega.{arith}
use lib.ListN.{length, get_or}
use Rattle.lineage.specs.Lists.{upto, among, joined}
use Rattle.lineage.specs.Graph.{Graph, Ends, name_of, names_of}
use Rattle.lineage.specs.Labels.{Forest, done, visit, after}
use Rattle.laws.specs.Leads.{OneGroup, Mutual}
use Rattle.laws.specs.Visits.{Visits, over, skip, enter}
use Rattle.laws.specs.EdgeRows.{row, EdgeRows}
use Rattle.laws.specs.OnePass.{Stage, stage_after, at_first, groups_from, Together, both, beyond, OnlyOne, least_of, name_in, GroupNames}
use Rattle.laws.specs.Rising.{Distinct}
use Rattle.laws.proofs.Tests.{clash}
use Rattle.laws.proofs.Lists.{among_append, here, here_at, in_append, in_upto, table_is}
use Rattle.laws.proofs.Positions.{least_among, least_is}
use Rattle.laws.proofs.Rising.{distinct_apart, distinct_right}
use Rattle.laws.proofs.Joined.{in_joined}
use Rattle.laws.proofs.Closed.{leads_on}
use Rattle.laws.proofs.Names.{name_smallest, name_low, name_group}
use Rattle.laws.proofs.EdgeRows.{leads_reaches, reaches_leads}
use Rattle.laws.proofs.Stages.{gone, Fine, in_group, on_stack, AllGroups, Good, Through}
use Rattle.laws.proofs.Folded.{folded}

module _ {next : ℕ → List ℕ} {roots : List ℕ} {f : Forest} (visits : Visits next roots [] f) where
  abbrev end : Stage
  end = stage_after visits at_first

  -- no vertex is open
  all : Good next (after f []) end × Through next (λ u. ⊥) (λ u. Unit {0}) roots at_first end
  all =
      folded visits at_first (λ u. ⊥) (λ u. Unit {0})
      (record {
        known = λ q i. absurd (false≢true i);
        stack_seen = λ q i. absurd (false≢true i);
        groups_seen = λ q i. absurd (false≢true i);
        shut = record { inside = λ u w i. absurd (false≢true i) };
        right = tt;
        once = tt;
        low_fits = omega arith;
      })
      (record { all_up = λ u i. absurd (false≢true i); back = λ l c. c; ahead = λ u q c. absurd c; onward = λ l d. tt; start = λ q i. tt })

  pub stack_over : end.stack ≡ []
  stack_over = all.1.grows.stack_is ∙ none all.1.added all.1.up
    where
      none : (xs : List ℕ) → ((u : ℕ) → among u xs ≡ true → ⊥) → xs ≡ []
      none [] never = refl
      none (x ∷ xs) never = absurd (never x (here x xs))

  pub roots_grouped : (v : ℕ) → among v roots ≡ true → among v (gone end) ≡ true
  roots_grouped v i = at (all.1.tried v i)
    where
      at : Fine end v → among v (gone end) ≡ true
      at (in_group j) = j
      at (on_stack j l) = absurd (false≢true (rw stack_over at j))

  pub each_right : AllGroups next end.groups
  each_right = all.0.right

  pub each_once : Distinct (gone end)
  each_once = rw stack_over at all.0.once

-- two stand in one list of groups exactly where each reaches the other
together_mutual : {next : ℕ → List ℕ} {ts : List (List ℕ)} {u v : ℕ} → Together ts u v → AllGroups next ts → Mutual next u v
together_mutual {u = u} {v = v} (both i j) g =
    let (x, is) = g.0 in
    let a = (is u).0 i in
    let b = (is v).0 j in
    (leads_on a.1 b.0, leads_on b.1 a.0)
together_mutual (beyond t) g = together_mutual t g.1

mutual_together :
    {next : ℕ → List ℕ} (ts : List (List ℕ)) → AllGroups next ts → (u v : ℕ) → among u (joined ts) ≡ true → Mutual next u v → Together ts u v
mutual_together [] g u v i m = absurd (false≢true i)
mutual_together (t ∷ ts) g u v i m =
    elim (in_append u t (joined ts) i) [
      | inl j ↦
          let (x, is) = g.0 in
          let a = (is u).0 j in
          both j ((is v).1 (leads_on a.0 m.0, leads_on m.1 a.1))
      | inr j ↦ beyond (mutual_together ts g.1 u v j m)
    ]

-- a number of lists without repeats stands in one of them only
only_one : (ts : List (List ℕ)) (v : ℕ) → Distinct (joined ts) → among v (joined ts) ≡ true → OnlyOne ts v
only_one [] v d h = absurd (false≢true h)
only_one (t ∷ ts) v d h = at (among v t) refl (only_one ts v (distinct_right t (joined ts) d))
  where
    at : (b : Bool) → among v t ≡ b → (among v (joined ts) ≡ true → OnlyOne ts v) → OnlyOne (t ∷ ts) v
    at true e ih = (0, omega arith, e, alone)
      where
        alone : (j : ℕ) → among v (get_or (t ∷ ts) j []) ≡ true → j ≡ 0
        alone zero k = refl
        alone (suc j) k = clash e (distinct_apart t (joined ts) d v (in_joined ts j v k))
    at false e ih = let (i, less, k, alone) = ih (rw (among_append, e) at h) in (suc i, omega arith, k, one_more i alone)
      where
        one_more : (i : ℕ) → ((j : ℕ) → among v (get_or ts j []) ≡ true → j ≡ i) → (j : ℕ) → among v (get_or (t ∷ ts) j []) ≡ true → j ≡ suc i
        one_more i alone zero m = clash m e
        one_more i alone (suc j) m = ap suc (alone j m)

-- the name in the first list, or in those behind it
module _ (v : ℕ) (t : List ℕ) (ts : List (List ℕ)) where
  pub name_here : among v t ≡ true → name_in (t ∷ ts) v ≡ least_of t
  name_here h = rw (h, name_in)

  pub name_there : among v t ≡ false → name_in (t ∷ ts) v ≡ name_in ts v
  name_there h = rw (h, name_in)

least_in : (x : ℕ) (t : List ℕ) → among x t ≡ true → among (least_of t) t ≡ true
least_in x [] i = absurd (false≢true i)
least_in x (y ∷ t) i = elim (least_is y (y ∷ t)) [ inl e ↦ here_at _ y t e | inr j ↦ j ]

-- the name in a list of groups is the least of what its vertex reaches and is reached from
abbrev Least : (ℕ → List ℕ) → ℕ → ℕ → Type 0
Least next v name = Mutual next v name × ((u : ℕ) → Mutual next v u → name ≤ u)

module _ {next : ℕ → List ℕ} where
  in_group_least : (t : List ℕ) (x v : ℕ) → ((u : ℕ) → (among u t ≡ true) ↔ Mutual next x u) → among v t ≡ true → Least next v (least_of t)
  in_group_least t x v is i =
      let m = (is v).0 i in
      let o = (is (least_of t)).0 (least_in v t i) in
      ((leads_on m.1 o.0, leads_on o.1 m.0), λ u k. least_among (get_or t 0 0) u t ((is u).1 (leads_on m.0 k.0, leads_on k.1 m.1)))

  groups_least : (ts : List (List ℕ)) → AllGroups next ts → (v : ℕ) → among v (joined ts) ≡ true → Least next v (name_in ts v)
  groups_least [] g v i = absurd (false≢true i)
  groups_least (t ∷ ts) g v i = at (among v t) refl (in_append v t (joined ts) i) (groups_least ts g.1 v)
    where
      at : (b : Bool) → among v t ≡ b → (among v t ≡ true) ⊎ (among v (joined ts) ≡ true) → (among v (joined ts) ≡ true → Least next v (name_in ts v)) → Least next v (name_in (t ∷ ts) v)
      at true e c ih = let (x, is) = g.0 in rw (name_here v t ts e) (in_group_least t x v is e)
      at false e (inl j) ih = clash j e
      at false e (inr j) ih = rw (name_there v t ts e) (ih j)

  -- so names that are those of the groups found are the names
  pub groups_named :
      {roots : List ℕ} {f : Forest} (visits : Visits next roots [] f) (names : List ℕ)
      → ((v : ℕ) → among v roots ≡ true → get_or names v 0 ≡ name_in (groups_from visits) v) → GroupNames next roots names
  groups_named {roots} visits names is = record { there = λ v i. (named v i).0.0; back = λ v i. (named v i).0.1; least = λ v u i l m. (named v i).1 u (l, m) }
    where
      named : (v : ℕ) → among v roots ≡ true → Least next v (get_or names v 0)
      named v i = rw (is v i) (groups_least (groups_from visits) (each_right visits) v (roots_grouped visits v i))

-- along the edges of a graph, from all its vertices
module _ {G : Graph} (ends : Ends G) {next : ℕ → List ℕ} (N : EdgeRows G next) where
  module _ {f : Forest} (visits : Visits next (upto G.n) [] f) where
    grouped : (v : ℕ) → v < G.n → among v (joined (groups_from visits)) ≡ true
    grouped v h = roots_grouped visits v (in_upto G.n v h)

    -- two vertices stand together exactly where they are in one group
    pub found_are_groups : (u v : ℕ) → u < G.n → v < G.n → Together (groups_from visits) u v ↔ OneGroup G u v
    found_are_groups u v i j = (
      λ t. let m = together_mutual t (each_right visits) in (leads_reaches ends N i m.0, leads_reaches ends N j m.1),
      λ m. mutual_together (groups_from visits) (each_right visits) u v (grouped u i) (reaches_leads ends N m.0, reaches_leads ends N m.1),
    )

    -- each vertex stands in exactly one of the groups found
    pub each_in_one_group : (v : ℕ) → v < G.n → OnlyOne (groups_from visits) v
    each_in_one_group v i = only_one (groups_from visits) v (each_once visits) (grouped v i)

  -- the names are the graph's
  pub names_are : (names : List ℕ) → length names ≡ G.n → GroupNames next (upto G.n) names → names ≡ names_of G
  unfolding names_of
  names_are names long named = sym (table_is (name_of G) names G.n 0 long same)
    where
      same : (v : ℕ) → v < G.n → name_of G v ≡ get_or names v 0
      same v h =
          let i = in_upto G.n v h in
          let (to, from) = name_group G ends v h in
          let l = named.least v (name_of G v) i (reaches_leads ends N to) (reaches_leads ends N from) in
          let low : get_or names v 0 < G.n = omega (arith, l, name_low G ends v h) in
          omega (arith, l, name_smallest G ends v (get_or names v 0) low (leads_reaches ends N h (named.there v i), leads_reaches ends N low (named.back v i)))

-- 0, 1 and 2 reach each other; 3 is only reached
abbrev sample : ℕ → List ℕ
sample = row (0 ∷ 1 ∷ 2 ∷ 2 ∷ []) (1 ∷ 2 ∷ 0 ∷ 3 ∷ [])

sample_visits : Visits sample (upto 4) [] (visit 0 (visit 1 (visit 2 (visit 3 done done) done) done) done)
sample_visits = enter refl (enter refl (enter refl (skip refl (enter refl over over)) over) over) (skip refl (skip refl (skip refl over)))

example : groups_from sample_visits ≡ (0 ∷ 1 ∷ 2 ∷ []) ∷ (3 ∷ []) ∷ []
unfolding sample_visits
example = refl
