-- The local tests of an index as facts, one for each test that `sound` of lineage computes.
use Rattle.std.specs.Prelude.{Bool, true, ◌≡◌, List, [], map, ℕ, suc, ◌-◌, ◌<◌, ◌≤◌, length, get_or}
use Rattle.lineage.specs.Lists.{least, greatest, Every}
use Rattle.lineage.specs.Graph.{group_list}
use Rattle.lineage.specs.Labels.{nobodys_child, Labelling}
use Rattle.lineage.specs.Index.{Index}
use Rattle.lineage.specs.Sound.{child_of}

-- the left walk over ranks, from hi down to lo: the place at the rank it stands at passes the test, and it goes on to the left of that place's inner
-- interval; it ends at lo exactly
pub data LeftWalk (l : Labelling) (test : ℕ → Bool) : ℕ → ℕ → Type 0 where
  arrived : {q : ℕ} → LeftWalk l test q q
  left :
      {q lo : ℕ}
      → test (get_or l.by_rank q 0) ≡ true
      → LeftWalk l test (get_or l.m (get_or l.by_rank q 0) 0 - 1) lo
      → LeftWalk l test (suc q) lo

-- one labelling over given children: s, m, e by place and the places by rank are as long as there are places
pub record SoundLabelling (children : List (List ℕ)) (l : Labelling) : Type 0 where
  pub s_long : length l.s ≡ length children
  pub m_long : length l.m ≡ length children
  pub e_long : length l.e ≡ length children
  pub at_long : length l.by_rank ≡ length children
  -- the place at each rank has that rank
  pub at_low : (r : ℕ) → r < length children → get_or l.by_rank r 0 < length children
  pub e_at : (r : ℕ) → r < length children → get_or l.e (get_or l.by_rank r 0) 0 ≡ suc r
  -- e falls along children; s is the least of the group's own e and its children's s
  pub falls : (p q : ℕ) → p < length children → child_of children p q ≡ true → get_or l.e q 0 < get_or l.e p 0
  pub outer_is : (p : ℕ) → p < length children → get_or l.s p 0 ≡ least (get_or l.e p 0) (map (λ q. get_or l.s q 0) (get_or children p []))
  -- m is a rank not above e; a group's inner interval is its own rank and, side by side, those of children of it; all ranks are, side by side, the
  -- inner intervals of groups that are nobody's child
  pub m_low : (p : ℕ) → p < length children → 1 ≤ get_or l.m p 0
  pub m_high : (p : ℕ) → p < length children → get_or l.m p 0 ≤ get_or l.e p 0
  pub blocks : (p : ℕ) → p < length children → LeftWalk l (child_of children p) (get_or l.e p 0 - 1) (get_or l.m p 0 - 1)
  pub roots : LeftWalk l (nobodys_child children) (length children) 0

-- a name is not above its vertex and is its own name; the group list is all names, rising; children are places, rising; levels by their equation
pub record SoundGroups (names groups levels : List ℕ) (children : List (List ℕ)) : Type 0 where
  pub name_low : (v : ℕ) → v < length names → get_or names v 0 ≤ v
  pub name_own : (v : ℕ) → v < length names → get_or names (get_or names v 0) 0 ≡ get_or names v 0
  pub groups_are_lem : groups ≡ group_list names
  pub children_long : length children ≡ length groups
  pub child_low : (p i : ℕ) → p < length children → i < length (get_or children p []) → get_or (get_or children p []) i 0 < length children
  pub child_rises :
      (p i : ℕ) → p < length children → suc i < length (get_or children p [])
      → get_or (get_or children p []) i 0 < get_or (get_or children p []) (suc i) 0
  pub levels_long : length levels ≡ length children
  pub level_is : (p : ℕ) → p < length children → get_or levels p 0 ≡ greatest (map (λ q. suc (get_or levels q 0)) (get_or children p []))

-- an index that passes all tests
pub record Sound (I : Index) : Type 0 where
  pub condensed : SoundGroups I.names I.groups I.levels I.children
  pub labelled : Every (SoundLabelling I.children) I.labels
