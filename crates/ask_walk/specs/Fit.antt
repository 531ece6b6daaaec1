-- The sections that the walk is lent: the net that they hold, and what is asked of them.
use Rattle.std.specs.Prelude.{Bool, true, false, not, cond, ◌≡◌, List, [], ℕ, ◌+◌, ◌*◌, ◌/◌, ◌<◌, ◌≤◌, eqb, leb, length, get_or}
use Rattle.lineage.specs.Numbers.{num_at, numbers}
use Rattle.lineage.specs.Index.{Index}
use Rattle.lineage.specs.Walk.{Net, marked}
use Rattle.lineage.specs.Question.{rule2, rule3, rule4, net_of}
use Rattle.stored.specs.Sections.{children_in, Labellings, labels_in}
use Rattle.ask_walk.specs.Stamps.{seen_as, Under}

-- how many numbers of w bytes a stretch holds, and all of them
abbrev pub count : ℕ → List ℕ → ℕ
count w s = length s / w

abbrev pub all : ℕ → List ℕ → List ℕ
all w s = numbers w s (count w s)

-- the index that the sections hold, but for the names, which no net looks at
abbrev pub groups_in : (w k d : ℕ) → (groups levels starts children labels : List ℕ) → Index
groups_in w k d groups levels starts children labels = record {
  names = [];
  groups = numbers w groups k;
  levels = numbers w levels k;
  children = children_in w starts children k (count w children);
  labels = labels_in w 3 labels k d;
}

-- what the walk towards t goes by
unfoldable pub net_in : (w k d t : ℕ) → (groups levels starts children labels : List ℕ) → Net
net_in w k d t groups levels starts children labels = net_of (groups_in w k d groups levels starts children labels) t

-- h is passed over before any labelling is read: its level is not above t's and it is not t, or it is already opened
abbrev pub skips : (w t : ℕ) → (groups levels marks : List ℕ) → ℕ → Bool
skips w t groups levels marks h =
    cond (leb (num_at w levels h) (num_at w levels t)) (not (eqb h t)) (eqb (get_or marks (num_at w groups h) 0) 1)

-- rule 2 says yes of t; and what it says yes of, 4 does not rule out, nor does 3 unless it is t
pub record Sure (I : Index) (k t : ℕ) : Type 0 where
  pub home : rule2 I t t ≡ true
  pub not_3 : (h : ℕ) → h < k → rule2 I h t ≡ true → (h ≡ t → ⊥) → rule3 I h t ≡ false
  pub not_4 : (h : ℕ) → h < k → rule2 I h t ≡ true → rule4 I h t ≡ false

-- no group of which rule 2 says yes is marked
pub record Safe (N : Net) (k : ℕ) (m : List ℕ) : Type 0 where
  pub each : (p : ℕ) → p < k → N.yes p ≡ true → marked N m p ≡ false

-- the marks of a walk with this stamp: none is above it, and no group of which rule 2 says yes bears it
pub record Marks (N : Net) (k stamp : ℕ) (m : List ℕ) : Type 0 where
  pub under : Under (stamp + 1) m
  pub safe : Safe N k (seen_as stamp m)

-- g may be opened: a place of a level not above L, whose mark does not bear the stamp, and of which rule 2 does not say yes
pub record Fresh (N : Net) (w k L stamp : ℕ) (groups levels m : List ℕ) (g : ℕ) : Type 0 where
  pub low : g < k
  pub level : num_at w levels g ≤ L
  pub unmarked : get_or m (num_at w groups g) 0 ≡ stamp → ⊥
  pub missed : N.yes g ≡ false

-- each section holds its numbers, child starts rise within the children, children are places of lower levels, and each group's mark is one of its own among
-- so many; t is a place, and the rules agree about it
pub record Fit (w k d t : ℕ) (groups levels starts children labels : List ℕ) (marks : ℕ) : Type 0 where
  pub labelled : Labellings w 3 labels k d
  pub target_low : t < k
  pub groups_long : w * k ≤ length groups
  pub levels_long : w * k ≤ length levels
  pub starts_long : w * (k + 1) ≤ length starts
  pub start_rises : (p : ℕ) → p < k → num_at w starts p ≤ num_at w starts (p + 1)
  pub end_low : (p : ℕ) → p < k → num_at w starts (p + 1) ≤ count w children
  pub child_low : (p i : ℕ) → p < k → num_at w starts p ≤ i → i < num_at w starts (p + 1) → num_at w children i < k
  pub level_falls : (p i : ℕ) → p < k → num_at w starts p ≤ i → i < num_at w starts (p + 1) → num_at w levels (num_at w children i) < num_at w levels p
  pub name_low : (p : ℕ) → p < k → num_at w groups p < marks
  pub name_one : (p q : ℕ) → p < k → q < k → num_at w groups p ≡ num_at w groups q → p ≡ q
  pub sure : Sure (groups_in w k d groups levels starts children labels) k t

-- a row of whole numbers, each a place of a level below L
pub record Below (w k L : ℕ) (levels row : List ℕ) : Type 0 where
  pub whole : length row ≡ w * count w row
  pub child_low : (i : ℕ) → i < count w row → num_at w row i < k
  pub level_low : (i : ℕ) → i < count w row → num_at w levels (num_at w row i) < L
