-- What is asked of lent stretches: they hold as many numbers as the counts say, within form 2's bounds; and the rows of children that have passed their tests.
use Rattle.std.specs.Prelude.{true, ◌≡◌, List, ℕ, ◌+◌, ◌*◌, ◌≤◌, ◌<◌, length}
use Rattle.lineage.specs.Lists.{all_below}
use Rattle.lineage.specs.Numbers.{Width, num_at, numbers}
use Rattle.lineage.specs.Sound.{row_passes, starts_pass}
use Rattle.numbers.specs.Bounds.{entry_bound}
use Rattle.stored.specs.Sections.{children_in}

-- a stretch holds a count of numbers of w bytes
pub record Holds (w : ℕ) (stretch : List ℕ) (count : ℕ) : Type 0 where
  pub width : Width w
  pub long : w * count ≤ length stretch
  pub few : count ≤ entry_bound

-- a stretch holds the child starts of k groups
pub record Starts (w : ℕ) (starts : List ℕ) (k : ℕ) : Type 0 where
  pub held : Holds w starts (k + 1)

-- and they have passed their test, c being the number of child entries
pub record Rows (w : ℕ) (starts : List ℕ) (k c : ℕ) : Type 0 where
  pub starts_held : Starts w starts k
  pub passed : starts_pass (numbers w starts (k + 1)) k c ≡ true

-- the children of group p are the len entries from position `from` on
pub record Row (w : ℕ) (starts : List ℕ) (k c p from len : ℕ) : Type 0 where
  pub low : p < k
  pub begins : from ≡ num_at w starts p
  pub ends : from + len ≡ num_at w starts (p + 1)
  pub within : from + len ≤ c

-- the children of k groups, c entries in all, with their starts
pub record Children (w : ℕ) (starts children : List ℕ) (k c : ℕ) : Type 0 where
  pub rows : Rows w starts k c
  pub held : Holds w children c

-- and the rows have passed their test: children are places, strictly rising
pub record Places (w : ℕ) (starts children : List ℕ) (k c : ℕ) : Type 0 where
  pub entries : Children w starts children k c
  pub passed : all_below k (row_passes (children_in w starts children k c)) ≡ true
