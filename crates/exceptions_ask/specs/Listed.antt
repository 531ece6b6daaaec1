-- One list among stored ones, and when it has a place.
use Rattle.std.specs.Prelude.{Bool, ◌&&◌, List, ℕ, ◌+◌, ◌-◌, ◌*◌, ◌/◌, ◌≤◌, ◌<◌, eqb, ltb, length, get_or}
use Rattle.lineage.specs.Lists.{part}
use Rattle.lineage.specs.Numbers.{num_at, numbers}
use Rattle.laws.specs.Rising.{Rises, count_below}

-- where list x starts, and how long it is
abbrev pub start_in : List ℕ → ℕ → ℕ
start_in lists x = num_at 4 lists (x + 2)

abbrev pub long_in : List ℕ → ℕ → ℕ
long_in lists x = num_at 4 lists (x + 3) - start_in lists x

-- its numbers, behind the k + 3 that stand first
unfoldable pub list_in : List ℕ → ℕ → ℕ → List ℕ
unfolding part numbers
list_in lists k x = numbers 4 (part lists (4 * (k + 3 + start_in lists x)) (4 * long_in lists x)) (long_in lists x)

-- the number at the position that halving finds for 2y halves to y
abbrev pub has_place : ℕ → List ℕ → Bool
has_place y list = ltb (count_below (2 * y) list) (length list) && eqb (get_or list (count_below (2 * y) list) 0 / 2) y

-- list x of k lies in the stored bytes, and rises
pub record ListIn (lists : List ℕ) (k x : ℕ) : Type 0 where
  pub few : k ≤ 4096
  pub low : x < k
  pub head : 4 * (k + 3) ≤ length lists
  pub ends : start_in lists x ≤ num_at 4 lists (x + 3)
  pub most : num_at 4 lists (x + 3) ≤ 4096 * 4096
  pub within : 4 * (k + 3 + num_at 4 lists (x + 3)) ≤ length lists
  pub rises : Rises (list_in lists k x)
