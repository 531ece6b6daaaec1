-- Steps down marked groups: what is asked of the marks, and what of the steps is still to be written.
use Rattle.std.specs.Prelude.{Bool, true, ◌≡◌, List, [], ℕ, suc, ◌+◌, ◌≤◌, ◌<◌, eqb, length, get_or}
use Rattle.lineage.specs.Lists.{first_of}
use Rattle.numbers.specs.Put.{put}
use Rattle.reach_sweep.specs.declared.groups.Groups.{Groups}
use Rattle.reach_sweep.specs.Fit.{names_of, children_of}
use Rattle.reach_sweep.specs.Sweep.{marked}
use Rattle.chain_steps.specs.Chain.{onward, steps_by}

-- the lowest marked child of p; k where none is marked
unfoldable pub next_in : Groups → (marks : List ℕ) → ℕ → ℕ
next_in g marks p = first_of (marked (names_of g) marks) (get_or (children_of g) p []) g.rows.k

-- p is good and at most `lev` high; from a good place other than the target the next one is good, and lower
pub record Trail (k : ℕ) (good : ℕ → Bool) (next : ℕ → ℕ) (t p lev : ℕ) : Type 0 where
  pub low : p < k
  pub here : good p ≡ true
  pub height : ℕ → ℕ
  pub within : height p ≤ lev
  pub on : (q : ℕ) → q < k → good q ≡ true → (q ≡ t → ⊥) → (next q < k) × ((good (next q) ≡ true) × (height (next q) < height q))

-- good are the marked groups, next is the lowest marked child
abbrev pub TrailIn : Groups → (marks : List ℕ) → (t p lev : ℕ) → Type 0
TrailIn g marks t p lev = Trail g.rows.k (marked (names_of g) marks) (next_in g marks) t p lev

abbrev pub steps_in : Groups → (marks : List ℕ) → (t f p : ℕ) → List ℕ
steps_in g marks t f p = steps_by (names_of g) (next_in g marks) t f p

-- of the names `all`, to be written from `from` on, those of `rest` are left, from `at` on
pub record Left (before : List ℕ) (from : ℕ) (all out : List ℕ) (at : ℕ) (rest : List ℕ) : Type 0 where
  pub long : length out ≡ length before
  pub comes : put out at rest ≡ put before from all
  pub ends : at + length rest ≡ from + length all

-- a run of steps from p, at most `lev` high, has stopped, no lower than the floor: what is left is what follows from the place where it stopped
pub record Stopped
    (k : ℕ) (good : ℕ → Bool) (names : List ℕ) (next : ℕ → ℕ) (t p lev floor at : ℕ) (before after : List ℕ) (place level behind : ℕ)
    : Type 0 where
  pub left : Left before at (steps_by names next t (suc lev) p) after behind (onward (eqb place t) (steps_by names next t level) (next place))
  pub trail : Trail k good next t place level
  pub fewer : level ≤ lev
  pub above : floor ≤ lev → floor ≤ level

abbrev pub StoppedIn : Groups → (marks : List ℕ) → (t p lev floor at : ℕ) → (before after : List ℕ) → (place level behind : ℕ) → Type 0
StoppedIn g marks t p lev floor at before after place level behind =
    Stopped g.rows.k (marked (names_of g) marks) (names_of g) (next_in g marks) t p lev floor at before after place level behind
