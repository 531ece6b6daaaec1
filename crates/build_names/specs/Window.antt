-- The pass in work memory. Six regions of n words from base on: the numbers (0 where a vertex is not seen, one more than its place on the stack, or n where it
-- has a group); the vertices of the frames, the place in the row below to come back to, the low of the vertex below; the stack; and the names.
use Rattle.std.specs.Prelude.{◌≡◌, List, ℕ, suc, ◌+◌, ◌-◌, ◌*◌, ◌^◌, ◌≤◌, ◌<◌, length, get_or, set}
use Rattle.lineage.specs.Lists.{part}
use Rattle.laws.specs.Laid.{Below}
use Rattle.laws.specs.OnePass.{least_of}
use Rattle.numbers.specs.Regions.{Kept, Outside}
use Rattle.numbers.specs.Stamped.{Stamped}
use Rattle.build_traversal.specs.Frames.{framed}

-- v is entered at depth d with this number, at place sp of the stack, to come back to place e; low is that of the vertex below
abbrev pub pushed : List ℕ → ℕ → ℕ → ℕ → ℕ → ℕ → ℕ → ℕ → ℕ → List ℕ
pushed work base n d sp v e low number =
    set (framed work base n d v number e low) (base + 4 * n + sp) v

-- a run of vertices
pub record RunFit (work : List ℕ) (at size base n : ℕ) : Type 0 where
  pub run_there : Outside work at size base n
  pub run_low : Below n (part work at size)
  pub room : base + n ≤ length work

-- the vertices that stand on the stack from begin to sp
abbrev pub group_at : List ℕ → ℕ → ℕ → ℕ → ℕ → List ℕ
group_at work base n begin sp = part work (base + 4 * n + begin) (sp - begin)

pub record TakeFit (work : List ℕ) (base n begin sp : ℕ) : Type 0 where
  pub room : base + 6 * n ≤ length work
  pub some : begin < sp
  pub most : sp ≤ n
  pub low : Below n (group_at work base n begin sp)
  pub few : n < 2 ^ 32

-- they are a group: named by the least of them, and numbered n
pub record Taken (work work' : List ℕ) (base n begin sp : ℕ) : Type 0 where
  pub room : base + 6 * n ≤ length work
  pub most : sp ≤ n
  pub kept : Kept work work' base (6 * n)
  pub between : (at count : ℕ) → base + n ≤ at → at + count ≤ base + 5 * n → part work' at count ≡ part work at count
  pub numbers : Stamped n (group_at work base n begin sp) (part work base n) (part work' base n)
  pub names : Stamped (least_of (group_at work base n begin sp)) (group_at work base n begin sp) (part work (base + 5 * n) n) (part work' (base + 5 * n) n)

-- the vertex of the frame at depth d, and its number
abbrev pub top_of : List ℕ → ℕ → ℕ → ℕ → ℕ
top_of work base n d = get_or work (base + n + d) 0

abbrev pub own_of : List ℕ → ℕ → ℕ → ℕ → ℕ
own_of work base n d = get_or work (base + top_of work base n d) 0

pub record SettleFit (work : List ℕ) (base n d sp : ℕ) : Type 0 where
  pub room : base + 6 * n ≤ length work
  pub frame : d < n
  pub most : sp ≤ n
  pub vertex : top_of work base n d < n
  pub some : 0 < own_of work base n d
  pub on : own_of work base n d ≤ sp
  pub low : Below n (part work (base + 4 * n) sp)
  pub few : n < 2 ^ 32

-- the vertex of the frame at depth d is left: r is how many stand on the stack then
pub data Settled (work work' : List ℕ) (base n d sp low r : ℕ) : Type 0 where
  stays : (own_of work base n d ≡ low → ⊥) → work' ≡ work → r ≡ sp → Settled work work' base n d sp low r
  groups : own_of work base n d ≡ low → Taken work work' base n r sp → own_of work base n d ≡ suc r → Settled work work' base n d sp low r
