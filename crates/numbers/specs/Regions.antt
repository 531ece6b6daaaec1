-- Work memory is one lent buffer, and a pass is lent the whole of it. A region is the list `part work at size`; a pass writes one window and leaves
-- every region that lies below or above it, and it reads only regions outside the window.
use Rattle.std.specs.Prelude.{◌≡◌, List, ℕ, ◌+◌, ◌≤◌, length}
use Rattle.lineage.specs.Lists.{part}

-- work' differs from work only in the size words from base on
pub record Kept (work work' : List ℕ) (base size : ℕ) : Type 0 where
  pub long : length work' ≡ length work
  pub below : (at count : ℕ) → at + count ≤ base → part work' at count ≡ part work at count
  pub above : (at count : ℕ) → base + size ≤ at → part work' at count ≡ part work at count

-- the count words from at on lie below the size words from base on, or above them
pub data Apart (at count base size : ℕ) : Type 0 where
  under : at + count ≤ base → Apart at count base size
  over : base + size ≤ at → Apart at count base size

-- a region that a pass reads: it lies in work, and apart from the window
pub record Outside (work : List ℕ) (at count base size : ℕ) : Type 0 where
  pub fits : at + count ≤ length work
  pub apart : Apart at count base size

-- r is the part of s of this size from position at on, whole
pub record Part (s : List ℕ) (at size : ℕ) (r : List ℕ) : Type 0 where
  pub is : r ≡ part s at size
  pub long : length r ≡ size
