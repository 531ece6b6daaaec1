-- A walk whose stack is a list of rows: the top row is tried at the bound L, the row under it at one more, and so down. So opening a child puts its children on top
-- at one less, as the defined walk does, and each turn of the loop is one equation. A frame of the stack is two words: where its row goes on, and where it ends.
use mathlib.Core.Bool.{Bool, true, false, ◌||◌}
use mathlib.Core.Path.{◌≡◌, refl, ap, ◌∙◌}
use mathlib.Core.List.{List, [], ◌∷◌}
use Prim.Native.Nat.{ℕ, zero, suc, ◌+◌, ◌-◌, ◌*◌, ◌≤◌, ◌<◌}
use native.Mathlib.Omega.{arith}
use native.Mathlib.Nat.{zero-add, add_assoc}
use lib.ListN.{length, get_or, set, length-set}
use lib.Seq.{get_or-set_same, get_or-set_other}
use Rattle.lineage.specs.Lists.{part}
use Rattle.lineage.specs.Walk.{Net, Walked, walked, added, marked, follow, try_with, open_at, try_at}
use Rattle.numbers.specs.Regions.{Kept}
use Rattle.numbers.proofs.Regions.{kept_set, kept_then}
use Rattle.ask_stacked.specs.declared.Row.{Row}

-- trying the top row, then the rows under it where nothing is found
unfoldable pub try_rows : Net → ℕ → List ℕ → List (List ℕ) → List ℕ → Walked
unfolding try_with
try_rows N L hs [] m = try_at N L hs m
try_rows N L hs (r ∷ rows) m = let a : Walked = try_at N L hs m in follow a.found a (λ m'. try_rows N (suc L) r rows m')

-- what counts are added, one after the other
pub added_twice : (n k : ℕ) (a : Walked) → added (n + k) a ≡ added n (added k a)
added_twice n k a = ap (λ (z : ℕ). walked a.found a.deciding z a.marks) (add_assoc n k a.opened)

follow_added : (n : ℕ) (f : Bool) (a : Walked) (rest : List ℕ → Walked) → follow f (added n a) rest ≡ added n (follow f a rest)
follow_added n true a rest = refl
follow_added n false a rest = added_twice n a.opened (rest a.marks)

-- a, then b, then the rest
follow_follow :
    (f : Bool) (a : Walked) → a.found ≡ f → (b rest : List ℕ → Walked)
    → (let c : Walked = follow f a b in follow c.found c rest) ≡ follow f a (λ m. follow (b m).found (b m) rest)
follow_follow true a e b rest = rw e
follow_follow false a e b rest = follow_added a.opened (b a.marks).found (b a.marks) rest

module _ (N : Net) where
  -- the row is over
  pub rows_over : (L : ℕ) (r : List ℕ) (rows : List (List ℕ)) (m : List ℕ) → try_rows N L [] (r ∷ rows) m ≡ try_rows N (suc L) r rows m
  unfolding try_rows try_with
  rows_over L r rows m = let a : Walked = try_rows N (suc L) r rows m in ap (λ (n : ℕ). walked a.found a.deciding n a.marks) (zero-add a.opened)

  module _ (h : ℕ) (hs m : List ℕ) where
    -- rule 2 ends the walk
    pub rows_hit : (L : ℕ) (rows : List (List ℕ)) → N.yes h ≡ true → try_rows N L (h ∷ hs) rows m ≡ walked true (N.deciding h) 0 m
    unfolding try_rows try_with
    rows_hit L [] y = rw y
    rows_hit L (r ∷ rows) y = rw y

    module _ (y : N.yes h ≡ false) where
      -- the child is passed over
      pub rows_past : (L : ℕ) (rows : List (List ℕ)) → (marked N m h || N.no h) ≡ true → try_rows N L (h ∷ hs) rows m ≡ try_rows N L hs rows m
      unfolding try_rows try_with
      rows_past L [] p = rw (y, p)
      rows_past L (r ∷ rows) p = rw (y, p)

      -- the child is opened
      module _ (L : ℕ) (p : (marked N m h || N.no h) ≡ false) where
        below : Walked
        below = try_at N L (N.children h) (set m (N.spot h) 1)

        opens : try_at N (suc L) (h ∷ hs) m ≡ added 1 (follow below.found below (λ m'. try_at N (suc L) hs m'))
        unfolding try_with open_at below
        opens = rw (y, p) (follow_added 1 below.found below (λ m'. try_at N (suc L) hs m'))

        pub rows_open :
            (rows : List (List ℕ)) → try_rows N (suc L) (h ∷ hs) rows m ≡ added 1 (try_rows N L (N.children h) (hs ∷ rows) (set m (N.spot h) 1))
        unfolding try_rows try_with below
        rows_open [] = opens
        rows_open (r ∷ rows) =
            let rest : List ℕ → Walked = λ m'. try_rows N (suc (suc L)) r rows m' in
            let c : Walked = follow below.found below (λ m'. try_at N (suc L) hs m') in
            rw opens
            (follow_added 1 c.found c rest ∙ ap (added 1) (follow_follow below.found below refl (λ m'. try_at N (suc L) hs m') rest))

-- what is left of a row, of the numbers of all rows
abbrev pub rest : List ℕ → Row → List ℕ
rest cs row = part cs row.next (row.end - row.next)

-- the row in the frame at a depth
abbrev pub frame : List ℕ → ℕ → Row
frame work depth = record { next = get_or work (2 * depth) 0; end = get_or work (2 * depth + 1) 0 }

-- what is left of the rows in so many frames, the top one first
abbrev pub frames : List ℕ → List ℕ → ℕ → List (List ℕ)
frames cs work zero = []
frames cs work (suc d) = rest cs (frame work d) ∷ frames cs work d

-- a frame more
module _ (work : List ℕ) (d : ℕ) (row : Row) (room : 2 * d + 1 < length work) where
  abbrev framed : List ℕ
  framed = set (set work (2 * d) row.next) (2 * d + 1) row.end

  pub frame_top : frame framed d ≡ row
  frame_top =
      rw (
        get_or-set_other (set work (2 * d) row.next) (2 * d + 1) (2 * d) row.end 0 (λ z. omega arith),
        get_or-set_same work (2 * d) row.next 0 (omega arith),
        get_or-set_same (set work (2 * d) row.next) (2 * d + 1) row.end 0 (omega (arith, length-set work (2 * d) row.next)),
      )

  word_under : (j : ℕ) → j < 2 * d → get_or framed j 0 ≡ get_or work j 0
  word_under j h =
      get_or-set_other (set work (2 * d) row.next) (2 * d + 1) j row.end 0 (λ z. omega arith)
      ∙ get_or-set_other work (2 * d) j row.next 0 (λ z. omega arith)

  pub frame_under : (j : ℕ) → j < d → frame framed j ≡ frame work j
  frame_under j h = rw (word_under (2 * j) (omega arith), word_under (2 * j + 1) (omega arith))

  frames_under : (cs : List ℕ) (c : ℕ) → c ≤ d → frames cs framed c ≡ frames cs work c
  frames_under cs zero h = refl
  frames_under cs (suc c) h = λ i. rest cs (frame_under c h i) ∷ frames_under cs c (omega arith) i

  pub frames_more : (cs : List ℕ) → frames cs framed (suc d) ≡ rest cs row ∷ frames cs work d
  frames_more cs = λ i. rest cs (frame_top i) ∷ frames_under cs d (omega arith) i

  pub frame_kept : (size : ℕ) → 2 * d + 1 < size → Kept work framed 0 size
  frame_kept size h =
      kept_then (kept_set work 0 size (2 * d) row.next (omega arith) (omega arith)) (kept_set _ 0 size (2 * d + 1) row.end (omega arith) (omega arith))
