-- The walk (document 01, "A question"), told over any groups with children, two tests and a place for each mark.
use Rattle.std.specs.Prelude.{Bool, true, false, ◌||◌, List, [], ◌∷◌, ℕ, zero, suc, ◌+◌, eqb, get_or, set}

-- of a group: its children by rising place; whether rule 2 says yes of it, and the first labelling that does; whether 3 or 4 rules it out;
-- the position of its mark
pub record Net : Type 0 where
  pub children : ℕ → List ℕ
  pub yes : ℕ → Bool
  pub deciding : ℕ → ℕ
  pub no : ℕ → Bool
  pub spot : ℕ → ℕ

-- whether the walk finds the target, the number of the labelling that ended it (0 where none did), the groups opened, and the marks
pub record Walked : Type 0 where
  pub found : Bool
  pub deciding : ℕ
  pub opened : ℕ
  pub marks : List ℕ

abbrev pub walked : Bool → ℕ → ℕ → List ℕ → Walked
walked f l n m = record { found = f; deciding = l; opened = n; marks = m }

-- with n more groups opened
abbrev pub added : ℕ → Walked → Walked
added n a = walked a.found a.deciding (n + a.opened) a.marks

-- the group is already opened
abbrev pub marked : Net → List ℕ → ℕ → Bool
marked N m h = eqb (get_or m (N.spot h) 0) 1

-- a alone where it ends the whole walk, otherwise a and then the rest
abbrev pub follow : Bool → Walked → (List ℕ → Walked) → Walked
follow true a rest = a
follow false a rest = added a.opened (rest a.marks)

-- trying the child h: rule 2 ends the whole walk with yes; a child that is to be passed over is; any other is opened in its turn
abbrev pub pick : Bool → Bool → ℕ → (ℕ → List ℕ → Walked) → ℕ → List ℕ → (List ℕ → Walked) → Walked
pick true past l op h m rest = walked true l 0 m
pick false true l op h m rest = rest m
pick false false l op h m rest = let a : Walked = op h m in follow a.found a rest

-- trying children one after the other, where `op` opens a group: one already opened, or ruled out by 3 or 4, is passed over
unfoldable pub try_with : Net → (ℕ → List ℕ → Walked) → List ℕ → List ℕ → Walked
try_with N op [] m = walked false 0 0 m
try_with N op (h ∷ hs) m = pick (N.yes h) (marked N m h || N.no h) (N.deciding h) op h m (λ m'. try_with N op hs m')

-- opening a group of a level below L: it is counted and marked, then its children are tried
unfoldable pub open_at : Net → ℕ → ℕ → List ℕ → Walked
unfolding try_with
open_at N zero g m = walked false 0 0 m
open_at N (suc L) g m = added 1 (try_with N (open_at N L) (N.children g) (set m (N.spot g) 1))

-- trying children of levels below L, each opened in its turn
abbrev pub try_at : Net → ℕ → List ℕ → List ℕ → Walked
try_at N L hs m = try_with N (open_at N L) hs m
