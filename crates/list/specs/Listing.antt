-- The vertices that are listed, told from the marks of their groups.
use Rattle.std.specs.Prelude.{Bool, cond, List, [], ℕ, eqb, length, get_or}
use Rattle.lineage.specs.Lists.{upto, those}
use Rattle.lineage.specs.Index.{Index}

-- v is listed: u itself where `own` says so, any other vertex where its group is marked
unfoldable pub is_listed : List ℕ → List ℕ → ℕ → Bool → ℕ → Bool
is_listed names marks u own v = cond (eqb u v) own (eqb (get_or marks (get_or names v 0) 0) 1)

-- all listed vertices, rising
unfoldable pub listed : List ℕ → List ℕ → ℕ → Bool → List ℕ
unfolding is_listed
listed names marks u own = those (is_listed names marks u own) (upto (length names))

-- an index of which only the names are told: whether a vertex is in its own list depends on nothing else
abbrev pub names_alone : List ℕ → Index
names_alone names = record { names = names; groups = []; levels = []; children = []; labels = [] }
