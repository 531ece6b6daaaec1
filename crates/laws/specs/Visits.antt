-- A traversal as a relation, without a bound on its depth: what `traverse` of Labels computes; and a part of its order of finishing.
use Rattle.std.specs.Prelude.{true, false, ◌≡◌, List, [], ◌∷◌, ◌++◌, ℕ, eqb}
use Rattle.lineage.specs.Lists.{among}
use Rattle.lineage.specs.Labels.{Forest, done, visit, after, finished}

-- Depth first through the places of a list, past those seen: `next p` are the children of p in order.
pub data Visits (next : ℕ → List ℕ) : List ℕ → List ℕ → Forest → Type 0 where
  over : {seen : List ℕ} → Visits next [] seen done
  skip : {p : ℕ} {todo seen : List ℕ} {f : Forest} → among p seen ≡ true → Visits next todo seen f → Visits next (p ∷ todo) seen f
  enter :
      {p : ℕ} {todo seen : List ℕ} {below rest : Forest}
      → among p seen ≡ false
      → Visits next (next p) (p ∷ seen) below
      → Visits next todo (after below (p ∷ seen)) rest
      → Visits next (p ∷ todo) seen (visit p below rest)

-- what was finished before x was entered
abbrev pub before : ℕ → Forest → List ℕ
before x done = []
before x (visit p below next) =
    elim (eqb x p) [
      | true ↦ []
      | false ↦ elim (among x (finished below)) [ true ↦ before x below | false ↦ finished below ++ (p ∷ before x next) ]
    ]
