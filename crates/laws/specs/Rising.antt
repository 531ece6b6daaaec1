-- Lists without repeats, rising lists, and how many numbers of a list are below another.
use Rattle.std.specs.Prelude.{true, false, ◌≡◌, List, [], ◌∷◌, ℕ, ◌<◌, ltb, length}
use Rattle.lineage.specs.Lists.{among, those}

-- no number stands twice
abbrev pub Distinct : List ℕ → Type 0
Distinct [] = Unit {0}
Distinct (x ∷ xs) = (among x xs ≡ false) × Distinct xs

-- each number is less than those after it
abbrev pub Rises : List ℕ → Type 0
Rises [] = Unit {0}
Rises (x ∷ xs) = ((y : ℕ) → among y xs ≡ true → x < y) × Rises xs

-- how many numbers of the list are below v
abbrev pub count_below : ℕ → List ℕ → ℕ
count_below v xs = length (those (λ x. ltb x v) xs)
