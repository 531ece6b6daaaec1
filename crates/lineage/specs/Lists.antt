-- What the definitions say of lists of numbers; nothing here knows of a graph.
use Rattle.std.specs.Prelude.{Bool, true, false, ◌&&◌, ◌||◌, cond, List, [], ◌∷◌, ◌++◌, ℕ, zero, suc, ◌+◌, min, max, eqb, take, drop, replicate}

-- 0, 1, .. , n - 1
abbrev pub upto : ℕ → List ℕ
upto zero = []
upto (suc n) = upto n ++ (n ∷ [])

-- some number of the list passes the test
abbrev pub any : (ℕ → Bool) → List ℕ → Bool
any p [] = false
any p (x ∷ xs) = p x || any p xs

-- every number below n passes the test
abbrev pub all_below : ℕ → (ℕ → Bool) → Bool
all_below zero p = true
all_below (suc n) p = all_below n p && p n

-- x stands in the list
abbrev pub among : ℕ → List ℕ → Bool
among x [] = false
among x (y ∷ ys) = eqb x y || among x ys

-- those of the list that pass the test, in the list's order
abbrev pub those : (ℕ → Bool) → List ℕ → List ℕ
those p [] = []
those p (x ∷ xs) = elim (p x) [ true ↦ x ∷ those p xs | false ↦ those p xs ]

-- the first of the list that passes the test, or the other number where none does
abbrev pub first_of : (ℕ → Bool) → List ℕ → ℕ → ℕ
first_of p [] other = other
first_of p (x ∷ xs) other = elim (p x) [ true ↦ x | false ↦ first_of p xs other ]

-- where x first stands in the list, from 0; the list's length where it does not
abbrev pub position : ℕ → List ℕ → ℕ
position x [] = 0
position x (y ∷ ys) = elim (eqb x y) [ true ↦ 0 | false ↦ suc (position x ys) ]

-- the least of a and the numbers of the list
abbrev pub least : ℕ → List ℕ → ℕ
least a [] = a
least a (x ∷ xs) = least (min a x) xs

-- the greatest number of the list, 0 where it is empty
abbrev pub greatest : List ℕ → ℕ
greatest [] = 0
greatest (x ∷ xs) = max x (greatest xs)

-- the two lists are equal
abbrev pub same_list : List ℕ → List ℕ → Bool
same_list [] [] = true
same_list [] (y ∷ ys) = false
same_list (x ∷ xs) [] = false
same_list (x ∷ xs) (y ∷ ys) = eqb x y && same_list xs ys

-- how many numbers of the list are 1
abbrev pub ones : List ℕ → ℕ
ones [] = 0
ones (x ∷ xs) = cond (eqb x 1) 1 0 + ones xs

module _ {A : Type 0} where
  -- the lists one after the other
  abbrev pub joined : List (List A) → List A
  joined [] = []
  joined (xs ∷ xss) = xs ++ joined xss

  -- the size elements from position at on
  unfoldable pub part : List A → ℕ → ℕ → List A
  part xs at size = take size (drop at xs)

  -- the property holds of each element
  abbrev pub Every : (A → Type 0) → List A → Type 0
  Every P [] = Unit {0}
  Every P (x ∷ xs) = P x × Every P xs

  -- each element passes the test
  abbrev pub all_of : (A → Bool) → List A → Bool
  all_of p [] = true
  all_of p (x ∷ xs) = p x && all_of p xs

-- a lent buffer whose first n elements are 0 and whose later ones keep their contents
unfoldable pub cleared : ℕ → List ℕ → List ℕ
cleared n buffer = replicate n 0 ++ drop n buffer
