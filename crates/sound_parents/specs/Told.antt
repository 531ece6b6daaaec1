-- Marks that tell who is somebody's child: 1 at each child entry. Where second parents are asked for, entries are counted instead, up to 2.
use Rattle.std.specs.Prelude.{Bool, cond, List, [], ◌∷◌, ℕ, eqb, ltb, length, get_or, set}
use Rattle.lineage.specs.Lists.{those}
use Rattle.numbers.specs.Marks.{mark_all}

-- a mark with one entry more: 1 for the first, 2 from the second on
abbrev pub one_more : ℕ → ℕ
one_more mark = cond (eqb mark 0) 1 2

-- marks with one more at each number of the list
abbrev pub count_all : List ℕ → List ℕ → List ℕ
count_all [] marks = marks
count_all (q ∷ qs) marks = count_all qs (set marks q (one_more (get_or marks q 0)))

-- the mark of p is 2
abbrev pub marked_twice : List ℕ → ℕ → Bool
marked_twice marks p = eqb (get_or marks p 0) 2

-- x stands in the list more than once
abbrev pub twice : List ℕ → ℕ → Bool
twice qs x = ltb 1 (length (those (eqb x) qs))

-- the marks after the children are told: counted where labels are in pairs, since a plain hierarchy has no second parents, and marked otherwise
abbrev pub tell_all : ℕ → List ℕ → List ℕ → List ℕ
tell_all z qs marks = cond (eqb z 2) (count_all qs marks) (mark_all qs marks)
