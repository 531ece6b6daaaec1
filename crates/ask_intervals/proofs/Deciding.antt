-- What is judged, beside the two tests by themselves: a number that is given is that of the first labelling that passes its test, since none before it decided either
-- way; and where none is given, no labelling passes either test.
use mathlib.Core.Bool.{Bool, true, false, ◌||◌, cond}
use mathlib.Core.Path.{◌≡◌, refl, sym}
use mathlib.Core.List.{List, [], ◌∷◌}
use Prim.Native.Nat.{ℕ, suc, ◌≤◌}
use native.Mathlib.Omega.{arith}
use lib.Dec.{ltb}
use borrow.Author.Tests.{lt-ltb}
use Rattle.lineage.specs.Labels.{Labelling}
use Rattle.lineage.specs.Question.{inside, outside, some_labelling, first_from, first_labelling}
use Rattle.ask_intervals.specs.declared.Judged.{Judged}
use Rattle.ask_intervals.specs.declared.Judged.TheVariants.{Inside, Outside, Neither}
use Rattle.ask_intervals.specs.Intervals.{judged_by, judged_from, judged}

-- f and g are the first numbers from n on, 0 for none, that pass the two tests
abbrev Tells : (n f g : ℕ) → Judged → Type 0
Tells n f g (Inside l) = (n ≤ l) × (l ≡ f)
Tells n f g (Outside l) = (n ≤ l) × (l ≡ g)
Tells n f g Neither = (f ≡ 0) × (g ≡ 0)

tells_by : (i o : Bool) (n f g : ℕ) (rest : Judged) → Tells (suc n) f g rest → Tells n (cond i n f) (cond o n g) (judged_by i o n rest)
tells_by true o n f g rest h = (omega arith, refl)
tells_by false true n f g rest h = (omega arith, refl)
tells_by false false n f g (Inside l) h = (omega arith, h.1)
tells_by false false n f g (Outside l) h = (omega arith, h.1)
tells_by false false n f g Neither h = h

module _ (x t : ℕ) where
  tells_from : (n : ℕ) (ls : List Labelling) → Tells n (first_from n (inside x t) ls) (first_from n (outside x t) ls) (judged_from n x t ls)
  tells_from n [] = (refl, refl)
  tells_from n (l ∷ ls) = tells_by (inside x t l) (outside x t l) n _ _ (judged_from (suc n) x t ls) (tells_from (suc n) ls)

  pub judged_tells : (ls : List Labelling) {j : Judged} → j ≡ judged x t ls → Tells 1 (first_labelling (inside x t) ls) (first_labelling (outside x t) ls) j
  judged_tells ls is = rw is (tells_from 1 ls)

-- a number is given exactly where some labelling passes
module _ (p : Labelling → Bool) where
  given_from : (n : ℕ) (ls : List Labelling) → some_labelling p ls ≡ ltb 0 (first_from (suc n) p ls)
  given_from n [] = refl
  given_from n (l ∷ ls) = at (p l) (given_from (suc n) ls)
    where
      at : (b : Bool) → some_labelling p ls ≡ ltb 0 (first_from (suc (suc n)) p ls) → (b || some_labelling p ls) ≡ ltb 0 (cond b (suc n) (first_from (suc (suc n)) p ls))
      at true ih = sym (lt-ltb 0 (suc n) (omega arith))
      at false ih = ih

  pub first_given : (ls : List Labelling) → some_labelling p ls ≡ ltb 0 (first_labelling p ls)
  first_given ls = given_from 0 ls
