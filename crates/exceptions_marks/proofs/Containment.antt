-- Containment, labelling by labelling: it is a test of all labellings of the labels, and each is told from its own numbers by place.
use mathlib.Core.Bool.{Bool, true, false, not, not-not, ◌&&◌, ◌||◌}
use mathlib.Core.Path.{◌≡◌, refl, sym, ap, ◌∙◌}
use mathlib.Core.List.{List, [], ◌∷◌, ◌++◌, map, map-append}
use Prim.Native.Nat.{ℕ, zero, suc, ◌+◌, ◌*◌, ◌<◌}
use Rattle.lineage.specs.Lists.{upto, all_below}
use Rattle.lineage.specs.Labels.{Labelling}
use Rattle.lineage.specs.Question.{outside, some_labelling}
use Rattle.numbers.specs.Regions.{Part}
use Rattle.stored.specs.Sections.{labelling_in, tuples_of, places_of, labels_in}
use Rattle.stored.proofs.Sections.{s_at, e_at}
use Rattle.exceptions_marks.specs.Marks.{lies_in}

-- no labelling passes exactly where each does not
module _ (p : Labelling → Bool) where
  some_behind : (ls : List Labelling) (l : Labelling) → (not (some_labelling p ls) && not (p l)) ≡ not (some_labelling p (ls ++ (l ∷ [])))
  some_behind [] l = at (p l)
    where
      at : (b : Bool) → not b ≡ not (b || false)
      at true = refl
      at false = refl
  some_behind (m ∷ ls) l = at (p m) (some_behind ls l)
    where
      at : (b : Bool) → (not (some_labelling p ls) && not (p l)) ≡ not (some_labelling p (ls ++ (l ∷ [])))
          → (not (b || some_labelling p ls) && not (p l)) ≡ not (b || some_labelling p (ls ++ (l ∷ [])))
      at true ih = refl
      at false ih = ih

  each_table : (f : ℕ → Labelling) (d : ℕ) → all_below d (λ j. not (p (f j))) ≡ not (some_labelling p (map f (upto d)))
  each_table f zero = refl
  each_table f (suc d) =
      ap (λ (b : Bool). b && not (p (f d))) (each_table f d)
      ∙ some_behind (map f (upto d)) (f d)
      ∙ ap (λ (ls : List Labelling). not (some_labelling p ls)) (sym (map-append f (upto d) (d ∷ [])))

module _ (w z k : ℕ) (labels : List ℕ) (x y : ℕ) where
  -- labelling j of the labels, and whether y's outer interval lies in x's there
  abbrev own : ℕ → Labelling
  own j = labelling_in w z (tuples_of w z labels k j) (places_of w z labels k j) k

  abbrev pub lies : ℕ → Bool
  lies j = not (outside x y (own j))

  pub lies_all : (d : ℕ) → all_below d lies ≡ not (some_labelling (outside x y) (labels_in w z labels k d))
  unfolding labels_in
  lies_all d = each_table (outside x y) own d

  -- as it was read
  module _ (j : ℕ) {tuples : List ℕ} (P : Part labels (w * (j * ((z + 1) * k))) (w * (z * k)) tuples) (hx : x < k) (hy : y < k) where
    read : tuples ≡ tuples_of w z labels k j
    unfolding tuples_of
    read = P.is

    pub lies_is : {r : Bool} → r ≡ lies_in w z tuples x y → r ≡ lies j
    lies_is e =
        e
        ∙ rw (read, s_at _ _ _ _ _ x hx, s_at _ _ _ _ _ y hy, e_at _ _ _ _ _ y hy, e_at _ _ _ _ _ x hx) (sym (not-not _))
