-- The labellings of one stretch: the parts that hold one are its numbers by place and its places by rank, and all pass where each does.
use mathlib.Core.Bool.{Bool, ◌&&◌, and-true, and_assoc}
use mathlib.Core.Path.{◌≡◌, refl, sym, ap, ◌∙◌}
use mathlib.Core.List.{List, [], ◌∷◌, ◌++◌, map, map-append}
use Prim.Native.Nat.{ℕ, zero, suc, ◌+◌, ◌*◌}
use native.Mathlib.Omega.{arith}
use Rattle.lineage.specs.Lists.{upto, all_below, all_of}
use Rattle.lineage.specs.Sound.{labels_pass}
use Rattle.numbers.specs.Regions.{Part}
use Rattle.stored.specs.Sections.{labelling_in, Labellings, tuples_of, places_of, labels_in}
use Rattle.stored.proofs.Held.{tuples_few}
use Rattle.sound_ranks.specs.Fit.{LabellingHeld}
use Rattle.sound_labels.specs.Tests.{labelling_number, labelling_passes}

module _ {w z y k d : ℕ} {labels tuples places : List ℕ} (D : Labellings w z labels k d) (same : z ≡ y) (j : ℕ)
    (T : Part labels (w * (j * ((z + 1) * k))) (w * (z * k)) tuples) (P : Part labels (w * (j * ((z + 1) * k) + z * k)) (w * k) places)
  where
    held : LabellingHeld w z tuples places k
    held = record {
      tuples_held = record { stride = D.stride; held = record { width = D.width; long = omega (arith, T.long); few = omega (arith, tuples_few D) } };
      places_held = record { width = D.width; long = omega (arith, P.long); few = omega (arith, D.groups_few) };
    }

    pub labelling_is : labelling_in w y tuples places k ≡ labelling_number w z labels k j
    unfolding tuples_of places_of
    labelling_is = rw (← same, T.is, P.is)

-- all of a list, one more at its end
all_append : {A : Type 0} (test : A → Bool) (xs : List A) (x : A) → all_of test (xs ++ (x ∷ [])) ≡ (all_of test xs && test x)
all_append test [] x = and-true (test x)
all_append test (y ∷ xs) x = rw (all_append test xs x) (sym (and_assoc (test y) (all_of test xs) (test x)))

all_mapped : {A : Type 0} (test : A → Bool) (f : ℕ → A) (d : ℕ) → all_below d (λ j. test (f j)) ≡ all_of test (map f (upto d))
all_mapped test f zero = refl
all_mapped test f (suc d) =
    ap (λ (b : Bool). b && test (f d)) (all_mapped test f d) ∙ sym (ap (all_of test) (map-append f (upto d) (d ∷ [])) ∙ all_append test (map f (upto d)) (f d))

pub labellings_are : (w z k d : ℕ) (children : List (List ℕ)) (labels : List ℕ) → all_below d (labelling_passes w z children labels k) ≡ all_of (labels_pass children) (labels_in w z labels k d)
unfolding labels_in
labellings_are w z k d children labels = all_mapped (labels_pass children) (λ j. labelling_in w z (tuples_of w z labels k j) (places_of w z labels k j) k) d
