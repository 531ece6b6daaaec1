-- What adding an edge says and changes where no check stops it, and where 21 does; and the edge that is taken stands behind those that stood.
use mathlib.Core.Bool.{false, ◌||◌}
use mathlib.Core.Path.{◌≡◌, refl, ap, ◌∙◌}
use mathlib.Core.List.{List, [], ◌∷◌, ◌++◌}
use Prim.Native.Nat.{ℕ, zero, suc, ◌+◌, ◌≤◌, ◌<◌}
use native.Mathlib.Numerals.{add-one}
use native.Mathlib.Omega.{arith}
use lib.Dec.{leb}
use lib.ListN.{length, set, take, length-set}
use borrow.Author.Tests.{leb-false, le-leb, lt-leb}
use Rattle.lineage.specs.Calls.{Outcome, refused, answered}
use Rattle.laws.specs.Checks.{Pass}
use Rattle.laws.proofs.Checks.{answered_pass}
use Rattle.added.specs.declared.Added.{Added}
use Rattle.added.specs.Adding.{most_added, add_checks, add_answer, add_state}
use Rattle.added.specs.Asked.{sources_of, targets_of}
use Rattle.added.specs.Right.{Pairs}

module _ (a : Added) (n from to : ℕ) where
  -- what may be answered, and the state afterwards
  abbrev Says : Outcome (Unit {0}) → Added → Type 0
  Says o a' = (o ≡ add_answer a.count n from to) × (a' ≡ add_state a n from to)

  -- 21: the state is full
  module _ {o : Outcome (Unit {0})} {a' : Added} where
    pub adds_full : from < n → to < n → most_added ≤ a.count → (o ≡ refused 21 0) × (a' ≡ a) → Says o a'
    adds_full h j f e =
        let b : (leb n from || leb n to) ≡ false = rw (lt-leb n from h, lt-leb n to j) refl in
        let m = le-leb most_added a.count f in (rw (b, m) e.0, rw (b, m) e.1)

  pub adds_one :
      from < n → to < n → a.count < most_added
      → Says (answered tt) (record { sources = set a.sources a.count from; targets = set a.targets a.count to; count = a.count + 1 })
  adds_one h j f =
      let b : (leb n from || leb n to) ≡ false = rw (lt-leb n from h, lt-leb n to j) refl in
      let m = lt-leb most_added a.count f in (rw (b, m) refl, rw (b, m) refl)

-- one more of a list, once it is set
take_set : (xs : List ℕ) (i x : ℕ) → i < length xs → take (suc i) (set xs i x) ≡ take i xs ++ (x ∷ [])
take_set [] i x h = absurd (omega arith)
take_set (y ∷ ys) zero x h = refl
take_set (y ∷ ys) (suc i) x h = ap (λ (zs : List ℕ). y ∷ zs) (take_set ys i x (omega arith))

-- an edge that is taken: there are 256 pairs as before, and it stands behind the edges that stood
module _ {a : Added} (P : Pairs a) (n from to : ℕ) (e : add_answer a.count n from to ≡ answered tt) where
  passes : Pass (add_checks a.count n from to)
  passes = answered_pass tt (add_checks a.count n from to) tt e

  room : a.count < most_added
  room = leb-false most_added a.count passes.1.0

  pub add_pairs : Pairs (add_state a n from to)
  add_pairs =
      rw (passes.0, passes.1.0)
      (record { sources_long = length-set a.sources a.count from ∙ P.sources_long; targets_long = length-set a.targets a.count to ∙ P.targets_long })

  pub add_stands :
      (sources_of (add_state a n from to) ≡ sources_of a ++ (from ∷ [])) × ((targets_of (add_state a n from to) ≡ targets_of a ++ (to ∷ [])) × ((add_state a n from to).count ≡ a.count + 1))
  add_stands =
      rw (passes.0, passes.1.0, add-one)
      (take_set a.sources a.count from (omega (arith, room, P.sources_long)), (take_set a.targets a.count to (omega (arith, room, P.targets_long)), refl))
