-- Members of a list of anything.
use mathlib.Core.Path.{◌≡◌, refl}
use mathlib.Core.List.{List, [], ◌∷◌, map}
use Prim.Native.Nat.{◌<◌}
use native.Mathlib.Omega.{arith}
use lib.ListN.{length}
use Rattle.lineage.specs.Lists.{Every}
use Rattle.laws_answers.specs.Answers.{Member, front, behind}

module _ {A : Type 0} where
  -- what holds of every element holds of a member
  pub every_member : (P : A → Type 0) {x : A} {xs : List A} → Every P xs → Member x xs → P x
  every_member P e front = e.0
  every_member P e (behind m) = every_member P e.1 m

  -- a list with an element has a member
  pub first_member : (xs : List A) → 0 < length xs → (x : A) × Member x xs
  first_member [] h = absurd (omega arith)
  first_member (x ∷ xs) h = (x, front)

  -- a list with a member has an element
  pub member_long : {x : A} {xs : List A} → Member x xs → 0 < length xs
  member_long front = omega arith
  member_long (behind m) = omega arith

module _ {A B : Type 0} (f : A → B) where
  -- members of a mapped list are the members' images
  pub member_map : {x : A} {xs : List A} → Member x xs → Member (f x) (map f xs)
  member_map front = front
  member_map (behind m) = behind (member_map m)

  pub map_member : {y : B} (xs : List A) → Member y (map f xs) → (x : A) × Member x xs × (f x ≡ y)
  map_member {y = y} [] x' = elim x' [ ]
  map_member {y = y} (x ∷ xs) m = at x y m (map_member {y = y} xs)
    where
      at :
          (x : A) (y : B) → Member y (f x ∷ map f xs) → (Member y (map f xs) → (z : A) × Member z xs × (f z ≡ y))
          → (z : A) × Member z (x ∷ xs) × (f z ≡ y)
      at x y front ih = (x, front, refl)
      at x y (behind k) ih = let (z, i, e) = ih k in (z, behind i, e)
