-- The climb on its way up: the marks are those after the ranks that have had their turn.
use mathlib.Core.Bool.{Bool, true, false}
use mathlib.Core.Path.{◌≡◌, refl, sym, ap, ◌∙◌}
use mathlib.Core.List.{List, []}
use Prim.Native.Nat.{ℕ, ◌+◌}
use native.Mathlib.Numerals.{add-one}
use lib.ListN.{length, get_or, set, length-set}
use Rattle.std.specs.List.{find}
use Rattle.std.specs.Prelude.{Option, is_some}
use Rattle.lineage.specs.Lists.{any}
use Rattle.reach_sweep.specs.Sweep.{marked}
use Rattle.reach_climb.specs.Climb.{lifted, climbed}
use Rattle.reach_climb.proofs.Lowest.{any_found}
use Rattle.reach_climb.proofs.Lifted.{lifted_marked, lifted_passed}

-- `ranks` ranks have had their turn
pub record Climbing (groups : List ℕ) (children : List (List ℕ)) (places : List ℕ) (ranks : ℕ) (before marks : List ℕ) : Type 0 where
  pub long : length marks ≡ length before
  pub so_far : marks ≡ climbed groups children places ranks before

pub climbing_none : (groups : List ℕ) (children : List (List ℕ)) (places marks : List ℕ) → Climbing groups children places 0 marks marks
unfolding climbed
climbing_none groups children places marks = record { long = refl; so_far = refl }

module _
    {groups : List ℕ} {children : List (List ℕ)} {places : List ℕ} {ranks : ℕ} {before marks : List ℕ}
    (C : Climbing groups children places ranks before marks)
    {r p : ℕ} (turn : r ≡ ranks) (is : p ≡ get_or places r 0) {lowest : Option ℕ} (found : lowest ≡ find (marked groups marks) (get_or children p []))
    {b : Bool} (some : b ≡ is_some lowest)
  where
    next : {after : List ℕ} → lifted groups children p marks ≡ after → length after ≡ length marks → Climbing groups children places (ranks + 1) before after
    unfolding climbed
    next e l = record { long = l ∙ C.long; so_far = sym e ∙ rw (add-one, ← C.so_far, is, turn) refl }

    -- whether a child is marked is read off what was found
    is_marked : any (marked groups marks) (get_or children p []) ≡ b
    is_marked = any_found (marked groups marks) (get_or children p []) ∙ ap is_some (sym found) ∙ sym some

    pub climbing_marked : {name : ℕ} → b ≡ true → name ≡ get_or groups p 0 → Climbing groups children places (ranks + 1) before (set marks name 1)
    climbing_marked {name} h named = next (lifted_marked groups children p marks (is_marked ∙ h) ∙ ap (λ n. set marks n 1) (sym named)) (length-set marks name 1)

    pub climbing_passed : b ≡ false → Climbing groups children places (ranks + 1) before marks
    climbing_passed h = next (lifted_passed groups children p marks (is_marked ∙ h)) refl

pub climbing_all :
    {groups : List ℕ} {children : List (List ℕ)} {places : List ℕ} {ranks k : ℕ} {before marks : List ℕ} → Climbing groups children places ranks before marks
    → ranks ≡ k → marks ≡ climbed groups children places k before
climbing_all {groups} {children} {places} {before = before} C e = C.so_far ∙ ap (λ r. climbed groups children places r before) e
