-- The sweep from the name of group x marks what x reaches, and of the other groups none; and cleared again, marks are as they were before.
use mathlib.Core.Bool.{Bool, true, false, cond}
use mathlib.Core.Path.{◌≡◌, refl, sym, ap, ◌∙◌}
use mathlib.Core.List.{List, ◌++◌}
use Prim.Native.Nat.{ℕ, ◌<◌, ◌≤◌}
use native.Mathlib.Omega.{arith}
use lib.ListN.{length, get_or, drop, replicate}
use borrow.Author.Tests.{eqb-true}
use Rattle.lineage.specs.Lists.{cleared}
use Rattle.lineage.specs.Graph.{place_of, leads}
use Rattle.lineage.specs.Index.{Index}
use Rattle.lineage.specs.Question.{place_in}
use Rattle.laws.specs.Sound.{Sound}
use Rattle.laws.proofs.Tests.{clash, is_false}
use Rattle.laws.proofs.Grouped.{group_name, place_of_name, leads_exactly}
use Rattle.numbers.proofs.Cleared.{cleared_past}
use Rattle.reach_sweep.specs.Sweep.{marked}
use Rattle.reach.specs.Marks.{reach_marks}
use Rattle.reach.proofs.Marked.{reach_exactly, reach_long, reach_cleared}
use Rattle.exceptions_marks.specs.Marks.{mark_of, Reaching, Excepting}
use Rattle.exceptions_marks.proofs.Unmarked.{unmarked_none}

module _
    {I : Index} (S : Sound I) (some : 0 < length I.labels) {x u : ℕ} (b : x < length I.children) (named : u ≡ get_or I.groups x 0)
    (before : List ℕ) (room : length I.names ≤ length before) {marks : List ℕ} (swept : marks ≡ reach_marks I u before)
  where
    -- a group's name is a vertex of it
    pub name_vertex : u < length I.names
    name_vertex = omega (arith, (group_name S.condensed x b).0)

    own_place : place_in I u ≡ x
    own_place = ap (place_in I) named ∙ ap (place_of I.groups) (group_name S.condensed x b).1 ∙ place_of_name S.condensed x b

    pub name_reaches : Reaching I x marks
    name_reaches = record { told = λ q h. rw swept (at q h (marked I.groups (reach_marks I u before) q) refl) }
      where
        at : (q : ℕ) → q < length I.children → (t : Bool) → marked I.groups (reach_marks I u before) q ≡ t
            → mark_of I (reach_marks I u before) q ≡ cond (leads I.children (get_or I.levels x 0) x q) 1 0
        at q h true e =
            let led = (leads_exactly S.condensed x q b).1 (rw own_place at ((reach_exactly S some u name_vertex before room q h).0 e)) in
            eqb-true _ 1 e ∙ rw led
        at q h false e =
            let unled =
            is_false (leads I.children (get_or I.levels x 0) x q)
            (λ t. clash ((reach_exactly S some u name_vertex before room q h).1 (rw own_place ((leads_exactly S.condensed x q b).0 t))) e) in
            unmarked_none S u before q h e ∙ rw unled

    pub swept_long : length marks ≡ length before
    swept_long = ap length swept ∙ reach_long S some u name_vertex before room

    swept_past : drop (length I.names) marks ≡ drop (length I.names) before
    swept_past =
        ap (drop (length I.names)) swept
        ∙ sym (cleared_past (length I.names) (reach_marks I u before))
        ∙ ap (drop (length I.names)) (reach_cleared S some u name_vertex before room)
        ∙ cleared_past (length I.names) before

    -- exceptions marked behind the sweep are marked on what was lent
    pub excepting_swept : {after : List ℕ} → Excepting I x marks after → Excepting I x before after
    excepting_swept X = record { long = X.long ∙ swept_long; past = X.past ∙ swept_past; marked = X.marked }

-- cleared below n, marks that were cleared before are as they were
pub excepting_cleared :
    {I : Index} {x n : ℕ} {before marks after : List ℕ} → length I.names ≡ n → before ≡ cleared n before → Excepting I x before marks → after ≡ cleared n marks
    → after ≡ before
unfolding cleared
excepting_cleared {n = n} many clear X e = e ∙ ap (λ (z : List ℕ). replicate n 0 ++ z) (rw many at X.past) ∙ sym clear
