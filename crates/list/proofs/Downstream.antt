-- Of a sound index, the vertices that the sweep from u's group lists are those downstream of u: after it the marked groups are those below u's, and these are the
-- groups that `leads` finds.
use mathlib.Core.Bool.{Bool, true, false, cond}
use mathlib.Core.Logic.{◌↔◌}
use mathlib.Core.Path.{◌≡◌, refl, ap}
use mathlib.Core.List.{List}
use Prim.Native.Nat.{ℕ, ◌≤◌, ◌<◌}
use lib.Dec.{eqb}
use lib.ListN.{length, get_or}
use Rattle.lineage.specs.Lists.{upto}
use Rattle.lineage.specs.Graph.{leads}
use Rattle.lineage.specs.Index.{Index}
use Rattle.lineage.specs.Question.{place_in, in_own_list, is_downstream, downstream}
use Rattle.laws.specs.Leads.{Down}
use Rattle.laws.specs.Sound.{Sound}
use Rattle.laws.proofs.Tests.{is_false, clash}
use Rattle.laws.proofs.Lists.{those_same, upto_low}
use Rattle.laws.proofs.Grouped.{place_low, name_of_place, leads_exactly}
use Rattle.reach_sweep.specs.Sweep.{marked}
use Rattle.reach.specs.Marks.{reach_marks}
use Rattle.reach.proofs.Marked.{reach_exactly}
use Rattle.list.specs.Listing.{is_listed, listed}

-- two tests that hold of the same are one
same_test : (a b : Bool) → (a ≡ true) ↔ (b ≡ true) → a ≡ b
same_test a true h = h.1 refl
same_test a false h = is_false a (λ t. clash (h.0 t) refl)

module _
    {I : Index} (S : Sound I) (some : 0 < length I.labels)
    (u : ℕ) (hu : u < length I.names) (marks : List ℕ) (room : length I.names ≤ length marks)
  where
    -- a vertex is listed exactly where it is downstream
    vertex_same : (v : ℕ) → v < length I.names → is_listed I.names (reach_marks I u marks) u (in_own_list I u) v ≡ is_downstream I u v
    unfolding is_listed is_downstream
    vertex_same v hv = ap (cond (eqb u v) (in_own_list I u)) (same_test _ _ (
      (λ m. leads_down.1 (mark_down.0 (rw (← name_of_place S.condensed v hv) at m))),
      λ d. rw (← name_of_place S.condensed v hv) (mark_down.1 (leads_down.0 d)),
    ))
      where
        mark_down : (marked I.groups (reach_marks I u marks) (place_in I v) ≡ true) ↔ Down I.children (place_in I u) (place_in I v)
        mark_down = reach_exactly S some u hu marks room (place_in I v) (place_low S.condensed v hv)

        leads_down :
            (leads I.children (get_or I.levels (place_in I u) 0) (place_in I u) (place_in I v) ≡ true) ↔ Down I.children (place_in I u) (place_in I v)
        leads_down = leads_exactly S.condensed (place_in I u) (place_in I v) (place_low S.condensed u hu)

    pub listed_downstream : listed I.names (reach_marks I u marks) u (in_own_list I u) ≡ downstream I u
    unfolding listed downstream
    listed_downstream =
        those_same (is_listed I.names (reach_marks I u marks) u (in_own_list I u)) (is_downstream I u) (upto (length I.names))
        (λ v i. vertex_same v (upto_low (length I.names) v i))
