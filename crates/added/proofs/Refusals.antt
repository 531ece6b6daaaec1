-- What the question over added edges answers and leaves: what its checks come to, of which those of the added edges stand behind 15.
use mathlib.Core.Bool.{Bool, false}
use mathlib.Core.Path.{◌≡◌, refl, ap, ◌∙◌}
use mathlib.Core.List.{List, [], ◌∷◌}
use Prim.Native.Nat.{ℕ, ◌≤◌, ◌<◌}
use native.Mathlib.Omega.{arith}
use lib.Dec.{leb}
use lib.ListN.{length, get_or}
use borrow.Author.Tests.{leb-false, lt-ltb, le-ltb}
use Rattle.std.specs.Prelude.{Option, Some, None}
use Rattle.lineage.specs.Lists.{upto, any, first_of}
use Rattle.lineage.specs.Stored.{counts_in}
use Rattle.lineage.specs.Calls.{Check, check, Outcome, refused, answered, outcome, FormsTaken, bad_edge, index_in}
use Rattle.laws.proofs.Lists.{any_none, in_upto}
use Rattle.laws.proofs.Tests.{or_false_left, or_false_right}
use Rattle.stored_header.specs.declared.Layout.{Layout}
use Rattle.stored_header.specs.Header.{Laid}
use Rattle.stored_header.proofs.Laid.{n_is}
use Rattle.open.proofs.Called.{Called}
use Rattle.build_orders.specs.Input.{graph_of}
use Rattle.numbers.specs.Found.{found_below}
use Rattle.build.proofs.Checks.{any_some, first_some, any_none_found}
use Rattle.reach_rounds.specs.Over.{added_says}
use Rattle.reach_rounds.specs.Rounds.{Low}
use Rattle.added.specs.declared.Added.{Added}
use Rattle.added.specs.Adding.{most_added}
use Rattle.added.specs.Asked.{sources_of, targets_of, bad_added, added_checks, added_answer, added_marks, added_work}

-- no added edge is bad: all ends are below n
pub none_bad : (n : ℕ) (S T : List ℕ) → length S ≡ length T → any (bad_edge (graph_of n S T)) (upto (length S)) ≡ false → Low n S × Low n T
none_bad n S T paired none = (
  record { each = λ i h. leb-false n (get_or S i 0) (or_false_left (leb n (get_or S i 0)) (leb n (get_or T i 0)) (good i h)) },
  record { each = λ i h. leb-false n (get_or T i 0) (or_false_right (leb n (get_or S i 0)) (leb n (get_or T i 0)) (good i (omega arith))) },
)
  where
    good : (i : ℕ) → i < length S → bad_edge (graph_of n S T) i ≡ false
    good i h = any_none (bad_edge (graph_of n S T)) (upto (length S)) none i (in_upto (length S) i h)

-- the added edges, by the first bad one found
module _ (n : ℕ) (S T : List ℕ) {bad : Option ℕ} (found : bad ≡ found_below (length S) (first_of (bad_edge (graph_of n S T)) (upto (length S)) (length S))) where
  pub over_bad : (says : Bool) {first : ℕ} → bad ≡ Some first → refused 7 first ≡ outcome (bad_added (graph_of n S T) ∷ []) says
  over_bad says h = ap (refused 7) (first_some (bad_edge (graph_of n S T)) (length S) found h) ∙ rw (any_some (bad_edge (graph_of n S T)) (length S) found h) refl

  module _ (h : bad ≡ None) where
    none : any (bad_edge (graph_of n S T)) (upto (length S)) ≡ false
    none = any_none_found (bad_edge (graph_of n S T)) (length S) found h

    pub over_low : length S ≡ length T → Low n S × Low n T
    over_low paired = none_bad n S T paired none

    pub over_says : {says r : Bool} → r ≡ says → answered r ≡ outcome (bad_added (graph_of n S T) ∷ []) says
    over_says e = rw none (ap answered e)

-- the state's edges
module _ (n : ℕ) (a : Added) (says : Bool) where
  pub sound_many : most_added < a.count → refused 21 0 ≡ outcome (added_checks n a) says
  sound_many h = rw (lt-ltb most_added a.count h) refl

  pub sound_over :
      a.count ≤ most_added → {o : Outcome Bool} → o ≡ outcome (bad_added (graph_of n (sources_of a) (targets_of a)) ∷ []) says → o ≡ outcome (added_checks n a) says
  sound_over h e = rw (le-ltb most_added a.count h) e

-- the checks of the added edges, by the number of vertices that the bytes say
pub edges_in : {b : List ℕ} {l : Layout} → Laid b l → (a : Added) (says : Bool) {o : Outcome Bool} → o ≡ outcome (added_checks l.n a) says
    → o ≡ outcome (added_checks (counts_in b).n a) says
edges_in L a says e = e ∙ ap (λ (n : ℕ). outcome (added_checks n a) says) (n_is L)

-- 14 of the source, 14 of the target
abbrev own : List ℕ → ℕ → ℕ → List Check
own b u v = check (leb (counts_in b).n u) 14 0 ∷ check (leb (counts_in b).n v) 14 1 ∷ []

pub answers : {T : FormsTaken} {b : List ℕ} (a : Added) (u v : ℕ) {marks work : List ℕ} {o : Outcome Bool} {m w : List ℕ} {stops : Bool}
    → Called T b marks work (own b u v) (added_checks (counts_in b).n a) (added_says (index_in b) (sources_of a) (targets_of a) u v) o m w stops
    → record {
      result_value : o ≡ added_answer T b a u v (length marks) (length work);
      marks_after : m ≡ added_marks T b u v marks (length work);
      work_after : w ≡ added_work T b u v (length marks) work;
    }
unfolding added_answer added_marks added_work
answers a u v C = record { result_value = C.says; marks_after = C.leaves; work_after = C.clears }
