-- `reach_climb::lowest_marked` meets its contract. The invariant: the children from i on have the same first marked one as the whole row.
use mathlib.Core.Path.{◌≡◌}
use mathlib.Core.List.{List, []}
use Prim.Native.Nat.{ℕ}
use lib.ListN.{get_or, drop}
use Rattle.std.specs.List.{find}
use Rattle.std.specs.Prelude.{Option}
use Rattle.reach_sweep.specs.Fit.{names_of, children_of}
use Rattle.reach_sweep.specs.Sweep.{marked}
use Rattle.reach_climb.proofs.lowest_marked.Given as goal

abbrev pub invariant-loop-i : goal.invariant-loop-i
invariant-loop-i l =
    let row : List ℕ = get_or (children_of l.groups) l.p [] in
    let lowest : List ℕ → Option ℕ = find (marked (names_of l.groups) l.marks) in
    lowest (drop l.i row) ≡ lowest row
