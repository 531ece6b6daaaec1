-- The pass at its end: no task is left, so the stage that memory holds is what the fold comes to, and the names in memory are those of its groups.
use mathlib.Core.Path.{◌≡◌, sym, subst}
use mathlib.Core.List.{List}
use Prim.Native.Nat.{ℕ, ◌+◌, ◌*◌, ◌≤◌}
use Rattle.lineage.specs.Lists.{part}
use Rattle.laws.specs.OnePass.{stage_after, at_first, GroupNames}
use Rattle.laws.proofs.OnePass.{roots_grouped, groups_named}
use Rattle.laws.proofs.Laid.{below_in}
use Rattle.numbers.specs.Regions.{Kept}
use Rattle.build_rows.specs.Rows.{rows_in}
use Rattle.build_traversal.specs.Fit.{TraverseFit}
use Rattle.build_traversal.proofs.Reach.{rows_low, traverse_visits}
use Rattle.build_traversal.proofs.Tasks.{tries}
use Rattle.build_traversal.proofs.Frames.{tasks_end}
use Rattle.build_names.proofs.Machine.{Runs, nothing, run_end}
use Rattle.build_names.proofs.Holding.{Holds}
use Rattle.build_names.proofs.Going.{Going}

module _
    {work₀ work : List ℕ} {starts values c roots q n base d sp low e at end : ℕ} (fit : TraverseFit work₀ starts values c roots q n base (6 * n))
    (g : Going work₀ work starts values c roots q n base d sp low e at end)
  where
    abbrev next : ℕ → List ℕ
    next = rows_in work₀ starts values c n

    run_through : d ≡ 0 → end ≤ e → Runs next (tries (part work₀ roots q)) at_first g.stage
    run_through z h = g.goes g.stage (subst (λ ts. Runs next ts g.stage g.stage) (sym (tasks_end fit g.frames h z)) nothing)

    pub ended : d ≡ 0 → end ≤ e → Kept work₀ work base (6 * n) × GroupNames next (part work₀ roots q) (part work (base + 5 * n) n)
    ended z h =
        let roots_low = below_in n (part work₀ roots q) fit.roots_low in
        let visits = traverse_visits n (part work₀ roots q) (rows_low (part work₀ starts (n + 1)) (part work₀ values c) fit.values_low) roots_low in
        let same : g.stage ≡ stage_after visits at_first = run_end visits (run_through z h) in
        let holds : Holds work base n sp low (stage_after visits at_first) = subst (Holds work base n sp low) same g.holds in
        (g.frames.kept, groups_named visits (part work (base + 5 * n) n) (λ v i. holds.names v (roots_low v i) (roots_grouped visits v i)))
