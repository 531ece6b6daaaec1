-- `answers::main` is safe and ends: what the run counts lies within its output.
use mathlib.Core.Path.{sym}
use Prim.Native.Nat.{◌≤◌}
use lib.ListN.{length}
use lib.Seq.{length-take-le}
use Rattle.text_run.proofs.Theorems.{run_within}
use Rattle.answers.proofs.main.Goals as goal
use Rattle.answers.proofs.main.Goals.{After-run-r}

within : (c : After-run-r) → c.run-r.result ≤ length c.run-r.new.out
within c = run_within (record { counts = c.run-r.ensures.value; writes = c.run-r.ensures.out_after })

pub slice_bounds-out-end : goal.slice_bounds-out-end
slice_bounds-out-end c = within (goal.at.slice_bounds-out-end c).After-run-r

pub slice_bounds-write_all-end : goal.slice_bounds-write_all-end
slice_bounds-write_all-end c = sym (length-take-le _ _ (within (goal.at.slice_bounds-write_all-end c).After-run-r))
