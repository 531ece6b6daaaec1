-- `build_stripping::strip` meets its contract, by the invariant beside this file.
use Prim.Native.Nat.{◌≤◌}
use native.Mathlib.Omega.{arith}
use Rattle.build_stripping.proofs.Stripped.{stripped_none, few, row_fits, stripped_more, stripped_all}
use Rattle.build_stripping.proofs.strip.Goals as goal
use Rattle.build_stripping.proofs.strip.Goals.{At-loop-p}

-- how many values are left so far
left : (c : At-loop-p) → c.loop-p.n ≤ c.args.rows.c
left c = few c.requires c.loop-p.invariant

pub loop-p-init : goal.loop-p-init
loop-p-init c = stripped_none c.requires

pub overflow_cast-work : goal.overflow_cast-work
overflow_cast-work c = omega (arith, left (goal.at.overflow_cast-work c).At-loop-p)

pub strip_row-n-requires : goal.strip_row-n-requires
strip_row-n-requires c = row_fits c.requires c.loop-p.invariant (omega arith)

pub loop-p-preserved : goal.loop-p-preserved
loop-p-preserved c =
    stripped_more c.requires c.loop-p.invariant (omega arith)
    c.strip_row-n.ensures.kept c.strip_row-n.ensures.upper_bound c.strip_row-n.ensures.result_after c.strip_row-n.ensures.by_index

pub overflow_cast-work-2 : goal.overflow_cast-work-2
overflow_cast-work-2 c = omega (arith, left (goal.at.overflow_cast-work-2 c).At-loop-p)

pub returns : goal.returns
returns c = let both = stripped_all c.requires (omega arith) c.loop-p.invariant in record { kept = both.0; upper_bound = both.1.0; rows_at = both.1.1 }
