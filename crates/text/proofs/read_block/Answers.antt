-- `text::read_block` meets its contract, by the invariant beside this file.
use mathlib.Core.Path.{◌∙◌}
use native.Mathlib.Omega.{arith}
use Rattle.text.proofs.Blocks.{passing_begins, passing_turns, passing_full, passed_stops}
use Rattle.text.proofs.read_block.Goals as goal

pub loop-i-init : goal.loop-i-init
loop-i-init c = passing_begins _ _ _ _ _ _ c.requires.1.0

pub returns-in_default : goal.returns-in_default
returns-in_default c =
    let q = c.loop-i.invariant in
    record {
      read = passed_stops _ _ _ _ _ _ _ _ c.in_default.ensures ∙ q.whole;
      few = omega arith;
      inside = q.inside;
      spent = q.spent;
    }

pub loop-i-preserved : goal.loop-i-preserved
loop-i-preserved c = passing_turns _ _ _ _ _ _ _ _ _ _ c.loop-i.invariant c.loop-i-test.true c.in-Some.ensures

pub returns : goal.returns
returns c = passing_full _ _ _ _ _ _ _ _ (omega arith) c.loop-i.invariant
