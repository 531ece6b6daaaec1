-- `reach_rounds::spread` meets its contract, by the invariant beside this file.
use mathlib.Core.Path.{refl, sym, ◌∙◌}
use Prim.Native.Nat.{◌<◌}
use native.Mathlib.Omega.{arith}
use lib.ListN.{length}
use Rattle.reach_rounds.proofs.Spreading.{spreading_crossed, spreading_passed, spreading_all}
use Rattle.reach_rounds.proofs.spread.Goals as goal
use Rattle.reach_rounds.proofs.spread.Goals.{then-leads_out, else-leads_out}

pub loop-i-preserved : goal.loop-i-preserved
loop-i-preserved c =
    let fits : c.loop-i.i < length c.args.targets.now = omega (arith, c.requires.sources_len.0) in
    elim c.if-leads_out.branch [
      | then-leads_out w ↦
          rw (w.marks-is, w.changed-is)
          (spreading_crossed c.loop-i.invariant c.loop-i-test.true fits refl refl (sym c.leads_out.ensures ∙ w.if-leads_out.true)
          w.get-to.ensures.0)
      | else-leads_out w ↦
          rw (w.marks-is, w.changed-is)
          (spreading_passed c.loop-i.invariant c.loop-i-test.true fits refl refl (sym c.leads_out.ensures ∙ w.if-leads_out.false))
    ]

pub returns : goal.returns
returns c = let both = spreading_all c.loop-i.invariant c.loop-i-test.false in record { marks_after = both.0; value = both.1 }
