-- `reach_rounds::leads_out` meets its contract.
use Rattle.stored.specs.Reading.{numbers_of}
use Rattle.reach_rounds.proofs.Spreading.{out_not, out_by}
use Rattle.reach_rounds.proofs.leads_out.Goals as goal

pub returns-then-marks-from-ne1 : goal.returns-then-marks-from-ne1
returns-then-marks-from-ne1 c = out_not (numbers_of c.args.names.now) c.args.marks.now c.args.s c.args.t c.get-from.ensures.0 c.if-marks-from-ne1.true

pub returns : goal.returns
returns c = out_by (numbers_of c.args.names.now) c.args.marks.now c.args.s c.args.t c.get-from.ensures.0 c.if-marks-from-ne1.false c.get-to.ensures.0
