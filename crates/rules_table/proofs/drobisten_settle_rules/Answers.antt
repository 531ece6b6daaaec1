-- `rules_table::drobisten_settle_rules` meets its contract. What `prepare` answers and leaves settles the table (`Settling`): a refusal is handed on; otherwise the two
-- later calls may be called with the marks that it left, and what they leave is what the contract promises.
use mathlib.Core.Path.{sym, ap, subst, ◌∙◌}
use Rattle.lineage.specs.Calls.{answered}
use Rattle.rules.specs.Settled.{prepared_of}
use Rattle.rules_table.proofs.Settling.{Settles, settles}
use Rattle.rules_table.proofs.drobisten_settle_rules.Goals as goal
use Rattle.rules_table.proofs.drobisten_settle_rules.Goals.{In-Ok, In-Err}

-- `prepare` reached n: the marks have room for them
done : (n : In-Ok) → (let a = n.args in Settles a.index.now a.changed.now a.marks.now a.work.now a.rules.now n.prepare.ensures.marks_after n.prepare.ensures.work_after (answered n.in-Ok.n))
done n =
    let a = n.args in
    let e = n.prepare.ensures in
    subst (Settles a.index.now a.changed.now a.marks.now a.work.now a.rules.now e.marks_after e.work_after) (sym (sym (ap prepared_of n.in-Ok.is) ∙ e.result_value))
    (settles a.index.now a.changed.now a.marks.now a.work.now a.rules.now e.marks_after e.work_after)

pub turn_all-requires : goal.turn_all-requires
turn_all-requires c = (done (goal.at.turn_all-requires c).In-Ok).0

pub clear_marks-requires : goal.clear_marks-requires
clear_marks-requires c = (done (goal.at.clear_marks-requires c).In-Ok).0

pub returns-in-Ok : goal.returns-in-Ok
returns-in-Ok c = rw c.from.ensures ((done (goal.at.returns-in-Ok c).In-Ok).1 _ _ c.clear_marks.ensures c.turn_all.ensures)

pub returns-in-Err : goal.returns-in-Err
returns-in-Err c =
    let a = c.args in
    let e = c.prepare.ensures in
    rw c.from-in-Err.ensures
    (subst (Settles a.index.now a.changed.now a.marks.now a.work.now a.rules.now e.marks_after e.work_after) (sym (sym (ap prepared_of c.in-Err.is) ∙ e.result_value))
    (settles a.index.now a.changed.now a.marks.now a.work.now a.rules.now e.marks_after e.work_after))
