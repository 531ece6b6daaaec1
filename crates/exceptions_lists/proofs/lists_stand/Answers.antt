-- `exceptions_lists::lists_stand` meets its contract, by the invariant beside this file.
use mathlib.Core.Path.{◌≡◌, refl, ◌∙◌}
use Rattle.exceptions_lists.proofs.Standing.{standing_none, standing_differs, standing_broken, standing_more}
use Rattle.exceptions_lists.proofs.lists_stand.Goals as goal
use Rattle.exceptions_lists.proofs.lists_stand.Goals.{After-match_row}

marks_back : (m : After-match_row) → m.match_row.new.marks ≡ m.args.marks.now
marks_back m = m.match_row.ensures.marks_unchanged ∙ m.loop-x.invariant.1

pub loop-x-init : goal.loop-x-init
loop-x-init c = (standing_none _ _ _ _ c.requires.k_bound.0, refl)

pub returns-in_default-clause-value : goal.returns-in_default-clause-value
returns-in_default-clause-value c =
    standing_differs c.loop-x.invariant.0 c.loop-x-test.true c.match_row.ensures.value c.in_default.not-Some

pub returns-then-num-next-clause-value : goal.returns-then-num-next-clause-value
returns-then-num-next-clause-value c =
    standing_broken c.loop-x.invariant.0 c.loop-x-test.true c.match_row.ensures.value c.in-Some.is c.num.ensures.0 c.if-num-next.true

pub loop-x-preserved : goal.loop-x-preserved
loop-x-preserved c = (standing_more c.loop-x.invariant.0 c.loop-x-test.true c.match_row.ensures.value c.in-Some.is c.num.ensures.0 c.if-num-next.false, marks_back (goal.at.loop-x-preserved c).After-match_row)
