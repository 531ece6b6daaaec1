-- `convert::convert_sound` meets its contract: 19 is told by the bounds of the other form, 9 by the layout that the counts have there, and behind them the whole index
-- is written.
use Rattle.convert.specs.Fit.{Turns}
use Rattle.convert.proofs.Fitted.{Other, turns, turned_short, turned_whole}
use Rattle.convert.proofs.convert_sound.Goals as goal
use Rattle.convert.proofs.convert_sound.Goals.{After-form_row-row, After-lay_out-to}

other : (c : After-form_row-row) → let a = c.args in Other a.index.now a.form c.form_row-row.result
other c = record { known = c.requires.0; alike = c.requires.1; row_is = c.form_row-row.ensures }

fits : (c : After-lay_out-to) → let a = c.args in Turns a.index.now a.form c.lay_out-to.result
fits c = turns (record { known = c.requires.0; alike = c.requires.1; row_is = c.form_row-row.ensures }) c.lay_out-to.ensures

pub returns-then-short : goal.returns-then-short
returns-then-short c =
    turned_short (other (goal.at.returns-then-short c).After-form_row-row) _ c.is_beyond-beyond.ensures c.if-beyond.false
    (fits (goal.at.returns-then-short c).After-lay_out-to) c.if-short.true

pub returns : goal.returns
returns c =
    turned_whole (other (goal.at.returns c).After-form_row-row) _ c.is_beyond-beyond.ensures c.if-beyond.false (fits (goal.at.returns c).After-lay_out-to)
    c.if-short.false c.write_as.ensures
