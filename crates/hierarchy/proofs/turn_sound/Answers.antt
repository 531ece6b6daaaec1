-- `hierarchy::turn_sound` meets its contract: 4 is told by the labellings, 22 by the first child of two others and its name, 9 by the layout that the counts have there, and
-- behind them the whole index is written.
use borrow.Author.Tests.{ltb-true, ltb-false}
use Rattle.sound_places.proofs.Images.{sound_bytes}
use Rattle.hierarchy.specs.Fit.{Between}
use Rattle.hierarchy.proofs.Fitted.{Other, between, turned_shared, turned_short, turned_whole}
use Rattle.hierarchy.proofs.turn_sound.Goals as goal
use Rattle.hierarchy.proofs.turn_sound.Goals.{After-form_row-row, Else-row-l}

other : (c : After-form_row-row) → let a = c.args in Other a.index.now.image.bytes.now a.index.now.image.layout a.form c.form_row-row.result
other c = let p = c.requires in record { wide = p.wide; single = p.d_value; row_is = c.form_row-row.ensures }

fits : (e : Else-row-l) → let a = e.args in Between a.index.now.image.bytes.now a.index.now.image.layout a.form e.lay_out-to.result
fits e =
    between (sound_bytes e.args.index.now) (let p = e.requires in record { wide = p.wide; single = p.d_value; row_is = e.form_row-row.ensures })
    e.args.out.now e.if-row-l.false e.lay_out-to.ensures

pub returns-in-Some : goal.returns-in-Some
returns-in-Some c =
    record {
      turned =
          turned_shared (sound_bytes c.args.index.now) (other (goal.at.returns-in-Some c).After-form_row-row) _ c.if-row-l.false
          c.first_child_of_two.ensures.value c.in-Some.is c.groups.ensures c.num-name.ensures.0;
      marks_unchanged = c.first_child_of_two.ensures.marks_unchanged;
    }

pub returns-then-short : goal.returns-then-short
returns-then-short c =
    record {
      turned =
          turned_short (sound_bytes c.args.index.now) (other (goal.at.returns-then-short c).After-form_row-row) _ c.if-row-l.false
          c.first_child_of_two.ensures.value c.in_default.not-Some
          (fits (goal.at.returns-then-short c).Else-row-l) (ltb-true _ _ c.if-short.true-raw);
      marks_unchanged = c.first_child_of_two.ensures.marks_unchanged;
    }

pub returns : goal.returns
returns c =
    record {
      turned =
          turned_whole (sound_bytes c.args.index.now) (other (goal.at.returns c).After-form_row-row) _ c.if-row-l.false
          c.first_child_of_two.ensures.value c.in_default.not-Some
          (fits (goal.at.returns c).Else-row-l) (ltb-false _ _ c.if-short.false-raw) c.write_plain.ensures;
      marks_unchanged = c.first_child_of_two.ensures.marks_unchanged;
    }
