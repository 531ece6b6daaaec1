-- `matrix_read::look_over` meets its contract: the header, the comments, the size line and the entries, one after the other.
use mathlib.Core.Logic.{inl, inr}
use mathlib.Core.Path.{sym, ◌∙◌}
use Rattle.matrix_read.proofs.Over.{Headed, headless, header_read, SizeGood, size_taken, sizeless, entries_few, lines_left, all_stands}
use Rattle.matrix_read.proofs.look_over.Goals as goal
use Rattle.matrix_read.proofs.look_over.Goals.{After-good_entries-e, Else-not-header_stands, In-Some}

headed : (c : Else-not-header_stands) → Headed c.args.text.now
headed c = header_read _ (sym c.header_stands.ensures ∙ c.if-not-header_stands.false)

sized : (n : In-Some) → SizeGood n.args.text.now n.skip_comments-c.result.at n.in-Some.size.n n.in-Some.size.entries n.in-Some.size.next
sized n = size_taken _ _ n.skip_comments-c.ensures.inside _ (sym n.in-Some.is ∙ n.read_size.ensures)

pub returns-then-not-header_stands : goal.returns-then-not-header_stands
returns-then-not-header_stands c = headless _ (sym c.header_stands.ensures ∙ c.if-not-header_stands.true)

pub skip_comments-c-requires : goal.skip_comments-c-requires
skip_comments-c-requires c = (headed (goal.at.skip_comments-c-requires c).Else-not-header_stands).long

pub returns-in_default : goal.returns-in_default
returns-in_default c = sizeless _ (headed (goal.at.returns-in_default c).Else-not-header_stands) _ _ c.skip_comments-c.ensures (sym c.in_default.is ∙ c.read_size.ensures)

pub good_entries-e-requires : goal.good_entries-e-requires
good_entries-e-requires c = (sized (goal.at.good_entries-e-requires c).In-Some).inside

pub returns-then-e-most : goal.returns-then-e-most
returns-then-e-most c =
    let p = goal.at.returns-then-e-most c in
    elim c.then-e-most.either [
      | inl few ↦ entries_few _ (headed p.Else-not-header_stands) _ _ c.skip_comments-c.ensures _ _ _ (sized p.In-Some) _ _ c.good_entries-e.ensures few
      | inr left ↦ lines_left _ (headed p.Else-not-header_stands) _ _ c.skip_comments-c.ensures _ _ _ (sized p.In-Some) _ _ c.good_entries-e.ensures left.1
    ]

pub returns : goal.returns
returns c = all_stands _ (headed (goal.at.returns c).Else-not-header_stands) _ _ c.skip_comments-c.ensures _ _ _ (sized (goal.at.returns c).In-Some) _ _ c.good_entries-e.ensures c.if-e-most.false c.if-e-text.false
