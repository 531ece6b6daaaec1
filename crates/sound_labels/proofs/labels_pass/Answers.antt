-- `sound_labels::labels_pass` meets its contract: the three functions compute the test's parts, each looked at where those before it hold.
use mathlib.Core.Bool.{not}
use mathlib.Core.Path.{ap, ◌∙◌, subst}
use Rattle.laws.proofs.Tests.{and_fails, and_goes}
use Rattle.stored.proofs.Sections.{places_long}
use Rattle.stored.specs.Reading.{rows_of}
use Rattle.sound_blocks.specs.Marks.{Tells}
use Rattle.sound_groups.proofs.Many.{rows_many}
use Rattle.sound_ranks.specs.Reading.{labelling_read}
use Rattle.sound_blocks.proofs.Ranked.{roots_are}
use Rattle.sound_labels.proofs.Labels.{labels_is, ranked_after}
use Rattle.sound_labels.proofs.labels_pass.Goals as goal

pub returns-then-not-ranks_pass : goal.returns-then-not-ranks_pass
returns-then-not-ranks_pass g c =
    and_fails c.ranks_pass.ensures _ (ap not c.if-not-ranks_pass.true) ∙ labels_is _ _ _ _ _ _ (rows_many c.args.rows.now.rows ∙ c.requires.k_same)

pub invariant_of-ranked : goal.invariant_of-ranked
invariant_of-ranked g c =
    let l = c.args.labelling.now in record {
      ranked = ranked_after l.k (labelling_read g.row.Z l) (places_long l.width g.row.Z l.tuples.now l.places.now l.k) c.ranks_pass.ensures (ap not c.if-not-ranks_pass.false);
    }

pub returns-then-not-intervals_pass : goal.returns-then-not-intervals_pass
returns-then-not-intervals_pass g c =
    and_goes c.ranks_pass.ensures (ap not c.if-not-ranks_pass.false)
    (and_fails c.intervals_pass.ensures _ (ap not c.if-not-intervals_pass.true))
    ∙ labels_is _ _ _ _ _ _ (rows_many c.args.rows.now.rows ∙ c.requires.k_same)

pub returns : goal.returns
returns g c =
    let l = c.args.labelling.now in
    let N = ranked_after l.k (labelling_read g.row.Z l) (places_long l.width g.row.Z l.tuples.now l.places.now l.k) c.ranks_pass.ensures (ap not c.if-not-ranks_pass.false) in
    and_goes c.ranks_pass.ensures (ap not c.if-not-ranks_pass.false)
    (and_goes c.intervals_pass.ensures (ap not c.if-not-intervals_pass.false) (c.roots_pass.ensures ∙ roots_are N (subst (Tells (rows_of c.args.rows.now.rows) c.args.marks.now) c.requires.k_same c.requires.tells)))
    ∙ labels_is _ _ _ _ _ _ (rows_many c.args.rows.now.rows ∙ c.requires.k_same)
