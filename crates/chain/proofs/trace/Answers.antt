-- `chain::trace` meets its contract: the mark at the source's name says what a question says; on a yes the steps down marked groups are the chain.
use mathlib.Core.Path.{refl, sym, ◌∙◌}
use native.Mathlib.Omega.{arith}
use borrow.Author.Tests.{eq-eqb, ne_eqb}
use Rattle.lineage.specs.Calls.{index_in}
use Rattle.stored.specs.Sections.{Six}
use Rattle.stored.proofs.Contents.{stretch_of}
use Rattle.reach.proofs.Fitted.{spots, spot_low}
use Rattle.chain_steps.specs.Steps.{next_in}
use Rattle.chain.proofs.Shown.{shows_no, shows_yes}
use Rattle.chain.proofs.Fitted.{Ways, but_labels, name_marked, mark_says, trail_in, level_few, steps_are}
use Rattle.sound_places.proofs.Images.{sound_bytes}
use Rattle.chain.proofs.trace.Goals as goal
use Rattle.chain.proofs.trace.Goals.{After-children-children, After-get-lev}

-- the sections that were read, among the six
given : (c : After-children-children) → Six c.args.index.now.image.bytes.now c.args.index.now.image.layout c.names-names.result.now c.groups-groups.result.now
    c.levels-levels.result.now c.starts-starts.result.now c.children-children.result.now (stretch_of c.args.index.now.image.laid 5)
given c = but_labels c.args.index.now.image.laid c.names-names.ensures c.groups-groups.ensures
    c.levels-levels.ensures c.starts-starts.ensures c.children-children.ensures

ways : (z : After-get-lev) → let a = z.args in let l = a.index.now.image.layout in
    Ways (index_in a.index.now.image.bytes.now) l.width l.n l.k z.names-names.result.now z.levels-levels.result.now a.u a.v z.get-name.result z.place-x.result
    z.place-t.result z.get-lev.result
ways z = record {
  named = z.get-name.ensures.0;
  source = z.place-x.ensures.0;
  low = z.place-x.ensures.1;
  target = z.place-t.ensures.0;
  high = z.get-lev.ensures.0;
}

pub bounds-marks-name : goal.bounds-marks-name
bounds-marks-name c = name_marked (sound_bytes c.args.index.now) (given (goal.at.bounds-marks-name c).After-children-children) c.requires.n_in_bounds.1.0
    c.get-name.ensures.0 _ c.requires.n_in_bounds.0

pub returns-then-marks-name-ne1 : goal.returns-then-marks-name-ne1
returns-then-marks-name-ne1 c = shows_no (sym (mark_says (sound_bytes c.args.index.now) (given (goal.at.returns-then-marks-name-ne1 c).After-children-children)
    c.requires.n_in_bounds.1.0 c.requires.n_in_bounds.1.1 c.requires.exact c.get-name.ensures.0) ∙ ne_eqb _ 1 c.if-marks-name-ne1.true)

pub invariant_of-rows : goal.invariant_of-rows
invariant_of-rows c =
    record {
      held = (spots (sound_bytes c.args.index.now) (given (goal.at.invariant_of-rows c).After-children-children) c.args.index.now.image.layout.n
          (omega arith)).below.entries;
    }

pub invariant_of-show : goal.invariant_of-show
invariant_of-show c =
    record {
      many = refl;
      passed = (spots (sound_bytes c.args.index.now) (given (goal.at.invariant_of-show c).After-children-children) c.args.index.now.image.layout.n (omega arith)).below.passed;
    }

pub show-requires : goal.show-requires
unfolding next_in
show-requires c =
    let yes = c.if-marks-name-ne1.false in
    record {
      spots = record { name_low = spot_low (sound_bytes c.args.index.now) (given (goal.at.show-requires c).After-children-children) _ c.requires.n_in_bounds.0 };
      trail_in = trail_in (sound_bytes c.args.index.now) (given (goal.at.show-requires c).After-children-children) c.requires.n_in_bounds.1.0 c.requires.n_in_bounds.1.1
          c.requires.exact (ways (goal.at.show-requires c).After-get-lev) yes;
      lev_le_vertex_bound = level_few (sound_bytes c.args.index.now) (given (goal.at.show-requires c).After-children-children) c.requires.n_in_bounds.1.0
          c.requires.n_in_bounds.1.1 c.requires.exact (ways (goal.at.show-requires c).After-get-lev) yes;
    }

pub returns : goal.returns
unfolding next_in
returns c =
    let yes = c.if-marks-name-ne1.false in
    shows_yes (sym (mark_says (sound_bytes c.args.index.now) (given (goal.at.returns c).After-children-children) c.requires.n_in_bounds.1.0 c.requires.n_in_bounds.1.1
    c.requires.exact c.get-name.ensures.0) ∙ eq-eqb _ 1 yes)
    (steps_are (sound_bytes c.args.index.now) (given (goal.at.returns c).After-children-children) c.requires.n_in_bounds.1.0 c.requires.n_in_bounds.1.1 c.requires.exact
    (ways (goal.at.returns c).After-get-lev) yes) c.show.ensures
