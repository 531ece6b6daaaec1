-- `sound_places::place_of` meets its contract: in a rising list a member stands behind those below it. These are at most as many as it is large, and at most k; and the
-- members that are not among them are at most n less the name, since all are below n.
use mathlib.Core.Path.{◌∙◌}
use native.Mathlib.Omega.{arith}
use Rattle.lineage.specs.Numbers.{numbers}
use Rattle.laws.proofs.Halving.{count_most, count_least, position_below}
use Rattle.numbers.proofs.Numbers.{numbers_long}
use Rattle.numbers.proofs.Numbers as stretch
use Rattle.sound_places.proofs.place_of.Goals as goal

pub least_place-least-requires : goal.least_place-least-requires
least_place-least-requires c = c.requires.k_in_bounds.1

pub count_below-requires-clause-low_bound : goal.count_below-requires-clause-low_bound
count_below-requires-clause-low_bound c =
    let a = c.args in
    let xs = numbers a.w a.groups.now a.k in
    let r = c.requires in
    let most = count_most a.name xs r.rises in
    let least = count_least a.name a.n xs r.rises r.by_index (omega (arith, r.by_index a.name r.k_value)) in (
      omega (arith, least, numbers_long a.w a.groups.now a.k),
      (omega (arith, most, stretch.count_most a.w a.k a.groups.now a.name), omega arith),
    )

pub returns : goal.returns
returns c =
    let a = c.args in
    c.count_below.ensures ∙ position_below a.name (numbers a.w a.groups.now a.k) c.requires.rises c.requires.k_value
