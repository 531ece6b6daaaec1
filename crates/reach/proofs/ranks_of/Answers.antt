-- `reach::ranks_of` meets its contract: the sections of sound contents are fit, and hold what the index has.
use mathlib.Core.Path.{refl}
use native.Mathlib.Omega.{arith}
use Rattle.stored.specs.Sections.{Six}
use Rattle.stored.proofs.Contents.{stretch_of, with_rows}
use Rattle.reach.proofs.Fitted.{spots, rank_place, ranks_are}
use Rattle.sound_places.proofs.Images.{sound_bytes}
use Rattle.reach.proofs.ranks_of.Goals as goal
use Rattle.reach.proofs.ranks_of.Goals.{After-by_rank}

-- the sections that were read, among the six
given : (c : After-by_rank) → Six c.args.index.now.image.bytes.now c.args.index.now.image.layout (stretch_of c.args.index.now.image.laid 0) c.groups.result.now (stretch_of c.args.index.now.image.laid 2)
    c.starts.result.now c.children.result.now c.labels.result.now
given c = with_rows c.args.index.now.image.laid c.groups.ensures c.labels.ensures c.starts.ensures c.children.ensures

pub invariant_of-rows : goal.invariant_of-rows
invariant_of-rows c = record { held = (spots (sound_bytes c.args.index.now) (given (goal.at.invariant_of-rows c).After-by_rank) c.args.index.now.image.layout.n (omega arith)).below.entries }

pub invariant_of-result : goal.invariant_of-result
invariant_of-result c = record { many = refl; passed = (spots (sound_bytes c.args.index.now) (given (goal.at.invariant_of-result c).After-by_rank) c.args.index.now.image.layout.n (omega arith)).below.passed }

pub invariant_of-result-2 : goal.invariant_of-result-2
invariant_of-result-2 c = record { one_each = refl; place_low = rank_place (sound_bytes c.args.index.now) (given (goal.at.invariant_of-result-2 c).After-by_rank) _ c.by_rank.ensures }

pub returns : goal.returns
returns c = ranks_are (sound_bytes c.args.index.now) (given (goal.at.returns c).After-by_rank) _ c.by_rank.ensures _ refl refl refl refl
