-- `OneLabelling::e` meets its contract: e is among the numbers by place.
use mathlib.Core.List.{[]}
use native.Mathlib.Omega.{arith}
use Rattle.sound_ranks.proofs.Read.{e_was, e_told}
use Rattle.sound_ranks.proofs.reading.OneLabelling.e.Goals as goal

pub returns : goal.returns
returns g c = let t = c.by_place.result in (e_told c.args.self.now c.by_place.ensures.0 c.args.p (e_was t.held [] (omega arith) c.e.ensures.0), c.e.ensures.1)
