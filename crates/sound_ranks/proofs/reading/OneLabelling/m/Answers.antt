-- `OneLabelling::m` meets its contract: m is among the numbers by place.
use mathlib.Core.List.{[]}
use native.Mathlib.Omega.{arith}
use Rattle.sound_ranks.proofs.Read.{m_was, m_told}
use Rattle.sound_ranks.proofs.reading.OneLabelling.m.Goals as goal

pub returns : goal.returns
returns g c = let t = c.by_place.result in (m_told c.args.self.now c.by_place.ensures.0 c.args.p (m_was t.held [] (omega arith) c.m.ensures.0), c.m.ensures.1)
