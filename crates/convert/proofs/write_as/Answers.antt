-- `convert::write_as` meets its contract, by the invariant beside this file.
use mathlib.Core.Path.{◌≡◌, ap, ◌∙◌}
use native.Mathlib.Omega.{arith}
use Rattle.convert.proofs.Written.{sections_put, sections_next, sections_whole}
use Rattle.convert.proofs.write_as.Goals as goal

pub loop-i-preserved : goal.loop-i-preserved
loop-i-preserved c = let l = c.loop-i in sections_next c.requires.turns l.i (omega arith) _ _ _ l.invariant c.copy_section.ensures

pub returns : goal.returns
returns c =
    let l = c.loop-i in
    let a = c.args in
    sections_whole c.requires.turns _ _ _ c.write_header.ensures
    (l.invariant ∙ ap (sections_put a.index.now.image.bytes.now a.to c.write_header.new.out) (let e : l.i ≡ 6 = omega arith in e))
