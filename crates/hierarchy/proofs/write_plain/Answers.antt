-- `hierarchy::write_plain` meets its contract: header, numbers and labels stand one behind the other, and so they are the index at the other form.
use mathlib.Core.Path.{refl}
use Rattle.sound_places.proofs.Images.{sound_bytes}
use Rattle.hierarchy.proofs.Written.{put_whole}
use Rattle.hierarchy.proofs.write_plain.Goals as goal

pub returns : goal.returns
returns c =
    let p = c.requires in
    put_whole (sound_bytes c.args.index.now) p.between c.labels.ensures _ _ _ _ _
    c.numbers_from.ensures refl p.total_in_bounds c.write_header.ensures c.copy_numbers.ensures c.write_turned.ensures
