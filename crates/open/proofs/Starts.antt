-- The child starts of an index that is written are read again from its bytes.
use mathlib.Core.Path.{◌≡◌, sym, ap₂, ◌∙◌}
use mathlib.Core.List.{List, []}
use Prim.Native.Nat.{ℕ, ◌+◌, ◌*◌, ◌^◌, ◌<◌}
use native.Mathlib.Omega.{arith}
use lib.ListN.{length}
use Rattle.lineage.specs.Lists.{part, Every}
use Rattle.lineage.specs.Index.{Index}
use Rattle.lineage.specs.Numbers.{numbers, written}
use Rattle.lineage.specs.Stored.{Form, starts_from, sections, counts_of, header, encode, stretch, section}
use Rattle.laws.proofs.Every.{every_at}
use Rattle.laws.proofs.Starts.{starts_long}
use Rattle.numbers.proofs.Written.{written_long, numbers_written}
use Rattle.stored.specs.Fits.{Fits}
use Rattle.stored.proofs.Offsets.{offsets_part}

pub starts_read : {F : Form} {I : Index} → Fits F I → section F.width F.by_place (counts_of I) (encode F I) 3 ≡ starts_from 0 I.children
unfolding section stretch encode
starts_read {F} {I} E =
    let starts : List ℕ = starts_from 0 I.children in
    let size : length starts ≡ length I.groups + 1 = omega (arith, starts_long 0 I.children, E.children) in
    let w : ℕ = F.width in
    ap₂ (numbers w)
    (sym (ap₂ (λ (v z : ℕ). part (encode F I) (48 + w * length I.names + w * length I.groups + w * v) (w * z)) E.levels size)
    ∙ offsets_part w (written 4 (header F (counts_of I))) (sections F.by_place I) 48 3 (sym (written_long 4 (header F (counts_of I)))) (omega arith))
    (sym size)
    ∙ numbers_written F.width starts (every_at (Every (λ x. x < 256 ^ F.width)) (sections F.by_place I) 3 [] E.small (omega arith))
