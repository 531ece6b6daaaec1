-- `stored_header::lay_out` meets its contract: each section starts where the one before it ends. Every sum is far below what a usize holds, since the counts are bounded.
use Rattle.stored_header.proofs.Checked.{laid_by}
use Rattle.stored_header.proofs.lay_out.Goals as goal

pub returns : goal.returns
returns c =
    laid_by _ _ _ _ _ _ _ _ _ _ _ _ _
    c.bytes_of.ensures.0
    c.bytes_of-2.ensures.0
    c.bytes_of-3.ensures.0
    c.bytes_of-4.ensures.0
    c.bytes_of-5.ensures.0
    c.label_count.ensures.0
    c.bytes_of-6.ensures.0
