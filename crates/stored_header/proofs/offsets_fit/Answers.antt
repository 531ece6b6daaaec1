-- `stored_header::offsets_fit` meets its contract: the tests are those of the definition.
use Rattle.stored_header.proofs.Checked.{agree_by}
use Rattle.stored_header.proofs.offsets_fit.Goals as goal

pub returns : goal.returns
returns c =
    agree_by c.args.index.now c.args.l _ _ _ _ _ _ _
    c.says.ensures
    c.says-2.ensures
    c.says-3.ensures
    c.says-4.ensures
    c.says-5.ensures
    c.says-6.ensures
    c.says-7.ensures
