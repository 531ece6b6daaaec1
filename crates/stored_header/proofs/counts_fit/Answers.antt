-- `stored_header::counts_fit` meets its contract: the tests are those of the definition, at the row of the form.
use Rattle.stored_header.proofs.Checked.{fit_by}
use Rattle.stored_header.proofs.counts_fit.Goals as goal

pub returns : goal.returns
returns c =
    let a = c.args in
    fit_by _ a.form a.n a.k a.c a.d c.form_row-row.ensures
