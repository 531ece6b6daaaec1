-- `text_run::run` meets its contract: too many bytes and a bad line print refusal 17; what a good text says is built and asked.
use Rattle.text_run.proofs.Whole.{many_bytes, read_prints, printed}
use Rattle.text_run.proofs.run.Goals as goal

pub returns-then-text-gt-MOST_BYTES : goal.returns-then-text-gt-MOST_BYTES
returns-then-text-gt-MOST_BYTES c =
    let both = printed c.args.text.now (many_bytes _ c.if-text-gt-MOST_BYTES.true) c.put_refused.ensures in
    record { value = both.0; out_after = both.1 }

pub returns-in-Ok : goal.returns-in-Ok
returns-in-Ok c =
    let both = printed c.args.text.now (read_prints c.if-text-gt-MOST_BYTES.false c.in-Ok.ensures) c.put_built.ensures in
    record { value = both.0; out_after = both.1 }

pub returns-in-Err : goal.returns-in-Err
returns-in-Err c =
    let both = printed c.args.text.now (read_prints c.if-text-gt-MOST_BYTES.false c.in-Err.ensures) c.put_refused-in-Err.ensures in
    record { value = both.0; out_after = both.1 }
