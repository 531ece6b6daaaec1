-- `added::add` meets its contract: each return is where its checks stop.
use Rattle.added.proofs.Adds.{adds_one}
use Rattle.added.proofs.add.Goals as goal

pub returns : goal.returns
returns c =
    let s = c.args in
    let both = adds_one s.state s.n s.from s.to c.if-n-from.false c.if-n-to.false c.if-count-ge-MOST_ADDED.false in
    record {
      answer_value = both.0;
      state_value = both.1;
    }
