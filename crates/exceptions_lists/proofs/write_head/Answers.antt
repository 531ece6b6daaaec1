-- `exceptions_lists::write_head` meets its contract: three numbers, one behind the other.
use Rattle.exceptions_lists.proofs.Writing.{three_put}
use Rattle.exceptions_lists.proofs.write_head.Goals as goal

pub returns : goal.returns
returns c =
    let s = c.args in
    three_put s.out.now c.put_at.new.out c.put_at-2.new.out c.put_at-3.new.out s.k s.entries 0 c.requires c.put_at.ensures c.put_at-2.ensures c.put_at-3.ensures
