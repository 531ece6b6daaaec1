-- `exceptions_lists::lists_stand` meets its contract. The invariant: the lists passed stand, the next one begins behind them, and the marks are as they were lent.
use mathlib.Core.Path.{◌≡◌}
use Rattle.lineage.specs.Calls.{index_in}
use Rattle.exceptions_lists.proofs.Standing.{Standing}
use Rattle.exceptions_lists.proofs.lists_stand.Given as goal

abbrev pub invariant-loop-x : goal.invariant-loop-x
invariant-loop-x l = Standing (index_in l.index.image.bytes.now) l.lists l.index.image.layout.k l.most l.x l.at × (l.marks ≡ l.initial.marks)
