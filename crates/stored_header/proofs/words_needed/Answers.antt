-- `stored_header::words_needed` meets its contract: the two returns are the two cases of the definition, and the bounds keep the sum far below what a word holds.
use native.Mathlib.Omega.{arith}
use borrow.Author.Tests.{eq-eqb, ne_eqb}
use Rattle.stored_header.proofs.words_needed.Goals as goal

pub returns-then-l-eq2 : goal.returns-then-l-eq2
returns-then-l-eq2 c = (rw (eq-eqb c.args.l.width 2 c.if-l-eq2.true), omega arith)

pub returns : goal.returns
returns c = (rw (ne_eqb c.args.l.width 2 c.if-l-eq2.false), omega (arith, c.requires))
