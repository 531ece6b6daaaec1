-- What the pairs are asked over, beside sound bytes of a layout: triples, marks that are 0 below n, lists of one length, and six numbers a pair.
use Rattle.std.specs.Prelude.{◌≡◌, List, ℕ, ◌*◌, ◌≤◌, length, take, replicate}
use Rattle.stored_header.specs.declared.Layout.{Layout}

pub record LentPairs (l : Layout) (sources targets marks : List ℕ) (answers : ℕ) : Type 0 where
  pub triples : l.stride ≡ 3
  pub marked : l.n ≤ length marks
  pub none : take l.n marks ≡ replicate l.n 0
  pub same : length sources ≡ length targets
  pub room : 6 * length sources ≤ answers
