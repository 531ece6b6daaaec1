-- The children of k places, whose rows lie in work memory.
use Rattle.std.specs.Prelude.{List, map, ℕ}
use Rattle.lineage.specs.Lists.{upto}
use Rattle.lineage.specs.Stored.{row_at}
use Rattle.build_rows.specs.Rows.{rows_in}

unfoldable pub children_in_words : List ℕ → ℕ → ℕ → ℕ → ℕ → List (List ℕ)
unfolding row_at
children_in_words work starts values c k = map (rows_in work starts values c k) (upto k)
