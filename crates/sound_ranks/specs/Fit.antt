-- What is asked of the stretches of one labelling before they are tested.
use Rattle.std.specs.Prelude.{List, ℕ, ◌*◌}
use Rattle.stored_header.specs.Header.{Stride}
use Rattle.stored.specs.Rows.{Holds}

-- a stretch holds z numbers of each of k groups: triples s, m, e or pairs s, e
pub record Tuples (w z : ℕ) (tuples : List ℕ) (k : ℕ) : Type 0 where
  pub stride : Stride z
  pub held : Holds w tuples (z * k)

-- the numbers by place and the places by rank, of k groups
pub record LabellingHeld (w z : ℕ) (tuples places : List ℕ) (k : ℕ) : Type 0 where
  pub tuples_held : Tuples w z tuples k
  pub places_held : Holds w places k
