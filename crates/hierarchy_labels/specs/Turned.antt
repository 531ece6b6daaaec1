-- One labelling, read with z numbers of each group by place and written with y of each: s, m and e, or s and e; what is read as m of a pair is s.
use Rattle.std.specs.Prelude.{◌≡◌, List, ℕ, ◌+◌, ◌*◌, ◌-◌, ◌≤◌, length}
use Rattle.lineage.specs.Labels.{Labelling}
use Rattle.lineage.specs.Numbers.{num_at}
use Rattle.stored_header.specs.Header.{Stride}
use Rattle.stored.specs.Sections.{labelling_in, tuples_of, places_of}
use Rattle.stored.specs.declared.reading.Labels.{Labels}
use Rattle.sound_ranks.specs.declared.reading.TuplesByPlace.{TuplesByPlace}
use Rattle.build_writing.specs.Words.{label_by}

-- the y numbers of group p
abbrev pub label_from : (w z y : ℕ) → List ℕ → ℕ → List ℕ
label_from w z y tuples p = label_by y (num_at w tuples (z * p)) (num_at w tuples (z * p + (z - 2))) (num_at w tuples (z * p + (z - 1)))

-- the one labelling that labels hold
abbrev pub labelling_of : (w z : ℕ) → List ℕ → ℕ → Labelling
labelling_of w z labels k = labelling_in w z (tuples_of w z labels k 0) (places_of w z labels k 0) k

-- room for y numbers of each group by place
pub record ByPlace (out : List ℕ) (at : ℕ) (tuples : TuplesByPlace) (y : ℕ) : Type 0 where
  pub stride : Stride y
  pub room : at + tuples.width * (y * tuples.k) ≤ length out

-- labels of one labelling, and room for those that are written
pub record Turns (out : List ℕ) (at : ℕ) (labels : Labels) (y : ℕ) : Type 0 where
  pub one : labels.d ≡ 1
  pub stride : Stride y
  pub room : at + labels.width * ((y + 1) * labels.k) ≤ length out
