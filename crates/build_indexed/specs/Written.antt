-- The form that an index is written under.
use Rattle.std.specs.Prelude.{false, ℕ}
use Rattle.lineage.specs.Stored.{Form}

-- a form told by its number, its width and how many numbers a labelling has of each group by place: its bytes depend on nothing else of it
abbrev pub written_as : (number width by_place : ℕ) → Form
written_as number width by_place =
    record { number = number; width = width; vertices = 0; edges = 0; entries = 0; labellings = 0; by_place = by_place; tree = false }
