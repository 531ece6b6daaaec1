-- The entry or the size line that stands first in the bytes from a position on.
use Rattle.std.specs.Prelude.{Bool, true, false, ◌&&◌, List, Option, Some, None, ℕ, suc, ◌+◌, ◌-◌, length}
use Rattle.text_lines.specs.Lines.{lf, first_piece, other_pieces}
use Rattle.text_lines.specs.Reader.{is_more}
use Rattle.matrix_lines.specs.Matrix.{number, is_entry, is_size}
use Rattle.matrix_read.specs.declared.Entry.{Entry}
use Rattle.matrix_read.specs.declared.Size.{Size}

abbrev pub entry_by : Bool → ℕ → ℕ → ℕ → Option Entry
entry_by true u v next = Some (record { source = u; target = v; next = next })
entry_by false u v next = None

-- the entry that stands first, its ends from 0 on, and where the next line begins
unfoldable pub entry_in : ℕ → ℕ → List ℕ → Option Entry
entry_in n at s =
    entry_by (is_more (other_pieces lf s) && is_entry n (first_piece lf s)) (number 0 (first_piece lf s) - 1) (number 1 (first_piece lf s) - 1) (at + suc (length (first_piece lf s)))

abbrev pub size_by : Bool → ℕ → ℕ → ℕ → Option Size
size_by true n entries next = Some (record { n = n; entries = entries; next = next })
size_by false n entries next = None

-- the size line that stands first
unfoldable pub size_in : ℕ → List ℕ → Option Size
size_in at s =
    size_by (is_more (other_pieces lf s) && is_size (first_piece lf s)) (number 0 (first_piece lf s)) (number 2 (first_piece lf s)) (at + suc (length (first_piece lf s)))
