-- The marks and the frames of a traversal, by depth, in four regions of n words from base on: a mark for each vertex, 0 where it is not seen; the vertices of
-- the frames; the place in the row below to come back to; and a number of the vertex below that is kept meanwhile.
use Rattle.std.specs.Prelude.{List, ℕ, zero, suc, ◌+◌, ◌*◌, get_or, set}

-- v is entered at depth d with this mark, to come back to place e, and the number is kept
abbrev pub framed : List ℕ → ℕ → ℕ → ℕ → ℕ → ℕ → ℕ → ℕ → List ℕ
framed work base n d v mark e number = set (set (set (set work (base + v) mark) (base + n + d) v) (base + 2 * n + d) e) (base + 3 * n + d) number

-- where the row at a depth lies: the roots below the first frame, else the values of the rows
abbrev pub row_place : ℕ → ℕ → ℕ → ℕ
row_place roots values zero = roots
row_place roots values (suc d) = values

-- where it ends there: after q roots, else where the row of the frame's vertex ends
abbrev pub row_end : List ℕ → ℕ → List ℕ → ℕ → ℕ
row_end starts q stack zero = q
row_end starts q stack (suc d) = get_or starts (suc (get_or stack d 0)) 0
