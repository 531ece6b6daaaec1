-- Reading is the request's grammar: a text says an edge list exactly where it is the header, comment lines, the size line and the entries of this edge list, one LF behind
-- each; so no text has two. Of any other text its first bad line is told.
use mathlib.Core.List.{List}
use mathlib.Core.Logic.{◌↔◌}
use mathlib.Core.Path.{◌≡◌, sym, ap, ◌∙◌}
use Prim.Native.Nat.{ℕ}
use Rattle.lineage.specs.Graph.{Graph}
use Rattle.matrix_lines.specs.Matrix.{says, bad_line, matrix_reading}
use Rattle.matrix_lines.specs.Grammar.{Holds, FirstBad}
use Rattle.matrix_lines.proofs.Round.{commented_round}
use Rattle.matrix_lines.proofs.Said.{said_holds}
use Rattle.matrix_lines.proofs.Fronts.{bad_first}

pub holds_said : (text : List ℕ) (G : Graph) → Holds text G → matrix_reading text ≡ says G
holds_said text G H = ap matrix_reading H.whole ∙ commented_round H.comments G H.remarks H.fits

pub reading_exactly : (text : List ℕ) (G : Graph) → (matrix_reading text ≡ says G) ↔ Holds text G
reading_exactly text G = (said_holds text G, holds_said text G)

pub holds_once : (text : List ℕ) (G G' : Graph) → Holds text G → Holds text G' → G ≡ G'
holds_once text G G' H H' = same (sym (holds_said text G H) ∙ holds_said text G' H')
  where
    same : says G ≡ says G' → G ≡ G'
    same e = cc

pub bad_line_lem : (text : List ℕ) (line : ℕ) → matrix_reading text ≡ bad_line line → FirstBad text line
bad_line_lem text line e = bad_first text line e
