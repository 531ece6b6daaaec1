-- What the read call says of a text. It answers exactly for the texts of the subset whose edge list has room and is within form 2's bounds: it then tells n and the number of
-- entries of the one edge list that the text holds, which stands in the lists in its order, repeated entries too; behind it they are as they were. Every refusal leaves both
-- lists as they were, and 18 tells the first bad line. Two results that the contract allows are equal.
use mathlib.Core.Bool.{Bool, true, false, cond, true≢false}
use mathlib.Core.List.{List, [], ◌++◌}
use mathlib.Core.Path.{◌≡◌, refl, sym, ap, ◌∙◌}
use Prim.Native.Nat.{ℕ, ◌≤◌}
use lib.Dec.{eqb}
use lib.ListN.{length, drop}
use borrow.Author.Tests.{le-ltb}
use Rattle.lineage.specs.Graph.{Graph}
use Rattle.lineage.specs.Stored.{form2}
use Rattle.lineage.specs.Calls.{Check, Outcome, refused, answered, any_applies}
use Rattle.laws.specs.Checks.{Pass}
use Rattle.laws.proofs.Checks.{stops_early, answered_pass, answered_is, refused_comes}
use Rattle.matrix_lines.specs.Matrix.{MatrixReading, says, bad_line, matrix_reading}
use Rattle.matrix_lines.specs.Grammar.{Holds, FirstBad}
use Rattle.matrix_lines.specs.Calls.{is_bad, line_of, graph_in, edges, read_checks, MatrixSize, matrix_read_answer, matrix_read_sources, matrix_read_targets}
use Rattle.matrix_lines.proofs.Said.{said_holds}
use Rattle.matrix_lines.proofs.Grammar.{holds_said, bad_line_lem}
use Rattle.std.proofs.Common.{Result, Ok, Err}
use Rattle.matrix_read.specs.declared.MatrixRead.{MatrixRead}
use Rattle.matrix_read.specs.declared.MatrixRefusal.{MatrixRefusal}
use Rattle.matrix_read.specs.declared.MatrixRefusal.TheVariants.{BadMatrix, ListShort, ManyVertices, ManyEdges}
use Rattle.matrix_read.specs.Answer.{number_of, extra_of, read_of, Answered}

-- a result, by what it is told
abbrev told : Outcome MatrixSize → Result MatrixRead MatrixRefusal
told (answered a) = Ok (record { n = a.n; edges = a.edges })
told (refused number extra) = Err (cond (eqb number 18) (BadMatrix extra) (cond (eqb number 16) (ListShort extra) (cond (eqb number 1) ManyVertices ManyEdges)))

told_back : (r : Result MatrixRead MatrixRefusal) → told (read_of r) ≡ r
told_back (Ok r) = refl
told_back (Err (BadMatrix extra)) = refl
told_back (Err (ListShort extra)) = refl
told_back (Err ManyVertices) = refl
told_back (Err ManyEdges) = refl

-- two results that the contract allows are equal
pub read_one : (r r' : Result MatrixRead MatrixRefusal) → read_of r ≡ read_of r' → r ≡ r'
read_one r r' e = sym (told_back r) ∙ (ap told e ∙ told_back r')

pub read_once : {text S T : List ℕ} {r r' : Result MatrixRead MatrixRefusal} {S' S'' T' T'' : List ℕ} → Answered text S T r S' T' → Answered text S T r' S'' T'' → (r ≡ r') × ((S' ≡ S'') × (T' ≡ T''))
read_once {r = r} {r'} A B =
    (read_one r r' (A.answers ∙ sym B.answers), (A.sources_hold ∙ sym B.sources_hold, A.targets_hold ∙ sym B.targets_hold))

says_it : (r : MatrixReading) → is_bad r ≡ false → r ≡ says (graph_in r)
says_it (says G) e = refl
says_it (bad_line l) e = absurd (true≢false e)

bad_it : (r : MatrixReading) → is_bad r ≡ true → r ≡ bad_line (line_of r)
bad_it (says G) e = absurd (true≢false (sym e))
bad_it (bad_line l) e = refl

-- what an answer says of the text, and of the lists
pub record Read (text S T : List ℕ) (n m : ℕ) (S' T' : List ℕ) : Type 0 where
  pub graph : Graph
  pub holds : Holds text graph
  pub size : graph.n ≡ n
  pub many : length graph.sources ≡ m
  pub sources : S' ≡ graph.sources ++ drop (length graph.sources) S
  pub targets : T' ≡ graph.targets ++ drop (length graph.targets) T

module _ (text S T : List ℕ) where
  abbrev G : Graph
  G = graph_in (matrix_reading text)

  abbrev checks : List Check
  checks = read_checks form2 (matrix_reading text) (length S) (length T)

  abbrev size : MatrixSize
  size = record { n = (graph_in (matrix_reading text)).n; edges = edges (graph_in (matrix_reading text)) }

  module _ {n m : ℕ} {S' T' : List ℕ} (A : Answered text S T (Ok (record { n = n; edges = m })) S' T') where
    passes : Pass checks
    unfolding matrix_read_answer
    passes = answered_pass size checks (record { n = n; edges = m }) (sym A.answers)

    is : ◌≡◌ {A = MatrixSize} (record { n = n; edges = m }) size
    unfolding matrix_read_answer
    is = answered_is size checks (record { n = n; edges = m }) (sym A.answers)

    free : any_applies checks ≡ false
    free = stops_early checks [] 4 passes

    pub read_holds_lem : Read text S T n m S' T'
    unfolding matrix_read_sources matrix_read_targets
    read_holds_lem = record {
      graph = G;
      holds = said_holds text G (says_it (matrix_reading text) passes.0);
      size = sym (ap (λ (z : MatrixSize). z.n) is);
      many = sym (ap (λ (z : MatrixSize). z.edges) is);
      sources = A.sources_hold ∙ rw free;
      targets = A.targets_hold ∙ rw free;
    }

  -- every refusal leaves both lists as they were
  module _ {e : MatrixRefusal} {S' T' : List ℕ} (A : Answered text S T (Err e) S' T') where
    stopped : any_applies checks ≡ true
    unfolding matrix_read_answer
    stopped = (refused_comes size size checks [] [] (number_of e) (extra_of e) (sym A.answers)).before

    pub refused_sources : S' ≡ S
    unfolding matrix_read_sources
    refused_sources = A.sources_hold ∙ rw stopped

    pub refused_targets : T' ≡ T
    unfolding matrix_read_targets
    refused_targets = A.targets_hold ∙ rw stopped

-- a text of the subset, with room, within the bounds: it is read
module _ {text S T : List ℕ} {r : Result MatrixRead MatrixRefusal} {S' T' : List ℕ} (A : Answered text S T r S' T') (G : Graph) (holds : Holds text G)
    (room-sources : length G.sources ≤ length S) (room-targets : length G.sources ≤ length T)
    (few : G.n ≤ form2.vertices) (short : length G.sources ≤ form2.edges) where
  pub read_taken : r ≡ Ok (record { n = G.n; edges = length G.sources })
  unfolding matrix_read_answer
  read_taken =
      read_one r (Ok (record { n = G.n; edges = length G.sources }))
      (A.answers
      ∙ rw
      (holds_said text G holds, le-ltb (length S) (length G.sources) room-sources, le-ltb (length T) (length G.sources) room-targets, le-ltb form2.vertices G.n few, le-ltb form2.edges (length G.sources) short))

-- a text outside the subset: 18, and its first bad line
module _ {text S T : List ℕ} {r : Result MatrixRead MatrixRefusal} {S' T' : List ℕ} (A : Answered text S T r S' T') (outside : (G : Graph) → Holds text G → ⊥) where
  bad : is_bad (matrix_reading text) ≡ true
  bad = go (is_bad (matrix_reading text)) refl
    where
      go : (t : Bool) → is_bad (matrix_reading text) ≡ t → is_bad (matrix_reading text) ≡ true
      go true e = e
      go false e = absurd (outside (graph_in (matrix_reading text)) (said_holds text (graph_in (matrix_reading text)) (says_it (matrix_reading text) e)))

  pub read_outside : r ≡ Err (BadMatrix (line_of (matrix_reading text)))
  unfolding matrix_read_answer
  read_outside = read_one r (Err (BadMatrix (line_of (matrix_reading text)))) (A.answers ∙ rw bad)

  pub read_first_bad : FirstBad text (line_of (matrix_reading text))
  read_first_bad = bad_line_lem text (line_of (matrix_reading text)) (bad_it (matrix_reading text) bad)
