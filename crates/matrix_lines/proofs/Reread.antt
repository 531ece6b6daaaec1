-- What an accepted write call wrote, the read call takes, and it gives the same n and edge list, whatever the lent lists held.
use mathlib.Core.Bool.{Bool, false, not, ◌||◌}
use mathlib.Core.List.{List, ◌++◌}
use mathlib.Core.Path.{◌≡◌, refl, ap, ◌∙◌}
use Prim.Native.Nat.{ℕ, ◌≤◌, ◌<◌}
use native.Mathlib.Omega.{arith}
use lib.Dec.{eqb, leb, ltb}
use lib.ListN.{length, get_or, take, drop}
use lib.Seq.{take_at}
use borrow.Author.Tests.{ltb-false, leb-false, eqb-true, le-ltb, not-false}
use Rattle.lineage.specs.Lists.{upto, any}
use Rattle.lineage.specs.Graph.{Graph}
use Rattle.lineage.specs.Stored.{Form}
use Rattle.lineage.specs.Calls.{answered, any_applies, bad_edge}
use Rattle.laws.proofs.Tests.{or_false_left, or_false_right}
use Rattle.laws.proofs.Lists.{any_none, in_upto}
use Rattle.laws.proofs.Every.{every_get_d}
use Rattle.matrix_lines.specs.Matrix.{says, matrix_reading, matrix_text}
use Rattle.matrix_lines.specs.Calls.{read_checks, matrix_read_answer, matrix_read_sources, matrix_read_targets, write_checks, matrix_write_output}
use Rattle.matrix_lines.specs.Grammar.{most_written, Writable}
use Rattle.matrix_lines.proofs.Round.{matrix_round}

-- a form whose numbers have at most seven digits
pub record Small (F : Form) : Type 0 where
  pub vertices : F.vertices ≤ most_written
  pub edges : F.edges ≤ most_written

-- a write call that refuses nothing
module _ (F : Form) (G : Graph) (text : List ℕ) (out : ℕ) (small : Small F) (taken : any_applies (write_checks F G text out) ≡ false) where
  m : ℕ
  m = length G.sources

  abbrev t1 : Bool
  t1 = ltb F.vertices G.n

  abbrev t2 : Bool
  t2 = not (eqb (length G.sources) (length G.targets))

  abbrev t3 : Bool
  t3 = ltb F.edges (length G.sources)

  abbrev t7 : Bool
  t7 = any (bad_edge G) (upto (length G.sources))

  abbrev t9 : Bool
  t9 = ltb out (length text)

  past1 : (t2 || (t3 || (t7 || (t9 || false)))) ≡ false
  past1 = or_false_right t1 (t2 || (t3 || (t7 || (t9 || false)))) taken

  past2 : (t3 || (t7 || (t9 || false))) ≡ false
  past2 = or_false_right t2 (t3 || (t7 || (t9 || false))) past1

  past3 : (t7 || (t9 || false)) ≡ false
  past3 = or_false_right t3 (t7 || (t9 || false)) past2

  pub few_vertices : G.n ≤ F.vertices
  few_vertices = ltb-false F.vertices G.n (or_false_left t1 (t2 || (t3 || (t7 || (t9 || false)))) taken)

  pub even_lists : length G.sources ≡ length G.targets
  even_lists = eqb-true (length G.sources) (length G.targets) (not-false (eqb (length G.sources) (length G.targets)) (or_false_left t2 (t3 || (t7 || (t9 || false))) past1))

  pub few_edges : length G.sources ≤ F.edges
  few_edges = ltb-false F.edges (length G.sources) (or_false_left t3 (t7 || (t9 || false)) past2)

  ends_low : (i : ℕ) → i < length G.sources → bad_edge G i ≡ false
  ends_low i h = any_none (bad_edge G) (upto (length G.sources)) (or_false_left t7 (t9 || false) past3) i (in_upto (length G.sources) i h)

  source_low : (i : ℕ) → i < length G.sources → get_or G.sources i 0 < G.n
  source_low i h = leb-false G.n (get_or G.sources i 0) (or_false_left (leb G.n (get_or G.sources i 0)) (leb G.n (get_or G.targets i 0)) (ends_low i h))

  target_low : (i : ℕ) → i < length G.targets → get_or G.targets i 0 < G.n
  target_low i h =
      leb-false G.n (get_or G.targets i 0) (or_false_right (leb G.n (get_or G.sources i 0)) (leb G.n (get_or G.targets i 0)) (ends_low i (omega (arith, even_lists))))

  pub accepted_writable : Writable G
  accepted_writable = record {
    low = omega (arith, few_vertices, small.vertices);
    short = omega (arith, few_edges, small.edges);
    even = even_lists;
    sources = every_get_d (λ u. u < G.n) 0 G.sources source_low;
    targets = every_get_d (λ v. v < G.n) 0 G.targets target_low;
  }

-- the text is what stands first in the output
written_first : (F : Form) (G : Graph) (out : List ℕ) → any_applies (write_checks F G (matrix_text G) (length out)) ≡ false
    → take (length (matrix_text G)) (matrix_write_output F G out) ≡ matrix_text G
unfolding matrix_write_output
written_first F G out e = rw e (take_at (matrix_text G) (drop (length (matrix_text G)) out) (length (matrix_text G)) refl)

module _ (F : Form) (G : Graph) (out sources targets : List ℕ) (small : Small F) (taken : any_applies (write_checks F G (matrix_text G) (length out)) ≡ false)
    (sources_long : length G.sources ≤ length sources)
    (targets_long : length G.sources ≤ length targets) where
  -- what was written
  abbrev pub rewritten : List ℕ
  rewritten = take (length (matrix_text G)) (matrix_write_output F G out)

  says_it : matrix_reading rewritten ≡ says G
  says_it = ap matrix_reading (written_first F G out taken) ∙ matrix_round G (accepted_writable F G (matrix_text G) (length out) small taken)

  none_applies : any_applies (read_checks F (says G) (length sources) (length targets)) ≡ false
  none_applies =
      rw
      (le-ltb (length sources) (length G.sources) sources_long, le-ltb (length targets) (length G.sources) targets_long, le-ltb F.vertices G.n (few_vertices F G (matrix_text G) (length out) small taken), le-ltb F.edges (length G.sources) (few_edges F G (matrix_text G) (length out) small taken))

  pub written_reads : matrix_read_answer F rewritten (length sources) (length targets) ≡ answered (record { n = G.n; edges = length G.sources })
  unfolding matrix_read_answer
  written_reads =
      rw
      (says_it, le-ltb (length sources) (length G.sources) sources_long, le-ltb (length targets) (length G.sources) targets_long, le-ltb F.vertices G.n (few_vertices F G (matrix_text G) (length out) small taken), le-ltb F.edges (length G.sources) (few_edges F G (matrix_text G) (length out) small taken))

  pub written_sources : matrix_read_sources F rewritten sources targets ≡ G.sources ++ drop (length G.sources) sources
  unfolding matrix_read_sources
  written_sources = rw (says_it, none_applies)

  pub written_targets : matrix_read_targets F rewritten sources targets ≡ G.targets ++ drop (length G.targets) targets
  unfolding matrix_read_targets
  written_targets = rw (says_it, none_applies)
