-- The read call, case by case.
use mathlib.Core.Bool.{true, false, or-true}
use mathlib.Core.List.{List, ◌++◌}
use mathlib.Core.Path.{◌≡◌, ◌∙◌}
use Prim.Native.Nat.{ℕ, ◌-◌, ◌≤◌, ◌<◌}
use native.Mathlib.Omega.{arith}
use lib.Dec.{ltb}
use lib.ListN.{length, drop, length-map}
use borrow.Author.Tests.{lt-ltb, le-ltb}
use Rattle.lineage.specs.Stored.{form2}
use Rattle.matrix_lines.specs.Matrix.{Raw, number, ends, bad_line, matrix_reading}
use Rattle.matrix_lines.specs.Calls.{matrix_read_answer, matrix_read_sources, matrix_read_targets}
use Rattle.std.proofs.Common.{Ok, Err}
use Rattle.matrix_read.specs.declared.MatrixRefusal.TheVariants.{BadMatrix, ListShort, ManyVertices, ManyEdges}
use Rattle.matrix_read.specs.Over.{entries_from, Stands}
use Rattle.matrix_read.specs.Answer.{Answered}

pub bad_text_lem : (text S T : List ℕ) (line : ℕ) → matrix_reading text ≡ bad_line line → Answered text S T (Err (BadMatrix line)) S T
unfolding matrix_read_answer matrix_read_sources matrix_read_targets
bad_text_lem text S T line e = record { answers = rw e; sources_hold = rw e; targets_hold = rw e }

module _ (text S T : List ℕ) (n entries at : ℕ) (st : Stands text n entries at) where
  abbrev L : List Raw
  L = (entries_from n entries text at).taken

  abbrev size0 : ℕ
  size0 = length (ends 0 (entries_from n entries text at).taken)

  edges_are : length (ends 0 (entries_from n entries text at).taken) ≡ entries
  edges_are = length-map (entries_from n entries text at).taken (λ l. number 0 l - 1) ∙ st.counted

  others_are : length (ends 1 (entries_from n entries text at).taken) ≡ entries
  others_are = length-map (entries_from n entries text at).taken (λ l. number 1 l - 1) ∙ st.counted

  pub short_sources : length S < entries → Answered text S T (Err (ListShort entries)) S T
  unfolding matrix_read_answer matrix_read_sources matrix_read_targets
  short_sources h =
      let t : ltb (length S) size0 ≡ true = lt-ltb (length S) size0 (omega (arith, edges_are)) in
      record { answers = rw (st.reads, t, edges_are); sources_hold = rw (st.reads, t); targets_hold = rw (st.reads, t) }

  pub short_targets : length T < entries → Answered text S T (Err (ListShort entries)) S T
  unfolding matrix_read_answer matrix_read_sources matrix_read_targets
  short_targets h =
      let t : ltb (length T) size0 ≡ true = lt-ltb (length T) size0 (omega (arith, edges_are)) in
      record {
        answers = rw (st.reads, t, or-true (ltb (length S) size0), edges_are);
        sources_hold = rw (st.reads, t, or-true (ltb (length S) size0));
        targets_hold = rw (st.reads, t, or-true (ltb (length S) size0));
      }

  module _ (hs : entries ≤ length S) (ht : entries ≤ length T) where
    s_long : ltb (length S) size0 ≡ false
    s_long = le-ltb (length S) size0 (omega (arith, edges_are))

    t_long : ltb (length T) size0 ≡ false
    t_long = le-ltb (length T) size0 (omega (arith, edges_are))

    pub many_vertices : form2.vertices < n → Answered text S T (Err ManyVertices) S T
    unfolding matrix_read_answer matrix_read_sources matrix_read_targets
    many_vertices h =
        let t : ltb form2.vertices n ≡ true = lt-ltb form2.vertices n h in
        record { answers = rw (st.reads, s_long, t_long, t); sources_hold = rw (st.reads, s_long, t_long, t); targets_hold = rw (st.reads, s_long, t_long, t) }

    pub many_edges : n ≤ form2.vertices → form2.edges < entries → Answered text S T (Err ManyEdges) S T
    unfolding matrix_read_answer matrix_read_sources matrix_read_targets
    many_edges low h =
        let f : ltb form2.vertices n ≡ false = le-ltb form2.vertices n low in
        let t : ltb form2.edges size0 ≡ true = lt-ltb form2.edges size0 (omega (arith, edges_are)) in
        record { answers = rw (st.reads, s_long, t_long, f, t); sources_hold = rw (st.reads, s_long, t_long, f, t); targets_hold = rw (st.reads, s_long, t_long, f, t) }

    pub all_read : n ≤ form2.vertices → entries ≤ form2.edges → (S' T' : List ℕ) → S' ≡ ends 0 (entries_from n entries text at).taken ++ drop entries S
        → T' ≡ ends 1 (entries_from n entries text at).taken ++ drop entries T → Answered text S T (Ok (record { n = n; edges = entries })) S' T'
    unfolding matrix_read_answer matrix_read_sources matrix_read_targets
    all_read low few S' T' es et =
        let f : ltb form2.vertices n ≡ false = le-ltb form2.vertices n low in
        let t : ltb form2.edges size0 ≡ false = le-ltb form2.edges size0 (omega (arith, edges_are)) in
        record {
          answers = rw (st.reads, s_long, t_long, f, t, edges_are);
          sources_hold = rw (st.reads, s_long, t_long, f, t, edges_are) es;
          targets_hold = rw (st.reads, s_long, t_long, f, t, others_are) et;
        }
