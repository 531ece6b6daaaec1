-- What writing answers and leaves, by where its checks stop: at 1, 2, 3, 7 or 9, and then the output is as it was; or behind them, and then it holds the text.
use mathlib.Core.Bool.{false, not, cond}
use mathlib.Core.Path.{◌≡◌, sym, ap, ◌∙◌}
use mathlib.Core.List.{List, [], ◌++◌}
use Prim.Native.Nat.{ℕ, suc, ◌+◌, ◌≤◌, ◌<◌}
use native.Mathlib.Omega.{arith}
use lib.Dec.{ltb}
use lib.ListN.{length, drop, length-append}
use borrow.Author.Tests.{lt-ltb, le-ltb, eq-eqb, ne_eqb}
use Rattle.std.specs.Prelude.{Option, Some, None}
use Rattle.lineage.specs.Lists.{upto, any, first_of}
use Rattle.lineage.specs.Graph.{Graph}
use Rattle.lineage.specs.Stored.{form2}
use Rattle.lineage.specs.Calls.{Check, Outcome, refused, answered, bad_edge}
use Rattle.laws.specs.Checks.{Stops, stopped}
use Rattle.laws.proofs.Checks.{stops_outcome, stops_early}
use Rattle.numbers.proofs.Put.{put_start}
use Rattle.build_orders.proofs.Edges.{ends_of}
use Rattle.numbers.specs.Found.{found_below}
use Rattle.build.proofs.Checks.{any_some, first_some, any_none_found}
use Rattle.text_printing.specs.Printer.{Put}
use Rattle.text_printing.proofs.Putting.{put_put, put_same}
use Rattle.matrix_lines.specs.Matrix.{ended, entry_rows, matrix_text}
use Rattle.matrix_lines.specs.Calls.{write_checks, matrix_write_answer, matrix_write_output}
use Rattle.matrix_write.specs.Fit.{Lines}
use Rattle.matrix_write.proofs.Rows.{front_lines, text_parts}

module _ (G : Graph) (out : List ℕ) where
  abbrev pub checks : List Check
  checks = write_checks form2 G (matrix_text G) (length out)

  abbrev size : ℕ
  size = length (matrix_text G)

  -- what may be answered, and what the output may hold afterwards
  abbrev pub Writes : Outcome ℕ → List ℕ → Type 0
  Writes o out' = (o ≡ matrix_write_answer form2 G (length out)) × (out' ≡ matrix_write_output form2 G out)

  writes_by : (i : ℕ) → Stops checks i → Writes (stopped checks i size) (cond (ltb i 5) out (matrix_text G ++ drop size out))
  unfolding matrix_write_answer matrix_write_output
  writes_by i s = (sym (stops_outcome size checks i s), rw (stops_early checks [] i s))

  pub writes_1 : form2.vertices < G.n → Writes (refused 1 0) out
  writes_1 h = writes_by 0 (lt-ltb form2.vertices G.n h)

  pub writes_2 : G.n ≤ form2.vertices → (length G.sources ≡ length G.targets → ⊥) → Writes (refused 2 0) out
  writes_2 low h = writes_by 1 (le-ltb form2.vertices G.n low, ap not (ne_eqb (length G.sources) (length G.targets) h))

  pub writes_3 : G.n ≤ form2.vertices → length G.sources ≡ length G.targets → form2.edges < length G.sources → Writes (refused 3 0) out
  writes_3 low paired h =
      writes_by 2
      (le-ltb form2.vertices G.n low, (ap not (eq-eqb (length G.sources) (length G.targets) paired), lt-ltb form2.edges (length G.sources) h))

  -- where 1, 2 and 3 do not apply, and where 7 does not apply either
  pub record Bounded : Type 0 where
    pub vertices : G.n ≤ form2.vertices
    pub paired : length G.sources ≡ length G.targets
    pub edges : length G.sources ≤ form2.edges

  pub record Passed : Type 0 where
    pub bounded : Bounded
    pub ends : any (bad_edge G) (upto (length G.sources)) ≡ false

  pub lines_fit : Passed → Lines G
  lines_fit P = record { vertices = P.bounded.vertices; edges = P.bounded.edges; ends = ends_of G P.bounded.paired P.ends }

  -- all stop where those from 7 on do, or those from 9 on
  from_7 : Bounded → (i : ℕ) → Stops (drop 3 checks) i → Stops checks (suc (suc (suc i)))
  from_7 B i s =
      (le-ltb form2.vertices G.n B.vertices, (ap not (eq-eqb (length G.sources) (length G.targets) B.paired), (le-ltb form2.edges (length G.sources) B.edges, s)))

  from_9 : Passed → (i : ℕ) → Stops (drop 4 checks) i → Stops checks (suc (suc (suc (suc i))))
  from_9 P i s = from_7 P.bounded (suc i) (P.ends, s)

  -- the first bad edge
  module _ (B : Bounded) {bad : Option ℕ} (found : bad ≡ found_below (length G.sources) (first_of (bad_edge G) (upto (length G.sources)) (length G.sources))) where
    pub writes_7 : {first : ℕ} → bad ≡ Some first → Writes (refused 7 first) out
    writes_7 h =
        let (o, w) = writes_by 3 (from_7 B 0 (any_some (bad_edge G) (length G.sources) found h)) in
        (ap (refused 7) (first_some (bad_edge G) (length G.sources) found h) ∙ o, w)

    pub passed : bad ≡ None → Passed
    passed h = record { bounded = B; ends = any_none_found (bad_edge G) (length G.sources) found h }

  -- the length of the text
  module _ (P : Passed) {told : ℕ} (told_is : told ≡ length (matrix_text G)) where
    pub writes_9 : length out < told → Writes (refused 9 told) out
    writes_9 h =
        let (o, w) = writes_by 4 (from_9 P 0 (lt-ltb (length out) size (omega (arith, told_is)))) in
        (ap (refused 9) told_is ∙ o, w)

    -- there is room for the header and the size line, and behind them for the entries; they are the text
    module _ (room : told ≤ length out) where
      text_long : told ≡ length (front_lines G.n (length G.sources)) + length (ended (entry_rows G.sources G.targets))
      text_long = told_is ∙ ap length (text_parts G) ∙ length-append (front_lines G.n (length G.sources)) (ended (entry_rows G.sources G.targets))

      pub front_room : length (front_lines G.n (length G.sources)) ≤ length out
      front_room = omega (arith, text_long)

      module _ {at : ℕ} {mid : List ℕ} (front : Put out 0 (front_lines G.n (length G.sources)) at mid) (same : length mid ≡ length out) where
        pub entries_room : at + length (ended (entry_rows G.sources G.targets)) ≤ length mid
        entries_room = omega (arith, text_long, front.behind)

        pub writes_text : {next : ℕ} {exit : List ℕ} → Put mid at (ended (entry_rows G.sources G.targets)) next exit → Writes (answered told) exit
        writes_text entries =
            let (o, w) = writes_by 5 (from_9 P 1 (le-ltb (length out) size (omega (arith, told_is)), tt)) in
            let text = put_same (sym (text_parts G)) (put_put front entries (omega arith)) in
            (ap answered told_is ∙ o, text.whole ∙ (put_start out (matrix_text G) ∙ w))
