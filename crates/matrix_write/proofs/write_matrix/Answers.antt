-- `matrix_write::write_matrix` meets its contract: each return is where its checks stop; behind them the header, the size line and the entries are put one behind the
-- other, and they are the text.
use mathlib.Core.Path.{ap}
use Prim.Native.Nat.{◌≤◌}
use native.Mathlib.Omega.{arith}
use Rattle.lineage.specs.Graph.{Graph}
use Rattle.lineage.specs.Stored.{form2}
use Rattle.stored_header.specs.declared.Row.{Row}
use Rattle.build_orders.specs.Input.{graph_of}
use Rattle.matrix_write.proofs.Refusals.{Bounded, Passed, passed, writes_1, writes_2, writes_3, writes_7, lines_fit, writes_9, front_room, entries_room, writes_text}
use Rattle.matrix_write.proofs.write_matrix.Goals as goal
use Rattle.matrix_write.proofs.write_matrix.Goals.{In_default, Else-most-edges, Else-most-n, Start}

-- what was lent
abbrev graph : Start → Graph
graph s = graph_of s.args.n s.args.sources.now s.args.targets.now

-- where 1 does not apply, nor 2, nor 3: n and the edges are within form 2's bounds
few_vertices : (c : Else-most-n) → c.args.n ≤ form2.vertices
few_vertices c = omega (arith, c.if-most-n.false, ap (λ (r : Row). r.vertices) c.form_row-most.ensures)

bounded : (c : Else-most-edges) → Bounded (graph_of c.args.n c.args.sources.now c.args.targets.now) c.args.out.now
bounded c = record {
  vertices = omega (arith, c.if-most-n.false, ap (λ (r : Row). r.vertices) c.form_row-most.ensures);
  paired = c.if-edges-targets.false;
  edges = omega (arith, c.if-most-edges.false, ap (λ (r : Row). r.edges) c.form_row-most.ensures);
}

-- nor 7: the ends are vertices
passes : (c : In_default) → let G = graph_of c.args.n c.args.sources.now c.args.targets.now in Bounded G c.args.out.now → Passed G c.args.out.now
passes c b = passed _ _ b c.bad_edge.ensures c.in_default.is

pub returns-then-most-n : goal.returns-then-most-n
returns-then-most-n c =
    let both = writes_1 (graph (goal.at.returns-then-most-n c).Start) c.args.out.now (omega (arith, c.if-most-n.true, ap (λ (r : Row). r.vertices) c.form_row-most.ensures)) in
    record { result_value = both.0; out_after = both.1 }

pub returns-then-edges-targets : goal.returns-then-edges-targets
returns-then-edges-targets c =
    let p = goal.at.returns-then-edges-targets c in
    let both = writes_2 (graph p.Start) c.args.out.now (few_vertices p.Else-most-n) c.if-edges-targets.true in
    record { result_value = both.0; out_after = both.1 }

pub returns-then-most-edges : goal.returns-then-most-edges
returns-then-most-edges c =
    let p = goal.at.returns-then-most-edges c in
    let both = writes_3 (graph p.Start) c.args.out.now (few_vertices p.Else-most-n) c.if-edges-targets.false (omega (arith, c.if-most-edges.true, ap (λ (r : Row). r.edges) c.form_row-most.ensures)) in
    record { result_value = both.0; out_after = both.1 }

pub returns-in-Some : goal.returns-in-Some
returns-in-Some c =
    let p = goal.at.returns-in-Some c in
    let both = writes_7 (graph p.Start) c.args.out.now (bounded p.Else-most-edges) c.bad_edge.ensures c.in-Some.is in
    record { result_value = both.0; out_after = both.1 }

pub text_length-size-requires : goal.text_length-size-requires
text_length-size-requires c =
    let p = goal.at.text_length-size-requires c in
    lines_fit (graph p.Start) c.args.out.now (passes p.In_default (bounded p.Else-most-edges))

pub returns-then-out-size : goal.returns-then-out-size
returns-then-out-size c =
    let p = goal.at.returns-then-out-size c in
    let both = writes_9 (graph p.Start) c.args.out.now (passes p.In_default (bounded p.Else-most-edges)) c.text_length-size.ensures.0 c.if-out-size.true in
    record { result_value = both.0; out_after = both.1 }

pub put_front-at-requires : goal.put_front-at-requires
put_front-at-requires c =
    let p = goal.at.put_front-at-requires c in
    front_room (graph p.Start) c.args.out.now (passes p.In_default (bounded p.Else-most-edges)) c.text_length-size.ensures.0 c.if-out-size.false

pub put_entries-requires : goal.put_entries-requires
put_entries-requires c =
    let p = goal.at.put_entries-requires c in
    let P = passes p.In_default (bounded p.Else-most-edges) in
    record {
      lines = lines_fit (graph p.Start) c.args.out.now P;
      targets_in_bounds = entries_room (graph p.Start) c.args.out.now P c.text_length-size.ensures.0 c.if-out-size.false c.put_front-at.ensures c.put_front-at.auto.out;
    }

pub returns : goal.returns
returns c =
    let p = goal.at.returns c in
    let both = writes_text (graph p.Start) c.args.out.now (passes p.In_default (bounded p.Else-most-edges)) c.text_length-size.ensures.0 c.if-out-size.false c.put_front-at.ensures c.put_front-at.auto.out c.put_entries.ensures in
    record { result_value = both.0; out_after = both.1 }
