-- `build::late` meets its contract. Each return stands behind the tests of its check; the group that 22 is made with and the total length that 9 is made with are those of the
-- index, since what lies in work memory then is the condensed graph.
use mathlib.Core.Path.{◌≡◌}
use Prim.Native.Nat.{ℕ, ◌+◌, ◌*◌, ◌-◌, ◌≤◌}
use native.Mathlib.Omega.{arith}
use lib.ListN.{take, drop}
use Rattle.numbers.specs.Regions.{Part}
use Rattle.numbers.specs.Bounds.{vertex_bound, entry_bound}
use Rattle.build.proofs.Outcomes.{order_refused, condensed_fit, parents_slice, shared_refused, layout_ready, total_small, short_refused, finished}
use Rattle.build.proofs.late.Goals as goal
use Rattle.build.proofs.late.Goals.{After-condensed-found}

-- n, k and the child entries are within the bounds of every form
bounds : (g : After-condensed-found) → (g.args.n ≤ vertex_bound) × ((g.condensed-found.result.k ≤ g.args.n) × (g.condensed-found.result.c ≤ entry_bound))
bounds g =
    let stored = g.condensed-found.ensures.stored in (
      omega (arith, g.requires.admitted.vertices, g.requires.row_fit.vertices),
      (stored.few_groups, omega (arith, stored.few_children, g.requires.admitted.edges, g.requires.row_fit.edges)),
    )

pub returns-in-Some : goal.returns-in-Some
returns-in-Some c =
    order_refused c.requires.row_fit c.args.work.now c.requires.admitted c.bad_order.ensures.value c.bad_order.ensures.kept c.args.out.now c.in-Some.is

pub condensed-found-requires : goal.condensed-found-requires
condensed-found-requires c = condensed_fit c.requires.row_fit c.args.work.now c.requires.admitted c.bad_order.ensures.value c.bad_order.ensures.kept

pub lay_out-l-requires : goal.lay_out-l-requires
lay_out-l-requires c =
    let fit = c.requires.row_fit in
    let b = bounds (goal.at.lay_out-l-requires c).After-condensed-found in
    record {
      width = fit.width;
      stride = fit.stride;
      n_le_vertex_bound = (b.0, (b.1.0, (b.1.1, omega (arith, c.requires.admitted.most, fit.labellings))));
    }

pub overflow_cast-total : goal.overflow_cast-total
overflow_cast-total c =
    omega (
      arith,
      total_small c.requires.row_fit c.args.work.now c.requires.admitted c.bad_order.ensures.value c.bad_order.ensures.kept c.in_default.is
          c.condensed-found.ensures c.lay_out-l.ensures c.requires.form_bound,
    )

-- where the rows of parents start, as a slice
lies : (g : After-condensed-found) {end : ℕ} → end ≡ 3 * g.args.n + (g.condensed-found.result.k + 1)
    → Part g.condensed-found.new.work (3 * g.args.n) (g.condensed-found.result.k + 1) (take (end - 3 * g.args.n) (drop (3 * g.args.n) g.condensed-found.new.work))
lies g e =
    parents_slice g.requires.row_fit g.args.work.now g.requires.admitted g.bad_order.ensures.value g.bad_order.ensures.kept g.in_default.is
    g.condensed-found.ensures e

pub first_kept_out-requires : goal.first_kept_out-requires
first_kept_out-requires c = (lies (goal.at.first_kept_out-requires c).After-condensed-found (omega arith)).long

pub returns-in-Some-first_kept_out : goal.returns-in-Some-first_kept_out
returns-in-Some-first_kept_out c =
    shared_refused c.requires.row_fit c.args.work.now c.requires.admitted c.bad_order.ensures.value c.bad_order.ensures.kept c.in_default.is
    c.condensed-found.ensures (lies (goal.at.returns-in-Some-first_kept_out c).After-condensed-found (omega arith))
    c.first_kept_out.ensures c.in-Some-first_kept_out.is c.args.out.now

pub returns-then-out-l : goal.returns-then-out-l
returns-then-out-l c =
    short_refused c.requires.row_fit c.args.work.now c.requires.admitted c.bad_order.ensures.value c.bad_order.ensures.kept c.in_default.is
    c.condensed-found.ensures (lies (goal.at.returns-then-out-l c).After-condensed-found (omega arith))
    c.first_kept_out.ensures c.in_default-first_kept_out.is c.lay_out-l.ensures c.args.out.now c.if-out-l.true

pub write_index-requires : goal.write_index-requires
write_index-requires c = record {
  form_bound = c.requires.form_bound;
  ready = layout_ready c.requires.row_fit c.args.work.now c.requires.admitted c.bad_order.ensures.value c.bad_order.ensures.kept c.in_default.is
      c.condensed-found.ensures c.lay_out-l.ensures;
  total_in_bounds = c.if-out-l.false;
}

pub returns : goal.returns
returns c =
    finished c.requires.row_fit c.args.work.now c.requires.admitted c.bad_order.ensures.value c.bad_order.ensures.kept c.in_default.is
    c.condensed-found.ensures (lies (goal.at.returns c).After-condensed-found (omega arith))
    c.first_kept_out.ensures c.in_default-first_kept_out.is c.lay_out-l.ensures c.args.out.now c.if-out-l.false
    c.write_index.ensures.out_after c.write_index.ensures.kept
