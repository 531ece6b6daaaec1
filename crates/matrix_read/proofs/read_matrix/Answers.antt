-- `matrix_read::read_matrix` meets its contract, refusal by refusal.
use mathlib.Core.Logic.{inl, inr}
use mathlib.Core.Path.{◌≡◌, ap}
use Prim.Native.Nat.{◌≤◌}
use native.Mathlib.Omega.{arith}
use Rattle.lineage.specs.Stored.{form2}
use Rattle.stored_header.specs.declared.Row.{Row}
use Rattle.matrix_read.proofs.Answer.{bad_text_lem, short_sources, short_targets, many_vertices, many_edges, all_read}
use Rattle.matrix_read.proofs.read_matrix.Goals as goal
use Rattle.matrix_read.proofs.read_matrix.Goals.{After-form_row-form, Else-form-n}

-- form 2's bounds
bounds : (z : After-form_row-form) → (z.form_row-form.result.vertices ≡ form2.vertices) × (z.form_row-form.result.edges ≡ form2.edges)
bounds z = (ap (λ (R : Row). R.vertices) z.form_row-form.ensures, ap (λ (R : Row). R.edges) z.form_row-form.ensures)

-- n is within its bound
few : (e : Else-form-n) → e.in-Ok.survey.n ≤ form2.vertices
few e = omega (arith, e.if-form-n.false, ap (λ (R : Row). R.vertices) e.form_row-form.ensures)

pub returns-in-Err : goal.returns-in-Err
returns-in-Err c = bad_text_lem _ _ _ _ c.in-Err.ensures

pub returns-then-sources-entries : goal.returns-then-sources-entries
returns-then-sources-entries c =
    elim c.then-sources-entries.either [
      | inl short ↦ short_sources _ _ _ _ _ _ c.in-Ok.ensures short
      | inr short ↦ short_targets _ _ _ _ _ _ c.in-Ok.ensures short.1
    ]

pub returns-then-form-n : goal.returns-then-form-n
returns-then-form-n c =
    let high = (bounds (goal.at.returns-then-form-n c).After-form_row-form).0 in
    many_vertices _ _ _ _ _ _ c.in-Ok.ensures c.if-sources-entries.false c.if-targets-entries.false (omega (arith, c.if-form-n.true, high))

pub returns-then-form-entries : goal.returns-then-form-entries
returns-then-form-entries c =
    let p = goal.at.returns-then-form-entries c in
    many_edges _ _ _ _ _ _ c.in-Ok.ensures c.if-sources-entries.false c.if-targets-entries.false (few p.Else-form-n) (omega (arith, c.if-form-entries.true, (bounds p.After-form_row-form).1))

pub returns : goal.returns
returns c =
    let p = goal.at.returns c in
    let stored = c.store_entries.ensures in
    all_read _ _ _ _ _ _ c.in-Ok.ensures c.if-sources-entries.false c.if-targets-entries.false (few p.Else-form-n) (omega (arith, c.if-form-entries.false, (bounds p.After-form_row-form).1)) _ _ stored.sources_after
    stored.targets_after
