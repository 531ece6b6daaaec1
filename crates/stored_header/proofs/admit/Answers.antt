-- `stored_header::admit` meets its contract. Each return stands behind the tests of the checks before it, so it is where the checks stop: the laws of `Checked`
-- say so check by check, of the numbers that were read.
use mathlib.Core.Bool.{true}
use mathlib.Core.Path.{◌≡◌, sym, ◌∙◌}
use mathlib.Core.List.{List}
use Prim.Native.Nat.{ℕ}
use native.Mathlib.Omega.{arith}
use Rattle.lineage.specs.Stored.{form_of, counts_fit}
use Rattle.lineage.specs.Calls.{FormsTaken, forms_taken, takes}
use Rattle.stored_header.specs.declared.Row.{Row}
use Rattle.stored_header.specs.Header.{counts, offsets_agree}
use Rattle.stored_header.proofs.Laid.{fit_bounds, laid_bounds}
use Rattle.stored_header.proofs.Checked.{Read, width_in, stride_in, header_short, header_untaken, header_counts, header_offsets, marks_short, words_short, header_passes}
use Rattle.stored_header.proofs.admit.Goals as goal
use Rattle.stored_header.proofs.admit.Goals.{After-form_row-row, Else-not-counts_fit, Else-not-offsets_fit}

abbrev T : (r : After-form_row-row) → FormsTaken
T r = forms_taken r.args.least r.args.most

abbrev bytes : (r : After-form_row-row) → List ℕ
bytes r = r.args.index.now

abbrev form : (r : After-form_row-row) → ℕ
form r = r.num-form.result

abbrev row : (r : After-form_row-row) → Row
row r = r.form_row-row.result

abbrev n : (r : After-form_row-row) → ℕ
n r = r.num-n.result

abbrev k : (r : After-form_row-row) → ℕ
k r = r.num-k.result

abbrev entries : (r : After-form_row-row) → ℕ
entries r = r.num-c.result

abbrev d : (r : After-form_row-row) → ℕ
d r = r.num-d.result

read : (r : After-form_row-row) → Read (bytes r) (form r) (row r) (n r) (k r) (entries r) (d r)
read r = record {
  long = omega arith;
  form_is = r.num-form.ensures.0;
  row_is = r.form_row-row.ensures;
  n_is = r.num-n.ensures.0;
  k_is = r.num-k.ensures.0;
  c_is = r.num-c.ensures.0;
  d_is = r.num-d.ensures.0;
}

taken : (r : After-form_row-row) → takes (T r) (form r) ≡ true
taken r = sym r.takes.ensures ∙ r.if-not-takes.false

fit : (c : Else-not-counts_fit) → counts_fit (form_of ((c.num-form.result))) (counts ((c.num-n.result)) ((c.num-k.result)) ((c.num-c.result)) ((c.num-d.result))) ≡ true
fit c = sym c.counts_fit.ensures ∙ c.if-not-counts_fit.false

agree : (c : Else-not-offsets_fit) → offsets_agree ((c.args.index.now)) c.lay_out-l.result ≡ true
agree c = sym c.offsets_fit.ensures ∙ c.if-not-offsets_fit.false

pub returns-then-index-lt-HEADER_LENGTH : goal.returns-then-index-lt-HEADER_LENGTH
returns-then-index-lt-HEADER_LENGTH c = header_short _ c.args.index.now _ _ c.if-index-lt-HEADER_LENGTH.true

pub returns-then-not-takes : goal.returns-then-not-takes
returns-then-not-takes c = header_untaken _ _ _ _ (omega arith) c.num-form.ensures.0 (sym c.takes.ensures ∙ c.if-not-takes.true)

pub returns-then-not-counts_fit : goal.returns-then-not-counts_fit
returns-then-not-counts_fit c = header_counts _ _ _ _ (read (goal.at.returns-then-not-counts_fit c).After-form_row-row) (taken (goal.at.returns-then-not-counts_fit c).After-form_row-row) (sym c.counts_fit.ensures ∙ c.if-not-counts_fit.true)

pub lay_out-l-requires : goal.lay_out-l-requires
lay_out-l-requires c =
    let B = fit_bounds (form (goal.at.lay_out-l-requires c).After-form_row-row) _ (fit (goal.at.lay_out-l-requires c).Else-not-counts_fit) in
    record {
      width = width_in (read (goal.at.lay_out-l-requires c).After-form_row-row) B.width;
      stride = stride_in (read (goal.at.lay_out-l-requires c).After-form_row-row) B.stride;
      n_le_vertex_bound = (B.vertices, (B.groups, (B.entries, B.most)));
    }

pub returns-then-not-offsets_fit : goal.returns-then-not-offsets_fit
returns-then-not-offsets_fit c = header_offsets _ _ _ _ (read (goal.at.returns-then-not-offsets_fit c).After-form_row-row) (taken (goal.at.returns-then-not-offsets_fit c).After-form_row-row) (fit (goal.at.returns-then-not-offsets_fit c).Else-not-counts_fit) c.lay_out-l.ensures (sym c.offsets_fit.ensures ∙ c.if-not-offsets_fit.true)

pub returns-then-marks-n : goal.returns-then-marks-n
returns-then-marks-n c = marks_short _ _ _ _ (read (goal.at.returns-then-marks-n c).After-form_row-row) (taken (goal.at.returns-then-marks-n c).After-form_row-row) (fit (goal.at.returns-then-marks-n c).Else-not-counts_fit) c.lay_out-l.ensures (agree (goal.at.returns-then-marks-n c).Else-not-offsets_fit) c.if-marks-n.true

pub words_needed-needed-requires : goal.words_needed-needed-requires
words_needed-needed-requires c = laid_bounds (fit_bounds (form (goal.at.words_needed-needed-requires c).After-form_row-row) _ (fit (goal.at.words_needed-needed-requires c).Else-not-counts_fit)) c.lay_out-l.ensures

pub overflow_cast-result-then-words-needed : goal.overflow_cast-result-then-words-needed
overflow_cast-result-then-words-needed c = record { fits = omega (arith, c.words_needed-needed.ensures.1) }

pub returns-then-words-needed : goal.returns-then-words-needed
returns-then-words-needed c = words_short _ _ _ _ (read (goal.at.returns-then-words-needed c).After-form_row-row) (taken (goal.at.returns-then-words-needed c).After-form_row-row) (fit (goal.at.returns-then-words-needed c).Else-not-counts_fit) c.lay_out-l.ensures (agree (goal.at.returns-then-words-needed c).Else-not-offsets_fit) c.words_needed-needed.ensures.0 c.if-marks-n.false c.if-words-needed.true

pub returns : goal.returns
returns c = header_passes _ _ _ _ (read (goal.at.returns c).After-form_row-row) (taken (goal.at.returns c).After-form_row-row) (fit (goal.at.returns c).Else-not-counts_fit) c.lay_out-l.ensures (agree (goal.at.returns c).Else-not-offsets_fit) c.words_needed-needed.ensures.0 c.if-marks-n.false c.if-words-needed.false
