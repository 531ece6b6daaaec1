-- `text_lines::read_numbers` meets its contract, by the invariant beside this file.
use mathlib.Core.Path.{◌≡◌, refl, sym, ◌∙◌}
use native.Mathlib.Omega.{arith}
use lib.ListN.{drop}
use Rattle.text_lines.specs.declared.Byte.TheVariants.{Space, Lf}
use Rattle.text_lines.proofs.Bytes.{Sees, seen, within}
use Rattle.text_lines.proofs.Words.{still_begins, still_turns, front_kept, still_unspaced, still_missing, still_ends, still_unended}
use Rattle.text_lines.proofs.read_numbers.Goals as goal
use Rattle.text_lines.proofs.read_numbers.Goals.{After-loop-j, In-Lf, In-Space}

-- the space in front of it
spaced : (c : In-Space) → Sees Space (drop c.loop-j.p c.args.text.now)
spaced c = seen _ _ (sym c.in-Space.is ∙ c.byte_at.ensures)

-- the LF at the end
ended : (c : In-Lf) → Sees Lf (drop c.loop-j.p c.args.text.now)
ended c = seen _ _ (sym c.in-Lf.is ∙ c.byte_at-2.ensures)

-- all numbers are read
full : (c : After-loop-j) → c.loop-j.j ≡ c.args.size
full c = omega arith

pub loop-j-init : goal.loop-j-init
loop-j-init c = record { kept = refl; whole = still_begins _ _ _ _ _ _ }

pub returns-in_default : goal.returns-in_default
returns-in_default c =
    let i = c.loop-j.invariant in
    record { kept = i.kept; read = still_unspaced _ _ _ _ _ _ _ c.loop-j-test.true (seen _ _ c.byte_at.ensures) c.in_default.not-Space ∙ i.whole }

pub overflow_add-p : goal.overflow_add-p
overflow_add-p c = omega (arith, within c.args.text.now c.loop-j.p (spaced (goal.at.overflow_add-p c).In-Space) (λ e. cc))

pub returns-in_err-number : goal.returns-in_err-number
returns-in_err-number c =
    let i = c.loop-j.invariant in
    let p = (goal.at.returns-in_err-number c).In-Space in
    let missing = sym c.in_err-number.was ∙ c.read_number.ensures in
    record { kept = i.kept; read = rw c.from_residual.ensures (still_missing _ _ _ _ _ _ _ c.loop-j-test.true (spaced p) missing ∙ i.whole) }

pub loop-j-preserved : goal.loop-j-preserved
loop-j-preserved c =
    let i = c.loop-j.invariant in
    let p = (goal.at.loop-j-preserved c).In-Space in
    let number = sym c.in_ok-number.was ∙ c.read_number.ensures in
    record {
      kept = front_kept c.loop-j.into c.args.base c.loop-j.j _ ∙ i.kept;
      whole = still_turns _ _ _ _ _ _ _ _ c.loop-j-test.true (omega arith) (spaced p) number ∙ i.whole;
    }

pub overflow_add-result : goal.overflow_add-result
overflow_add-result c = omega (arith, within c.args.text.now c.loop-j.p (ended (goal.at.overflow_add-result c).In-Lf) (λ e. cc))

pub returns-in-Lf : goal.returns-in-Lf
returns-in-Lf c =
    let p = goal.at.returns-in-Lf c in
    let i = c.loop-j.invariant in
    record { kept = i.kept; read = still_ends _ _ _ _ _ _ _ (full p.After-loop-j) (ended p.In-Lf) ∙ i.whole }

pub returns-in_default-byte_at : goal.returns-in_default-byte_at
returns-in_default-byte_at c =
    let i = c.loop-j.invariant in
    record {
      kept = i.kept;
      read =
          still_unended _ _ _ _ _ _ _ (full (goal.at.returns-in_default-byte_at c).After-loop-j) (seen _ _ c.byte_at-2.ensures) c.in_default-byte_at.not-Lf ∙ i.whole;
    }
