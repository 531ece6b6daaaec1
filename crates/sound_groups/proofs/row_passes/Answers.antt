-- `sound_groups::row_passes` meets its contract, by the invariant beside this file.
use mathlib.Core.Path.{ap, ap₂, ◌∙◌}
use Prim.Native.Nat.{suc}
use native.Mathlib.Omega.{arith}
use native.Mathlib.Numerals.{add-one}
use lib.Dec.{eqb}
use Rattle.std.proofs.lemmas.Bool.Decides.{nat_tests}
use Rattle.stored.specs.Reading.{rows_of}
use Rattle.sound_groups.proofs.Many.{numbers_many, rows_many}
use Rattle.sound_groups.proofs.Rising.{rising_more, rising_high, rising_back, rising_all}
use Rattle.sound_groups.proofs.Greatest.{greatest_more, greatest_all}
use Rattle.sound_groups.proofs.row_passes.Goals as goal

pub returns-then-rows-q : goal.returns-then-rows-q
returns-then-rows-q c =
    rising_high (rows_of c.args.rows.now) c.args.p (rows_many c.args.rows.now) c.row-row.ensures.0 (numbers_many c.row-row.result) c.loop-i.invariant.0 c.loop-i-test.true c.get-q.ensures.0 _ c.if-rows-q.true

pub returns-then-q-next : goal.returns-then-q-next
returns-then-q-next c =
    rising_back (rows_of c.args.rows.now) c.args.p (rows_many c.args.rows.now) c.row-row.ensures.0 (numbers_many c.row-row.result) c.loop-i.invariant.0 c.loop-i-test.true c.get-q.ensures.0 _ c.if-q-next.true

pub loop-i-preserved : goal.loop-i-preserved
loop-i-preserved c =
    let low = c.loop-i-test.true in
    let q = c.get-q.ensures.0 in (
      rising_more c.loop-i.invariant.0 low q c.if-rows-q.false c.if-q-next.false,
      greatest_more c.loop-i.invariant.1 (omega (arith, numbers_many c.row-row.result)) q (add-one _ ∙ ap suc c.get.ensures.0)
          (grind (arith, nat_tests, c.max-level.ensures)),
    )

pub returns : goal.returns
returns c =
    rising_all (rows_of c.args.rows.now) c.args.p (rows_many c.args.rows.now) c.row-row.ensures.0 (numbers_many c.row-row.result) c.loop-i.invariant.0 c.loop-i-test.false
    (rw (← c.row-row.ensures.0) (ap₂ eqb c.get-2.ensures.0 (greatest_all c.loop-i.invariant.1 (omega (arith, numbers_many c.row-row.result)))))
