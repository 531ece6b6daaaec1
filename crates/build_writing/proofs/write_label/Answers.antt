-- `build_writing::write_label` meets its contract: two or three numbers put one behind the other are a group's numbers written.
use Prim.Native.Nat.{◌+◌, ◌*◌, ◌≤◌}
use native.Mathlib.Omega.{arith}
use lib.ListN.{length}
use Rattle.build_writing.proofs.Labellings.{two_fit, three_fit, label_pair, label_triple}
use Rattle.build_writing.proofs.write_label.Goals as goal
use Rattle.build_writing.proofs.write_label.Goals.{Else-z-eq2, Start}

-- two numbers fit; where z is not 2, three
two : (s : Start) → s.args.at + s.args.w * 2 ≤ length s.args.out.now
two s = let a = s.args in two_fit a.w a.at a.z a.s a.m a.e a.out.now s.requires.stride s.requires.z_in_bounds

three : (c : Else-z-eq2) → let a = c.args in a.at + a.w * 3 ≤ length a.out.now
three c = let a = c.args in
    three_fit a.w a.at a.z a.s a.m a.e a.out.now c.requires.stride c.requires.z_in_bounds c.if-z-eq2.false

pub put_at-requires : goal.put_at-requires
put_at-requires c = record { width = c.requires.width; w_in_bounds = omega (arith, two (goal.at.put_at-requires c).Start) }

pub put_at-requires-then-z-eq2 : goal.put_at-requires-then-z-eq2
put_at-requires-then-z-eq2 c = record { width = c.requires.width; w_in_bounds = omega (arith, two (goal.at.put_at-requires-then-z-eq2 c).Start, c.put_at.auto.out) }

pub returns-then-z-eq2 : goal.returns-then-z-eq2
returns-then-z-eq2 c =
    let a = c.args in
    label_pair a.w a.at a.z a.s a.m a.e a.out.now c.requires.stride c.requires.z_in_bounds _ _ c.if-z-eq2.true c.put_at.ensures c.put_at-then-z-eq2.ensures

pub put_at-requires-2 : goal.put_at-requires-2
put_at-requires-2 c = record { width = c.requires.width; w_in_bounds = omega (arith, two (goal.at.put_at-requires-2 c).Start, c.put_at.auto.out) }

pub put_at-requires-3 : goal.put_at-requires-3
put_at-requires-3 c =
    record {
      width = c.requires.width;
      w_in_bounds = omega (arith, three (goal.at.put_at-requires-3 c).Else-z-eq2, c.put_at.auto.out, c.put_at-2.auto.out);
    }

pub returns : goal.returns
returns c =
    let a = c.args in
    label_triple a.w a.at a.z a.s a.m a.e a.out.now c.requires.stride c.requires.z_in_bounds _ _ _ c.if-z-eq2.false c.put_at.ensures c.put_at-2.ensures
    c.put_at-3.ensures
