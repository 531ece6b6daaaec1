-- `numbers::write_words` meets its contract, by the invariant beside this file.
use mathlib.Core.Path.{refl, ◌∙◌}
use Prim.Native.Nat.{◌+◌, ◌*◌, ◌≤◌}
use native.Mathlib.Omega.{arith}
use lib.ListN.{length}
use Rattle.numbers.proofs.Numbers.{room}
use Rattle.numbers.proofs.Written.{words_none, words_more, words_all}
use Rattle.numbers.proofs.write_words.Goals as goal
use Rattle.numbers.proofs.write_words.Goals.{In-loop-word}

-- the next word fits
within : (c : In-loop-word) → c.args.at + c.args.w * c.loop-word.word-index + c.args.w
    ≤ length c.args.out.now
within c = let a = c.args in
    omega (arith, room a.w c.loop-word.word-index (length a.words.now) (a.w * length a.words.now) (omega arith) (omega arith))

pub loop-word-init : goal.loop-word-init
loop-word-init c =
    let a = c.args in
    (omega arith, (omega arith, words_none a.w a.at a.words.now a.out.now))

pub put_at-requires : goal.put_at-requires
put_at-requires c = record { width = c.requires.width; w_in_bounds = omega (arith, within (goal.at.put_at-requires c).In-loop-word) }

pub overflow_add-p : goal.overflow_add-p
overflow_add-p c = omega (arith, within (goal.at.overflow_add-p c).In-loop-word)

pub loop-word-preserved : goal.loop-word-preserved
loop-word-preserved c =
    let l = c.loop-word in (
      omega arith,
      (
        omega arith,
        c.put_at.ensures
            ∙ words_more c.args.w c.args.at c.args.words.now c.args.out.now l.out l.p l.word-index _
            l.invariant.1.1
            l.invariant.0
            refl
            (omega arith)
            (within (goal.at.loop-word-preserved c).In-loop-word),
      ),
    )

pub shape_of-out : goal.shape_of-out
shape_of-out c = c.loop-word.invariant.1.0

pub returns : goal.returns
returns c =
    let a = c.args in
    c.loop-word.invariant.1.1 ∙ words_all a.w a.at a.words.now a.out.now (omega arith)
