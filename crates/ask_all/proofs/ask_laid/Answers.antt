-- `ask_all::ask_laid` meets its contract: each return is where its checks stop, or the pairs' answers behind them. The check of the contents leaves the marks 0 below n,
-- and the pairs are lent those.
use native.Mathlib.Omega.{arith}
use mathlib.Core.Bool.{not}
use mathlib.Core.Path.{ap, ◌∙◌}
use borrow.Author.Tests.{eq-eqb, le-ltb}
use Rattle.open.proofs.Checks.{contents_applies}
use Rattle.numbers.proofs.Cleared.{cleared_front}
use Rattle.ask_all.proofs.Refusals.{replies_answered, six_room}
use Rattle.ask_all.proofs.ask_laid.Goals as goal

pub ask_lent-requires : goal.ask_lent-requires
ask_lent-requires c =
    let p = c.requires in record {
      pairs = record {
        triples = p.stride_value;
        marked = omega (arith, p.n_in_bounds, c.contents_sound.auto.marks);
        none = cleared_front _ _ c.contents_sound.ensures.marks_after;
        same = c.if-pairs-targets.false;
        room = six_room _ _ c.if-answers-pairs.false;
      };
      n_bound = p.n_bound;
    }

pub returns : goal.returns
returns c =
    let L = c.args.index.now.laid in
    let f = c.ask_lent.ensures in
    let (o, (m, a)) =
    replies_answered _ c.args.sources.now c.args.targets.now _ c.args.answers.now L c.contents_sound.ensures.marks_after (
      contents_applies L c.contents_sound.ensures.value ∙ (ap not c.if-not-contents_sound.false),
      (ap not (eq-eqb _ _ c.if-pairs-targets.false), (le-ltb _ _ (six_room _ _ c.if-answers-pairs.false), tt)),
    )
    f.marks_after f.answers_after in record { own = tt; result_value = o; marks_after = m; answers_after = a; kept = f.kept }
