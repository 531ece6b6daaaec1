-- `ask::question::decide` meets its contract: each return is the first rule that holds, and what the code has read by then says so. The walk starts with marks of which
-- none bears its stamp.
use native.Mathlib.Omega.{arith}
use mathlib.Core.Path.{refl, ap, ◌∙◌}
use mathlib.Core.List.{List}
use Prim.Native.Nat.{ℕ, ◌+◌}
use Rattle.numbers.proofs.Regions.{kept_same}
use Rattle.lineage.specs.Walk.{Net}
use Rattle.ask_walk.specs.Stamps.{seen_as, Under}
use Rattle.ask_walk.specs.Walks.{net_of_walk}
use Rattle.ask_walk.proofs.Stamped.{seen_long, seen_other, under_more, new_free, new_marks}
use Rattle.ask_walk.proofs.Passing.{judged_missed}
use Rattle.ask.specs.declared.Asked.{Asked}
use Rattle.ask.proofs.Rules.{inside_low, outside_low, rule_2, rule_3, rule_4, rule_5_6, walk_opens, walk_deciding, walk_opened}
use Rattle.ask.proofs.question.decide.Goals as goal
use Rattle.ask.proofs.question.decide.Goals.{Start}

-- the marks before the walk
abbrev marks : (s : Start) → List ℕ
marks s = seen_as s.args.stamp s.args.marks.now

-- what it goes by
abbrev net : (s : Start) → Net
net s = net_of_walk s.args.walk.now

under : (s : Start) → Under (s.args.stamp + 1) s.args.marks.now
under s = under_more s.args.stamp (s.args.stamp + 1) s.args.marks.now (omega arith) s.requires.x_lt_k.1.1.0

pub returns-then-level-num : goal.returns-then-level-num
returns-then-level-num c = record {
  marks_after = rule_3 c.args.walk.now.fit c.args.x (marks (goal.at.returns-then-level-num c).Start) c.plain-then-level-num.result c.if-x-t.false c.requires.x_lt_k.0 _ _
      c.num-level.ensures.0 c.num.ensures.0
      c.plain-then-level-num.ensures c.if-level-num.true;
  under = under (goal.at.returns-then-level-num c).Start;
  marks_unchanged = (λ e. refl);
  kept = kept_same _ _ _;
}

pub plain-requires-in-Inside : goal.plain-requires-in-Inside
plain-requires-in-Inside c =
    omega (arith, inside_low c.args.walk.now.width c.args.walk.now.k c.args.walk.now.d c.args.walk.now.labels.now c.args.x c.args.walk.now.t c.in-Inside.ensures, c.args.walk.now.fit.labelled.labellings_few)

pub returns-in-Inside : goal.returns-in-Inside
returns-in-Inside c = record {
  marks_after = rule_2 c.args.walk.now.fit c.args.x (marks (goal.at.returns-in-Inside c).Start) c.plain-in-Inside.result c.if-x-t.false c.requires.x_lt_k.0 _ _
      c.num-level.ensures.0 c.num.ensures.0
      c.if-level-num.false c.plain-in-Inside.ensures c.in-Inside.ensures;
  under = under (goal.at.returns-in-Inside c).Start;
  marks_unchanged = (λ e. refl);
  kept = kept_same _ _ _;
}

pub plain-requires-in-Outside : goal.plain-requires-in-Outside
plain-requires-in-Outside c =
    omega (arith, outside_low c.args.walk.now.width c.args.walk.now.k c.args.walk.now.d c.args.walk.now.labels.now c.args.x c.args.walk.now.t c.in-Outside.ensures, c.args.walk.now.fit.labelled.labellings_few)

pub returns-in-Outside : goal.returns-in-Outside
returns-in-Outside c = record {
  marks_after = rule_4 c.args.walk.now.fit c.args.x (marks (goal.at.returns-in-Outside c).Start) c.plain-in-Outside.result c.if-x-t.false c.requires.x_lt_k.0 _ _
      c.num-level.ensures.0 c.num.ensures.0
      c.if-level-num.false c.plain-in-Outside.ensures c.in-Outside.ensures;
  under = under (goal.at.returns-in-Outside c).Start;
  marks_unchanged = (λ e. refl);
  kept = kept_same _ _ _;
}

pub walk_from-requires : goal.walk_from-requires
walk_from-requires c =
    let F = c.args.walk.now.fit in
    let M = new_marks c.args.stamp c.args.marks.now c.requires.x_lt_k.1.1.0 (net (goal.at.walk_from-requires c).Start) c.args.walk.now.k in record {
      marks_long = c.requires.marks_long;
      fresh = record {
        low = c.requires.x_lt_k.0;
        level = omega (arith, c.num-level.ensures.0);
        unmarked = new_free _ _ c.requires.x_lt_k.1.1.0 _;
        missed = judged_missed F M.safe c.requires.x_lt_k.0 c.in-Neither.ensures;
      };
      marks = M;
      lev_value = (c.num-level.ensures.0, c.requires.x_lt_k.1.1.1);
    }

pub by_walk-requires : goal.by_walk-requires
by_walk-requires c =
    let r = c.walk_from in (
      walk_deciding c.args.walk.now.fit _ _ (marks (goal.at.by_walk-requires c).Start) r.result.found r.result.deciding r.result.opened _ r.ensures.marks_after,
      omega (
        arith,
        walk_opened c.args.walk.now.fit _ c.args.x (marks (goal.at.by_walk-requires c).Start) r.result.found r.result.deciding r.result.opened _ r.ensures.marks_after
            c.requires.x_lt_k.0
            (seen_long _ c.args.marks.now ∙ c.requires.marks_long) (seen_other _ _ _ (omega (arith, c.args.walk.now.fit.name_low c.args.x c.requires.x_lt_k.0, c.requires.marks_long)) (new_free _ _ c.requires.x_lt_k.1.1.0 _)),
        c.requires.marks_long,
        c.requires.x_lt_k.1.0,
      ),
    )

pub returns-in-Neither : goal.returns-in-Neither
returns-in-Neither c =
    let r = c.walk_from in
    let opens = walk_opens c.args.walk.now.fit _ c.args.x (marks (goal.at.returns-in-Neither c).Start) r.result.found r.result.deciding r.result.opened _ r.ensures.marks_after in
    record {
      marks_after = rule_5_6 c.args.walk.now.fit c.args.x (marks (goal.at.returns-in-Neither c).Start) c.by_walk.result c.if-x-t.false c.requires.x_lt_k.0 _ _ c.num-level.ensures.0
          c.num.ensures.0
          c.if-level-num.false c.in-Neither.ensures _ _ _ _ r.ensures.marks_after c.by_walk.ensures;
      under = r.ensures.under;
      marks_unchanged = (λ z. absurd (omega (arith, opens, z, ap (λ (q : Asked). q.opened) c.by_walk.ensures)));
      kept = r.ensures.kept;
    }
