-- `ask_pairs::ask_each` meets its contract, by the invariant beside this file.
use native.Mathlib.Omega.{arith}
use mathlib.Core.Path.{◌≡◌, refl, sym, ap, ◌∙◌}
use Prim.Native.Nat.{ℕ, ◌+◌, ◌*◌, ◌≤◌, ◌<◌}
use lib.ListN.{length, get_or, replicate}
use Rattle.lineage.specs.Question.{place_in}
use Rattle.numbers.proofs.Regions.{kept_same, kept_then}
use Rattle.ask.specs.Sections.{index_of_sections}
use Rattle.ask.proofs.Soundness.{walk_is}
use Rattle.ask_pairs.specs.Places.{table_in}
use Rattle.ask_pairs.proofs.Placing.{table_at}
use Rattle.ask_pairs.proofs.Lent.{placed, placed_low}
use Rattle.ask_pairs.proofs.Pairs.{asking_none, asking_source, asking_target, asking_answer, asking_long, asking_all}
use Rattle.ask_pairs.proofs.ask_each.Goals as goal
use Rattle.ask_pairs.proofs.ask_each.Goals.{At-loop-i, then-n-u, else-n-u+then-n-v, else-n-u+else-n-v}

-- the place of a vertex's group stands in the words
word : (l : At-loop-i) → (u : ℕ) → u < l.args.sections.now.layout.n
    → (l.stack_words-base.result + u < length l.loop-i.work)
    × (get_or l.loop-i.work (l.stack_words-base.result + u) 0 ≡ get_or (table_in l.args.sections.now.layout.width l.args.sections.now.layout.n l.args.work.now) u 0)
word l u h = let s = l.args.sections.now.layout in table_at s.width s.n _ l.stack_words-base.ensures l.requires.n_in_bounds l.loop-i.invariant.1 u h

place : (l : At-loop-i) → (u : ℕ) → u < l.args.sections.now.layout.n
    → (get_or l.loop-i.work (l.stack_words-base.result + u) 0 ≡ place_in (index_of_sections l.args.sections.now) u)
    × (get_or l.loop-i.work (l.stack_words-base.result + u) 0 < l.args.sections.now.layout.k)
place l u h =
    let Q = l.args.sections.now.in_triples in
    let t = (word l u h).1 in
    (t ∙ placed Q.lent l.requires.placed u h, rw t (placed_low Q.lent l.requires.placed u h))

-- its six numbers have room
room : (l : At-loop-i) → l.loop-i.i < length l.args.sources.now → 6 * l.loop-i.i + 6 ≤ length l.loop-i.answers
room l h = omega (arith, asking_long l.loop-i.invariant.0 l.requires.marks_value.1.1, l.requires.marks_value.1.1)

pub loop-i-init : goal.loop-i-init
loop-i-init c = (asking_none _ _ _ _ _ _ c.requires.marks_value.0, kept_same _ _ _)

pub towards-requires : goal.towards-requires
towards-requires c = (place (goal.at.towards-requires c).At-loop-i _ c.if-n-v.false).1

pub next_reply-a-requires : goal.next_reply-a-requires
next_reply-a-requires c =
    let W = c.towards.ensures in
    let A = c.loop-i.invariant.0 in
    let x = place (goal.at.next_reply-a-requires c).At-loop-i _ c.if-n-u.false in record {
      marks_long = A.long ∙ sym W.marks;
      x_lt_k = (
        rw W.groups x.1,
        (
          omega (arith, A.long, c.args.sections.now.in_triples.lent.vertices_few),
          (A.under, rw (W.width, A.long) (omega (arith, c.loop-i.invariant.1.long, c.requires.n_in_bounds))),
        ),
      );
    }

pub loop-i-preserved : goal.loop-i-preserved
loop-i-preserved c =
    let A = c.loop-i.invariant.0 in
    elim c.if-n-u.branch [
      | then-n-u w ↦
          rw (w.marks-is, w.work-is, w.answers-is, w.used-is, w.last-is)
          (asking_source _ _ _ _ _ A c.requires.marks_value.1.1 c.loop-i-test.true _ _ refl refl w.if-n-u.true w.put_refused.ensures, c.loop-i.invariant.1)
      | else-n-u+then-n-v w ↦
          rw (w.marks-is, w.work-is, w.answers-is, w.used-is, w.last-is)
          (asking_target _ _ _ _ _ A c.requires.marks_value.1.1 c.loop-i-test.true _ _ refl refl w.if-n-u.false w.if-n-v.true w.put_refused-then-n-v.ensures, c.loop-i.invariant.1)
      | else-n-u+else-n-v w ↦
          let e = w.next_reply-a.ensures in
          let x = (place (goal.at.loop-i-preserved c).At-loop-i _ w.if-n-u.false).0 in
          let t = (place (goal.at.loop-i-preserved c).At-loop-i _ w.if-n-v.false).0 in
          rw (w.marks-is, w.work-is, w.answers-is, w.used-is, w.last-is) (
            asking_answer _ _ _ _ _ A c.requires.marks_value.1.1 c.loop-i-test.true _ _ refl refl w.if-n-u.false w.if-n-v.false w.next_reply-a.result.reply _ _ _
                (e.marks_after ∙ walk_is c.args.sections.now w.towards.ensures _ _ _ _ x t (ap (λ (z : ℕ). replicate z 0) A.long)) e.under (w.next_reply-a.auto.marks ∙ A.long)
                w.put_reply.ensures,
            kept_then c.loop-i.invariant.1 (rw (w.towards.ensures.width, A.long) at e.kept),
          )
    ]

pub returns : goal.returns
returns c = let (e, f) = asking_all c.loop-i.invariant.0 c.loop-i-test.false in record { answers_after = e; marks_after = f; kept = c.loop-i.invariant.1 }
