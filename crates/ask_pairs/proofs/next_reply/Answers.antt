-- `ask_pairs::next_reply` meets its contract: the new stamp is on no mark, so the walk starts from none; where nothing is opened no mark bears it afterwards either.
use native.Mathlib.Omega.{arith}
use mathlib.Core.Path.{◌≡◌, ap, ◌∙◌}
use mathlib.Core.List.{List}
use Prim.Native.Nat.{ℕ, ◌+◌, ◌-◌, ◌<◌}
use lib.ListN.{length, replicate}
use Rattle.lineage.specs.Question.{between}
use Rattle.numbers.specs.Regions.{Kept}
use Rattle.ask_walk.specs.Stamps.{seen_as, Under}
use Rattle.ask_walk.specs.Walks.{index_of_walk}
use Rattle.ask_walk.proofs.Stamped.{seen_new}
use Rattle.ask_stacked.specs.Words.{stack_words}
use Rattle.ask.specs.Replies.{answer_by}
use Rattle.ask_pairs.proofs.next_reply.Goals as goal
use Rattle.ask_pairs.proofs.next_reply.Goals.{After-decide-reply}

-- the walk starts from no marks
none : (s n : ℕ) (m : List ℕ) → Under s m → length m ≡ n → seen_as s m ≡ replicate n 0
none s n m U e = seen_new s m U ∙ ap (λ (z : ℕ). replicate z 0) e

-- nothing was opened
unused : (s : ℕ) (m m' : List ℕ) → 0 < s → m' ≡ m → Under s m → Under (s - 1 + 1) m'
unused s m m' h e U = let same : s - 1 + 1 ≡ s = omega arith in rw (same, e) U

-- what the walk answers, and the words that it leaves
told : (d : After-decide-reply) → let s = d.args in
    (answer_by d.decide-reply.result (seen_as d.next_stamp-stamp.result d.decide-reply.new.marks)
    ≡ between (index_of_walk s.walk.now) s.x s.walk.now.t (replicate (length s.marks.now) 0))
    × Kept s.work.now d.decide-reply.new.work 0 (stack_words s.walk.now.width (length s.marks.now))
told d =
    let s = d.args in
    let e = d.next_stamp-stamp.ensures in (
      d.decide-reply.ensures.marks_after
          ∙ ap (between (index_of_walk s.walk.now) s.x s.walk.now.t) (none _ _ _ e.1.0 e.1.1),
      rw e.1.1 at d.decide-reply.ensures.kept,
    )

pub returns-then-reply-eq0-clause-marks_after : goal.returns-then-reply-eq0-clause-marks_after
returns-then-reply-eq0-clause-marks_after c = (told (goal.at.returns-then-reply-eq0-clause-marks_after c).After-decide-reply).0

pub returns-else-reply-eq0-clause-marks_after : goal.returns-else-reply-eq0-clause-marks_after
returns-else-reply-eq0-clause-marks_after c = (told (goal.at.returns-else-reply-eq0-clause-marks_after c).After-decide-reply).0
