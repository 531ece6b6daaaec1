-- `ask_all::ask_sound` meets its contract: the sections of the bytes hold the index; the pairs are lent the marks below n.
use mathlib.Core.Path.{ap, ◌∙◌}
use mathlib.Core.List.{List, ◌++◌}
use Prim.Native.Nat.{ℕ}
use lib.ListN.{length, drop}
use Rattle.lineage.specs.Question.{answer}
use Rattle.numbers.specs.Put.{put}
use Rattle.ask_pairs.specs.Pairs.{sixes, last_marks}
use Rattle.ask_all.proofs.ask_sound.Goals as goal

pub returns : goal.returns
returns c =
    let s = c.args in
    let (is, same) = c.of.ensures in
    let e = c.ask_pairs.ensures in record {
      marks_after = ap (λ (m : List ℕ). m ++ drop s.index.now.image.layout.n s.marks.now) e.marks_after
          ∙ λ i. last_marks (same i).n (answer (is i)) s.sources.now s.targets.now (length s.sources.now) ++ drop s.index.now.image.layout.n s.marks.now;
      answers_after = e.answers_after ∙ λ i. put s.answers.now 0 (sixes (same i).n (answer (is i)) s.sources.now s.targets.now (length s.sources.now));
      kept = rw same at e.kept;
    }
