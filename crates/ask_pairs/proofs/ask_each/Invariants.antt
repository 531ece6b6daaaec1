-- `ask_pairs::ask_each` meets its contract. The loop takes the pairs one by one (Pairs): each adds six numbers, and leaves marks with a stamp of its own where it is not
-- refused.
use Rattle.lineage.specs.Question.{answer}
use Rattle.numbers.specs.Regions.{Kept}
use Rattle.ask_stacked.specs.Words.{stack_words}
use Rattle.ask.specs.Sections.{index_of_sections}
use Rattle.ask_pairs.proofs.Pairs.{Asking}
use Rattle.ask_pairs.proofs.ask_each.Given as goal

abbrev pub invariant-loop-i : goal.invariant-loop-i
invariant-loop-i l = Asking l.sections.layout.n (answer (index_of_sections l.sections)) l.sources l.targets l.initial.answers l.marks l.answers l.i l.used l.last
    × Kept l.initial.work l.work 0 (stack_words l.sections.layout.width l.sections.layout.n)
