-- What the code's replies say, as the definitions have it.
use Rattle.std.specs.Prelude.{List, ℕ}
use Rattle.lineage.specs.Question.{Answer}
use Rattle.ask.specs.declared.Asked.{Asked}

-- a reply and the marks left
abbrev pub answer_by : Asked → List ℕ → Answer
answer_by r m = record { says = r.says; reason = r.reason; deciding = r.deciding; opened = r.opened; marks = m }
