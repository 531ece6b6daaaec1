-- `matrix_lines::line_end` meets its contract: `position` looks for an LF in the bytes from `at` on.
use mathlib.Core.Path.{◌≡◌, sym, ◌∙◌}
use lib.Dec.{eqb}
use native.Mathlib.Omega.{arith}
use lib.ListN.{drop, length-drop}
use Rattle.std.proofs.lemmas.List.{take_all}
use Rattle.std.proofs.Common.{rules, tests}
use Rattle.std.proofs.lemmas.Iterator.{YieldsList-from_slice}
use Rattle.std.proofs.lemmas.Iterator.Search.{position_from_yields_List}
use Rattle.text_lines.specs.Lines.{lf}
use Rattle.matrix_lines.proofs.Lines.{found_lf, line_ended, line_unended}
use Rattle.matrix_lines.proofs.line_end.Goals as goal
use Rattle.matrix_lines.proofs.line_end.Goals.{After-position}

-- what `position` returns
found : (c : After-position) → c.position.result ≡ found_lf c.args.text.now c.args.at
found c =
    let left = drop c.args.at c.args.text.now in
    position_from_yields_List (λ b. eqb b lf) _ _ c.position.result c.position.ensures.ran
    (YieldsList-from_slice left (c.iter.ensures.rest ∙ take_all _ left (omega (arith, length-drop c.args.at c.args.text.now)))) (λ x b q k. search (rules, tests))

pub returns-in-Some : goal.returns-in-Some
returns-in-Some c = line_ended c.args.text.now c.args.at c.requires (sym (found (goal.at.returns-in-Some c).After-position) ∙ c.in-Some.is)

pub returns-in-None : goal.returns-in-None
returns-in-None c = line_unended c.args.text.now c.args.at c.requires (sym (found (goal.at.returns-in-None c).After-position) ∙ c.in-None.is)
