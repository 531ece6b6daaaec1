-- `build_orders::one_lacks` meets its contract: `any` looks through the words, and a word lacks the stamp where it is another.
use mathlib.Core.Bool.{Bool, not}
use mathlib.Core.Path.{refl, ◌∙◌}
use Prim.Native.Nat.{ℕ}
use lib.Dec.{eqb}
use Rattle.std.proofs.Common.{rules, tests}
use Rattle.std.proofs.lemmas.Iterator.{YieldsList-from_slice}
use Rattle.std.proofs.lemmas.Iterator.Search.{any_from_yields_List}
use Rattle.numbers.proofs.Found.{any_found}
use Rattle.build_orders.specs.Lacks.{lacks}
use Rattle.build_orders.proofs.one_lacks.Goals as goal

pub returns : goal.returns
returns c =
    let words = c.args.words.now in
    let test : ℕ → Bool = λ word. not (eqb word c.args.stamp) in
    any_from_yields_List test _ _ c.any.result c.any.ensures.ran (YieldsList-from_slice words c.iter.ensures.rest) (λ x b q k. search (rules, tests))
    ∙ any_found test (lacks c.args.stamp words) words 0 (λ i h. refl)
