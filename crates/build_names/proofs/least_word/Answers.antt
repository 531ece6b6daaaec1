-- `build_names::least_word` meets its contract: the fold takes the least of what it has and the next word.
use mathlib.Core.List.{List, [], ◌∷◌}
use mathlib.Core.Path.{◌≡◌, refl, ◌∙◌}
use Prim.Native.Nat.{ℕ}
use Rattle.std.proofs.Common.{rules, tests, min}
use Rattle.std.specs.List.{fold}
use Rattle.std.proofs.lemmas.Iterator.{YieldsList-from_slice}
use Rattle.std.proofs.lemmas.Iterator.Consumers.{fold_from_yields_List}
use Rattle.lineage.specs.Lists.{least}
use Rattle.build_names.proofs.least_word.Goals as goal

folded : (a : ℕ) (xs : List ℕ) → fold min a xs ≡ least a xs
folded a [] = refl
folded a (x ∷ xs) = folded (min a x) xs

pub returns : goal.returns
returns c =
    let words = c.args.words.now in
    fold_from_yields_List _ min _ c.fold.result c.fold.ensures.ran (YieldsList-from_slice words c.iter.ensures.rest) (λ a x b q k. search (rules, tests))
    ∙ folded _ words
