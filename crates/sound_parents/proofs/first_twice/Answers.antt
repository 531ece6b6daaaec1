-- `sound_parents::first_twice` meets its contract: `position` looks through the first k marks.
use mathlib.Core.Bool.{Bool}
use mathlib.Core.Path.{◌≡◌, sym, ap, ◌∙◌}
use Prim.Native.Nat.{ℕ}
use native.Mathlib.Omega.{arith}
use lib.Dec.{eqb}
use lib.ListN.{length, take}
use Rattle.std.proofs.Common.{rules, tests}
use Rattle.std.proofs.lemmas.List.{get_or-take, length-take-le}
use Rattle.std.proofs.lemmas.Iterator.{YieldsList-from_slice}
use Rattle.std.proofs.lemmas.Iterator.Search.{position_from_yields_List}
use Rattle.lineage.specs.Lists.{upto, first_of}
use Rattle.numbers.specs.Found.{found_below}
use Rattle.numbers.proofs.Found.{position_found}
use Rattle.sound_parents.specs.Told.{marked_twice}
use Rattle.sound_parents.proofs.first_twice.Goals as goal

pub returns : goal.returns
returns c =
    let k = c.args.k in
    let marks = c.args.marks.now in
    let is_two : ℕ → Bool = λ mark. eqb mark 2 in
    let long : length (take k marks) ≡ k = length-take-le k marks c.requires in
    position_from_yields_List is_two _ _ c.position.result c.position.ensures.ran (YieldsList-from_slice (take k marks) cc) (λ x b q k. search (rules, tests))
    ∙ position_found is_two (marked_twice marks) (take k marks) 0 (λ i h. ap is_two (sym (get_or-take k marks i 0 (omega (arith, long)))))
    ∙ ap (λ k. found_below k (first_of (marked_twice marks) (upto k) k)) long
