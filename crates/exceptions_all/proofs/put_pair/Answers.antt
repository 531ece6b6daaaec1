-- `exceptions_all::put_pair` meets its contract: 14 for the source, 14 for the target, or what their groups' places tell.
use mathlib.Core.Bool.{Bool, true, false, cond}
use mathlib.Core.Path.{◌≡◌, refl, ap, ◌∙◌}
use mathlib.Core.List.{List, [], ◌∷◌}
use Prim.Native.Nat.{ℕ}
use lib.ListN.{length}
use mir.Val.{bool_byte}
use Rattle.numbers.specs.Put.{put}
use Rattle.exceptions_all.specs.Pairs.{by_place}
use Rattle.exceptions_all.proofs.Pairs.{three_source, three_target, three_says}
use Rattle.exceptions_all.proofs.put_pair.Goals as goal
use Rattle.exceptions_all.proofs.put_pair.Goals.{Start}

-- what the table, the labels and the lists tell of two vertices
abbrev told : (s : Start) → ℕ → ℕ → Bool
told s = let a = s.args in by_place a.labels.now a.lists.now a.places.now

-- the cast makes 1 of yes and 0 of no
yes_put : (a : List ℕ) (at : ℕ) (b : Bool) → put a at (0 ∷ 0 ∷ bool_byte b ∷ []) ≡ put a at (0 ∷ 0 ∷ cond b 1 0 ∷ [])
yes_put a at true = refl
yes_put a at false = refl

pub returns-then-places-u : goal.returns-then-places-u
returns-then-places-u c = c.put_refused.ensures ∙ ap (put c.args.answers.now c.args.at) (three_source (length c.args.places.now) (told (goal.at.returns-then-places-u c).Start) c.args.u c.args.v c.if-places-u.true)

pub returns-then-places-v : goal.returns-then-places-v
returns-then-places-v c = c.put_refused-then-places-v.ensures ∙ ap (put c.args.answers.now c.args.at) (three_target (length c.args.places.now) (told (goal.at.returns-then-places-v c).Start) c.args.u c.args.v c.if-places-u.false c.if-places-v.true)

pub returns : goal.returns
returns c =
    c.put_three.ensures
    ∙ yes_put c.args.answers.now c.args.at c.reaches-yes.result
    ∙ ap (put c.args.answers.now c.args.at) (three_says (length c.args.places.now) (told (goal.at.returns c).Start) c.args.u c.args.v c.if-places-u.false c.if-places-v.false c.reaches-yes.ensures)
