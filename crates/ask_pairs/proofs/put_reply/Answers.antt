-- `ask_pairs::put_reply` meets its contract: the cast makes 1 of yes and 0 of no.
use mathlib.Core.Bool.{Bool, true, false, cond}
use mathlib.Core.Path.{◌≡◌, refl, ◌∙◌}
use mathlib.Core.List.{List, [], ◌∷◌}
use Prim.Native.Nat.{ℕ}
use mir.Val.{bool_byte}
use Rattle.numbers.specs.Put.{put}
use Rattle.ask_pairs.proofs.put_reply.Goals as goal

yes_put : (a : List ℕ) (at : ℕ) (b : Bool) (x y z : ℕ) → put a at (0 ∷ 0 ∷ bool_byte b ∷ x ∷ y ∷ z ∷ []) ≡ put a at (0 ∷ 0 ∷ cond b 1 0 ∷ x ∷ y ∷ z ∷ [])
yes_put a at true x y z = refl
yes_put a at false x y z = refl

pub returns : goal.returns
returns c = c.put_six.ensures ∙ yes_put c.args.answers.now c.args.at c.args.r.says c.args.r.reason c.args.r.opened c.args.r.deciding
