-- Looking through a list for the first that passes a test: where it stands, if any passes.
use mathlib.Core.Bool.{Bool, true, false, ◌||◌, cond}
use mathlib.Core.Path.{◌≡◌, refl, sym, ap, ◌∙◌}
use mathlib.Core.List.{List, [], ◌∷◌}
use Prim.Native.Nat.{ℕ, suc, ◌+◌}
use native.Mathlib.Omega.{arith}
use lib.Dec.{ltb, leb-suc-zero, leb-suc-suc}
use lib.ListN.{length}
use borrow.Author.Tests.{lt-ltb}
use Rattle.std.specs.declared.option.Option.TheVariants.{Some, None}
use Rattle.std.specs.List.{position, position_or_len}
use Rattle.std.proofs.lemmas.List.Recursion.{is_position_or_len}
use Rattle.lineage.specs.Lists.{any}
use Rattle.rules_states.specs.Rules.{position_of}

module _ (p : ℕ → Bool) where
  -- one passes exactly where the position is below the length
  any_position : (xs : List ℕ) → any p xs ≡ ltb (position_of p xs) (length xs)
  any_position [] = sym (leb-suc-zero 0)
  any_position (x ∷ xs) = at (p x) (any_position xs)
    where
      at : (t : Bool) → any p xs ≡ ltb (position_of p xs) (length xs) → (t || any p xs) ≡ ltb (cond t 0 (suc (position_of p xs))) (suc (length xs))
      at true ih = sym (lt-ltb 0 (suc (length xs)) (omega arith))
      at false ih = ih ∙ sym (leb-suc-suc (suc (position_of p xs)) (length xs))

  -- the position that std finds is the definition's
  pub position_found : (xs : List ℕ) → position p xs ≡ cond (any p xs) (Some (position_of p xs)) None
  position_found xs =
      let is : position_of p xs ≡ position_or_len p xs = is_position_or_len (position_of p) p refl (λ x xs. ap (cond (p x) 0) (let e : suc (position_of p xs) ≡ 1 + position_of p xs = omega arith in e)) xs in
      rw (any_position xs, is) refl
