-- A traversal is determined by its start, and `traverse` makes it: each place that is entered is seen from then on, so a depth above the number
-- of places not yet seen suffices.
use mathlib.Core.Bool.{Bool, true, false, not}
use mathlib.Core.Path.{◌≡◌, refl, ap, ap₂}
use mathlib.Core.List.{List, [], ◌∷◌}
use Prim.Native.Nat.{ℕ, zero, suc, ◌<◌, ◌≤◌}
use native.Mathlib.Nat.{not-suc-le-zero}
use native.Mathlib.Omega.{arith}
use lib.ListN.{length}
use borrow.Author.Tests.{not-true}
use Rattle.lineage.specs.Lists.{among, those}
use Rattle.lineage.specs.Labels.{Forest, done, visit, after, along, traverse, nobodys_child, forest_of}
use Rattle.lineage.specs.Sound.{child_of}
use Rattle.laws.specs.Visits.{Visits, over, skip, enter}
use Rattle.laws.proofs.Tests.{clash, is_false}
use Rattle.laws.proofs.Lists.{here, there, Kept, those_pass, those_all}
use Rattle.laws.proofs.Rising.{those_le, those_lt}

-- one start, one forest
pub unique : {next : ℕ → List ℕ} {todo seen : List ℕ} {f g : Forest} → Visits next todo seen f → Visits next todo seen g → f ≡ g
unique over over = refl
unique (skip a r) (skip b s) = unique r s
unique (skip a r) (enter b s t) = clash a b
unique (enter a r t) (skip b s) = clash b a
unique (enter {p = p} a r t) (enter b s v) =
    let e = unique r s in
    ap₂ (visit p) e (unique t (rw (← e) at v))

-- what is seen stays seen
pub kept : (f : Forest) (seen : List ℕ) → Kept seen (after f seen)
kept done seen q h = h
kept (visit p below next) seen q h = kept next _ q (kept below _ q (there q p seen h))

-- how many of a list are not seen
abbrev pub unseen : List ℕ → List ℕ → ℕ
unseen places seen = length (those (λ q. not (among q seen)) places)

pub unseen_none : (places : List ℕ) → unseen places [] ≡ length places
unseen_none places = ap length (those_all (λ q. not (among q [])) places (λ q i. refl))

-- what is not in the greater list is not in the less
not_kept : (xs ys : List ℕ) → Kept xs ys → (q : ℕ) → not (among q ys) ≡ true → not (among q xs) ≡ true
not_kept xs ys k q h = ap not (is_false (among q xs) (λ i. clash (k q i) (not-true (among q ys) h)))

unseen_le : (places seen more : List ℕ) → Kept seen more → unseen places more ≤ unseen places seen
unseen_le places seen more k = those_le (λ q. not (among q more)) (λ q. not (among q seen)) places (not_kept seen more k)

unseen_lt : (places : List ℕ) (p : ℕ) (seen : List ℕ) → among p places ≡ true → among p seen ≡ false → unseen places (p ∷ seen) < unseen places seen
unseen_lt places p seen i new =
    those_lt (λ q. not (among q (p ∷ seen))) (λ q. not (among q seen)) places p (not_kept seen (p ∷ seen) (λ q. there q p seen)) i
    (ap not new) (ap not (here p seen))

module _ (next : ℕ → List ℕ) (places : List ℕ) (closed : (p : ℕ) → Kept (next p) places) where
  abbrev Made : ℕ → Type 0
  Made f = (todo seen : List ℕ) → Kept todo places → unseen places seen < f → Visits next todo seen (traverse next f todo seen)

  made_along :
      (f : ℕ) → Made f → (todo seen : List ℕ) → Kept todo places → unseen places seen < suc f
      → Visits next todo seen (along (traverse next f) next todo seen)
  made_along f ih [] seen all h = over
  made_along f ih (p ∷ todo) seen all h = at (among p seen) refl (λ s. made_along f ih todo s (λ q i. all q (there q p todo i)))
    where
      fewer : among p seen ≡ false → unseen places (p ∷ seen) < unseen places seen
      fewer = unseen_lt places p seen (all p (here p todo))

      after_fewer : (g : Forest) → unseen places (after g (p ∷ seen)) ≤ unseen places (p ∷ seen)
      after_fewer g = unseen_le places (p ∷ seen) (after g (p ∷ seen)) (kept g (p ∷ seen))

      at :
          (b : Bool) → among p seen ≡ b
          → ((s : List ℕ) → unseen places s < suc f → Visits next todo s (along (traverse next f) next todo s))
          → Visits next (p ∷ todo) seen (along (traverse next f) next (p ∷ todo) seen)
      at true e go = rw (e, along) (skip e (go seen h))
      at false e go =
          rw (e, along)
          (enter e (ih (next p) (p ∷ seen) (closed p) (omega (arith, fewer e)))
          (go _ (omega (arith, fewer e, after_fewer (traverse next f (next p) (p ∷ seen))))))

  -- so `traverse` makes the traversal
  pub made : (f : ℕ) → Made f
  unfolding traverse
  made zero todo seen all h = absurd (not-suc-le-zero h)
  made (suc f) todo seen all h = made_along f (made f) todo seen all h

-- the children of p in the order
abbrev pub next_in : List (List ℕ) → List ℕ → ℕ → List ℕ
next_in children ranked p = those (child_of children p) ranked

-- `forest_of` is the traversal from the groups that are nobody's child
pub forest_visits :
    (children : List (List ℕ)) (ranked places : List ℕ) → Kept ranked places → length places ≤ length children
    → Visits (next_in children ranked) (those (nobodys_child children) ranked) [] (forest_of children ranked)
unfolding forest_of
forest_visits children ranked places all l =
    made (next_in children ranked) places (λ p q i. all q (those_pass (child_of children p) q ranked i).1) (suc (length children))
    (those (nobodys_child children) ranked) []
    (λ q i. all q (those_pass (nobodys_child children) q ranked i).1) (omega (arith, unseen_none places))
