-- Where a group is a child of two others. Rows have no repeats, so a group has as many parents as it has entries in all rows; and names rise with places,
-- so the first such group by place has the smallest name.
use mathlib.Core.Bool.{Bool, true, false, cond}
use mathlib.Core.Path.{◌≡◌, refl, ap, ◌∙◌}
use mathlib.Core.List.{List, [], ◌∷◌, ◌++◌}
use Prim.Native.Nat.{ℕ, zero, suc, ◌+◌, ◌<◌, ◌≤◌}
use native.Mathlib.Nat.{not-suc-le-zero}
use native.Mathlib.Omega.{arith}
use lib.Dec.{eqb}
use lib.ListN.{length, get_or, length-append}
use borrow.Author.Tests.{eqb-true}
use Rattle.lineage.specs.Lists.{upto, among, those, first_of, joined, Every}
use Rattle.lineage.specs.Sound.{child_of, parents_of, shared}
use Rattle.laws.specs.Rising.{Distinct, Rises}
use Rattle.laws.specs.Sound.{SoundGroups}
use Rattle.laws.proofs.Lists.{those_append, those_yes, those_no, in_upto, upto_low}
use Rattle.laws.proofs.Positions.{in_get_d}
use Rattle.laws.proofs.Rising.{rises_upto, first_of_lem}
use Rattle.laws.proofs.Every.{every_get_d}
use Rattle.laws.proofs.Grouped.{children_once, groups_rise}

-- how many of a list pass
abbrev passing : (ℕ → Bool) → List ℕ → ℕ
passing f xs = length (those f xs)

passing_append : (f : ℕ → Bool) (a b : List ℕ) → passing f (a ++ b) ≡ passing f a + passing f b
passing_append f a b = ap (λ (xs : List ℕ). length xs) (those_append f a b) ∙ length-append (those f a) (those f b)

passing_one : (f : ℕ → Bool) (x : ℕ) → passing f (x ∷ []) ≡ cond (f x) 1 0
passing_one f x = at (f x) refl
  where
    at : (t : Bool) → f x ≡ t → passing f (x ∷ []) ≡ cond t 1 0
    at true e = rw (those_yes f x [] e)
    at false e = rw (those_no f x [] e)

-- of the numbers below n + 1: 0, and those one above a number below n
passing_shift : (f : ℕ → Bool) (n : ℕ) → passing f (upto (suc n)) ≡ cond (f 0) 1 0 + passing (λ i. f (suc i)) (upto n)
passing_shift f zero = omega (arith, passing_one f 0)
passing_shift f (suc n) =
    omega (
      arith,
      passing_append f (upto (suc n)) (suc n ∷ []),
      passing_one f (suc n),
      passing_shift f n,
      passing_append (λ i. f (suc i)) (upto n) (n ∷ []),
      passing_one (λ i. f (suc i)) n,
    )

-- a list without repeats has each of its members once
once : (x : ℕ) (xs : List ℕ) → Distinct xs → passing (eqb x) xs ≡ cond (among x xs) 1 0
once x [] d = refl
once x (y ∷ xs) d = at (eqb x y) refl (once x xs d.1)
  where
    at : (t : Bool) → eqb x y ≡ t → passing (eqb x) xs ≡ cond (among x xs) 1 0 → passing (eqb x) (y ∷ xs) ≡ cond (among x (y ∷ xs)) 1 0
    at true e ih =
        let none : among x xs ≡ false = rw (eqb-true x y e) d.0 in
        let left : passing (eqb x) xs ≡ 0 = rw none at ih in
        rw (those_yes (eqb x) y xs e, e) (ap suc left)
    at false e ih = rw (those_no (eqb x) y xs e, e) ih

-- a group has as many parents as entries
pub parents_entries : (rows : List (List ℕ)) (x : ℕ) → Every Distinct rows → length (parents_of rows x) ≡ length (those (eqb x) (joined rows))
parents_entries [] x each = refl
parents_entries (row ∷ rows) x each =
    omega (
      arith,
      passing_shift (λ p. child_of (row ∷ rows) p x) (length rows),
      parents_entries rows x each.1,
      passing_append (eqb x) row (joined rows),
      once x row each.0,
    )

-- in a rising list a later number is not less
rises_on : (xs : List ℕ) → Rises xs → (i j : ℕ) → i ≤ j → j < length xs → get_or xs i 0 ≤ get_or xs j 0
rises_on [] r i j o h = absurd (not-suc-le-zero h)
rises_on (x ∷ xs) r zero zero o h = omega arith
rises_on (x ∷ xs) r zero (suc j) o h = omega (arith, r.0 (get_or xs j 0) (in_get_d xs j (omega arith)))
rises_on (x ∷ xs) r (suc i) zero o h = absurd (omega arith)
rises_on (x ∷ xs) r (suc i) (suc j) o h = rises_on xs r.1 i j (omega arith) (omega arith)

module _ {names groups levels : List ℕ} {children : List (List ℕ)} (S : SoundGroups names groups levels children) where
  pub shared_entries : (x : ℕ) → length (parents_of children x) ≡ length (those (eqb x) (joined children))
  shared_entries x = parents_entries children x (every_get_d Distinct [] children (children_once S))

  -- the first by place that is a child of two others: its name is the smallest of such
  pub first_shared :
      (other x : ℕ) → x < length children → shared children x ≡ true
      → (shared children (first_of (shared children) (upto (length children)) other) ≡ true)
      × (first_of (shared children) (upto (length children)) other < length children)
      × (get_or groups (first_of (shared children) (upto (length children)) other) 0 ≤ get_or groups x 0)
  first_shared other x h t =
      let k : ℕ = length children in
      let f = first_of_lem (shared children) (upto k) other x (rises_upto k) (in_upto k x h) t in
      let rise : Rises groups = rw S.groups_are_lem (groups_rise names) in
      (f.0, upto_low k _ f.1, rises_on groups rise _ x f.2 (omega (arith, S.children_long)))
