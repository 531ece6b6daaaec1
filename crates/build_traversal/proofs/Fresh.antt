-- How many marks are 0: one less with each vertex that is marked, and no more than before where marks that are not 0 stay so.
use mathlib.Core.Path.{◌≡◌, refl, ap}
use mathlib.Core.List.{List, [], ◌∷◌}
use Prim.Native.Nat.{ℕ, zero, suc, ◌≤◌, ◌<◌}
use native.Mathlib.Omega.{arith}
use lib.ListN.{length, get_or, set}

abbrev pub fresh : List ℕ → ℕ
fresh [] = 0
fresh (zero ∷ marks) = suc (fresh marks)
fresh (suc m ∷ marks) = fresh marks

pub fresh_le : (marks : List ℕ) → fresh marks ≤ length marks
fresh_le [] = omega arith
fresh_le (zero ∷ marks) = omega (arith, fresh_le marks)
fresh_le (suc m ∷ marks) = omega (arith, fresh_le marks)

pub fresh_mark : (marks : List ℕ) (v mark : ℕ) → v < length marks → get_or marks v 0 ≡ 0 → 0 < mark → suc (fresh (set marks v mark)) ≡ fresh marks
fresh_mark [] v mark h e p = absurd (omega arith)
fresh_mark (zero ∷ marks) zero zero h e p = absurd (omega arith)
fresh_mark (zero ∷ marks) zero (suc mark) h e p = refl
fresh_mark (suc m ∷ marks) zero mark h e p = absurd (omega arith)
fresh_mark (zero ∷ marks) (suc v) mark h e p = ap suc (fresh_mark marks v mark (omega arith) e p)
fresh_mark (suc m ∷ marks) (suc v) mark h e p = fresh_mark marks v mark (omega arith) e p

pub fresh_no_more : (xs ys : List ℕ) → length ys ≡ length xs → ((v : ℕ) → v < length xs → get_or ys v 0 ≡ 0 → get_or xs v 0 ≡ 0) → fresh ys ≤ fresh xs
fresh_no_more [] [] l h = omega arith
fresh_no_more [] (y ∷ ys) l h = absurd (omega arith)
fresh_no_more (x ∷ xs) [] l h = absurd (omega arith)
fresh_no_more (zero ∷ xs) (zero ∷ ys) l h = omega (arith, fresh_no_more xs ys (omega arith) (λ v k. h (suc v) (omega arith)))
fresh_no_more (zero ∷ xs) (suc y ∷ ys) l h = omega (arith, fresh_no_more xs ys (omega arith) (λ v k. h (suc v) (omega arith)))
fresh_no_more (suc x ∷ xs) (zero ∷ ys) l h = absurd (omega (arith, h 0 (omega arith) refl))
fresh_no_more (suc x ∷ xs) (suc y ∷ ys) l h = fresh_no_more xs ys (omega arith) (λ v k. h (suc v) (omega arith))
