-- How far a traversal goes. Along rows of vertices below n `traverse` goes deep enough, it finishes vertices below n only, and all of them where every vertex
-- is a root.
use mathlib.Core.Bool.{true}
use mathlib.Core.Path.{◌≡◌, subst}
use mathlib.Core.List.{List, [], ◌∷◌}
use Prim.Native.Nat.{ℕ, suc, ◌-◌, ◌<◌}
use native.Mathlib.Omega.{arith}
use lib.ListN.{length, get_or}
use Rattle.lineage.specs.Lists.{among, upto}
use Rattle.lineage.specs.Stored.{row_at}
use Rattle.lineage.specs.Labels.{Forest, finished, traverse}
use Rattle.laws.specs.Visits.{Visits, over, skip, enter}
use Rattle.laws.specs.Laid.{Below}
use Rattle.laws.proofs.Lists.{here, there, in_upto, upto_low, length_upto}
use Rattle.laws.proofs.Rising.{pigeonhole, rises_upto, rises_distinct}
use Rattle.laws.proofs.Traversal.{unique, made, unseen_none}
use Rattle.laws.proofs.Visited.{distinct, from_todo}
use Rattle.laws.proofs.Closed.{leads_keeps}
use Rattle.laws.proofs.Laid.{below_in, part_below}

-- every vertex that a row leads to is below n
abbrev pub Inside : ℕ → (ℕ → List ℕ) → Type 0
Inside n next = (p q : ℕ) → among q (next p) ≡ true → q < n

-- so of laid-out rows of such values, whatever their starts
pub rows_low : {n : ℕ} (starts values : List ℕ) → Below n values → Inside n (row_at starts values)
unfolding row_at
rows_low {n} starts values low p q i =
    below_in n (row_at starts values p) (part_below n values (get_or starts p 0) (get_or starts (suc p) 0 - get_or starts p 0) low) q i

module _ {next : ℕ → List ℕ} (n : ℕ) (roots : List ℕ) (next_low : Inside n next) (roots_low : (q : ℕ) → among q roots ≡ true → q < n) where
  -- `traverse` goes deep enough
  pub traverse_visits : Visits next roots [] (traverse next (suc n) roots [])
  traverse_visits =
      made next (upto n) (λ p q i. in_upto n q (next_low p q i)) (suc n) roots [] (λ q i. in_upto n q (roots_low q i)) (omega (arith, unseen_none (upto n), length_upto n))

  module _ {f : Forest} (visits : Visits next roots [] f) where
    pub finished_low : (v : ℕ) → among v (finished f) ≡ true → v < n
    finished_low v i = let (q, j, l) = from_todo visits v i in leads_keeps (λ x. x < n) (λ x y h c. next_low x y c) l (roots_low q j)

    -- where every vertex is finished, they are n
    pub finished_count : ((v : ℕ) → v < n → among v (finished f) ≡ true) → length (finished f) ≡ n
    finished_count all =
        omega (
          arith,
          length_upto n,
          pigeonhole (finished f) (upto n) (distinct visits) (λ x i. in_upto n x (finished_low x i)),
          pigeonhole (upto n) (finished f) (rises_distinct (upto n) (rises_upto n)) (λ x i. all x (upto_low n x i)),
        )

-- rows that agree below n are gone through alike
visits_same :
    {next next' : ℕ → List ℕ} {n : ℕ} {todo seen : List ℕ} {f : Forest} → ((p : ℕ) → p < n → next p ≡ next' p) → Inside n next
    → ((q : ℕ) → among q todo ≡ true → q < n) → Visits next todo seen f → Visits next' todo seen f
visits_same same next_low low over = over
visits_same same next_low low (skip {p = p} {todo = todo} a v) = skip a (visits_same same next_low (λ q i. low q (there q p todo i)) v)
visits_same {next' = next'} same next_low low (enter {p = p} {todo = todo} {seen = seen} {below = below} a v t) =
    enter a (subst (λ xs. Visits next' xs (p ∷ seen) below) (same p (low p (here p todo))) (visits_same same next_low (next_low p) v))
    (visits_same same next_low (λ q i. low q (there q p todo i)) t)

pub traverse_same :
    {next next' : ℕ → List ℕ} (n : ℕ) (roots : List ℕ) → ((p : ℕ) → p < n → next p ≡ next' p) → Inside n next → Inside n next'
    → ((q : ℕ) → among q roots ≡ true → q < n) → traverse next (suc n) roots [] ≡ traverse next' (suc n) roots []
traverse_same n roots same low low' roots_low = unique (visits_same same low roots_low (traverse_visits n roots low roots_low)) (traverse_visits n roots low' roots_low)
