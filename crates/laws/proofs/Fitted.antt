-- A traversal fits the ranks that its own order of finishing gives, and these fall along children where levels do: a child that is seen when its
-- parent is entered is either finished, or still open, and then its level would be greater.
use mathlib.Core.Bool.{Bool, true, false, false≢true}
use mathlib.Core.Logic.{◌⊎◌, inl, inr}
use mathlib.Core.Path.{◌≡◌, refl, ap}
use mathlib.Core.List.{List, [], ◌∷◌, ◌++◌}
use Prim.Native.Nat.{ℕ, suc, ◌+◌, ◌<◌, ◌≤◌}
use native.Mathlib.Omega.{arith}
use lib.Dec.{eqb}
use lib.ListN.{length, length-append}
use borrow.Author.Tests.{eq-eqb, ne_eqb}
use Rattle.lineage.specs.Lists.{among, position}
use Rattle.lineage.specs.Labels.{Forest, visit, after, finished}
use Rattle.laws.specs.Visits.{Visits, over, skip, enter}
use Rattle.laws.proofs.Tests.{clash}
use Rattle.laws.proofs.Lists.{here, here_at, there, in_cons, in_left, in_right}
use Rattle.laws.proofs.Positions.{position_past, position_left}
use Rattle.laws.specs.Rising.{Distinct}
use Rattle.laws.proofs.Rising.{distinct_right, distinct_apart, distinct_left}
use Rattle.laws.proofs.Visited.{parts, seen_cases, listed}
use Rattle.laws.specs.Visits.{before}
use Rattle.laws.proofs.Forests.{Ranking, Fits, none, tree, entered_finished, block_up, member_rank}

module _ (R : Ranking) where
  -- e and m of a forest's groups by its order of finishing, counted from lo
  pub record Counted (f : Forest) (lo : ℕ) : Type 0 where
    pub low : (x : ℕ) → among x (finished f) ≡ true → x < R.k
    pub e_is : (x : ℕ) → among x (finished f) ≡ true → R.e x ≡ suc (lo + position x (finished f))
    pub m_is : (x : ℕ) → among x (finished f) ≡ true → R.m x ≡ suc (lo + length (before x f))

  -- the first tree's root, what is below it, and the later trees
  module _ (p : ℕ) (below rest : Forest) (lo : ℕ) (once : Distinct (finished below ++ (p ∷ finished rest))) (c : Counted (visit p below rest) lo) where
    -- what is finished when p is about to be
    abbrev till : ℕ
    till = lo + length (finished below)

    apart : (x : ℕ) → among x (p ∷ finished rest) ≡ true → among x (finished below) ≡ false
    apart = distinct_apart (finished below) (p ∷ finished rest) once

    root_in : among p (finished below ++ (p ∷ finished rest)) ≡ true
    root_in = in_right p (finished below) (p ∷ finished rest) (here p (finished rest))

    root_rank : R.e p ≡ suc till
    root_rank =
        let at : position p (p ∷ finished rest) ≡ 0 = rw (eq-eqb p p refl, position) in
        omega (arith, c.e_is p root_in, position_past p (finished below) (p ∷ finished rest) (apart p (here p (finished rest))))

    root_m : R.m p ≡ suc lo
    root_m = let at : before p (visit p below rest) ≡ [] = rw (eq-eqb p p refl, before) in omega (arith, c.m_is p root_in, ap length at)

    counted_below : Counted below lo
    counted_below = record { low = λ x i. c.low x (within x i); e_is = e'; m_is = m' }
      where
        within : (x : ℕ) → among x (finished below) ≡ true → among x (finished below ++ (p ∷ finished rest)) ≡ true
        within x i = in_left x (finished below) (p ∷ finished rest) i

        e' : (x : ℕ) → among x (finished below) ≡ true → R.e x ≡ suc (lo + position x (finished below))
        e' x i = omega (arith, c.e_is x (within x i), position_left x (finished below) (p ∷ finished rest) i)

        m' : (x : ℕ) → among x (finished below) ≡ true → R.m x ≡ suc (lo + length (before x below))
        m' x i =
            let ne : eqb x p ≡ false = ne_eqb x p (λ e. clash i (apart x (here_at _ p (finished rest) e))) in
            let at : before x (visit p below rest) ≡ before x below = rw (ne, i, before) in
            omega (arith, c.m_is x (within x i), ap length at)

    counted_rest : Counted rest (suc till)
    counted_rest = record { low = λ x i. c.low x (within x i); e_is = e'; m_is = m' }
      where
        within : (x : ℕ) → among x (finished rest) ≡ true → among x (finished below ++ (p ∷ finished rest)) ≡ true
        within x i = in_right x (finished below) (p ∷ finished rest) (there x p (finished rest) i)

        ne : (x : ℕ) → among x (finished rest) ≡ true → eqb x p ≡ false
        ne x i = ne_eqb x p (λ e. clash (rw e at i) (distinct_right (finished below) (p ∷ finished rest) once).0)

        e' : (x : ℕ) → among x (finished rest) ≡ true → R.e x ≡ suc (suc till + position x (finished rest))
        e' x i =
            let at : position x (p ∷ finished rest) ≡ suc (position x (finished rest)) = rw (ne x i, position) in
            omega (arith, c.e_is x (within x i), position_past x (finished below) (p ∷ finished rest) (apart x (there x p (finished rest) i)))

        m' : (x : ℕ) → among x (finished rest) ≡ true → R.m x ≡ suc (suc till + length (before x rest))
        m' x i =
            let at : before x (visit p below rest) ≡ finished below ++ (p ∷ before x rest) = rw (ne x i, apart x (there x p (finished rest) i), before) in
            omega (arith, c.m_is x (within x i), ap length at, length-append (finished below) (p ∷ before x rest))

  -- a traversal fits the ranks that count its order of finishing
  pub visits_fits :
      {next : ℕ → List ℕ} {ok : ℕ → Bool} {todo seen : List ℕ} {f : Forest} (lo hi : ℕ)
      → ((p q : ℕ) → among q (next p) ≡ true → R.child p q ≡ true) → Visits next todo seen f
      → ((q : ℕ) → among q todo ≡ true → ok q ≡ true) → Distinct (finished f) → Counted f lo → lo + length (finished f) ≡ hi → Fits R ok f lo hi
  visits_fits lo hi steps over all once c h = let e : lo ≡ hi = omega arith in rw e none
  visits_fits lo hi steps (skip {p = p} {todo = todo} a v) all once c h = visits_fits lo hi steps v (λ q i. all q (there q p todo i)) once c h
  visits_fits {ok = ok} lo hi steps (enter {p = p} {todo = todo} {below = below} {rest = rest} a v w) all once c h =
      tree (all p (here p todo)) (c.low p (root_in p below rest lo once c)) (root_m p below rest lo once c) (root_rank p below rest lo once c)
      (visits_fits {ok = λ q. R.child p q} lo (lo + length (finished below)) steps v (steps p) (distinct_left (finished below) (p ∷ finished rest) once)
      (counted_below p below rest lo once c) refl)
      (visits_fits {ok = ok} (suc (lo + length (finished below))) hi steps w (λ q i. all q (there q p todo i))
      (distinct_right (finished below) (p ∷ finished rest) once).1
      (counted_rest p below rest lo once c) (omega (arith, length-append (finished below) (p ∷ finished rest))))

  -- ranks fall along children, where a number lv does
  module _ (next : ℕ → List ℕ) (lv : ℕ → ℕ) (down : (p q : ℕ) → p < R.k → among q (next p) ≡ true → lv q < lv p) where
    -- each group seen is finished, or its lv is at least b
    abbrev Above : List ℕ → ℕ → ℕ → Type 0
    Above seen lo b = (q : ℕ) → among q seen ≡ true → (R.e q ≤ lo) ⊎ (b ≤ lv q)

    pub visits_fall :
        {ok : ℕ → Bool} {todo seen : List ℕ} {f : Forest} {lo hi : ℕ} (b : ℕ) → Visits next todo seen f → Fits R ok f lo hi
        → ((q : ℕ) → among q todo ≡ true → lv q < b) → Above seen lo b
        → (x q : ℕ) → among x (finished f) ≡ true → among q (next x) ≡ true → R.e q < R.e x
    visits_fall b over s all ab x q i j = absurd (false≢true i)
    visits_fall b (skip {p = p} {todo = todo} a v) s all ab x q i j = visits_fall b v s (λ y o. all y (there y p todo o)) ab x q i j
    visits_fall {ok = ok} b (enter {p = p} {todo = todo} {seen = seen} {below = below} {rest = rest} a v w) (tree {lo = lo} {r = r} t h y z s u) all ab x q i j =
        elim (parts x p below rest i) [
          | inl o ↦ visits_fall {ok = λ q. R.child p q} (lv p) v s (λ y' o'. down p y' h o') ab_below x q o j
          | inr o ↦ elim o [
            | inl e ↦ rw e (at_root (rw e at j))
            | inr o' ↦ visits_fall {ok = ok} b w u (λ y' o''. all y' (there y' p todo o'')) ab_rest x q o' j
          ]
        ]
      where
        low : lv p < b
        low = all p (here p todo)

        ab_below : Above (p ∷ seen) lo (lv p)
        ab_below y' o =
            elim (in_cons y' p seen o) [
              | inl e ↦ inr (omega (arith, ap lv e))
              | inr o' ↦ elim (ab y' o') [ inl g ↦ inl g | inr g ↦ inr (omega (arith, low)) ]
            ]

        ab_rest : Above (after below (p ∷ seen)) (suc r) b
        ab_rest y' o =
            elim (seen_cases y' below (p ∷ seen) o) [
              | inl o' ↦ inl (omega (arith, member_rank s y' (rw (← entered_finished y' below) at o')))
              | inr o' ↦ elim (in_cons y' p seen o') [
                | inl e ↦ inl (omega (arith, ap R.e e))
                | inr o'' ↦ elim (ab y' o'') [ inl g ↦ inl (omega (arith, block_up s)) | inr g ↦ inr g ]
              ]
            ]

        at_root : among q (next p) ≡ true → R.e q < R.e p
        at_root k =
            elim (seen_cases q below (p ∷ seen) (listed v q k)) [
              | inl o' ↦ omega (arith, member_rank s q (rw (← entered_finished q below) at o'))
              | inr o' ↦ elim (ab_below q o') [ inl g ↦ omega (arith, block_up s) | inr g ↦ absurd (omega (arith, down p q h k)) ]
            ]
