-- Each subtree is one run of the order of finishing: what was finished before x was entered, then x's subtree with x last, then all that is
-- finished once x is. So the least rank in the subtree, m, is one more than what was finished before, and the ranks from m to e are the subtree's.
use mathlib.Core.Bool.{Bool, true, false, false≢true}
use mathlib.Core.Logic.{◌⊎◌, inl, inr, ◌↔◌}
use mathlib.Core.Path.{◌≡◌, refl, sym, ap, ap₂, subst, ◌∙◌}
use mathlib.Core.List.{List, [], ◌∷◌, ◌++◌, map, append_assoc}
use Prim.Native.Nat.{ℕ, suc, ◌+◌, ◌<◌, ◌≤◌}
use native.Mathlib.Omega.{arith}
use lib.Dec.{eqb}
use lib.ListN.{length}
use borrow.Author.Tests.{eqb-true, eq-eqb}
use Rattle.lineage.specs.Lists.{among, position, least}
use Rattle.lineage.specs.Labels.{Forest, done, visit, finished, subtree}
use Rattle.laws.proofs.Lists.{among_append, here, in_one, in_left, in_right, in_append, map_same}
use Rattle.laws.proofs.Positions.{position_past, position_in, least_at, least_above}
use Rattle.laws.specs.Rising.{Distinct}
use Rattle.laws.specs.Visits.{before}
use Rattle.laws.proofs.Rising.{distinct_right, distinct_apart}

-- what is finished once x is
abbrev pub behind : ℕ → Forest → List ℕ
behind x done = []
behind x (visit p below next) =
    elim (eqb x p) [
      | true ↦ finished next
      | false ↦ elim (among x (finished below)) [ true ↦ behind x below ++ (p ∷ finished next) | false ↦ behind x next ]
    ]

-- one run of the order of finishing
pub run : (x : ℕ) (f : Forest) → among x (finished f) ≡ true → finished f ≡ before x f ++ (subtree x f ++ behind x f)
run x done h = absurd (false≢true h)
run x (visit p below next) h = at (eqb x p) refl (among x (finished below)) refl (run x below) (run x next)
  where
    at :
        (b : Bool) → eqb x p ≡ b → (c : Bool) → among x (finished below) ≡ c
        → (among x (finished below) ≡ true → finished below ≡ before x below ++ (subtree x below ++ behind x below))
        → (among x (finished next) ≡ true → finished next ≡ before x next ++ (subtree x next ++ behind x next))
        → finished below ++ (p ∷ finished next) ≡ before x (visit p below next) ++ (subtree x (visit p below next) ++ behind x (visit p below next))
    at true e c i l r = rw (e, before, subtree, behind) (sym (append_assoc (finished below) (p ∷ []) (finished next)))
    at false e true i l r = rw (e, i, before, subtree, behind) (ap (λ z. z ++ (p ∷ finished next)) (l i) ∙ simp append_assoc)
    at false e false i l r =
        rw (e, i, before, subtree, behind)
        (ap (λ z. finished below ++ (p ∷ z)) (r (rw (among_append, i, e) at h)) ∙ simp append_assoc)

-- x is the last of its subtree: what of it is finished before x, then x
abbrev within : ℕ → Forest → List ℕ
within x done = []
within x (visit p below next) =
    elim (eqb x p) [ true ↦ finished below | false ↦ elim (among x (finished below)) [ true ↦ within x below | false ↦ within x next ] ]

subtree_last : (x : ℕ) (f : Forest) → among x (finished f) ≡ true → subtree x f ≡ within x f ++ (x ∷ [])
subtree_last x done h = absurd (false≢true h)
subtree_last x (visit p below next) h = at (eqb x p) refl (among x (finished below)) refl (subtree_last x below) (subtree_last x next)
  where
    at :
        (b : Bool) → eqb x p ≡ b → (c : Bool) → among x (finished below) ≡ c
        → (among x (finished below) ≡ true → subtree x below ≡ within x below ++ (x ∷ []))
        → (among x (finished next) ≡ true → subtree x next ≡ within x next ++ (x ∷ []))
        → subtree x (visit p below next) ≡ within x (visit p below next) ++ (x ∷ [])
    at true e c i l r = rw (e, subtree, within) (ap (λ z. finished below ++ (z ∷ [])) (sym (eqb-true x p e)))
    at false e true i l r = rw (e, i, subtree, within) (l i)
    at false e false i l r = rw (e, i, subtree, within) (r (rw (among_append, i, e) at h))

-- so x is in its subtree, and its subtree is among what is finished
pub subtree_self : (x : ℕ) (f : Forest) → among x (finished f) ≡ true → among x (subtree x f) ≡ true
subtree_self x f i = rw (subtree_last x f i) (in_right x (within x f) (x ∷ []) (here x []))

pub subtree_finished : (x t : ℕ) (f : Forest) → among x (finished f) ≡ true → among t (subtree x f) ≡ true → among t (finished f) ≡ true
subtree_finished x t f i j = rw (run x f i) (in_right t (before x f) (subtree x f ++ behind x f) (in_left t (subtree x f) (behind x f) j))

-- one more than the position in the order of finishing
abbrev pub rank : Forest → ℕ → ℕ
rank f q = suc (position q (finished f))

-- a list that is not empty begins with one of its numbers
head_of : (seg post : List ℕ) (x : ℕ) → among x seg ≡ true → (h : ℕ) × (among h seg ≡ true) × (position h (seg ++ post) ≡ 0)
head_of [] post x j = absurd (false≢true j)
head_of (h ∷ seg) post x j = (h, here h seg, rw (eq-eqb h h refl, position))

-- of a run of a list without repeats: where its numbers stand, the least of their ranks, and which numbers have such a rank
module _ (pre seg post : List ℕ) (once : Distinct (pre ++ (seg ++ post))) where
  abbrev whole : List ℕ
  whole = pre ++ (seg ++ post)

  in_run : (q : ℕ) → among q seg ≡ true → position q whole ≡ length pre + position q (seg ++ post)
  in_run q j = position_past q pre (seg ++ post) (distinct_apart pre (seg ++ post) once q (in_left q seg post j))

  least_of_run : (x : ℕ) → among x seg ≡ true → least (suc (position x whole)) (map (λ q. suc (position q whole)) seg) ≡ suc (length pre)
  least_of_run x j =
      let (h, k, z) = head_of seg post x j in
      let f : ℕ → ℕ = λ q. suc (position q whole) in
      omega (
        arith,
        in_run h k,
        least_at f (f x) h seg k,
        least_above f (f x) (suc (length pre)) seg (omega (arith, in_run x j)) (λ q i. omega (arith, in_run q i)),
      )

  only_run :
      (x t : ℕ) → among x seg ≡ true → among t whole ≡ true → length pre ≤ position t whole → position t whole ≤ position x whole
      → among t seg ≡ true
  only_run x t j i low high =
      elim (in_append t pre (seg ++ post) i) [
        | inl k ↦ absurd (omega (arith, position_in t pre (seg ++ post) k))
        | inr k ↦ at (among t seg) refl (position_past t pre (seg ++ post) (distinct_apart pre (seg ++ post) once t k))
      ]
    where
      at : (b : Bool) → among t seg ≡ b → position t whole ≡ length pre + position t (seg ++ post) → among t seg ≡ true
      at true e p = e
      at false e p = absurd (omega (arith, in_run x j, position_in x seg post j, position_past t seg post e))

  -- the last of the run stands behind all of it
  last_of_run :
      (x : ℕ) (ys : List ℕ) → seg ≡ ys ++ (x ∷ []) → (t : ℕ) → among t seg ≡ true
      → (length pre ≤ position t whole) × (position t whole ≤ position x whole)
  last_of_run x ys e t j =
      let split : seg ++ post ≡ ys ++ (x ∷ post) = ap (◌++ post) e ∙ append_assoc ys (x ∷ []) post in
      let own : among x seg ≡ true = rw e (in_right x ys (x ∷ []) (here x [])) in
      let once-x : Distinct (ys ++ (x ∷ post)) = rw split at (distinct_right pre (seg ++ post) once) in
      let apart : among x ys ≡ false = distinct_apart ys (x ∷ post) once-x x (here x post) in
      let at_x : position x (seg ++ post) ≡ length ys = rw split (position_past x ys (x ∷ post) apart ∙ zero_more x) in
      let at-t : position t (seg ++ post) ≤ length ys = rw split (before_last (in_append t ys (x ∷ []) (rw e at j))) in
      omega (arith, in_run t j, in_run x own)
    where
      zero_more : (y : ℕ) → length ys + position y (y ∷ post) ≡ length ys
      zero_more y = rw (eq-eqb y y refl, position) (omega arith)

      before_last : (among t ys ≡ true) ⊎ (among t (x ∷ []) ≡ true) → position t (ys ++ (x ∷ post)) ≤ length ys
      before_last (inl i) = omega (arith, position_in t ys (x ∷ post) i)
      before_last (inr i) = rw (in_one t x i) (at (among x ys) refl)
        where
          at : (b : Bool) → among x ys ≡ b → position x (ys ++ (x ∷ post)) ≤ length ys
          at true k = omega (arith, position_in x ys (x ∷ post) k)
          at false k = omega (arith, position_past x ys (x ∷ post) k, zero_more x)

-- the same of a traversal
module _ (f : Forest) (once : Distinct (finished f)) (x : ℕ) (i : among x (finished f) ≡ true) where
  -- m is one more than what was finished before
  m_law : least (rank f x) (map (rank f) (subtree x f)) ≡ suc (length (before x f))
  m_law =
      subst (λ (l : List ℕ). least (suc (position x l)) (map (λ q. suc (position q l)) (subtree x f)) ≡ suc (length (before x f))) (sym (run x f i))
      (least_of_run (before x f) (subtree x f) (behind x f) (rw (run x f i) at once) x (subtree_self x f i))

  -- the same for a labelling's e
  pub m_made : (e : ℕ → ℕ) → ((q : ℕ) → among q (finished f) ≡ true → e q ≡ rank f q) → least (e x) (map e (subtree x f)) ≡ suc (length (before x f))
  m_made e is = ap₂ least (is x i) (map_same e (rank f) (subtree x f) (λ q j. is q (subtree_finished x q f i j))) ∙ m_law

  -- the ranks from m to e are those of the subtree
  pub inner_law : (t : ℕ) → among t (finished f) ≡ true → ((length (before x f) < rank f t) × (rank f t ≤ rank f x)) ↔ (among t (subtree x f) ≡ true)
  inner_law t j =
      let once-run : Distinct (before x f ++ (subtree x f ++ behind x f)) = rw (run x f i) at once in
      subst (λ (l : List ℕ). ((length (before x f) < suc (position t l)) × (suc (position t l) ≤ suc (position x l))) ↔ (among t (subtree x f) ≡ true)) (sym (run x f i)) (
        (λ h. only_run (before x f) (subtree x f) (behind x f) once-run x t (subtree_self x f i) (rw (run x f i) at j) (omega arith) (omega arith)),
        λ k. omega (arith, last_of_run (before x f) (subtree x f) (behind x f) once-run x (within x f) (subtree_last x f i) t k),
      )
