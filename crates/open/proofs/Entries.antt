-- There are at most as many child entries as edges: one more edge makes at most one more pair of parent and child.
use mathlib.Core.Bool.{Bool, true, false, not, ◌&&◌, ◌||◌}
use mathlib.Core.Path.{◌≡◌, refl, sym, ap, ◌∙◌}
use mathlib.Core.List.{List, [], ◌∷◌, map}
use Prim.Native.Nat.{ℕ, zero, suc, ◌+◌, ◌≤◌, ◌<◌}
use native.Mathlib.Omega.{arith}
use native.Mathlib.Decide.{ℕ_discrete}
use lib.Dec.{eqb}
use lib.ListN.{length, get_or, length-append}
use borrow.Author.Tests.{eqb-true, ne_eqb}
use Rattle.lineage.specs.Lists.{upto, among, those, position, joined}
use Rattle.lineage.specs.Graph.{Graph, some_edge, group_list, is_child, children_of}
use Rattle.laws.proofs.Tests.{and_right, clash, is_false}
use Rattle.laws.proofs.Lists.{here, there, those_append, those_yes, those_no, those_none, upto_low}
use Rattle.laws.specs.Rising.{Distinct}
use Rattle.laws.proofs.Rising.{position_get_d, rises_distinct, rises_those, rises_upto, those_le}

-- how many pass one test or another
those_or : (p q : ℕ → Bool) (xs : List ℕ) → length (those (λ x. p x || q x) xs) ≤ length (those p xs) + length (those q xs)
those_or p q [] = omega arith
those_or p q (x ∷ xs) = at (p x) (q x) refl refl (those_or p q xs)
  where
    both : ℕ → Bool
    both y = p y || q y

    at : (s t : Bool) → p x ≡ s → q x ≡ t → length (those both xs) ≤ length (those p xs) + length (those q xs)
        → length (those both (x ∷ xs)) ≤ length (those p (x ∷ xs)) + length (those q (x ∷ xs))
    at true true a b ih = rw (those_yes p x xs a, those_yes q x xs b, those_yes both x xs (rw a)) (omega arith)
    at true false a b ih = rw (those_yes p x xs a, those_no q x xs b, those_yes both x xs (rw a)) (omega arith)
    at false true a b ih = rw (those_no p x xs a, those_yes q x xs b, those_yes both x xs (rw (a, b))) (omega arith)
    at false false a b ih = rw (those_no p x xs a, those_no q x xs b, those_no both x xs (rw (a, b))) (omega arith)

-- at most one passes, where any two that pass are one
those_one : (p : ℕ → Bool) (n : ℕ) → ((x y : ℕ) → x < n → y < n → p x ≡ true → p y ≡ true → x ≡ y) → length (those p (upto n)) ≤ 1
those_one p zero one = omega arith
those_one p (suc n) one =
    rw (those_append p (upto n) (n ∷ []))
    (omega (arith, length-append (those p (upto n)) (those p (n ∷ [])), at (p n) refl (those_one p n (λ x y i j. one x y (omega arith) (omega arith)))))
  where
    at : (t : Bool) → p n ≡ t → length (those p (upto n)) ≤ 1 → length (those p (upto n)) + length (those p (n ∷ [])) ≤ 1
    at true e ih =
        let none : those p (upto n) ≡ [] = those_none p (upto n) (λ x i. is_false (p x) (λ t. omega (arith, one x n (omega (arith, upto_low n x i)) (omega arith) t e, upto_low n x i))) in
        rw (none, those_yes p n [] e) (omega arith)
    at false e ih = rw (those_no p n [] e) (omega arith)

-- rows joined: their sizes add up
abbrev size : (ℕ → List ℕ) → List ℕ → ℕ
size r xs = length (joined (map r xs))

size_more : (r : ℕ → List ℕ) (x : ℕ) (xs : List ℕ) → size r (x ∷ xs) ≡ length (r x) + size r xs
size_more r x xs = length-append (r x) (joined (map r xs))

size_le : (r a : ℕ → List ℕ) (xs : List ℕ) → ((x : ℕ) → length (r x) ≤ length (a x)) → size r xs ≤ size a xs
size_le r a [] all = omega arith
size_le r a (x ∷ xs) all = omega (arith, size_more r x xs, size_more a x xs, all x, size_le r a xs all)

size_sum : (r a b : ℕ → List ℕ) (xs : List ℕ) → ((x : ℕ) → length (r x) ≤ length (a x) + length (b x)) → size r xs ≤ size a xs + size b xs
size_sum r a b [] all = omega arith
size_sum r a b (x ∷ xs) all = omega (arith, size_more r x xs, size_more a x xs, size_more b x xs, all x, size_sum r a b xs all)

size_none : (r : ℕ → List ℕ) (xs : List ℕ) → ((x : ℕ) → among x xs ≡ true → r x ≡ []) → size r xs ≡ 0
size_none r [] none = refl
size_none r (x ∷ xs) none =
    omega (arith, size_more r x xs, ap length (none x (here x xs)), size_none r xs (λ y i. none y (there y x xs i)))

-- all but one of distinct rows are empty
size_one : (r : ℕ → List ℕ) (a : ℕ) (xs : List ℕ) → Distinct xs → length (r a) ≤ 1 → ((x : ℕ) → (x ≡ a → ⊥) → r x ≡ []) → size r xs ≤ 1
size_one r a [] d one none = omega arith
size_one r a (x ∷ xs) d one none = at (ℕ_discrete x a) (size_one r a xs d.1 one none)
  where
    at : Dec (x ≡ a) → size r xs ≤ 1 → size r (x ∷ xs) ≤ 1
    at (yes e) ih =
        let rest : size r xs ≡ 0 = size_none r xs (λ y i. none y (λ f. clash (rw (e ∙ sym f) i) d.0)) in
        omega (arith, size_more r x xs, ap (λ (y : ℕ). length (r y)) e)
    at (no f) ih = omega (arith, size_more r x xs, ap length (none x f))

-- the pairs that some edges make, over the names g of places
module _ (names groups : List ℕ) (once : Distinct groups) where
  abbrev k : ℕ
  k = length groups

  abbrev name : ℕ → ℕ
  name v = get_or names v 0

  -- an edge leads from group a into the group at place q
  abbrev into : List ℕ → List ℕ → ℕ → ℕ → Bool
  into S T a q = some_edge (λ s t. eqb (name s) a && eqb (name t) (get_or groups q 0)) S T

  abbrev row : List ℕ → List ℕ → ℕ → List ℕ
  row S T a = those (into S T a) (upto k)

  -- one edge
  abbrev by : ℕ → ℕ → ℕ → ℕ → Bool
  by s t a q = eqb (name s) a && eqb (name t) (get_or groups q 0)

  by_one : (s t : ℕ) → size (λ a. those (by s t a) (upto k)) groups ≤ 1
  by_one s t =
      size_one (λ a. those (by s t a) (upto k)) (name s) groups once
      (those_one (by s t (name s)) k (λ x y i j p q.
      let gx : name t ≡ get_or groups x 0 = eqb-true (name t) (get_or groups x 0) (and_right (eqb (name s) (name s)) _ p) in
      let gy : name t ≡ get_or groups y 0 = eqb-true (name t) (get_or groups y 0) (and_right (eqb (name s) (name s)) _ q) in
      sym (position_get_d groups once x i) ∙ ap (λ (g : ℕ). position g groups) (sym gx ∙ gy) ∙ position_get_d groups once y j))
      (λ a f. those_none (by s t a) (upto k) (λ q i. rw (ne_eqb (name s) a (λ e. f (sym e)))))

  pub pairs_few : (S T : List ℕ) → size (row S T) groups ≤ length S
  pairs_few [] T = omega (arith, size_none (row [] T) groups (λ a i. those_none (into [] T a) (upto k) (λ q j. refl)))
  pairs_few (s ∷ S) [] = omega (arith, size_none (row (s ∷ S) []) groups (λ a i. those_none (into (s ∷ S) [] a) (upto k) (λ q j. refl)))
  pairs_few (s ∷ S) (t ∷ T) =
      omega (arith, size_sum (row (s ∷ S) (t ∷ T)) (λ a. those (by s t a) (upto k)) (row S T) groups (λ a. those_or (by s t a) (into S T a) (upto k)), by_one s t, pairs_few S T)

-- so with the children of a graph
pub entries_few : (G : Graph) (names : List ℕ) → length (joined (children_of G names (group_list names))) ≤ length G.sources
unfolding children_of is_child group_list
entries_few G names =
    let groups : List ℕ = group_list names in
    let own : ℕ → Bool = λ v. eqb (get_or names v 0) v in
    let once : Distinct groups = rises_distinct groups (rises_those own (upto (length names)) (rises_upto (length names))) in
    omega (
      arith,
      size_le (λ a. those (λ q. is_child G names a (get_or groups q 0)) (upto (length groups))) (row names groups once G.sources G.targets) groups
          (λ a. those_le (λ q. is_child G names a (get_or groups q 0)) (into names groups once G.sources G.targets a) (upto (length groups))
          (λ q t. and_right (not (eqb a (get_or groups q 0))) _ t)),
      pairs_few names groups once G.sources G.targets,
    )
