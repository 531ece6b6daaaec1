-- What a traversal visits: all that is listed and all that a visited group leads to, unless it was seen before; nothing that was seen, and
-- nothing twice; and only what is downstream of the list. Each is an induction along the traversal.
use mathlib.Core.Bool.{Bool, true, false, false≢true}
use mathlib.Core.Logic.{◌⊎◌, inl, inr}
use mathlib.Core.Path.{◌≡◌, refl}
use mathlib.Core.List.{List, [], ◌∷◌, ◌++◌}
use Prim.Native.Nat.{ℕ}
use lib.Dec.{eqb}
use borrow.Author.Tests.{eqb-true}
use Rattle.lineage.specs.Lists.{among}
use Rattle.lineage.specs.Labels.{Forest, done, visit, after, finished, subtree}
use Rattle.laws.specs.Leads.{Leads, stay, step}
use Rattle.laws.specs.Visits.{Visits, over, skip, enter}
use Rattle.laws.proofs.Tests.{or_cases, clash, is_false, or_false_left, or_false_right}
use Rattle.laws.proofs.Lists.{here, here_at, there, in_cons, in_one, in_left, in_right, in_append}
use Rattle.laws.specs.Rising.{Distinct}
use Rattle.laws.proofs.Rising.{distinct_append}
use Rattle.laws.proofs.Traversal.{kept}

-- a group of a forest stands below the first root, is that root, or stands in a later tree
pub parts :
    (q p : ℕ) (below rest : Forest) → among q (finished below ++ (p ∷ finished rest)) ≡ true
    → (among q (finished below) ≡ true) ⊎ ((q ≡ p) ⊎ (among q (finished rest) ≡ true))
parts q p below rest h =
    elim (in_append q (finished below) (p ∷ finished rest) h) [ inl i ↦ inl i | inr i ↦ inr (in_cons q p (finished rest) i) ]

-- what is seen in the end was visited, or was seen before
pub seen_cases : (q : ℕ) (f : Forest) (seen : List ℕ) → among q (after f seen) ≡ true → (among q (finished f) ≡ true) ⊎ (among q seen ≡ true)
seen_cases q done seen h = inr h
seen_cases q (visit p below rest) seen h =
    elim (seen_cases q rest (after below (p ∷ seen)) h) [
      | inl i ↦ inl (in_right q (finished below) (p ∷ finished rest) (there q p (finished rest) i))
      | inr i ↦ elim (seen_cases q below (p ∷ seen) i) [
        | inl j ↦ inl (in_left q (finished below) (p ∷ finished rest) j)
        | inr j ↦ elim (in_cons q p seen j) [
          | inl e ↦ inl (in_right q (finished below) (p ∷ finished rest) (here_at _ p (finished rest) e))
          | inr k ↦ inr k
        ]
      ]
    ]

-- what was visited is seen in the end
pub visited_seen : (f : Forest) (seen : List ℕ) (q : ℕ) → among q (finished f) ≡ true → among q (after f seen) ≡ true
visited_seen done seen q h = absurd (false≢true h)
visited_seen (visit p below rest) seen q h =
    elim (parts q p below rest h) [
      | inl i ↦ kept rest _ q (visited_seen below (p ∷ seen) q i)
      | inr i ↦ elim i [
        | inl e ↦ kept rest _ q (kept below _ q (here_at _ p seen e))
        | inr j ↦ visited_seen rest (after below (p ∷ seen)) q j
      ]
    ]

-- with nothing seen before, what is seen in the end was visited
pub held : (f : Forest) (q : ℕ) → among q (after f []) ≡ true → among q (finished f) ≡ true
held f q h = elim (seen_cases q f [] h) [ inl i ↦ i | inr i ↦ absurd (false≢true i) ]

module _ {next : ℕ → List ℕ} where
  -- all that is listed is seen in the end
  pub listed : {todo seen : List ℕ} {f : Forest} → Visits next todo seen f → (q : ℕ) → among q todo ≡ true → among q (after f seen) ≡ true
  listed over q h = absurd (false≢true h)
  listed (skip {p = p} {todo = todo} {f = f} a r) q h =
      elim (in_cons q p todo h) [ inl e ↦ kept f _ q (rw e a) | inr i ↦ listed r q i ]
  listed (enter {p = p} {todo = todo} {seen = seen} {below = below} {rest = rest} a r s) q h =
      elim (in_cons q p todo h) [ inl e ↦ kept rest _ q (kept below _ q (here_at _ p seen e)) | inr i ↦ listed s q i ]

  -- all that a visited group has as next is seen in the end
  pub followed :
      {todo seen : List ℕ} {f : Forest} → Visits next todo seen f → (p q : ℕ) → among p (finished f) ≡ true → among q (next p) ≡ true
      → among q (after f seen) ≡ true
  followed over p q i j = absurd (false≢true i)
  followed (skip a r) p q i j = followed r p q i j
  followed (enter {p = x} {below = below} {rest = rest} a r s) p q i j =
      elim (parts p x below rest i) [
        | inl k ↦ kept rest _ q (followed r p q k j)
        | inr k ↦ elim k [ inl e ↦ kept rest _ q (listed r q (rw e at j)) | inr m ↦ followed s p q m j ]
      ]

  -- nothing that was seen is visited
  pub fresh : {todo seen : List ℕ} {f : Forest} → Visits next todo seen f → (q : ℕ) → among q (finished f) ≡ true → among q seen ≡ false
  fresh over q h = absurd (false≢true h)
  fresh (skip a r) q h = fresh r q h
  fresh (enter {p = p} {seen = seen} {below = below} {rest = rest} a r s) q h =
      elim (parts q p below rest h) [
        | inl i ↦ or_false_right (eqb q p) _ (fresh r q i)
        | inr i ↦ elim i [
          | inl e ↦ rw e a
          | inr j ↦ is_false (among q seen) (λ k. clash (kept below (p ∷ seen) q (there q p seen k)) (fresh s q j))
        ]
      ]

  -- nothing is visited twice
  pub distinct : {todo seen : List ℕ} {f : Forest} → Visits next todo seen f → Distinct (finished f)
  distinct over = tt
  distinct (skip a r) = distinct r
  distinct (enter {p = p} {seen = seen} {below = below} {rest = rest} a r s) =
      distinct_append (finished below) (p ∷ finished rest) (distinct r)
      (is_false _ (λ i. clash (kept below (p ∷ seen) p (here p seen)) (fresh s p i)), distinct s)
      (λ x h. is_false (among x (p ∷ finished rest)) (λ i. elim (or_cases (eqb x p) _ i) [
        | inl e ↦ clash e (or_false_left (eqb x p) _ (fresh r x h))
        | inr j ↦ clash (visited_seen below (p ∷ seen) x h) (fresh s x j)
      ]))

  -- what is visited is downstream of the list
  pub from_todo :
      {todo seen : List ℕ} {f : Forest} → Visits next todo seen f → (t : ℕ) → among t (finished f) ≡ true
      → (q : ℕ) × (among q todo ≡ true) × Leads next q t
  from_todo over t h = absurd (false≢true h)
  from_todo (skip {p = p} {todo = todo} a r) t h = let (q, i, l) = from_todo r t h in (q, there q p todo i, l)
  from_todo (enter {p = p} {todo = todo} {below = below} {rest = rest} a r s) t h =
      elim (parts t p below rest h) [
        | inl i ↦ let (q, j, l) = from_todo r t i in (p, here p todo, step j l)
        | inr i ↦ elim i [
          | inl e ↦ (p, here p todo, rw e stay)
          | inr k ↦ let (q, j, l) = from_todo s t k in (q, there q p todo j, l)
        ]
      ]

  -- x's subtree is downstream of x
  pub subtree_leads : {todo seen : List ℕ} {f : Forest} → Visits next todo seen f → (x t : ℕ) → among t (subtree x f) ≡ true → Leads next x t
  subtree_leads over x t h = absurd (false≢true h)
  subtree_leads (skip a r) x t h = subtree_leads r x t h
  subtree_leads (enter {p = p} {below = below} {rest = rest} a r s) x t h =
      at (eqb x p) refl (among x (finished below)) refl (subtree_leads r x t) (subtree_leads s x t)
    where
      at :
          (b : Bool) → eqb x p ≡ b → (c : Bool) → among x (finished below) ≡ c
          → (among t (subtree x below) ≡ true → Leads next x t)
          → (among t (subtree x rest) ≡ true → Leads next x t)
          → Leads next x t
      at true e c i l m =
          elim (in_append t (finished below) (p ∷ []) (rw (e, subtree) at h)) [
            | inl j ↦ let (q, k, o) = from_todo r t j in rw (eqb-true x p e) (step k o)
            | inr j ↦ rw (eqb-true x p e, in_one t p j) stay
          ]
      at false e true i l m = l (rw (e, i, subtree) at h)
      at false e false i l m = m (rw (e, i, subtree) at h)
