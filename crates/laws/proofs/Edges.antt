-- Edges: their ends by position, where some edge passes a test, when a group is a child by an edge, and the edges of lists that are joined or mapped side
-- by side. Each is an induction along the two lists.
use mathlib.Core.Bool.{Bool, true, not, ◌&&◌, false≢true}
use mathlib.Core.Logic.{◌⊎◌, inl, inr}
use mathlib.Core.Path.{◌≡◌, refl, ap, subst}
use mathlib.Core.List.{List, [], ◌∷◌, ◌++◌, map}
use Prim.Native.Nat.{ℕ, zero, suc, ◌<◌}
use native.Mathlib.Nat.{not-suc-le-zero}
use native.Mathlib.Omega.{arith}
use lib.Dec.{eqb}
use lib.ListN.{length, length-append, get_or}
use borrow.Author.Tests.{eqb-true, eqb-false, ne_eqb, not-true, eq-eqb}
use Rattle.lineage.specs.Lists.{among, joined}
use Rattle.lineage.specs.Graph.{Graph, Edge, first, later, Ends, some_edge, is_child}
use Rattle.laws.specs.Laid.{Below}
use Rattle.laws.proofs.Tests.{or_left, or_right, or_cases, and_both, and_left, and_right}
use Rattle.laws.proofs.Lists.{here, there}

-- an edge turned
pub edge_turned : {S T : List ℕ} {u v : ℕ} → Edge S T u v → Edge T S v u
edge_turned first = first
edge_turned (later e) = later (edge_turned e)

-- the ends at one position are those of an edge, and an edge's ends stand at one position
pub edge_at : (S T : List ℕ) (i : ℕ) → length S ≡ length T → i < length S → Edge S T (get_or S i 0) (get_or T i 0)
edge_at [] T i e h = absurd (not-suc-le-zero h)
edge_at (s ∷ S) [] i e h = absurd (omega arith)
edge_at (s ∷ S) (t ∷ T) zero e h = first
edge_at (s ∷ S) (t ∷ T) (suc i) e h = later (edge_at S T i (omega arith) (omega arith))

pub edge_position : {S T : List ℕ} {u v : ℕ} → Edge S T u v → (i : ℕ) × (i < length S) × (get_or S i 0 ≡ u) × (get_or T i 0 ≡ v)
edge_position first = (0, omega arith, refl, refl)
edge_position (later e) = let (i, h, s, t) = edge_position e in (suc i, omega arith, s, t)

-- every source is a vertex, and so is every target
module _ (G : Graph) (ends : Ends G) where
  pub sources_below : Below G.n G.sources
  sources_below i h = ends.sources_low _ _ (edge_at G.sources G.targets i ends.paired h)

  pub targets_below : Below G.n G.targets
  targets_below i h = ends.targets_low _ _ (edge_at G.sources G.targets i ends.paired (omega (arith, ends.paired)))

-- some edge passes a test
pub some_edge_lem : (p : ℕ → ℕ → Bool) (S T : List ℕ) → some_edge p S T ≡ true → (s : ℕ) × (t : ℕ) × Edge S T s t × (p s t ≡ true)
some_edge_lem p [] T h = absurd (false≢true h)
some_edge_lem p (x ∷ S) [] h = absurd (false≢true h)
some_edge_lem p (x ∷ S) (y ∷ T) h =
    elim (or_cases (p x y) _ h) [
      | inl i ↦ (x, y, first, i)
      | inr i ↦ let (s, t, e, j) = some_edge_lem p S T i in (s, t, later e, j)
    ]

pub edge_some : (p : ℕ → ℕ → Bool) {S T : List ℕ} {s t : ℕ} → Edge S T s t → p s t ≡ true → some_edge p S T ≡ true
edge_some p first h = or_left _ h
edge_some p (later {x = x} {y = y} e) h = or_right (p x y) (edge_some p e h)

-- a group is a child of another where they differ and an edge leads from the one into the other
module _ (G : Graph) (names : List ℕ) where
  pub child_to :
      (a b : ℕ) → is_child G names a b ≡ true
      → (a ≡ b → ⊥) × (s : ℕ) × (t : ℕ) × Edge G.sources G.targets s t × (get_or names s 0 ≡ a) × (get_or names t 0 ≡ b)
  unfolding is_child
  child_to a b c =
      let (s, t, e, h) = some_edge_lem (λ s t. eqb (get_or names s 0) a && eqb (get_or names t 0) b) G.sources G.targets (and_right (not (eqb a b)) _ c) in (
        eqb-false a b (not-true (eqb a b) (and_left (not (eqb a b)) _ c)),
        s,
        t,
        e,
        eqb-true (get_or names s 0) a (and_left (eqb (get_or names s 0) a) _ h),
        eqb-true (get_or names t 0) b (and_right (eqb (get_or names s 0) a) _ h),
      )

  pub child_from :
      {s t : ℕ} (a b : ℕ) → (a ≡ b → ⊥) → Edge G.sources G.targets s t → get_or names s 0 ≡ a → get_or names t 0 ≡ b → is_child G names a b ≡ true
  unfolding is_child
  child_from {s} {t} a b apart e es et =
      and_both (ap not (ne_eqb a b apart))
      (edge_some (λ s t. eqb (get_or names s 0) a && eqb (get_or names t 0) b) e (and_both (eq-eqb (get_or names s 0) a es) (eq-eqb (get_or names t 0) b et)))

-- edges of joined lists
pub edge_left : (S S' T T' : List ℕ) {u v : ℕ} → Edge S T u v → Edge (S ++ S') (T ++ T') u v
edge_left S S' T T' first = first
edge_left S S' T T' (later {S = A} {T = B} e) = later (edge_left A S' B T' e)

pub edge_right : (S S' T T' : List ℕ) {u v : ℕ} → length S ≡ length T → Edge S' T' u v → Edge (S ++ S') (T ++ T') u v
edge_right [] S' [] T' l e = e
edge_right [] S' (y ∷ T) T' l e = absurd (omega arith)
edge_right (x ∷ S) S' [] T' l e = absurd (omega arith)
edge_right (x ∷ S) S' (y ∷ T) T' l e = later (edge_right S S' T T' (omega arith) e)

pub edge_split : (S S' T T' : List ℕ) {u v : ℕ} → length S ≡ length T → Edge (S ++ S') (T ++ T') u v → Edge S T u v ⊎ Edge S' T' u v
edge_split [] S' [] T' l e = inr e
edge_split [] S' (y ∷ T) T' l e = absurd (omega arith)
edge_split (x ∷ S) S' [] T' l e = absurd (omega arith)
edge_split (x ∷ S) S' (y ∷ T) T' l first = inl first
edge_split (x ∷ S) S' (y ∷ T) T' l (later e) = elim (edge_split S S' T T' (omega arith) e) [ inl i ↦ inl (later i) | inr i ↦ inr i ]

-- edges of mapped lists
pub edge_map : (f g : ℕ → ℕ) (x : ℕ) (xs : List ℕ) → among x xs ≡ true → Edge (map f xs) (map g xs) (f x) (g x)
edge_map f g x [] i = absurd (false≢true i)
edge_map f g x (y ∷ xs) i =
    elim (or_cases (eqb x y) _ i) [ inl e ↦ rw (eqb-true x y e) first | inr j ↦ later (edge_map f g x xs j) ]

pub map_edge :
    (P : ℕ → ℕ → Type 0) (f g : ℕ → ℕ) (xs : List ℕ) → ((x : ℕ) → among x xs ≡ true → P (f x) (g x)) → {u v : ℕ}
    → Edge (map f xs) (map g xs) u v → P u v
map_edge P f g [] all e = elim e [ ]
map_edge P f g (x ∷ xs) all first = all x (here x xs)
map_edge P f g (x ∷ xs) all (later e) = map_edge P f g xs (λ y i. all y (there y x xs i)) e

-- edges of many lists joined
module _ (f g : ℕ → List ℕ) (paired : (x : ℕ) → length (f x) ≡ length (g x)) where
  pub joined_paired : (xs : List ℕ) → length (joined (map f xs)) ≡ length (joined (map g xs))
  joined_paired [] = refl
  joined_paired (x ∷ xs) =
      omega (arith, length-append (f x) (joined (map f xs)), length-append (g x) (joined (map g xs)), paired x, joined_paired xs)

  pub edge_joined : (x : ℕ) (xs : List ℕ) {u v : ℕ} → among x xs ≡ true → Edge (f x) (g x) u v → Edge (joined (map f xs)) (joined (map g xs)) u v
  edge_joined x [] i e = absurd (false≢true i)
  edge_joined x (y ∷ xs) {u} {v} i e =
      elim (or_cases (eqb x y) _ i) [
        | inl j ↦ edge_left (f y) (joined (map f xs)) (g y) (joined (map g xs)) (subst (λ z. Edge (f z) (g z) u v) (eqb-true x y j) e)
        | inr j ↦ edge_right (f y) (joined (map f xs)) (g y) (joined (map g xs)) (paired y) (edge_joined x xs j e)
      ]

  pub joined_edge :
      (P : ℕ → ℕ → Type 0) (xs : List ℕ) → ((x : ℕ) → among x xs ≡ true → (u v : ℕ) → Edge (f x) (g x) u v → P u v)
      → (u v : ℕ) → Edge (joined (map f xs)) (joined (map g xs)) u v → P u v
  joined_edge P [] all u v e = elim e [ ]
  joined_edge P (x ∷ xs) all u v e =
      elim (edge_split (f x) (joined (map f xs)) (g x) (joined (map g xs)) (paired x) e) [
        | inl i ↦ all x (here x xs) u v i
        | inr i ↦ joined_edge P xs (λ y j. all y (there y x xs j)) u v i
      ]
