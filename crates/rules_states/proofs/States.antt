-- States turned one after the other, by a function of vertex and state: with those of the first i vertices turned, turning the one at i turns those of the first i + 1;
-- and where either list is at its end, all are turned. Each goes by induction on both lists and i together. And one state, by the tests that told it.
use mathlib.Core.Path.{◌≡◌, refl, ap, ap₂, ◌∙◌}
use mathlib.Core.List.{List, [], ◌∷◌}
use Prim.Native.Nat.{ℕ, zero, suc, ◌+◌, min, ◌≤◌, ◌<◌}
use native.Mathlib.Nat.{not-suc-le-zero}
use native.Mathlib.Numerals.{add-one}
use native.Mathlib.Omega.{arith}
use lib.ListN.{length, get_or, set, take}
use borrow.Author.Tests.{le-leb, lt-leb, eq-eqb, ne_eqb}
use Rattle.rules_states.specs.Rules.{suspect, unknown, each_state}
use Rattle.rules_states.specs.Marks.{state_by}

module _ (f : ℕ → ℕ → ℕ) where
  pub each_long : (vertices states : List ℕ) → length (each_state f vertices states) ≡ length states
  each_long [] states = refl
  each_long (v ∷ vertices) [] = refl
  each_long (v ∷ vertices) (s ∷ states) = ap suc (each_long vertices states)

  -- record i's, and a state for which no vertex is lent
  pub each_at : (i : ℕ) (vertices states : List ℕ) → i < length vertices → i < length states → get_or (each_state f vertices states) i 0 ≡ f (get_or vertices i 0) (get_or states i 0)
  each_at i [] states h k = absurd (not-suc-le-zero h)
  each_at i (v ∷ vertices) [] h k = absurd (not-suc-le-zero k)
  each_at zero (v ∷ vertices) (s ∷ states) h k = refl
  each_at (suc i) (v ∷ vertices) (s ∷ states) h k = each_at i vertices states (omega arith) (omega arith)

  pub each_behind : (i : ℕ) (vertices states : List ℕ) → length vertices ≤ i → get_or (each_state f vertices states) i 0 ≡ get_or states i 0
  each_behind i [] states h = refl
  each_behind i (v ∷ vertices) [] h = refl
  each_behind zero (v ∷ vertices) (s ∷ states) h = absurd (not-suc-le-zero h)
  each_behind (suc i) (v ∷ vertices) (s ∷ states) h = each_behind i vertices states (omega arith)

  each_suc : (i : ℕ) (vertices states : List ℕ) → i < length vertices → i < length states
      → set (each_state f (take i vertices) states) i (f (get_or vertices i 0) (get_or (each_state f (take i vertices) states) i 0)) ≡ each_state f (take (suc i) vertices) states
  each_suc i [] states h k = absurd (not-suc-le-zero h)
  each_suc i (v ∷ vertices) [] h k = absurd (not-suc-le-zero k)
  each_suc zero (v ∷ vertices) (s ∷ states) h k = refl
  each_suc (suc i) (v ∷ vertices) (s ∷ states) h k = ap (f v s ∷◌) (each_suc i vertices states (omega arith) (omega arith))

  -- one more: what is read at i is what is written there
  pub each_more : (i : ℕ) (vertices states : List ℕ) {now : List ℕ} {x : ℕ} → i < length vertices → i < length states
      → now ≡ each_state f (take i vertices) states → x ≡ f (get_or vertices i 0) (get_or now i 0) → set now i x ≡ each_state f (take (i + 1) vertices) states
  each_more i vertices states h k e turned = rw (turned, e, add-one) (each_suc i vertices states h k)

  -- either list is at its end
  pub each_all : (i : ℕ) (vertices states : List ℕ) {now : List ℕ} → min (length vertices) (length states) ≤ i → now ≡ each_state f (take i vertices) states
      → now ≡ each_state f vertices states
  each_all i vertices states h e = e ∙ all i vertices states h
    where
      all : (i : ℕ) (vertices states : List ℕ) → min (length vertices) (length states) ≤ i → each_state f (take i vertices) states ≡ each_state f vertices states
      all zero [] states h = refl
      all (suc i) [] states h = refl
      all zero (v ∷ vertices) [] h = refl
      all (suc i) (v ∷ vertices) [] h = refl
      all zero (v ∷ vertices) (s ∷ states) h = absurd (omega arith)
      all (suc i) (v ∷ vertices) (s ∷ states) h = ap (f v s ∷◌) (all i vertices states (omega arith))

-- two functions that agree turn states alike
pub each_same : (f g : ℕ → ℕ → ℕ) (vertices states : List ℕ) → ((v s : ℕ) → f v s ≡ g v s) → each_state f vertices states ≡ each_state g vertices states
each_same f g [] states e = refl
each_same f g (v ∷ vertices) [] e = refl
each_same f g (v ∷ vertices) (s ∷ states) e = ap₂ ◌∷◌ (e v s) (each_same f g vertices states e)

-- the vertex is n or more; or below n, and marked or not
module _ (marks : List ℕ) (n v s : ℕ) where
  pub state_out : n ≤ v → unknown ≡ state_by marks n v s
  unfolding state_by
  state_out h = rw (le-leb n v h)

  pub state_marked : v < n → get_or marks v 0 ≡ 1 → suspect ≡ state_by marks n v s
  unfolding state_by
  state_marked h m = rw (lt-leb n v h, eq-eqb (get_or marks v 0) 1 m)

  pub state_kept : v < n → (get_or marks v 0 ≡ 1 → ⊥) → s ≡ state_by marks n v s
  unfolding state_by
  state_kept h m = rw (lt-leb n v h, ne_eqb (get_or marks v 0) 1 m)
