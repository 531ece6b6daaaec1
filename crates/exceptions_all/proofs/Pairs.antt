-- Pairs answered one after the other: before pair i the answers hold three numbers for each pair before it, and each pair adds three.
use mathlib.Core.Bool.{Bool, true, false, cond}
use mathlib.Core.Path.{◌≡◌, refl, sym, ap, ◌∙◌}
use mathlib.Core.List.{List, [], ◌∷◌}
use Prim.Native.Nat.{ℕ, suc, ◌+◌, ◌*◌, ◌≤◌, ◌<◌}
use native.Mathlib.Omega.{arith}
use native.Mathlib.Numerals.{add-one}
use lib.Dec.{leb}
use lib.ListN.{length, get_or, set}
use borrow.Author.Tests.{leb-false, le-leb, lt-leb}
use Rattle.lineage.specs.Lists.{joined}
use Rattle.laws.proofs.Lists.{table_same}
use Rattle.laws.proofs.Joined.{joined_more, table_blocks_long}
use Rattle.numbers.specs.Put.{put}
use Rattle.numbers.proofs.Put.{put_none, put_next, put_sets}
use Rattle.exceptions_lists.proofs.Apart.{put_long}
use Rattle.exceptions_all.specs.Pairs.{pair_three, threes}

-- three stores, one behind the other
pub three_put : (a : List ℕ) (at u v w : ℕ) → at + 3 ≤ length a → set (set (set a at u) (at + 1) v) (at + 2) w ≡ put a at (u ∷ v ∷ w ∷ [])
three_put a at u v w h = let two : at + 2 ≡ suc (suc at) = omega arith in rw (add-one, two) (put_sets a at (u ∷ v ∷ w ∷ []) h)

-- three numbers a pair
three_long : (a b : Bool) (x y z : List ℕ) → length x ≡ 3 → length y ≡ 3 → length z ≡ 3 → length (cond a x (cond b y z)) ≡ 3
three_long true b x y z e f g = e
three_long false true x y z e f g = f
three_long false false x y z e f g = g

module _ (n : ℕ) (says : ℕ → ℕ → Bool) where
  -- which they are
  module _ (u v : ℕ) where
    pub three_source : n ≤ u → 14 ∷ 0 ∷ 0 ∷ [] ≡ pair_three n says u v
    unfolding pair_three
    three_source h = rw (le-leb n u h)

    pub three_target : u < n → n ≤ v → 14 ∷ 1 ∷ 0 ∷ [] ≡ pair_three n says u v
    unfolding pair_three
    three_target h b = rw (lt-leb n u h, le-leb n v b)

    pub three_says : u < n → v < n → {r : Bool} → r ≡ says u v → 0 ∷ 0 ∷ cond r 1 0 ∷ [] ≡ pair_three n says u v
    unfolding pair_three
    three_says h b e = rw (lt-leb n u h, lt-leb n v b, e)

  module _ (sources targets : List ℕ) where
    abbrev pair_at : ℕ → List ℕ
    pair_at i = pair_three n says (get_or sources i 0) (get_or targets i 0)

    pair_long : (i : ℕ) → length (pair_at i) ≡ 3
    unfolding pair_three
    pair_long i = three_long (leb n (get_or sources i 0)) (leb n (get_or targets i 0)) _ _ _ refl refl refl

    pub threes_long : (i : ℕ) → length (threes n says sources targets i) ≡ 3 * i
    unfolding threes
    threes_long i = table_blocks_long pair_at 3 i (λ j h. pair_long j)

    -- before pair i
    pub record Asking (answers₀ answers : List ℕ) (i : ℕ) : Type 0 where
      pub low : i ≤ length sources
      pub wrote : answers ≡ put answers₀ 0 (threes n says sources targets i)

    pub asking_none : (answers₀ : List ℕ) → Asking answers₀ answers₀ 0
    unfolding threes
    asking_none answers₀ = record { low = omega arith; wrote = sym (put_none answers₀ 0) }

    module _ {answers₀ answers : List ℕ} {i : ℕ} (A : Asking answers₀ answers i) (fits : 3 * length sources ≤ length answers₀) where
      pub asking_long : length answers ≡ length answers₀
      asking_long =
          ap length A.wrote ∙ put_long answers₀ 0 (threes n says sources targets i) (omega (arith, threes_long i, A.low))

      pub asking_more : {answers' : List ℕ} → i < length sources → answers' ≡ put answers (3 * i) (pair_three n says (get_or sources i 0) (get_or targets i 0)) → Asking answers₀ answers' (i + 1)
      unfolding threes
      asking_more h e =
          let at : 0 + length (threes n says sources targets i) ≡ 3 * i = omega (arith, threes_long i) in
          record {
            low = omega arith;
            wrote = e ∙ rw (A.wrote, add-one, joined_more pair_at i, ← at) (put_next answers₀ 0 (threes n says sources targets i) (omega arith) (pair_at i));
          }

      pub asking_all : length sources ≤ i → answers ≡ put answers₀ 0 (threes n says sources targets (length sources))
      asking_all h = let all : i ≡ length sources = omega (arith, A.low) in rw all at A.wrote

-- ways of saying that agree below n give the same numbers
same_three : {A : Type 0} (n u v : ℕ) {x y : A} → (u < n → v < n → x ≡ y) → (r s : A) → cond (leb n u) r (cond (leb n v) s x) ≡ cond (leb n u) r (cond (leb n v) s y)
same_three {A} n u v {x} {y} h r s = at (leb n u) (leb n v) (leb-false n u) (leb-false n v)
  where
    at : (a b : Bool) → (a ≡ false → u < n) → (b ≡ false → v < n) → cond a r (cond b s x) ≡ cond a r (cond b s y)
    at true b f g = refl
    at false true f g = refl
    at false false f g = h (f refl) (g refl)

pub threes_same :
    (n : ℕ) (f g : ℕ → ℕ → Bool) → ((u v : ℕ) → u < n → v < n → f u v ≡ g u v) → (sources targets : List ℕ) (i : ℕ) → threes n f sources targets i ≡ threes n g sources targets i
unfolding threes pair_three
threes_same n f g same sources targets i =
    ap joined
    (table_same _ _ i
    (λ j h.
    same_three n (get_or sources j 0) (get_or targets j 0) (λ a b. ap (λ (r : Bool). 0 ∷ 0 ∷ cond r 1 0 ∷ []) (same (get_or sources j 0) (get_or targets j 0) a b)) (14 ∷ 0 ∷ 0 ∷ [])
    (14 ∷ 1 ∷ 0 ∷ [])))
