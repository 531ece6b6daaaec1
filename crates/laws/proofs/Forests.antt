-- A forest laid on ranks: each tree is one block of ranks, its root last, and below the root the blocks of its children side by side. So a forest's
-- groups are those whose rank lies in its block.
use mathlib.Core.Bool.{Bool, true, false, ◌||◌, false≢true}
use mathlib.Core.Logic.{inl, inr}
use mathlib.Core.Path.{◌≡◌, refl, ap}
use mathlib.Core.List.{List, [], ◌∷◌, ◌++◌}
use Prim.Native.Nat.{ℕ, suc, ◌+◌, ◌<◌, ◌≤◌}
use native.Mathlib.Decide.{dec_le, ℕ_discrete}
use native.Mathlib.Omega.{arith}
use lib.Dec.{eqb}
use lib.ListN.{length, length-append}
use Rattle.lineage.specs.Lists.{among}
use Rattle.lineage.specs.Labels.{Forest, done, visit, finished}
use Rattle.laws.proofs.Lists.{among_append, here_at, there, in_cons, in_left, in_right, in_append}

-- a labelling as functions of places below k
pub record Ranking : Type 0 where
  pub k : ℕ
  pub child : ℕ → ℕ → Bool
  pub e : ℕ → ℕ
  pub m : ℕ → ℕ

-- the forest fills the ranks above lo up to hi, and the roots of its trees pass the test
pub data Fits (R : Ranking) : (ℕ → Bool) → Forest → ℕ → ℕ → Type 0 where
  none : {ok : ℕ → Bool} {q : ℕ} → Fits R ok done q q
  tree :
      {ok : ℕ → Bool} {p lo r hi : ℕ} {below next : Forest}
      → ok p ≡ true
      → p < R.k
      → R.m p ≡ suc lo
      → R.e p ≡ suc r
      → Fits R (R.child p) below lo r
      → Fits R ok next (suc r) hi
      → Fits R ok (visit p below next) lo hi

-- the groups as they are entered
abbrev pub entered : Forest → List ℕ
entered done = []
entered (visit p below next) = p ∷ (entered below ++ entered next)

-- one forest after another
abbrev pub join_f : Forest → Forest → Forest
join_f done g = g
join_f (visit p below next) g = visit p below (join_f next g)

pub join_done : (f : Forest) → join_f f done ≡ f
join_done done = refl
join_done (visit p below next) = ap (visit p below) (join_done next)

swap : (a b c : Bool) → (a || (b || c)) ≡ (b || (a || c))
swap true true c = refl
swap true false c = refl
swap false true c = refl
swap false false c = refl

-- what is entered is what is finished
pub entered_finished : (x : ℕ) (f : Forest) → among x (entered f) ≡ among x (finished f)
entered_finished x done = refl
entered_finished x (visit p below next) =
    rw (among_append x (entered below) (entered next), among_append x (finished below) (p ∷ finished next), entered_finished x below, entered_finished x next)
    (swap (eqb x p) (among x (finished below)) (among x (finished next)))

module _ {R : Ranking} where
  -- a block goes up; forests on neighbouring blocks join
  pub block_up : {ok : ℕ → Bool} {f : Forest} {lo hi : ℕ} → Fits R ok f lo hi → lo ≤ hi
  block_up none = omega arith
  block_up (tree t h x y u v) = omega (arith, block_up u, block_up v)

  pub join_fits : {ok : ℕ → Bool} {f g : Forest} {lo mid hi : ℕ} → Fits R ok f lo mid → Fits R ok g mid hi → Fits R ok (join_f f g) lo hi
  join_fits none w = w
  join_fits (tree t h x y u v) w = tree t h x y u (join_fits v w)

  -- a block has as many ranks as the forest has groups
  pub fits_count : {ok : ℕ → Bool} {f : Forest} {lo hi : ℕ} → Fits R ok f lo hi → lo + length (entered f) ≡ hi
  fits_count none = omega arith
  fits_count (tree {below = below} {next = next} t h x y u v) = omega (arith, fits_count u, fits_count v, length-append (entered below) (entered next))

  -- what holds of each root holds of each group of a forest
  members :
      (P : ℕ → ℕ → ℕ → Type 0)
      → ((p lo r hi : ℕ) → p < R.k → R.m p ≡ suc lo → R.e p ≡ suc r → lo ≤ r → suc r ≤ hi → P p lo hi)
      → ((q lo r hi : ℕ) → lo ≤ r → suc r ≤ hi → P q lo r → P q lo hi)
      → ((q lo r hi : ℕ) → lo ≤ r → suc r ≤ hi → P q (suc r) hi → P q lo hi)
      → {ok : ℕ → Bool} {f : Forest} {lo hi : ℕ} → Fits R ok f lo hi → (q : ℕ) → among q (entered f) ≡ true → P q lo hi
  members P root low high none q i = absurd (false≢true i)
  members P root low high (tree {p = p} {lo = lo} {r = r} {hi = hi} {below = below} {next = next} t h x y u v) q i =
      elim (in_cons q p (entered below ++ entered next) i) [
        | inl e ↦ rw e (root p lo r hi h x y (block_up u) (block_up v))
        | inr j ↦ elim (in_append q (entered below) (entered next) j) [
          | inl o ↦ low q lo r hi (block_up u) (block_up v) (members P root low high u q o)
          | inr o ↦ high q lo r hi (block_up u) (block_up v) (members P root low high v q o)
        ]
      ]

  -- the groups of a forest are places, with ranks in its block, and m does not pass e
  pub member_low : {ok : ℕ → Bool} {f : Forest} {lo hi : ℕ} → Fits R ok f lo hi → (q : ℕ) → among q (entered f) ≡ true → q < R.k
  member_low = members (λ q lo hi. q < R.k) (λ p lo r hi h x y a b. h) (λ q lo r hi a b i. i) (λ q lo r hi a b i. i)

  pub member_rank :
      {ok : ℕ → Bool} {f : Forest} {lo hi : ℕ} → Fits R ok f lo hi → (q : ℕ) → among q (entered f) ≡ true → (lo < R.e q) × (R.e q ≤ hi)
  member_rank =
      members (λ q lo hi. (lo < R.e q) × (R.e q ≤ hi))
      (λ p lo r hi h x y a b. omega arith) (λ q lo r hi a b i. omega arith) (λ q lo r hi a b i. omega arith)

  pub member_m : {ok : ℕ → Bool} {f : Forest} {lo hi : ℕ} → Fits R ok f lo hi → (q : ℕ) → among q (entered f) ≡ true → R.m q ≤ R.e q
  member_m = members (λ q lo hi. R.m q ≤ R.e q) (λ p lo r hi h x y a b. omega arith) (λ q lo r hi a b i. i) (λ q lo r hi a b i. i)

  -- a place whose rank lies in the block is a group of the forest
  module _ (one : (p q : ℕ) → p < R.k → q < R.k → R.e p ≡ R.e q → p ≡ q) where
    pub rank_member :
        {ok : ℕ → Bool} {f : Forest} {lo hi : ℕ} → Fits R ok f lo hi → (q : ℕ) → q < R.k → lo < R.e q → R.e q ≤ hi
        → among q (entered f) ≡ true
    rank_member none q l low high = absurd (omega arith)
    rank_member (tree {p = p} {r = r} {below = below} {next = next} t h x y u v) q l low high =
        at (dec_le (R.e q) r) (ℕ_discrete (R.e q) (suc r)) (λ z. rank_member u q l low z) (λ z. rank_member v q l z high)
      where
        at :
            Dec (R.e q ≤ r) → Dec (R.e q ≡ suc r)
            → (R.e q ≤ r → among q (entered below) ≡ true)
            → (suc r < R.e q → among q (entered next) ≡ true)
            → among q (p ∷ (entered below ++ entered next)) ≡ true
        at (yes a) d i j = there q p (entered below ++ entered next) (in_left q (entered below) (entered next) (i a))
        at (no a) (yes d) i j = here_at _ p (entered below ++ entered next) (one q p l h (cc))
        at (no a) (no d) i j = there q p (entered below ++ entered next) (in_right q (entered below) (entered next) (j (omega arith)))
