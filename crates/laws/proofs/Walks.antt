-- The left walks of a labelling and a forest on its ranks are the same thing. A walk passes the last tree of its stretch, whose block is again a
-- walk, and goes on to the left of it: so the walks grow a forest from the right. Back, a forest that fits gives each walk, its order of finishing is
-- the places by rank, and m is one more than what was finished before.
use mathlib.Core.Bool.{Bool, true, false, false≢true}
use mathlib.Core.Logic.{inl, inr}
use mathlib.Core.Path.{◌≡◌, refl, sym, ap, ◌∙◌}
use mathlib.Core.List.{List, ◌∷◌, ◌++◌, append_assoc}
use Prim.Native.Nat.{ℕ, zero, suc, ◌+◌, ◌-◌, ◌<◌, ◌≤◌}
use native.Mathlib.Nat.{not-suc-le-zero}
use native.Mathlib.Omega.{arith}
use lib.Dec.{eqb}
use lib.ListN.{length, get_or, drop, length-append}
use lib.Seq.{drop-cons}
use borrow.Author.Tests.{eqb-true}
use Rattle.lineage.specs.Lists.{among}
use Rattle.lineage.specs.Labels.{Forest, done, visit, nobodys_child, finished, Labelling}
use Rattle.lineage.specs.Sound.{child_of}
use Rattle.laws.specs.Sound.{LeftWalk, arrived, left, SoundLabelling}
use Rattle.laws.proofs.Lists.{among_append, in_cons, in_append}
use Rattle.laws.specs.Visits.{before}
use Rattle.laws.proofs.Forests.{Ranking, Fits, none, tree, entered, join_f, block_up, join_fits}

-- a labelling over given children, as functions of places
abbrev pub ranking_of : List (List ℕ) → Labelling → Ranking
ranking_of children l = record { k = length children; child = child_of children; e = λ p. get_or l.e p 0; m = λ p. get_or l.m p 0 }

-- the left walks make a forest: the last tree's block, and what stands left of it
module _ {children : List (List ℕ)} {l : Labelling} (L : SoundLabelling children l) where
  abbrev Grown : (ℕ → Bool) → ℕ → ℕ → Type 0
  Grown test lo hi = (f : Forest) × Fits (ranking_of children l) test f lo hi

  abbrev at : ℕ → ℕ
  at q = get_or l.by_rank q 0

  -- the place at rank suc q, what is below it, and what stands left of it
  tree_left :
      {test : ℕ → Bool} (q lo : ℕ) → q < length children → test (at q) ≡ true
      → Grown (child_of children (at q)) (get_or l.m (at q) 0 - 1) q → Grown test lo (get_or l.m (at q) 0 - 1) → Grown test lo (suc q)
  tree_left q lo n t (below, u) (rest, v) =
      let low : at q < length children = L.at_low q n in
      (join_f rest (visit (at q) below done), join_fits {f = rest} v (tree {below = below} t low (omega (arith, L.m_low (at q) low)) (L.e_at q n) u none))

  block : (q : ℕ) → q < length children → LeftWalk l (child_of children (at q)) q (get_or l.m (at q) 0 - 1)
  block q n =
      let low : at q < length children = L.at_low q n in
      let rank : get_or l.e (at q) 0 - 1 ≡ q = omega (arith, L.e_at q n) in
      rw rank at (L.blocks (at q) low)

  shorter : (q : ℕ) → q < length children → get_or l.m (at q) 0 - 1 ≤ q
  shorter q n = omega (arith, L.e_at q n, L.m_high (at q) (L.at_low q n))

  grown : (b : ℕ) {test : ℕ → Bool} {hi lo : ℕ} → hi ≤ b → hi ≤ length children → LeftWalk l test hi lo → Grown test lo hi
  grown zero h n arrived = (done, none)
  grown zero h n (left t w) = absurd (not-suc-le-zero h)
  grown (suc b) h n arrived = (done, none)
  grown (suc b) h n (left {q = q} {lo = lo} t w) =
      tree_left q lo n t (grown b (omega arith) (omega arith) (block q n)) (grown b (omega (arith, shorter q n)) (omega (arith, shorter q n)) w)

  -- all ranks together
  pub forest : (f : Forest) × Fits (ranking_of children l) (nobodys_child children) f 0 (length children)
  forest = grown (length children) (omega arith) (omega arith) L.roots

-- the way back: a forest that fits gives the walks
module _ (children : List (List ℕ)) (l : Labelling) (at_rank : (p r : ℕ) → p < length children → get_or l.e p 0 ≡ suc r → get_or l.by_rank r 0 ≡ p) where
  walk_on : {test : ℕ → Bool} {hi mid lo : ℕ} → LeftWalk l test hi mid → LeftWalk l test mid lo → LeftWalk l test hi lo
  walk_on arrived w = w
  walk_on (left t v) w = left t (walk_on v w)

  one_tree : {test : ℕ → Bool} (p r lo : ℕ) → get_or l.by_rank r 0 ≡ p → test p ≡ true → get_or l.m p 0 ≡ suc lo → LeftWalk l test (suc r) lo
  one_tree {test} p r lo e t x =
      let back : get_or l.m (get_or l.by_rank r 0) 0 - 1 ≡ lo = omega (arith, ap (λ q. get_or l.m q 0) e) in
      left {q = r} {lo = lo} (rw e t) (rw back arrived)

  -- a forest gives the walk over its roots
  pub fits_walk : {test : ℕ → Bool} {f : Forest} {lo hi : ℕ} → Fits (ranking_of children l) test f lo hi → LeftWalk l test hi lo
  fits_walk none = arrived
  fits_walk (tree {p = p} {lo = lo} {r = r} t h x y u v) = walk_on (fits_walk v) (one_tree p r lo (at_rank p r h y) t x)

  -- and the walk below each of its groups
  pub fits_block :
      {test : ℕ → Bool} {f : Forest} {lo hi : ℕ} → Fits (ranking_of children l) test f lo hi
      → (q : ℕ) → among q (entered f) ≡ true → LeftWalk l (child_of children q) (get_or l.e q 0 - 1) (get_or l.m q 0 - 1)
  fits_block none q i = absurd (false≢true i)
  fits_block (tree {p = p} {lo = lo} {r = r} {below = below} {next = next} t h x y u v) q i =
      let rank : get_or l.e p 0 - 1 ≡ r = omega arith in
      let least : get_or l.m p 0 - 1 ≡ lo = omega arith in
      elim (in_cons q p (entered below ++ entered next) i) [
        | inl j ↦ rw (j, rank, least) (fits_walk u)
        | inr j ↦ elim (in_append q (entered below) (entered next) j) [ inl o ↦ fits_block u q o | inr o ↦ fits_block v q o ]
      ]

module _ {R : Ranking} where
  finished_count : {ok : ℕ → Bool} {f : Forest} {lo hi : ℕ} → Fits R ok f lo hi → lo + length (finished f) ≡ hi
  finished_count none = omega arith
  finished_count (tree {p = p} {below = below} {next = next} t h x y u v) =
      omega (arith, finished_count u, finished_count v, length-append (finished below) (p ∷ finished next))

  -- m of a group is one more than what was finished before it was entered
  pub fits_before :
      {ok : ℕ → Bool} {f : Forest} {lo hi : ℕ} → Fits R ok f lo hi → (q : ℕ) → among q (finished f) ≡ true
      → R.m q ≡ suc (lo + length (before q f))
  fits_before none q i = absurd (false≢true i)
  fits_before (tree {p = p} {lo = lo} {r = r} {below = below} {next = next} t h x y u v) q i =
      at (eqb q p) refl (among q (finished below)) refl (fits_before u q) (fits_before v q)
    where
      at :
          (b : Bool) → eqb q p ≡ b → (c : Bool) → among q (finished below) ≡ c
          → (among q (finished below) ≡ true → R.m q ≡ suc (lo + length (before q below)))
          → (among q (finished next) ≡ true → R.m q ≡ suc (suc r + length (before q next)))
          → R.m q ≡ suc (lo + length (before q (visit p below next)))
      at true e c j a b = rw (e, before) (omega (arith, ap R.m (eqb-true q p e)))
      at false e true j a b = rw (e, j, before) (a j)
      at false e false j a b =
          rw (e, j, before) (omega (arith, b (rw (among_append, j, e) at i), finished_count u, length-append (finished below) (p ∷ before q next)))

  -- the order of finishing is the list by rank
  pub fits_ranks :
      (by_rank : List ℕ) → ((p r : ℕ) → p < R.k → R.e p ≡ suc r → get_or by_rank r 0 ≡ p)
      → {ok : ℕ → Bool} {f : Forest} {lo hi : ℕ} → Fits R ok f lo hi → hi ≤ length by_rank → drop lo by_rank ≡ finished f ++ drop hi by_rank
  fits_ranks by_rank at_rank none h = refl
  fits_ranks by_rank at_rank (tree {p = p} {lo = lo} {r = r} {hi = hi} {below = below} {next = next} t l x y u v) h =
      let here : drop r by_rank ≡ p ∷ drop (suc r) by_rank = drop-cons by_rank r 0 (omega (arith, block_up v)) ∙ ap (◌∷ drop (suc r) by_rank) (at_rank p r l y) in
      fits_ranks by_rank at_rank u (omega (arith, block_up v))
      ∙ ap (finished below ++◌) (here ∙ ap (p ∷◌) (fits_ranks by_rank at_rank v h))
      ∙ sym (append_assoc (finished below) (p ∷ finished next) (drop hi by_rank))
