-- The computed tests decide soundness: each test is true exactly where its fact holds, and so are tests joined and tests of all numbers below a bound.
-- The left walk's bound suffices since each of its steps goes left; that it does follows from the tests that are read before it.
use mathlib.Core.Bool.{Bool, true, false, ◌&&◌}
use mathlib.Core.Logic.{◌↔◌}
use mathlib.Core.Path.{◌≡◌, refl}
use mathlib.Core.List.{List, [], ◌∷◌, map}
use Prim.Native.Nat.{ℕ, zero, suc, ◌-◌, ◌<◌, ◌≤◌}
use native.Mathlib.Nat.{not-suc-le-zero}
use native.Mathlib.Omega.{arith}
use lib.Dec.{eqb, leb, ltb}
use lib.ListN.{length, get_or}
use borrow.Author.Tests.{eqb-true, eq-eqb, leb-true, le-leb, lt-leb, ltb-true, lt-ltb}
use Rattle.lineage.specs.Lists.{all_below, among, position, least, greatest, same_list, Every, all_of}
use Rattle.lineage.specs.Graph.{group_list}
use Rattle.lineage.specs.Labels.{nobodys_child, Labelling}
use Rattle.lineage.specs.Index.{Index}
use Rattle.lineage.specs.Sound.{child_of, names_pass, row_passes, groups_pass, walk_ends, labels_pass, sound}
use Rattle.laws.specs.Sound.{LeftWalk, arrived, left, SoundLabelling, SoundGroups, Sound}
use Rattle.laws.proofs.Tests.{and_both, and_left, and_right}
use Rattle.laws.proofs.Lists.{all_from, all_below_lem, same_list_lem, same_self}
use Rattle.laws.proofs.Positions.{position_low, at_position, in_get_d}
use Rattle.laws.proofs.Inverse.{rank_most}

-- the test is true exactly where the fact holds
abbrev Decides : Bool → Type 0 → Type 0
Decides b P = (b ≡ true) ↔ P

-- two tests, the second read where the first holds
both : (a b : Bool) {P Q : Type 0} → Decides a P → (P → Decides b Q) → Decides (a && b) (P × Q)
both a b da db = ((λ h. let p = da.0 (and_left a b h) in (p, (db p).0 (and_right a b h))), λ pq. and_both (da.1 pq.0) ((db pq.0).1 pq.1))

equal : (a b : ℕ) → Decides (eqb a b) (a ≡ b)
equal a b = (eqb-true a b, eq-eqb a b)

at_most : (a b : ℕ) → Decides (leb a b) (a ≤ b)
at_most a b = (leb-true a b, le-leb a b)

less : (a b : ℕ) → Decides (ltb a b) (a < b)
less a b = (ltb-true a b, lt-ltb a b)

equal_lists : (xs ys : List ℕ) → Decides (same_list xs ys) (xs ≡ ys)
equal_lists xs ys = (same_list_lem xs ys, λ h. rw h (same_self ys))

-- a test of all numbers below n, of all members of a list
below : (n : ℕ) (p : ℕ → Bool) (P : ℕ → Type 0) → ((i : ℕ) → i < n → Decides (p i) (P i)) → Decides (all_below n p) ((i : ℕ) → i < n → P i)
below n p P d = ((λ t i h. (d i h).0 (all_below_lem n p i t h)), λ all. all_from n p (λ i h. (d i h).1 (all i h)))

members :
    (p : ℕ → Bool) (P : ℕ → Type 0) → ((q : ℕ) → Decides (p q) (P q)) → (xs : List ℕ)
    → Decides (all_below (length xs) (λ i. p (get_or xs i 0))) ((q : ℕ) → among q xs ≡ true → P q)
members p P d xs =
    let all = below (length xs) (λ i. p (get_or xs i 0)) (λ i. P (get_or xs i 0)) (λ i l. d (get_or xs i 0)) in
    ((λ h q i. rw (at_position q xs i) at (all.0 h (position q xs) (position_low q xs i))), λ h. all.1 (λ i l. h (get_or xs i 0) (in_get_d xs i l)))

every : {A : Type 0} (p : A → Bool) (P : A → Type 0) → ((x : A) → Decides (p x) (P x)) → (xs : List A) → Decides (all_of p xs) (Every P xs)
every p P d [] = ((λ h. tt), λ h. refl)
every p P d (x ∷ xs) =
    let ih = every p P d xs in
    ((λ h. ((d x).0 (and_left (p x) (all_of p xs) h), ih.0 (and_right (p x) (all_of p xs) h))), λ h. and_both ((d x).1 h.0) (ih.1 h.1))

-- the walk, where each step goes left
module _
    (l : Labelling) (test : ℕ → Bool) (k : ℕ)
    (shorter : (q : ℕ) → q < k → get_or l.m (get_or l.by_rank q 0) 0 - 1 ≤ q)
  where
    walk_up : {hi lo : ℕ} → hi ≤ k → LeftWalk l test hi lo → lo ≤ hi
    walk_up h arrived = omega arith
    walk_up h (left {q = q} t w) = omega (arith, shorter q h, walk_up (omega (arith, shorter q h)) w)

    walk_sound : (f hi lo : ℕ) → walk_ends l test f hi lo ≡ true → LeftWalk l test hi lo
    unfolding walk_ends
    walk_sound zero hi lo h = rw (eqb-true hi lo h) arrived
    walk_sound (suc f) zero lo h = rw (eqb-true 0 lo h) arrived
    walk_sound (suc f) (suc q) lo h = at (leb (suc q) lo) refl (walk_sound f (get_or l.m (get_or l.by_rank q 0) 0 - 1) lo)
      where
        p : ℕ
        p = get_or l.by_rank q 0

        at :
            (b : Bool) → leb (suc q) lo ≡ b → (walk_ends l test f (get_or l.m p 0 - 1) lo ≡ true → LeftWalk l test (get_or l.m p 0 - 1) lo)
            → LeftWalk l test (suc q) lo
        at true e ih = let z : suc q ≡ lo = eqb-true (suc q) lo (rw (e, walk_ends) at h) in rw z arrived
        at false e ih =
            let z : (test p && walk_ends l test f (get_or l.m p 0 - 1) lo) ≡ true = rw (e, walk_ends) at h in
            left (and_left (test p) _ z) (ih (and_right (test p) _ z))

    stops : (f q : ℕ) → walk_ends l test f q q ≡ true
    unfolding walk_ends
    stops zero q = eq-eqb q q refl
    stops (suc f) zero = eq-eqb 0 0 refl
    stops (suc f) (suc q) = rw (le-leb (suc q) (suc q) (omega arith), walk_ends) (eq-eqb (suc q) (suc q) refl)

    walk_complete : (f : ℕ) {hi lo : ℕ} → hi ≤ f → hi ≤ k → LeftWalk l test hi lo → walk_ends l test f hi lo ≡ true
    unfolding walk_ends
    walk_complete zero i j (arrived {q = q}) = stops zero q
    walk_complete zero i j (left t w) = absurd (not-suc-le-zero i)
    walk_complete (suc f) i j (arrived {q = q}) = stops (suc f) q
    walk_complete (suc f) i j (left {q = q} {lo = lo} t w) =
        let on : get_or l.m (get_or l.by_rank q 0) 0 - 1 ≤ k = omega (arith, shorter q j) in
        rw (lt-leb (suc q) lo (omega (arith, shorter q j, walk_up on w)), walk_ends) (and_both t (walk_complete f (omega (arith, shorter q j)) on w))

    walk_decides : (hi lo : ℕ) → hi ≤ k → Decides (walk_ends l test k hi lo) (LeftWalk l test hi lo)
    walk_decides hi lo h = (walk_sound k hi lo, λ w. walk_complete k h h w)

module _ (children : List (List ℕ)) (l : Labelling) where
  abbrev k : ℕ
  k = length children

  abbrev e : ℕ → ℕ
  e p = get_or l.e p 0

  abbrev m : ℕ → ℕ
  m p = get_or l.m p 0

  abbrev s : ℕ → ℕ
  s p = get_or l.s p 0

  abbrev at : ℕ → ℕ
  at r = get_or l.by_rank r 0

  -- the fields of SoundLabelling, in the sequence of the tests
  abbrev Ranks : Type 0
  Ranks = (r : ℕ) → r < k → (at r < k) × (e (at r) ≡ suc r)

  abbrev Mins : Type 0
  Mins = (p : ℕ) → p < k → (1 ≤ m p) × (m p ≤ e p)

  abbrev Sizes : Type 0
  Sizes = (length l.s ≡ k) × ((length l.m ≡ k) × ((length l.e ≡ k) × (length l.by_rank ≡ k)))

  abbrev Fields : Type 0
  Fields =
      Sizes
      × (Ranks
      × (((p : ℕ) → p < k → (q : ℕ) → child_of children p q ≡ true → e q < e p)
      × (((p : ℕ) → p < k → s p ≡ least (e p) (map s (get_or children p [])))
      × (Mins
      × (((p : ℕ) → p < k → LeftWalk l (child_of children p) (e p - 1) (m p - 1))
      × LeftWalk l (nobodys_child children) k 0)))))

  shorter : Ranks → Mins → (q : ℕ) → q < k → m (at q) - 1 ≤ q
  shorter R M q h = omega (arith, R q h, M (at q) (R q h).0)

  high : Sizes → Ranks → (p : ℕ) → p < k → e p - 1 ≤ k
  high sizes R p h = omega (arith, rank_most k l.by_rank e sizes.1.1.1 (λ r i. (R r i).0) (λ r i. (R r i).1) p h)

  fields : Decides (labels_pass children l) Fields
  unfolding labels_pass
  fields =
      both _ _ (both _ _ (equal _ _) (λ a. both _ _ (equal _ _) (λ b. both _ _ (equal _ _) (λ c. equal _ _)))) (λ sizes.
      both _ _ (below k _ _ (λ r h. both _ _ (less _ _) (λ a. equal _ _))) (λ R.
      both _ _ (below k _ _ (λ p h. members (λ q. ltb (e q) (e p)) (λ q. e q < e p) (λ q. less _ _) (get_or children p []))) (λ falls.
      both _ _ (below k _ _ (λ p h. equal _ _)) (λ outer.
      both _ _ (below k _ _ (λ p h. both _ _ (at_most _ _) (λ a. at_most _ _))) (λ M.
      both _ _ (below k _ _ (λ p h. walk_decides l (child_of children p) k (shorter R M) (e p - 1) (m p - 1) (high sizes R p h))) (λ blocks.
      walk_decides l (nobodys_child children) k (shorter R M) k 0 (omega arith)))))))

  labels_decide : Decides (labels_pass children l) (SoundLabelling children l)
  labels_decide = (
    (λ t. let ((sl, (ml, (el, al))), (R, (falls, (outer, (M, (blocks, roots)))))) = fields.0 t in
        record {
          s_long = sl;
          m_long = ml;
          e_long = el;
          at_long = al;
          at_low = λ r h. (R r h).0;
          e_at = λ r h. (R r h).1;
          falls = λ p q h i. falls p h q i;
          outer_is = outer;
          m_low = λ p h. (M p h).0;
          m_high = λ p h. (M p h).1;
          blocks = blocks;
          roots = roots;
        }),
    λ L. fields.1 (
      (L.s_long, (L.m_long, (L.e_long, L.at_long))),
      (
        (λ r h. (L.at_low r h, L.e_at r h)),
        (
          (λ p h q i. L.falls p q h i),
          (
            L.outer_is,
            (
              (λ p h. (L.m_low p h, L.m_high p h)),
              (L.blocks, L.roots),
            ),
          ),
        ),
      ),
    ),
  )

module _ (names groups levels : List ℕ) (children : List (List ℕ)) where
  abbrev row : ℕ → List ℕ
  row p = get_or children p []

  -- the fields of SoundGroups, in the sequence of the tests
  abbrev Names : Type 0
  Names = ((v : ℕ) → v < length names → (get_or names v 0 ≤ v) × (get_or names (get_or names v 0) 0 ≡ get_or names v 0)) × (groups ≡ group_list names)

  abbrev Row : ℕ → Type 0
  Row p =
      ((i : ℕ) → i < length (row p) → get_or (row p) i 0 < length children)
      × ((i : ℕ) → i < length (row p) - 1 → get_or (row p) i 0 < get_or (row p) (suc i) 0)

  abbrev Sized : Type 0
  Sized = (length children ≡ length groups) × (length levels ≡ length children)

  abbrev Levels : Type 0
  Levels = (p : ℕ) → p < length children → get_or levels p 0 ≡ greatest (map (λ q. suc (get_or levels q 0)) (row p))

  names_decide : Decides (names_pass names groups) Names
  unfolding names_pass
  names_decide = both _ _ (below (length names) _ _ (λ v h. both _ _ (at_most _ _) (λ a. equal _ _))) (λ a. equal_lists groups (group_list names))

  row_decides : (p : ℕ) → p < length children → Decides (row_passes children p) (Row p)
  row_decides p h = both _ _ (below (length (row p)) _ _ (λ i j. less _ _)) (λ c. below (length (row p) - 1) _ _ (λ i j. less _ _))

  group_fields :
      Decides (groups_pass names groups levels children) (Names × (Sized × (((p : ℕ) → p < length children → Row p) × Levels)))
  unfolding groups_pass
  group_fields =
      both _ _ names_decide (λ a.
      both _ _ (both _ _ (equal _ _) (λ b. equal _ _)) (λ b.
      both _ _ (below (length children) _ _ row_decides) (λ c.
      below (length children) _ _ (λ p h. equal _ _))))

  groups_decide : Decides (groups_pass names groups levels children) (SoundGroups names groups levels children)
  groups_decide = (
    (λ t. let ((own, are), ((cl, ll), (rows, levels_are_lem))) = group_fields.0 t in
        record {
          name_low = λ v h. (own v h).0;
          name_own = λ v h. (own v h).1;
          groups_are_lem = are;
          children_long = cl;
          levels_long = ll;
          child_low = λ p i h j. (rows p h).0 i j;
          child_rises = λ p i h j. (rows p h).1 i (omega arith);
          level_is = levels_are_lem;
        }),
    λ S. group_fields.1 (
      ((λ v h. (S.name_low v h, S.name_own v h)), S.groups_are_lem),
      ((S.children_long, S.levels_long), ((λ p h. ((λ i j. S.child_low p i h j), λ i j. S.child_rises p i h (omega arith))), S.level_is)),
    ),
  )

-- all tests of an index
pub sound_decides : (I : Index) → (sound I ≡ true) ↔ Sound I
unfolding sound
sound_decides I =
    let c : List (List ℕ) = I.children in
    let labels = every (labels_pass c) (SoundLabelling c) (labels_decide c) I.labels in
    let (to, from) = both _ _ (groups_decide I.names I.groups I.levels c) (λ g. labels) in
    ((λ h. let (g, ls) = to h in record { condensed = g; labelled = ls }), λ S. from (S.condensed, S.labelled))
