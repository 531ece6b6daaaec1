-- In a plain hierarchy the inner interval is the outer one. All ranks are blocks of roots, and a block is its group's own rank and the blocks of
-- children; so a group that is somebody's child stands, in its parent's block, as a whole. With one parent each, the least s of a group's children is
-- therefore not below its m; and the last child on its left walk has its m.
use mathlib.Core.Bool.{Bool, true, false, not}
use mathlib.Core.Path.{◌≡◌, ap}
use mathlib.Core.List.{List, [], map}
use Prim.Native.Nat.{ℕ, zero, suc, ◌-◌, ◌<◌, ◌≤◌}
use native.Mathlib.Decide.{ℕ_discrete, dec_le, dec_lt}
use native.Mathlib.Omega.{arith}
use lib.ListN.{length, get_or}
use Rattle.lineage.specs.Lists.{least}
use Rattle.lineage.specs.Labels.{Labelling, nobodys_child}
use Rattle.lineage.specs.Sound.{child_of}
use Rattle.laws.specs.Sound.{LeftWalk, arrived, left, SoundLabelling}
use Rattle.laws.proofs.Tests.{clash}
use Rattle.laws.proofs.Positions.{least_below, least_at, least_above}
use Rattle.laws.proofs.Joined.{in_joined}
use Rattle.laws.proofs.Inverse.{e_some, e_most, e_one}
use Rattle.laws_hierarchy.specs.Hierarchy.{OneParent}

-- a child is no root
child_no_root : (children : List (List ℕ)) (p q : ℕ) → child_of children p q ≡ true → nobodys_child children q ≡ false
unfolding nobodys_child
child_no_root children p q i = ap not (in_joined children p q i)

module _ {children : List (List ℕ)} {l : Labelling} (L : SoundLabelling children l) where
  abbrev k : ℕ
  k = length children

  abbrev s : ℕ → ℕ
  s p = get_or l.s p 0

  abbrev m : ℕ → ℕ
  m p = get_or l.m p 0

  abbrev e : ℕ → ℕ
  e p = get_or l.e p 0

  -- a left walk goes down
  walk_falls : {test : ℕ → Bool} {hi lo : ℕ} → LeftWalk l test hi lo → hi ≤ k → lo ≤ hi
  walk_falls arrived c = omega arith
  walk_falls (left {q = q} i w) c =
      let h : ℕ = get_or l.by_rank q 0 in
      let b : h < k = L.at_low q (omega arith) in
      let r : m h ≤ suc q = omega (arith, L.m_high h b, L.e_at q (omega arith)) in
      omega (arith, walk_falls w (omega arith))

  -- on a left walk to lo one place's inner interval, above lo, holds t's rank
  record Holder (test : ℕ → Bool) (t lo : ℕ) : Type 0 where
    place : ℕ
    low : place < k
    passes : test place ≡ true
    starts : m place ≤ e t
    ends : e t ≤ e place
    above : lo < m place

  holder : {test : ℕ → Bool} (t : ℕ) {hi lo : ℕ} → LeftWalk l test hi lo → hi ≤ k → lo < e t → e t ≤ hi → Holder test t lo
  holder t arrived c low high = absurd (omega arith)
  holder t (left {q = q} i w) c low high =
      let h : ℕ = get_or l.by_rank q 0 in
      let b : h < k = L.at_low q (omega arith) in
      let r : e h ≡ suc q = L.e_at q (omega arith) in
      let on : m h - 1 ≤ k = omega (arith, L.m_high h b) in
      elim (dec_le (m h) (e t)) [
        | yes d ↦ record { place = h; low = b; passes = i; starts = d; ends = omega arith; above = omega (arith, walk_falls w on, L.m_low h b) }
        | no d ↦ holder t w on low (omega arith)
      ]

  -- the last place of a left walk starts where the walk ends
  record Last (test : ℕ → Bool) (lo : ℕ) : Type 0 where
    place : ℕ
    passes : test place ≡ true
    starts : m place ≡ suc lo

  last : {test : ℕ → Bool} {hi lo : ℕ} → LeftWalk l test hi lo → hi ≤ k → lo < hi → Last test lo
  last arrived c high = absurd (omega arith)
  last {lo = lo} (left {q = q} i w) c high =
      let h : ℕ = get_or l.by_rank q 0 in
      let b : h < k = L.at_low q (omega arith) in
      let on : m h - 1 ≤ k = omega (arith, L.m_high h b, L.e_at q (omega arith)) in
      elim (dec_lt lo (m h - 1)) [
        | yes d ↦ last w on d
        | no d ↦ record { place = h; passes = i; starts = omega (arith, walk_falls w on, L.m_low h b) }
      ]

  -- a group with q as a child, in whose inner interval q's starts
  pub record Parent (q : ℕ) : Type 0 where
    pub place : ℕ
    pub low : place < k
    pub child : child_of children place q ≡ true
    pub inner : m place ≤ m q

  -- down the blocks to the one that holds q's rank
  parent_below : (B p q : ℕ) → p < k → q < k → m p ≤ e q → e q < e p → e p ≤ B → Parent q
  parent_below zero p q b c low high bound = absurd (omega arith)
  parent_below (suc B) p q b c low high bound =
      let H : Holder (child_of children p) q (m p - 1) =
      holder q (L.blocks p b) (omega (arith, e_most L p b)) (omega (arith, L.m_low p b)) (omega arith) in
      elim (ℕ_discrete (e H.place) (e q)) [
        | yes same ↦
            let is : H.place ≡ q = e_one L H.place q H.low c same in
            record { place = p; low = b; child = rw is at H.passes; inner = omega (arith, H.above, ap m is) }
        | no n ↦
            parent_below B H.place q H.low c H.starts (omega (arith, H.ends)) (omega (arith, L.falls p H.place b H.passes))
      ]

  -- a group that is somebody's child is passed by the left walk of a parent
  pub parent_of : (p q : ℕ) → q < k → child_of children p q ≡ true → Parent q
  parent_of p q c i =
      let H : Holder (nobodys_child children) q 0 = holder q L.roots (omega arith) (omega (arith, e_some L q c)) (e_most L q c) in
      elim (ℕ_discrete (e H.place) (e q)) [
        | yes same ↦ clash (rw (e_one L H.place q H.low c same) at H.passes) (child_no_root children p q i)
        | no n ↦ parent_below (e H.place) H.place q H.low c H.starts (omega (arith, H.ends)) (omega arith)
      ]

  module _ (child_in : (p q : ℕ) → p < k → child_of children p q ≡ true → q < k) (one : OneParent children) where
    -- the one parent's inner interval does not start behind the child's
    child_above : (p q : ℕ) → p < k → child_of children p q ≡ true → m p ≤ m q
    child_above p q b i = let P : Parent q = parent_of p q (child_in p q b i) i in omega (arith, P.inner, ap m (one P.place p q P.low b P.child i))

    -- the least of a group's e and its children's m is its m
    least_inner : (p : ℕ) → p < k → ((q : ℕ) → child_of children p q ≡ true → s q ≡ m q) → least (e p) (map s (get_or children p [])) ≤ m p
    least_inner p b same =
        elim (dec_lt (m p - 1) (e p - 1)) [
          | yes d ↦
              let h : Last (child_of children p) (m p - 1) = last (L.blocks p b) (omega (arith, e_most L p b)) d in
              omega (arith, least_at s (e p) h.place (get_or children p []) h.passes, same h.place h.passes, h.starts, L.m_low p b)
          | no d ↦ omega (arith, least_below s (e p) (get_or children p []), L.m_low p b)
        ]

    same_within : (B p : ℕ) → p < k → e p ≤ B → s p ≡ m p
    same_within zero p b bound = absurd (omega (arith, e_some L p b))
    same_within (suc B) p b bound =
        let same : (q : ℕ) → child_of children p q ≡ true → s q ≡ m q =
        λ q i. same_within B q (child_in p q b i) (omega (arith, L.falls p q b i)) in
        omega (
          arith,
          L.outer_is p b,
          least_inner p b same,
          least_above s (e p) (m p) (get_or children p []) (L.m_high p b) (λ q i. omega (arith, child_above p q b i, same q i)),
        )

    -- s is m
    pub inner_outer : (p : ℕ) → p < k → s p ≡ m p
    inner_outer p b = same_within (e p) p b (omega arith)
