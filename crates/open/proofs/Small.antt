-- The numbers of an index that some edge list and orders yield are small: vertices and names below n, places, levels and ranks at most k, starts at most c. So a
-- form's width holds them.
use mathlib.Core.Bool.{Bool, true, false, cond}
use mathlib.Core.Path.{◌≡◌, subst}
use mathlib.Core.List.{List, [], ◌∷◌, map}
use Prim.Native.Nat.{ℕ, ◌≤◌, ◌<◌}
use native.Mathlib.Omega.{arith}
use lib.Dec.{eqb}
use lib.ListN.{length, get_or}
use Rattle.lineage.specs.Lists.{upto, among, position, joined, Every}
use Rattle.lineage.specs.Graph.{group_list, level, levels_of}
use Rattle.lineage.specs.Labels.{Labelling}
use Rattle.lineage.specs.Index.{Index}
use Rattle.lineage.specs.Stored.{starts_from, triple, pair, label_of, label_numbers, sections}
use Rattle.laws.specs.Sound.{SoundLabelling, SoundGroups, Sound}
use Rattle.laws.proofs.Lists.{those_pass, upto_low, length_upto}
use Rattle.laws.proofs.Positions.{in_get_d, position_low, at_position, least_below}
use Rattle.laws.proofs.Rising.{those_short}
use Rattle.laws.proofs.Levels.{level_most}
use Rattle.laws.proofs.Inverse.{e_most}
use Rattle.laws.proofs.Joined.{joined_in}
use Rattle.laws.proofs.Starts.{starts_long, starts_pass_lem, pass_low}
use Rattle.laws.proofs.Every.{every_get_d, every_append, every_joined, every_table}

-- one labelling: s, m, e and places are at most k
module _ {children : List (List ℕ)} {l : Labelling} (L : SoundLabelling children l) (N : ℕ) (small : length children < N) where
  abbrev k : ℕ
  k = length children

  label_small : (z p : ℕ) → p < k → Every (λ x. x < N) (label_of z l p)
  label_small z p h = at (eqb z 2)
    where
      s_small : get_or l.s p 0 < N
      s_small = omega (arith, e_most L p h, L.outer_is p h, least_below (λ q. get_or l.s q 0) (get_or l.e p 0) (get_or children p []))

      e_small : get_or l.e p 0 < N
      e_small = omega (arith, e_most L p h)

      at : (b : Bool) → Every (λ x. x < N) (cond b (pair l p) (triple l p))
      at true = (s_small, (e_small, tt))
      at false = (s_small, (omega (arith, e_small, L.m_high p h), (e_small, tt)))

  labelling_small : (z : ℕ) → Every (λ x. x < N) (label_numbers z k l)
  labelling_small z =
      every_append (λ x. x < N) (joined (map (label_of z l) (upto k))) l.by_rank
      (every_joined (λ x. x < N) (map (label_of z l) (upto k)) (every_table (Every (λ x. x < N)) (label_of z l) k (label_small z)))
      (every_get_d (λ x. x < N) 0 l.by_rank (λ r h. omega (arith, L.at_low r (omega (arith, L.at_long)))))

-- the whole index
module _ {I : Index} (S : Sound I) where
  G : SoundGroups I.names I.groups I.levels I.children
  G = S.condensed

  pub groups_few : length I.groups ≤ length I.names
  unfolding group_list
  groups_few =
      rw G.groups_are_lem
      (omega (arith, those_short (λ v. eqb (get_or I.names v 0) v) (upto (length I.names)), length_upto (length I.names)))

  places_few : length I.children ≤ length I.names
  places_few = omega (arith, groups_few, G.children_long)

  module _ (levels_are_lem : I.levels ≡ levels_of I.children) (N : ℕ) (few : length I.names < N) (few_entries : length (joined I.children) < N) where
    abbrev Low : List ℕ → Type 0
    Low xs = Every (λ x. x < N) xs

    names_small : Low I.names
    names_small = every_get_d (λ x. x < N) 0 I.names (λ v h. omega (arith, G.name_low v h))

    groups_small : Low I.groups
    unfolding group_list
    groups_small =
        every_get_d (λ x. x < N) 0 I.groups
        (λ i h.
        let g : ℕ = get_or I.groups i 0 in
        let here : among g (group_list I.names) ≡ true = subst (λ (gs : List ℕ). among g gs ≡ true) G.groups_are_lem (in_get_d I.groups i h) in
        omega (arith, upto_low (length I.names) g (those_pass (λ v. eqb (get_or I.names v 0) v) g (upto (length I.names)) here).1))

    levels_small : Low I.levels
    unfolding levels_of
    levels_small =
        rw levels_are_lem
        (every_table (λ x. x < N) (level I.children (length I.children)) (length I.children)
        (λ p h. omega (arith, level_most I.children (length I.children) p, places_few)))

    starts_small : Low (starts_from 0 I.children)
    starts_small =
        let k : ℕ = length I.children in
        let c : ℕ = length (joined I.children) in
        every_get_d (λ x. x < N) 0 (starts_from 0 I.children)
        (λ p h. omega (arith, pass_low (starts_from 0 I.children) k c (starts_pass_lem I.children) p (omega (arith, starts_long 0 I.children))))

    children_small : Low (joined I.children)
    children_small =
        every_get_d (λ x. x < N) 0 (joined I.children)
        (λ i h.
        let q : ℕ = get_or (joined I.children) i 0 in
        let (p, l, j) = joined_in I.children q (in_get_d (joined I.children) i h) in
        let row : List ℕ = get_or I.children p [] in
        omega (arith, G.child_low p (position q row) l (position_low q row j), at_position q row j, places_few))

    labels_small : (z : ℕ) (ls : List Labelling) → Every (SoundLabelling I.children) ls → Low (joined (map (label_numbers z (length I.children)) ls))
    labels_small z [] h = tt
    labels_small z (l ∷ ls) h =
        every_append (λ x. x < N) (label_numbers z (length I.children) l) (joined (map (label_numbers z (length I.children)) ls))
        (labelling_small h.0 N (omega (arith, places_few)) z) (labels_small z ls h.1)

    pub sections_small : (z : ℕ) → Every Low (sections z I)
    sections_small z =
        (names_small, (groups_small, (levels_small, (starts_small, (children_small, (rw (← G.children_long) (labels_small z I.labels S.labelled), tt))))))
