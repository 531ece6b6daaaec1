-- The labelling under an order passes the tests, and is what document 01 says. Going up from a group to a parent ends at a group that is nobody's
-- child, so the traversal visits every group, and each once: the order of finishing is a list of all places by rank. The traversal fits the ranks that
-- this gives; ranks fall along children as levels do; and s meets its equation since ranks bound its depth.
use mathlib.Core.Bool.{Bool, true, false, false≢true}
use mathlib.Core.Logic.{◌↔◌}
use mathlib.Core.Path.{◌≡◌, refl, sym, ap, ◌∙◌}
use mathlib.Core.List.{List, [], map}
use Prim.Native.Nat.{ℕ, zero, suc, ◌+◌, ◌<◌, ◌≤◌}
use native.Mathlib.Omega.{arith}
use lib.ListN.{length, get_or}
use lib.Seq.{ext_get_or}
use borrow.Author.Tests.{not-false}
use Rattle.lineage.specs.Lists.{upto, among, those, position, least, greatest, joined}
use Rattle.lineage.specs.Labels.{Order, in_order, Forest, nobodys_child, forest_of, finished, subtree, outer, Labelling, labels_by, labelling}
use Rattle.lineage.specs.Sound.{child_of}
use Rattle.laws.specs.Visits.{Visits}
use Rattle.laws.specs.Sound.{SoundLabelling, SoundGroups}
use Rattle.laws.proofs.Lists.{those_pass, those_keep, map_same, in_upto, upto_low, length_upto, table_at, table_long}
use Rattle.laws.proofs.Positions.{position_low, at_position, in_get_d, greatest_in}
use Rattle.laws.proofs.Joined.{joined_in}
use Rattle.laws.specs.Rising.{Distinct}
use Rattle.laws.proofs.Rising.{position_get_d, rises_upto, rises_distinct, pigeonhole}
use Rattle.laws.proofs.Grouped.{group_name, groups_distinct, child_in, levels_fall}
use Rattle.laws.proofs.Traversal.{unique, next_in, forest_visits}
use Rattle.laws.proofs.Visited.{held, listed, followed, distinct, from_todo}
use Rattle.laws.proofs.Closed.{leads_keeps}
use Rattle.laws.specs.Visits.{before}
use Rattle.laws.proofs.Ranks.{m_made, inner_law}
use Rattle.laws.proofs.Forests.{Fits, entered, entered_finished, member_m}
use Rattle.laws.proofs.Fitted.{visits_fits, visits_fall}
use Rattle.laws.proofs.Walks.{ranking_of, fits_walk, fits_block}
use Rattle.laws.proofs.Outer.{outer_is, outer_meets}
use Rattle.laws.proofs.Orders.{places_low, places_all}

module _
    {names groups levels : List ℕ} {children : List (List ℕ)} (S : SoundGroups names groups levels children)
    (order : List ℕ) (o : Order (length names) order)
  where
    abbrev k : ℕ
    k = length children

    abbrev ranked : List ℕ
    ranked = in_order order groups

    ranked_low : (p : ℕ) → among p ranked ≡ true → p < k
    ranked_low p i = omega (arith, S.children_long, places_low groups order p i)

    ranked_all : (p : ℕ) → p < k → among p ranked ≡ true
    ranked_all p h = places_all groups order (groups_distinct S) p (omega (arith, S.children_long)) (o.all (get_or groups p 0) (group_name S p h).0)

    -- the traversal
    abbrev forest : Forest
    forest = forest_of children ranked

    visits : Visits (next_in children ranked) (those (nobodys_child children) ranked) [] forest
    visits = forest_visits children ranked (upto k) (λ q i. in_upto k q (ranked_low q i)) (omega (arith, length_upto k))

    -- there is no other
    pub forest_unique : (f : Forest) → Visits (next_in children ranked) (those (nobodys_child children) ranked) [] f → f ≡ forest
    forest_unique f v = unique v visits

    -- it visits every group, since going up from child to parent ends at a group that is nobody's child
    visited : (b p : ℕ) → p < k → greatest levels < b + get_or levels p 0 → among p (finished forest) ≡ true
    unfolding nobodys_child
    visited zero p h l = absurd (omega (arith, greatest_in levels p (omega (arith, S.levels_long))))
    visited (suc b) p h l = at (nobodys_child children p) refl (visited b)
      where
        at :
            (t : Bool) → nobodys_child children p ≡ t
            → ((q : ℕ) → q < k → greatest levels < b + get_or levels q 0 → among q (finished forest) ≡ true)
            → among p (finished forest) ≡ true
        at true e ih = held forest p (listed visits p (those_keep (nobodys_child children) p ranked e (ranked_all p h)))
        at false e ih =
            let (q, j, c) = joined_in children p (not-false (among p (joined children)) e) in
            held forest p (followed visits q p (ih q j (omega (arith, levels_fall S q p j c))) (those_keep (child_of children q) p ranked c (ranked_all p h)))

    pub finished_all : (p : ℕ) → p < k → among p (finished forest) ≡ true
    finished_all p h = visited (suc (greatest levels)) p h (omega arith)

    -- only groups, and each once
    pub finished_low : (p : ℕ) → among p (finished forest) ≡ true → p < k
    finished_low p i =
        let (q, j, l) = from_todo visits p i in
        leads_keeps (λ x. x < k) (λ x y h c. ranked_low y (those_pass (child_of children x) y ranked c).1) l
        (ranked_low q (those_pass (nobodys_child children) q ranked j).1)

    pub finished_once : Distinct (finished forest)
    finished_once = distinct visits

    finished_count : length (finished forest) ≡ k
    finished_count =
        omega (
          arith,
          length_upto k,
          pigeonhole (finished forest) (upto k) finished_once (λ x i. in_upto k x (finished_low x i)),
          pigeonhole (upto k) (finished forest) (rises_distinct (upto k) (rises_upto k)) (λ x i. finished_all x (upto_low k x i)),
        )

    -- the labelling
    abbrev l : Labelling
    l = labelling groups children order

    abbrev e : ℕ → ℕ
    e p = get_or l.e p 0

    abbrev m : ℕ → ℕ
    m p = get_or l.m p 0

    abbrev s : ℕ → ℕ
    s p = get_or l.s p 0

    by_rank : l.by_rank ≡ finished forest
    unfolding labelling labels_by
    by_rank = refl

    -- a place, bounded as the labelling bounds it
    within : {p : ℕ} → p < k → p < length groups
    within h = omega (arith, S.children_long)

    -- e is the rank, counted from 1 as groups are finished
    pub e_is : (p : ℕ) → p < k → e p ≡ suc (position p (finished forest))
    unfolding labelling labels_by
    e_is p h = table_at (λ q. suc (position q (finished forest))) (length groups) p 0 (within h)

    -- m is one more than what was finished before the group was entered
    pub m_is : (p : ℕ) → p < k → m p ≡ suc (length (before p forest))
    unfolding labelling labels_by
    m_is p h =
        table_at (λ q. least (e q) (map e (subtree q forest))) (length groups) p 0 (within h)
        ∙ m_made forest finished_once p (finished_all p h) e (λ q i. e_is q (finished_low q i))

    -- the inner interval holds the ranks of the group's subtree, and no others
    pub inner_exactly : (p t : ℕ) → p < k → t < k → ((m p ≤ e t) × (e t ≤ e p)) ↔ (among t (subtree p forest) ≡ true)
    inner_exactly p t h j =
        let (to, from) = inner_law forest finished_once p (finished_all p h) t (finished_all t j) in (
          (λ i. to (omega (arith, m_is p h, e_is t j), omega (arith, e_is p h, e_is t j))),
          λ i. omega (arith, from i, m_is p h, e_is p h, e_is t j),
        )

    fits : Fits (ranking_of children l) (nobodys_child children) forest 0 k
    fits =
        visits_fits (ranking_of children l) 0 k (λ p q i. (those_pass (child_of children p) q ranked i).0) visits
        (λ q i. (those_pass (nobodys_child children) q ranked i).0) finished_once
        record {
          low = finished_low;
          e_is = λ x i. omega (arith, e_is x (finished_low x i));
          m_is = λ x i. omega (arith, m_is x (finished_low x i));
        }
        (omega (arith, finished_count))

    e_falls : (p q : ℕ) → p < k → child_of children p q ≡ true → e q < e p
    e_falls p q h i =
        visits_fall (ranking_of children l) (next_in children ranked) (λ x. get_or levels x 0)
        (λ x y j c. levels_fall S x y j (those_pass (child_of children x) y ranked c).0) (suc (greatest levels)) visits fits
        (λ x j. most x (ranked_low x (those_pass (nobodys_child children) x ranked j).1))
        (λ x j. absurd (false≢true j)) p q (finished_all p h) (those_keep (child_of children p) q ranked i (ranked_all q (child_in S p q h i)))
      where
        most : (x : ℕ) → x < k → get_or levels x 0 < suc (greatest levels)
        most x z = omega (arith, greatest_in levels x (omega (arith, S.levels_long)))

    at_rank : (p r : ℕ) → p < k → e p ≡ suc r → get_or l.by_rank r 0 ≡ p
    at_rank p r h i =
        let r-is : r ≡ position p (finished forest) = omega (arith, e_is p h) in
        rw (by_rank, r-is) (at_position p (finished forest) (finished_all p h))

    s_is : (p : ℕ) → p < k → s p ≡ outer children l.e (length groups) p
    unfolding labelling labels_by
    s_is p h = table_at (outer children l.e (length groups)) (length groups) p 0 (within h)

    e_most : (p : ℕ) → p < k → e p ≤ k
    e_most p h = omega (arith, e_is p h, position_low p (finished forest) (finished_all p h), finished_count)

    s_meets : (p : ℕ) → p < k → s p ≡ least (e p) (map s (get_or children p []))
    s_meets p h =
        s_is p h
        ∙ outer_meets children l.e (λ q i. omega (arith, e_is q i)) (child_in S) e_falls (length groups) p h (omega (arith, e_most p h, S.children_long))
        ∙ ap (least (e p)) (map_same (outer children l.e (length groups)) s (get_or children p []) (λ q i. sym (s_is q (child_in S p q h i))))

    long : (length l.s ≡ length groups) × (length l.m ≡ length groups) × (length l.e ≡ length groups)
    unfolding labelling labels_by
    long = (
      table_long (outer children l.e (length groups)) (length groups),
      table_long (λ q. least (e q) (map e (subtree q forest))) (length groups),
      table_long (λ q. suc (position q (finished forest))) (length groups),
    )

    at_low : (r : ℕ) → r < k → get_or l.by_rank r 0 < k
    at_low r h = rw by_rank (finished_low (get_or (finished forest) r 0) (in_get_d (finished forest) r (omega (arith, finished_count))))

    e_at : (r : ℕ) → r < k → e (get_or l.by_rank r 0) ≡ suc r
    e_at r h =
        e_is (get_or l.by_rank r 0) (at_low r h)
        ∙ rw by_rank (ap suc (position_get_d (finished forest) finished_once r (omega (arith, finished_count))))

    in_entered : (p : ℕ) → p < k → among p (entered forest) ≡ true
    in_entered p h = rw (entered_finished p forest) (finished_all p h)

    -- so the labelling under an order passes the tests
    pub labelling_sound : SoundLabelling children (labelling groups children order)
    labelling_sound =
        record {
          s_long = long.0 ∙ sym S.children_long;
          m_long = long.1 ∙ sym S.children_long;
          e_long = long.2 ∙ sym S.children_long;
          at_long = rw by_rank finished_count;
          at_low = at_low;
          e_at = e_at;
          falls = e_falls;
          outer_is = s_meets;
          m_low = λ p h. omega (arith, m_is p h);
          m_high = λ p h. member_m fits p (in_entered p h);
          blocks = λ p h. fits_block children l at_rank fits p (in_entered p h);
          roots = fits_walk children l at_rank fits;
        }

    -- and whatever meets the three equations is the labelling
    pub labels_are_lem :
        (s' m' e' : List ℕ) → length s' ≡ k → length m' ≡ k → length e' ≡ k → ((p : ℕ) → p < k → get_or m' p 0 ≡ suc (length (before p forest)))
        → ((p : ℕ) → p < k → get_or e' p 0 ≡ suc (position p (finished forest)))
        → ((p : ℕ) → p < k → get_or s' p 0 ≡ least (suc (position p (finished forest))) (map (λ q. get_or s' q 0) (get_or children p [])))
        → record { s = s'; m = m'; e = e'; by_rank = finished forest } ≡ labelling groups children order
    labels_are_lem s' m' e' s_long m_long e_long m-meets e-meets s-meets' =
        λ i. record {
          s = ext_get_or 0 s' l.s (s_long ∙ sym (long.0 ∙ sym S.children_long)) (λ p h. same_s p (omega arith)) i;
          m = ext_get_or 0 m' l.m (m_long ∙ sym (long.1 ∙ sym S.children_long)) (λ p h. let j : p < k = omega arith in m-meets p j ∙ sym (m_is p j)) i;
          e = ext_get_or 0 e' l.e (e_long ∙ sym (long.2 ∙ sym S.children_long)) (λ p h. let j : p < k = omega arith in e-meets p j ∙ sym (e_is p j)) i;
          by_rank = sym by_rank i;
        }
      where
        same_s : (p : ℕ) → p < k → get_or s' p 0 ≡ s p
        same_s p h =
            sym (outer_is children l.e (λ q i. omega (arith, e_is q i)) (child_in S) e_falls (λ q. get_or s' q 0)
            (λ q i. s-meets' q i ∙ ap (λ z. least z (map (λ x. get_or s' x 0) (get_or children q []))) (sym (e_is q i))) (length groups) p h (omega (arith, e_most p h, S.children_long)))
            ∙ sym (s_is p h)
