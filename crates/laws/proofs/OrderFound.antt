-- A labelling that passes the tests is that of some order. Its left walks are a forest on its ranks; under any order that lists the places as this
-- forest enters them, the traversal is this forest again, and so the ranks, m by its subtrees and s by its equation are the labelling's own.
use mathlib.Core.Bool.{true}
use mathlib.Core.Path.{◌≡◌, refl, sym, ap, ◌∙◌}
use mathlib.Core.List.{List, [], ◌++◌, map, append-nil}
use Prim.Native.Nat.{ℕ, suc, ◌<◌}
use native.Mathlib.Omega.{arith}
use lib.ListN.{length, get_or, drop}
use lib.Seq.{drop-length}
use Rattle.lineage.specs.Lists.{upto, among, those, position, least}
use Rattle.lineage.specs.Labels.{Order, in_order, Forest, nobodys_child, forest_of, finished, subtree, outer, Labelling, labels_by, labelling}
use Rattle.laws.specs.Visits.{Visits}
use Rattle.laws.specs.Sound.{SoundLabelling, SoundGroups}
use Rattle.laws.proofs.Lists.{table_is}
use Rattle.laws.proofs.Grouped.{listed_name, groups_rise, child_in}
use Rattle.laws.proofs.Traversal.{unique, next_in, forest_visits}
use Rattle.laws.proofs.Visited.{distinct}
use Rattle.laws.proofs.Ranks.{m_made}
use Rattle.laws.proofs.Forests.{Fits, entered, entered_finished, fits_count, member_low, rank_member}
use Rattle.laws.proofs.Walks.{ranking_of, forest, fits_before, fits_ranks}
use Rattle.laws.proofs.Inverse.{e_position, e_some, e_most, at_e, e_one}
use Rattle.laws.proofs.Outer.{outer_is}
use Rattle.laws.proofs.Orders.{order_for}
use Rattle.laws.proofs.Replay.{replayed}

module _
    {names groups levels : List ℕ} {children : List (List ℕ)} (S : SoundGroups names groups levels children)
    {l : Labelling} (L : SoundLabelling children l)
  where
    abbrev k : ℕ
    k = length children

    abbrev F : Forest
    F = (forest L).0

    abbrev e : ℕ → ℕ
    e p = get_or l.e p 0

    fits : Fits (ranking_of children l) (nobodys_child children) F 0 k
    fits = (forest L).1

    -- every place is entered, and only places
    entered_all : (p : ℕ) → p < k → among p (entered F) ≡ true
    entered_all p h = rank_member (e_one L) fits p h (e_some L p h) (e_most L p h)

    entered_low : (p : ℕ) → among p (entered F) ≡ true → p < k
    entered_low = member_low fits

    entered_count : length (entered F) ≡ k
    entered_count = omega (arith, fits_count fits)

    -- the traversal in that sequence is the forest again
    replays : Visits (next_in children (entered F)) (those (nobodys_child children) (entered F)) [] F
    replays =
        replayed (ranking_of children l) (entered F) (next_in children (entered F)) (λ p. refl) (e_one L) entered_low L.falls
        (nobodys_child children) F k fits refl (e_some L)

    same_forest : forest_of children (entered F) ≡ F
    same_forest = unique (forest_visits children (entered F) (entered F) (λ q i. i) (omega (arith, entered_count))) replays

    -- and so are the labels
    by_rank : finished F ≡ l.by_rank
    by_rank =
        let over : drop k l.by_rank ≡ [] = rw (← L.at_long) (drop-length l.by_rank) in
        sym (fits_ranks l.by_rank (at_e L) fits (omega (arith, L.at_long)) ∙ ap (finished F ++◌) over ∙ append-nil (finished F))

    abbrev ranks : List ℕ
    ranks = map (λ p. suc (position p (finished F))) (upto k)

    e_is : ranks ≡ l.e
    e_is = rw by_rank (table_is (λ p. suc (position p l.by_rank)) l.e k 0 L.e_long (e_position L))

    finished_low : (p : ℕ) → among p (finished F) ≡ true → p < k
    finished_low p i = entered_low p (rw (← entered_finished p F) at i)

    m_is : (p : ℕ) → p < k → least (e p) (map e (subtree p F)) ≡ get_or l.m p 0
    m_is p h =
        let i : among p (finished F) ≡ true = rw (entered_finished p F) at (entered_all p h) in
        let rank : (q : ℕ) → among q (finished F) ≡ true → e q ≡ suc (position q (finished F)) =
        λ q j. sym (e_position L q (finished_low q j)) ∙ ap (λ xs. suc (position q xs)) (sym by_rank) in
        omega (arith, m_made F (distinct replays) p i e rank, fits_before fits p i)

    labels_same : labels_by k children F ≡ l
    unfolding labels_by
    labels_same = λ i. record { s = s_is i; m = ms i; e = e_is i; by_rank = by_rank i }
      where
        s_is : map (outer children ranks k) (upto k) ≡ l.s
        s_is =
            rw e_is (table_is (outer children l.e k) l.s k 0 L.s_long
            (λ p h. outer_is children l.e (e_some L) (child_in S) L.falls (λ q. get_or l.s q 0) L.outer_is k p h (omega (arith, e_most L p h))))

        ms : map (λ p. least (get_or ranks p 0) (map (λ q. get_or ranks q 0) (subtree p F))) (upto k) ≡ l.m
        ms = rw e_is (table_is (λ p. least (e p) (map e (subtree p F))) l.m k 0 L.m_long m_is)

    same_labelling : (order : List ℕ) → in_order order groups ≡ entered F → labelling groups children order ≡ l
    unfolding labelling
    same_labelling order o =
        ap (λ (es : List ℕ). labels_by (length groups) children (forest_of children es)) o
        ∙ ap (labels_by (length groups) children) same_forest
        ∙ ap (λ (n : ℕ). labels_by n children F) (sym S.children_long)
        ∙ labels_same

    -- so some order makes the labelling
    pub order_found : (order : List ℕ) × Order (length names) order × (labelling groups children order ≡ l)
    order_found =
        let (order, o, i) =
        order_for groups (length names) (entered F) (rw S.groups_are_lem (groups_rise names))
        (λ v j. (listed_name names v (rw S.groups_are_lem at j)).0)
        (λ p j. omega (arith, S.children_long, entered_low p j)) (λ p h. entered_all p (omega (arith, S.children_long)))
        (omega (arith, S.children_long, entered_count)) in
        (order, o, same_labelling order i)
