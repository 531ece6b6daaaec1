-- Two edge lists with the same groups and the same children of groups come to the same index under the same orders. Names follow from groups. Of two names, the
-- one's group is a child of the other's exactly where the test for a child holds, so the rows of children are filtered by equal tests.
use mathlib.Core.Bool.{Bool, true, false}
use mathlib.Core.Logic.Iff
use mathlib.Core.Logic.{◌↔◌}
use mathlib.Core.Path.{◌≡◌, refl, sym, ap, ◌∙◌}
use mathlib.Core.List.{List}
use Prim.Native.Nat.{ℕ, ◌<◌}
use native.Mathlib.Omega.{arith}
use lib.ListN.{length, get_or}
use Rattle.lineage.specs.Lists.{upto, among}
use Rattle.lineage.specs.Graph.{Graph, Ends, names_of, group_list, is_child, children_of, condense}
use Rattle.lineage.specs.Index.{index_of}
use Rattle.laws.specs.Leads.{OneGroup}
use Rattle.laws.proofs.Lists.{those_same, map_same, upto_low}
use Rattle.laws.proofs.Positions.{in_get_d}
use Rattle.laws.proofs.Edges.{child_to, child_from}
use Rattle.laws.proofs.Names.{name_one, names_long, name_at_lem}
use Rattle.laws.proofs.Grouped.{listed_name}
use Rattle.laws.proofs.Depends.{index_same}
use Rattle.laws_same.specs.Same.{ChildGroup, SameLineage}
use Rattle.laws_same.proofs.Names.{names_by_groups}

-- two tests of which each holds where the other does
pub tests_same : (a b : Bool) → (a ≡ true) ↔ (b ≡ true) → a ≡ b
tests_same true b h = sym (h.0 refl)
tests_same false true h = h.1 refl
tests_same false false h = refl

module _ (G : Graph) (ends : Ends G) (names : List ℕ) (are : names ≡ names_of G) where
  -- a name of the group list is a vertex and its own name
  pub listed_own : (a : ℕ) → among a (group_list names) ≡ true → (a < G.n) × (get_or names a 0 ≡ a)
  listed_own a i = let (l, own) = listed_name names a i in (omega (arith, names_long G ends, ap length are), own)

  -- vertices have one name exactly where they are in one group
  one_name : (u v : ℕ) → u < G.n → v < G.n → (get_or names u 0 ≡ get_or names v 0) ↔ OneGroup G u v
  one_name u v hu hv = rw (are, name_at_lem G ends u hu, name_at_lem G ends v hv) (name_one G ends u v hu hv)

  -- of two names, the one's group is a child of the other's exactly where the test says so
  module _ (a b : ℕ) (la : a < G.n) (lb : b < G.n) (na : get_or names a 0 ≡ a) (nb : get_or names b 0 ≡ b) where
    child_to_group : is_child G names a b ≡ true → ChildGroup G a b
    child_to_group c =
        let (apart, s, t, e, es, et) = child_to G names a b c in
        record {
          apart = λ m. apart (sym na ∙ (one_name a b la lb).1 m ∙ nb);
          s = s;
          t = t;
          edge = e;
          from = (one_name a s la (ends.sources_low s t e)).0 (na ∙ sym es);
          into = (one_name b t lb (ends.targets_low s t e)).0 (nb ∙ sym et);
        }

    group_to_child : ChildGroup G a b → is_child G names a b ≡ true
    group_to_child c =
        child_from G names a b (λ e. c.apart ((one_name a b la lb).0 (na ∙ e ∙ sym nb))) c.edge
        (sym ((one_name a c.s la (ends.sources_low c.s c.t c.edge)).1 c.from) ∙ na)
        (sym ((one_name b c.t lb (ends.targets_low c.s c.t c.edge)).1 c.into) ∙ nb)

    pub child_exactly : (is_child G names a b ≡ true) ↔ ChildGroup G a b
    child_exactly = (child_to_group, group_to_child)

module _ (G H : Graph) (ends-G : Ends G) (ends-H : Ends H) (size : G.n ≡ H.n) (same : SameLineage G H) where
  abbrev names : List ℕ
  names = names_of G

  abbrev gs : List ℕ
  gs = group_list names

  names_same : names ≡ names_of H
  names_same = names_by_groups G H ends-G ends-H size same.groups

  -- the two tests for a child are equal
  child_same : (a b : ℕ) → among a gs ≡ true → among b gs ≡ true → is_child G names a b ≡ is_child H names a b
  child_same a b i j =
      let (la, na) = listed_own G ends-G names refl a i in
      let (lb, nb) = listed_own G ends-G names refl b j in
      tests_same _ _
      (Iff.trans (child_exactly G ends-G names refl a b la lb na nb)
      (Iff.trans (same.children a b la lb) (Iff.symm (child_exactly H ends-H names names_same a b (omega arith) (omega arith) na nb))))

  children_same : children_of G names gs ≡ children_of H names gs
  unfolding children_of
  children_same =
      map_same _ _ gs (λ a i. those_same _ _ (upto (length gs)) (λ q j. child_same a (get_or gs q 0) i (in_get_d gs q (upto_low (length gs) q j))))

  -- the same index, under the same orders
  pub lineage_same : (orders : List (List ℕ)) → index_of G orders ≡ index_of H orders
  unfolding condense
  lineage_same = index_same G H names_same (children_same ∙ ap (λ (ns : List ℕ). children_of H ns (group_list ns)) names_same)
