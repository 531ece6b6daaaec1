-- The children of an index are the child groups of every graph that yields it: a row holds the places of those names whose group is a child by the test, and of two
-- names the test tells whether the one's group is a child of the other's.
use mathlib.Core.Bool.{true}
use mathlib.Core.Logic.Iff
use mathlib.Core.Logic.{◌↔◌}
use mathlib.Core.Path.{◌≡◌, refl, subst}
use mathlib.Core.List.{List}
use Prim.Native.Nat.{ℕ, ◌<◌}
use native.Mathlib.Omega.{arith}
use lib.ListN.{length, get_or}
use Rattle.lineage.specs.Lists.{upto}
use Rattle.lineage.specs.Graph.{Graph, Ends, names_of, group_list, is_child, children_of, condense}
use Rattle.lineage.specs.Index.{Index, index_by, index_of, Made}
use Rattle.lineage.specs.Sound.{child_of}
use Rattle.laws.proofs.Lists.{those_pass, those_keep, in_upto}
use Rattle.laws.proofs.Positions.{in_get_d}
use Rattle.laws.proofs.Condensed.{children_long, children_at_lem}
use Rattle.laws_same.specs.Same.{ChildGroup}
use Rattle.laws_same.proofs.Lineage.{listed_own, child_exactly}

module _ (G : Graph) (ends : Ends G) where
  abbrev names : List ℕ
  names = names_of G

  abbrev groups : List ℕ
  groups = group_list names

  abbrev children : List (List ℕ)
  children = children_of G names groups

  row_exactly : (p q : ℕ) → p < length groups → q < length groups → (child_of children p q ≡ true) ↔ (is_child G names (get_or groups p 0) (get_or groups q 0) ≡ true)
  row_exactly p q h j = (
    λ i. (those_pass (λ x. is_child G names (get_or groups p 0) (get_or groups x 0)) q (upto (length groups)) (rw (children_at_lem G ends p h) at i)).0,
    λ c. rw (children_at_lem G ends p h) (those_keep (λ x. is_child G names (get_or groups p 0) (get_or groups x 0)) q (upto (length groups)) c (in_upto (length groups) q j)),
  )

  children_exactly :
      (p q : ℕ) → p < length children → q < length children → (child_of children p q ≡ true) ↔ ChildGroup G (get_or groups p 0) (get_or groups q 0)
  children_exactly p q h j =
      let lp : p < length groups = omega (arith, children_long G ends) in
      let lq : q < length groups = omega (arith, children_long G ends) in
      let (la, na) = listed_own G ends names refl (get_or groups p 0) (in_get_d groups p lp) in
      let (lb, nb) = listed_own G ends names refl (get_or groups q 0) (in_get_d groups q lq) in
      Iff.trans (row_exactly p q lp lq) (child_exactly G ends names refl (get_or groups p 0) (get_or groups q 0) la lb na nb)

pub made_children :
    {I : Index} (M : Made I) (p q : ℕ) → p < length I.children → q < length I.children
    → (child_of I.children p q ≡ true) ↔ ChildGroup M.graph (get_or I.groups p 0) (get_or I.groups q 0)
unfolding index_of index_by condense
made_children M p q =
    subst
    (λ (J : Index). p < length J.children → q < length J.children → (child_of J.children p q ≡ true) ↔ ChildGroup M.graph (get_or J.groups p 0) (get_or J.groups q 0))
    M.yields (children_exactly M.graph M.ends p q)
