-- The same edges make the same lineage. A step of a vertex to itself is no step, so a path of the one graph is a path of the other, and groups agree. An edge
-- into another group leads between different vertices, so it is an edge of both.
use mathlib.Core.Logic.Iff
use mathlib.Core.Path.{◌≡◌, sym, subst}
use Prim.Native.Nat.{ℕ}
use native.Mathlib.Decide.{ℕ_discrete}
use Rattle.lineage.specs.Graph.{Graph, Reaches, stay, step}
use Rattle.laws.specs.Leads.{OneGroup}
use Rattle.laws.proofs.Reaches.{reaches_on}
use Rattle.laws_same.specs.Same.{ChildGroup, SameLineage, SameEdges}

edges_turn : {G H : Graph} → SameEdges G H → SameEdges H G
edges_turn E = record { edges = λ u v apart. Iff.symm (E.edges u v apart) }

module _ {G H : Graph} (E : SameEdges G H) where
  path_kept : {u v : ℕ} → Reaches G u v → Reaches H u v
  path_kept stay = stay
  path_kept (step {u = u} {w = w} {v = v} e r) = at (ℕ_discrete u w) (path_kept r)
    where
      at : Dec (u ≡ w) → Reaches H w v → Reaches H u v
      at (yes same) p = subst (λ x. Reaches H x v) (sym same) p
      at (no apart) p = step ((E.edges u w apart).0 e) p

  group_kept : {u v : ℕ} → OneGroup G u v → OneGroup H u v
  group_kept m = (path_kept m.0, path_kept m.1)

-- a child by an edge of the one is a child by the same edge of the other
child_kept : {G H : Graph} → SameEdges G H → {u v : ℕ} → ChildGroup G u v → ChildGroup H u v
child_kept {G} {H} E {u} {v} c =
    record {
      apart = λ m. c.apart (group_kept (edges_turn E) m);
      s = c.s;
      t = c.t;
      edge = (E.edges c.s c.t (λ e. c.apart (one e))).0 c.edge;
      from = group_kept E c.from;
      into = group_kept E c.into;
    }
  where
    one : c.s ≡ c.t → OneGroup G u v
    one e =
        let m : OneGroup G u c.t = subst (OneGroup G u) e c.from in
        (reaches_on m.0 c.into.1, reaches_on c.into.0 m.1)

pub edges_lineage : {G H : Graph} → SameEdges G H → SameLineage G H
edges_lineage E = record {
  groups = λ u v hu hv. (group_kept E, group_kept (edges_turn E));
  children = λ u v hu hv. (child_kept E, child_kept (edges_turn E));
}
