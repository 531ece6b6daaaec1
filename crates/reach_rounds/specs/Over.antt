-- The edges that are added between two builds, over the groups of an index (document 02, [10]).
use Rattle.std.specs.Prelude.{Bool, List, [], ◌++◌, map, ℕ, length, get_or}
use Rattle.lineage.specs.Lists.{upto, joined}
use Rattle.lineage.specs.Graph.{Graph, reaches}
use Rattle.lineage.specs.Index.{Index}
use Rattle.lineage.specs.Question.{place_in}

-- the groups by place, with an edge to each child, and from the source's group of each added edge to its target's
abbrev pub groups_with : Index → (sources targets : List ℕ) → Graph
groups_with I sources targets =
    let places : List ℕ = upto (length I.children) in
    record {
      n = length I.children;
      sources = joined (map (λ p. map (λ q. p) (get_or I.children p [])) places) ++ map (place_in I) sources;
      targets = joined (map (λ p. map (λ q. q) (get_or I.children p [])) places) ++ map (place_in I) targets;
    }

-- yes exactly when a path exists over the indexed edges together with the added ones: one leads from u's group to v's, down children and along added edges
unfoldable pub added_says : Index → (sources targets : List ℕ) → ℕ → ℕ → Bool
unfolding reaches
added_says I sources targets u v = reaches (groups_with I sources targets) (place_in I u) (place_in I v)
