-- What a question over added edges is to be, told of a graph alone (document 02, [10]).
use Rattle.std.specs.Prelude.{◌≡◌, List, ◌++◌, ℕ, length}
use Rattle.lineage.specs.Graph.{Graph}
use Rattle.added.specs.declared.Added.{Added}
use Rattle.added.specs.Adding.{most_added}

-- the edges of a graph together with the added ones
abbrev pub with_edges : Graph → (sources targets : List ℕ) → Graph
with_edges G sources targets = record { n = G.n; sources = G.sources ++ sources; targets = G.targets ++ targets }

-- a state holds 256 pairs, whatever its count: its two lists are arrays of that length
pub record Pairs (a : Added) : Type 0 where
  pub sources_long : length a.sources ≡ most_added
  pub targets_long : length a.targets ≡ most_added
