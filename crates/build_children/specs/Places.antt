-- Children of groups that are told by their places: `place` gives for each vertex the place of its group, of k.
use Rattle.std.specs.Prelude.{List, ℕ}
use Rattle.lineage.specs.Lists.{upto, those}
use Rattle.lineage.specs.Graph.{Graph, is_child}

-- the children of p, rising: a group is a child of another, both by place, where they differ and some edge leads from the one into the other
abbrev pub child_places : Graph → List ℕ → ℕ → ℕ → List ℕ
child_places G place k p = those (is_child G place p) (upto k)
