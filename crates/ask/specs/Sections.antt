-- The index that a question's sections hold, and what a walk over them goes by.
use Rattle.std.specs.Prelude.{◌≡◌, ℕ}
use Rattle.lineage.specs.Index.{Index}
use Rattle.stored.specs.Sections.{index_at}
use Rattle.ask_walk.specs.declared.towards.Towards.{Towards}
use Rattle.ask_walk.specs.Fit.{groups_in}
use Rattle.ask_walk.specs.Walks.{index_of_walk}
use Rattle.ask.specs.declared.sections.Sections.{Sections}

abbrev pub index_of_sections : Sections → Index
index_of_sections s = index_at s.layout s.names.now s.groups.now s.levels.now s.starts.now s.children.now s.labels.now

-- a goes over the groups of these sections towards t, with one mark for each vertex
pub record WalkTo (s : Sections) (t : ℕ) (a : Towards) : Type 0 where
  pub index : index_of_walk a ≡ groups_in s.layout.width s.layout.k s.layout.d s.groups.now s.levels.now s.starts.now s.children.now s.labels.now
  pub width : a.width ≡ s.layout.width
  pub groups : a.k ≡ s.layout.k
  pub target : a.t ≡ t
  pub marks : a.marks ≡ s.layout.n
