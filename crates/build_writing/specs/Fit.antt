-- What is lent to each function fits together: the words are as many as the counts say, and what they are written as lies in the output.
use Rattle.std.specs.Prelude.{◌≡◌, List, ℕ, ◌+◌, ◌*◌, ◌^◌, ◌≤◌, ◌<◌, length}
use Rattle.lineage.specs.Lists.{Every}
use Rattle.lineage.specs.Numbers.{Width}
use Rattle.lineage.specs.Labels.{Labelling}
use Rattle.numbers.specs.Bounds.{vertex_bound}
use Rattle.stored_header.specs.declared.Layout.{Layout}
use Rattle.build_writing.specs.Words.{GroupLists}
use Rattle.stored_header.specs.Header.{Stride, counts, layout_by, header_of}

-- the z numbers of each place
pub record LabelsFit (out : List ℕ) (at w z : ℕ) (l : Labelling) : Type 0 where
  pub width : Width w
  pub stride : Stride z
  pub room : at + w * (z * length l.s) ≤ length out
  pub m_long : length l.m ≡ length l.s
  pub e_long : length l.e ≡ length l.s

-- and the places by rank
pub record LabellingFit (out : List ℕ) (at w z : ℕ) (l : Labelling) : Type 0 where
  pub width : Width w
  pub stride : Stride z
  pub room : at + w * ((z + 1) * length l.s) ≤ length out
  pub m_long : length l.m ≡ length l.s
  pub e_long : length l.e ≡ length l.s
  pub ranks_long : length l.by_rank ≡ length l.s
  pub few : length l.s ≤ vertex_bound

-- a layout that is laid out by its own counts, all of whose numbers are of 32 bits; and the five sections before the labels
pub record SectionsFit (out : List ℕ) (form : ℕ) (l : Layout) (lists : GroupLists) : Type 0 where
  pub width : Width l.width
  pub laid : l ≡ layout_by l.width l.stride (counts l.n l.k l.c l.d)
  pub small : Every (λ x. x < 2 ^ 32) (header_of form l)
  pub room : l.labels ≤ length out
  pub names_long : length lists.names ≡ l.n
  pub groups_long : length lists.groups ≡ l.k
  pub levels_long : length lists.levels ≡ l.k
  pub starts_long : length lists.starts ≡ l.k + 1
  pub children_long : length lists.children ≡ l.c
