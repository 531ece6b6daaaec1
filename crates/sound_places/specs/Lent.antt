-- Stored bytes whose contents are sound, and what a question and a list are lent of them: their six sections.
use Rattle.std.specs.Prelude.{true, ◌≡◌, List, ℕ, ◌+◌, ◌*◌, ◌≤◌, length}
use Rattle.lineage.specs.Numbers.{Width, numbers}
use Rattle.lineage.specs.Sound.{starts_pass, sound, contents_sound}
use Rattle.lineage.specs.Stored.{header_at, form_of, most_labellings}
use Rattle.numbers.specs.Bounds.{vertex_bound}
use Rattle.stored_header.specs.declared.Layout.{Layout}
use Rattle.stored_header.specs.Header.{Stride, Laid}
use Rattle.stored.specs.Sections.{index_at}

-- bytes of this layout, whose contents are sound
pub record SoundBytes (b : List ℕ) (l : Layout) : Type 0 where
  pub laid : Laid b l
  pub contents : contents_sound (form_of (header_at b 0)) b ≡ true

-- each section is as long as the layout says, the counts are within the bounds of every form, and the contents are sound
pub record Lent (l : Layout) (names groups levels starts children labels : List ℕ) : Type 0 where
  pub width : Width l.width
  pub stride : Stride l.stride
  pub vertices_few : l.n ≤ vertex_bound
  pub groups_few : l.k ≤ l.n
  pub labellings_some : 1 ≤ l.d
  pub labellings_few : l.d ≤ most_labellings
  pub names_long : length names ≡ l.width * l.n
  pub groups_long : length groups ≡ l.width * l.k
  pub levels_long : length levels ≡ l.width * l.k
  pub starts_long : length starts ≡ l.width * (l.k + 1)
  pub children_long : length children ≡ l.width * l.c
  pub labels_long : length labels ≡ l.width * (l.d * ((l.stride + 1) * l.k))
  pub starts_sound : starts_pass (numbers l.width starts (l.k + 1)) l.k l.c ≡ true
  pub index_sound : sound (index_at l names groups levels starts children labels) ≡ true

-- the same where each group has three numbers by place: what a question is lent
pub record InTriples (l : Layout) (names groups levels starts children labels : List ℕ) : Type 0 where
  pub lent : Lent l names groups levels starts children labels
  pub triples : l.stride ≡ 3
