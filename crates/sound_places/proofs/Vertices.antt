-- The groups of sound contents: the group list rises, and every vertex's group has a place.
use mathlib.Core.Bool.{true}
use mathlib.Core.Path.{◌≡◌, sym, ap, ◌∙◌}
use mathlib.Core.List.{List}
use Prim.Native.Nat.{ℕ, ◌<◌}
use native.Mathlib.Omega.{arith}
use lib.ListN.{length, get_or}
use Rattle.lineage.specs.Lists.{among}
use Rattle.lineage.specs.Graph.{place_of}
use Rattle.lineage.specs.Numbers.{num_at, numbers}
use Rattle.lineage.specs.Question.{place_in}
use Rattle.laws.specs.Sound.{SoundGroups}
use Rattle.laws.specs.Rising.{Rises}
use Rattle.laws.proofs.Grouped.{listed_name, groups_rise, name_group, place_low}
use Rattle.laws.proofs.Decides.{sound_decides}
use Rattle.numbers.proofs.Numbers.{numbers_long, numbers_at}
use Rattle.stored_header.specs.declared.Layout.{Layout}
use Rattle.stored.specs.Sections.{children_in, index_from, index_at}
use Rattle.stored.proofs.Sections.{children_long}
use Rattle.sound_places.specs.Lent.{Lent}

module _ {l : Layout} {names groups levels starts children labels : List ℕ} (S : Lent l names groups levels starts children labels) where
  abbrev w : ℕ
  w = l.width

  abbrev n : ℕ
  n = l.n

  abbrev k : ℕ
  k = l.k

  pub lent_sound : SoundGroups (numbers w names n) (numbers w groups k) (numbers w levels k) (children_in w starts children k l.c)
  unfolding index_from
  lent_sound = ((sound_decides (index_at l names groups levels starts children labels)).0 S.index_sound).condensed

  -- the group list rises
  pub list_rises : Rises (numbers w groups k)
  list_rises = rw lent_sound.groups_are_lem (groups_rise (numbers w names n))

  -- and names vertices
  pub list_low : (y : ℕ) → among y (numbers w groups k) ≡ true → y < n
  list_low y i = omega (arith, (listed_name (numbers w names n) y (rw lent_sound.groups_are_lem at i)).0, numbers_long w names n)

  -- the group of vertex u, whose name was read
  module _ {u name : ℕ} (h : u < n) (named : name ≡ num_at w names u) where
    name_is : name ≡ get_or (numbers w names n) u 0
    name_is = named ∙ sym (numbers_at w names n u h)

    low : u < length (numbers w names n)
    low = omega (arith, numbers_long w names n)

    pub name_listed : among name (numbers w groups k) ≡ true
    name_listed = rw name_is (name_group lent_sound u low)

    module _ {x : ℕ} (placed : x ≡ place_of (numbers w groups k) name) where
      pub vertex_low : x < k
      vertex_low = rw (placed, name_is) (omega (arith, children_long w starts children k l.c, place_low lent_sound u low))

      pub vertex_placed : x ≡ place_in (index_at l names groups levels starts children labels) u
      unfolding index_from
      vertex_placed = placed ∙ ap (place_of (numbers w groups k)) name_is
