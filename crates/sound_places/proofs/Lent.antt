-- The sections of stored bytes whose contents are sound are what a question and a list are lent.
use mathlib.Core.Bool.{Bool, true, not, ◌&&◌, ◌||◌}
use mathlib.Core.Path.{◌≡◌, ◌∙◌}
use mathlib.Core.List.{List}
use Prim.Native.Nat.{ℕ, ◌+◌}
use lib.Dec.{eqb}
use Rattle.lineage.specs.Numbers.{numbers}
use Rattle.lineage.specs.Stored.{header_at, form_of}
use Rattle.lineage.specs.Sound.{is_tree, starts_pass, sound, contents_sound}
use Rattle.laws.proofs.Tests.{and_left, and_right}
use Rattle.stored_header.specs.declared.Layout.{Layout}
use Rattle.stored_header.specs.Header.{Laid}
use Rattle.stored.specs.Sections.{Six, index_at}
use Rattle.stored.proofs.Contents.{contents_are}
use Rattle.sound_places.specs.Lent.{Lent}

pub lent : {b : List ℕ} {l : Layout} {names groups levels starts children labels : List ℕ}
    → Laid b l → Six b l names groups levels starts children labels → contents_sound (form_of (header_at b 0)) b ≡ true → Lent l names groups levels starts children labels
lent {l = l} {names} {groups} {levels} {starts} {children} {labels} L S h =
    let passes : Bool = starts_pass (numbers l.width starts (l.k + 1)) l.k l.c in
    let whole : Bool = sound (index_at l names groups levels starts children labels) in
    let plain : Bool = not (eqb l.stride 2) || is_tree (index_at l names groups levels starts children labels).children in
    let all : (passes && (whole && plain)) ≡ true = contents_are L S ∙ h in
    record {
      width = L.width;
      stride = L.stride;
      vertices_few = L.vertices;
      groups_few = L.groups;
      labellings_some = L.least;
      labellings_few = L.most;
      names_long = S.names_in.long;
      groups_long = S.groups_in_lem.long;
      levels_long = S.levels_in.long;
      starts_long = S.starts_in.long;
      children_long = S.children_in_lem.long;
      labels_long = S.labels_in.long;
      starts_sound = and_left passes (whole && plain) all;
      index_sound = and_left whole plain (and_right passes (whole && plain) all);
    }
