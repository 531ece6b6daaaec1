-- What the sections of sound contents give the sweep: they are fit for it, and what it reads of them is what the index has.
use mathlib.Core.Bool.{Bool, true, ◌&&◌}
use mathlib.Core.Path.{◌≡◌, refl, sym, ap, ap₂, ◌∙◌}
use mathlib.Core.List.{List}
use Prim.Native.Nat.{ℕ, ◌+◌, ◌-◌, ◌*◌, ◌≤◌, ◌<◌}
use native.Mathlib.Omega.{arith}
use lib.Dec.{eqb}
use lib.ListN.{length, get_or, set}
use Rattle.lineage.specs.Lists.{all_below, cleared}
use Rattle.lineage.specs.Numbers.{num_at, numbers}
use Rattle.lineage.specs.Index.{Index}
use Rattle.lineage.specs.Labels.{Labelling}
use Rattle.lineage.specs.Question.{place_in}
use Rattle.lineage.specs.Stored.{header_at, form_of}
use Rattle.lineage.specs.Calls.{index_in}
use Rattle.lineage.specs.Sound.{names_pass, row_passes, level_passes, groups_pass, sound}
use Rattle.laws.specs.Sound.{SoundLabelling, SoundGroups, Sound}
use Rattle.laws.proofs.Tests.{and_left, and_right}
use Rattle.laws.proofs.Grouped.{name_in, group_name}
use Rattle.laws.proofs.Lists.{table_at}
use Rattle.numbers.specs.Bounds.{entry_bound}
use Rattle.numbers.specs.Regions.{Part}
use Rattle.numbers.proofs.Numbers.{numbers_long, numbers_at}
use Rattle.stored_header.specs.declared.Layout.{Layout}
use Rattle.stored_header.proofs.Laid.{n_is, k_is, d_is}
use Rattle.stored.specs.Sections.{Six, children_in, labelling_in, tuples_of, places_of, labels_in, index_from, index_at}
use Rattle.stored.proofs.Sections.{children_long, e_at, labels_long}
use Rattle.stored.specs.Rows.{Holds}
use Rattle.stored.specs.Reading.{numbers_of}
use Rattle.sound_places.specs.Lent.{SoundBytes, Lent}
use Rattle.stored.proofs.Contents.{names_many, children_many, labels_many, contents_sound_lem, index_at_lem}
use Rattle.sound_places.proofs.Lent.{lent}
use Rattle.reach_sweep.specs.declared.groups.Ranks.{Ranks}
use Rattle.reach_sweep.specs.Fit.{names_of, children_of, Spots}
use Rattle.reach.specs.Fit.{Names, SpotsIn, RankedIn, RanksOf}
use Rattle.reach_sweep.specs.Sweep.{swept}
use Rattle.reach.specs.Marks.{first_labels, rank_in, mark_in, swept_in, reach_marks}
use Rattle.reach.proofs.Marked.{first_sound, rank_most}

-- what the test of an index says of its rows
rows_tested : (I : Index) → sound I ≡ true → all_below (length I.children) (row_passes I.children) ≡ true
unfolding sound groups_pass
rows_tested I h =
    let C : List (List ℕ) = I.children in
    let rows : Bool = all_below (length C) (row_passes C) in
    let heights : Bool = all_below (length C) (level_passes C I.levels) in
    let sized : Bool = eqb (length C) (length I.groups) && eqb (length I.levels) (length C) in
    and_left rows heights
    (and_right sized (rows && heights)
    (and_right (names_pass I.names I.groups) (sized && (rows && heights))
    (and_left (groups_pass I.names I.groups I.levels C) _ h)))

-- the index that the bytes hold is sound, and as long as the layout's counts
module _ {b : List ℕ} {l : Layout} (O : SoundBytes b l) where
  pub index_sound : Sound (index_in b)
  index_sound = contents_sound_lem (form_of (header_at b 0)) b O.contents

  pub labels_some : 0 < length (index_in b).labels
  labels_some = omega (arith, labels_many b, d_is O.laid, O.laid.least)

  pub names_count : length (index_in b).names ≡ l.n
  names_count = names_many b ∙ sym (n_is O.laid)

  -- vertex u
  module _ {u : ℕ} (h : u < l.n) where
    pub rank_low : rank_in (index_in b) u ≤ l.k
    rank_low = omega (arith, rank_most index_sound labels_some u (omega (arith, names_count)), children_many b, k_is O.laid)

    -- the sweep from its group
    pub reach_is :
        (before : List ℕ) {top : ℕ} {start after : List ℕ} → before ≡ cleared l.n before → start ≡ mark_in (index_in b) u before → top ≡ rank_in (index_in b) u
        → after ≡ swept_in (index_in b) top start → after ≡ reach_marks (index_in b) u before
    unfolding reach_marks
    reach_is before clear es et e =
        e ∙ ap₂ (swept_in (index_in b)) et (es ∙ ap (mark_in (index_in b) u) (clear ∙ ap (λ (m : ℕ). cleared m before) (sym names_count)))

-- its groups by rank
module _ {b : List ℕ} {l : Layout} (O : SoundBytes b l) {ranks : Ranks} (R : RanksOf (index_in b) l.k ranks) where
  -- they are fit for the sweep
  pub ranks_spots : (marks : ℕ) → l.n ≤ marks → Spots ranks.groups marks
  ranks_spots marks room = record {
    name_low = λ p h.
        let low : p < length (index_in b).children = omega (arith, R.many, children_many b, k_is O.laid) in
        omega (arith, ap (λ (s : List ℕ). get_or s p 0) R.names, (group_name (index_sound O).condensed p low).0, names_count O);
  }

  -- what the sweep over them leaves is what it leaves over the index
  pub swept_is :
      (top : ℕ) (before : List ℕ) {after : List ℕ} → after ≡ swept (names_of ranks.groups) (children_of ranks.groups) (numbers_of ranks.places) top before
      → after ≡ swept_in (index_in b) top before
  unfolding swept_in
  swept_is top before e = rw (← R.names, ← R.rows, ← R.by_rank) e

-- the sections that were read
module _
    {b : List ℕ} {l : Layout} {names groups levels starts children labels : List ℕ}
    (O : SoundBytes b l) (P : Six b l names groups levels starts children labels)
  where
    abbrev w : ℕ
    w = l.width

    abbrev z : ℕ
    z = l.stride

    abbrev n : ℕ
    n = l.n

    abbrev k : ℕ
    k = l.k

    abbrev c : ℕ
    c = l.c

    abbrev d : ℕ
    d = l.d

    abbrev I : Index
    I = index_at l names groups levels starts children labels

    pub index_is : index_in b ≡ I
    index_is = sym (index_at_lem O.laid P)

    S : Lent l names groups levels starts children labels
    S = lent O.laid P O.contents

    sound_index : Sound I
    sound_index = rw (← index_is) (index_sound O)

    -- its names are those of the section
    pub names_are : numbers w names n ≡ (index_in b).names
    unfolding index_from
    names_are = rw index_is refl

    sound_groups : SoundGroups (numbers w names n) (numbers w groups k) (numbers w levels k) (children_in w starts children k c)
    unfolding index_from
    sound_groups = sound_index.condensed

    holds : (s : List ℕ) (count : ℕ) → length s ≡ w * count → count ≤ entry_bound → Holds w s count
    holds s count e h = record { width = S.width; long = omega arith; few = h }

    rows_pass : all_below k (row_passes (children_in w starts children k c)) ≡ true
    unfolding index_from
    rows_pass = rw (children_long w starts children k c) at (rows_tested I S.index_sound)

    -- the sections are fit for the sweep
    name_low : (p : ℕ) → p < k → num_at w groups p < n
    name_low p h =
        omega (
          arith,
          numbers_at w groups k p h,
          numbers_long w names n,
          (group_name sound_groups p (omega (arith, children_long w starts children k c))).0,
        )

    pub spots : (marks : ℕ) → n ≤ marks → SpotsIn w k c groups starts children marks
    spots marks room = record {
      below = record {
        entries = record {
          rows = record { starts_held = record { held = holds starts (k + 1) S.starts_long (omega (arith, S.vertices_few, S.groups_few)) }; passed = S.starts_sound };
          held = holds children c S.children_long O.laid.entries;
        };
        passed = rows_pass;
      };
      groups_held = holds groups k S.groups_long (omega (arith, S.vertices_few, S.groups_few));
      name_low = λ p h. omega (arith, name_low p h);
    }

    pub spot_low : (marks : ℕ) → n ≤ marks → (p : ℕ) → p < k → get_or (numbers w groups k) p 0 < marks
    spot_low marks room p h = omega (arith, name_low p h, numbers_at w groups k p h)

    -- the first labelling is what its two stretches hold
    first_is : first_labels (labels_in w z labels k d) ≡ labelling_in w z (tuples_of w z labels k 0) (places_of w z labels k 0) k
    unfolding labels_in
    first_is = table_at (λ j. labelling_in w z (tuples_of w z labels k j) (places_of w z labels k j) k) d 0 _ O.laid.least

    first_labelled : SoundLabelling (children_in w starts children k c) (first_labels (labels_in w z labels k d))
    unfolding index_from
    first_labelled = first_sound I.children I.labels sound_index.labelled (omega (arith, labels_long w z labels k d, O.laid.least))

    module _ (places : List ℕ) (R : Part labels (w * (0 * ((z + 1) * k) + z * k)) (w * k) places) where
      pub places_are : (first_labels (labels_in w z labels k d)).by_rank ≡ numbers w places k
      unfolding labelling_in places_of
      places_are = ap (λ (x : Labelling). x.by_rank) first_is ∙ ap (λ (s : List ℕ). numbers w s k) (sym R.is)

      pub ranked : RankedIn w k places
      ranked = record {
        places_held = holds places k R.long (omega (arith, S.vertices_few, S.groups_few));
        place_low = λ r h.
            let all : length (children_in w starts children k c) ≡ k = children_long w starts children k c in
            omega (
              arith,
              numbers_at w places k r h,
              all,
              ap (λ (s : List ℕ). get_or s r 0) places_are,
              first_labelled.at_low r (omega arith),
            );
      }

      -- the place at a rank, as it is read
      pub rank_place : (r : ℕ) → r < k → get_or (numbers w places k) r 0 < k
      rank_place r h = omega (arith, ranked.place_low r h, numbers_at w places k r h)

      -- the groups of the index, and their places by rank
      pub ranks_are : (ranks : Ranks) → ranks.groups.rows.k ≡ k → names_of ranks.groups ≡ numbers w groups k
          → children_of ranks.groups ≡ children_in w starts children k c → numbers_of ranks.places ≡ numbers w places k → RanksOf (index_in b) k ranks
      unfolding index_from
      ranks_are ranks many names rows by_rank = record {
        many = many;
        names = names ∙ rw index_is refl;
        rows = rows ∙ rw index_is refl;
        by_rank = by_rank ∙ rw (index_is, places_are) refl;
      }

    module _ (tuples : List ℕ) (T : Part labels (w * (0 * ((z + 1) * k))) (w * (z * k)) tuples) where
      -- the rank of group p
      pub rank_is : {p : ℕ} → p < k → (u : ℕ) {r : ℕ} → p ≡ place_in (index_in b) u → r ≡ num_at w tuples (z * p + (z - 1)) → r ≡ rank_in (index_in b) u
      unfolding rank_in index_from tuples_of
      rank_is {p} low u placed e =
          e
          ∙ ap (λ (s : List ℕ). num_at w s (z * p + (z - 1))) T.is
          ∙ sym (e_at w z (tuples_of w z labels k 0) (places_of w z labels k 0) k p low)
          ∙ ap (λ (x : Labelling). get_or x.e p 0) (sym first_is)
          ∙ ap (λ (x : ℕ). get_or (first_labels (labels_in w z labels k d)).e x 0) placed
          ∙ ap (λ (J : Index). get_or (first_labels J.labels).e (place_in (index_in b) u) 0) (sym index_is)

    -- the names are fit for the list
    pub names_fit : (marks : ℕ) → n ≤ marks → Names w n names marks
    names_fit marks room = record {
      held = holds names n S.names_long (omega (arith, S.vertices_few));
      name_low = λ v h. omega (arith, numbers_at w names n v h, numbers_long w names n, name_in sound_groups v (omega (arith, numbers_long w names n)));
    }

    -- the group of vertex u, whose name was read
    module _ {u name : ℕ} (h : u < n) (named : name ≡ num_at w names u) where
      pub named_low : name < n
      named_low = omega (arith, (names_fit n (omega arith)).name_low u h)

      pub mark_is : (marks : List ℕ) → set marks name 1 ≡ mark_in (index_in b) u marks
      unfolding mark_in index_from
      mark_is marks = rw (index_is, named, ← numbers_at w names n u h)
