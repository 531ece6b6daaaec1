-- What the sections of sound bytes hold, as the index has it: the names of its groups, its labellings, and of the first of them s, e and the places by rank.
use mathlib.Core.Bool.{Bool, false, not, cond}
use mathlib.Core.Path.{◌≡◌, sym, ap, ◌∙◌}
use mathlib.Core.List.{List, [], ◌∷◌}
use Prim.Native.Nat.{ℕ, ◌+◌, ◌-◌, ◌*◌, ◌≤◌, ◌<◌}
use native.Mathlib.Nat.{not-suc-le-zero}
use native.Mathlib.Omega.{arith}
use lib.ListN.{length, get_or}
use Rattle.lineage.specs.Labels.{Labelling}
use Rattle.lineage.specs.Index.{Index}
use Rattle.lineage.specs.Numbers.{Width, num_at, numbers}
use Rattle.lineage.specs.Question.{outside, some_labelling}
use Rattle.lineage.specs.Calls.{index_in}
use Rattle.laws.specs.Sound.{SoundLabelling}
use Rattle.laws.proofs.Lists.{table_at}
use Rattle.laws.proofs.Inverse.{e_most}
use Rattle.laws_answers.specs.Answers.{Member, front}
use Rattle.laws_answers.proofs.Members.{every_member}
use Rattle.laws_exceptions.specs.Exceptions.{contains}
use Rattle.laws_exceptions.proofs.Ranks.{s_some, s_most}
use Rattle.numbers.specs.Regions.{Part}
use Rattle.numbers.proofs.Numbers.{room, numbers_at}
use Rattle.stored_header.specs.declared.Layout.{Layout}
use Rattle.stored_header.specs.Header.{Laid}
use Rattle.stored.specs.Sections.{Section, Six, children_in, Labellings, labelling_in, tuples_of, places_of, labels_in, index_from}
use Rattle.stored.proofs.Contents.{stretch_of, whole, with_rows, index_at_lem, children_many}
use Rattle.stored.proofs.Sections.{s_at, e_at}
use Rattle.stored_header.proofs.Laid.{k_is}
use Rattle.sound_places.specs.Lent.{SoundBytes, Lent}
use Rattle.sound_places.proofs.Lent.{lent}
use Rattle.reach.specs.Marks.{first_labels}
use Rattle.reach.proofs.Fitted.{index_sound, labels_some, names_count, spots, ranked}

-- the first of some labellings is one of them
first_of_lem : (labels : List Labelling) → 0 < length labels → Member (first_labels labels) labels
first_of_lem [] h = absurd (not-suc-le-zero h)
first_of_lem (l ∷ labels) h = front

-- The sections of bytes, of which only some are read.
module _ {b : List ℕ} {l : Layout} (L : Laid b l) where
  -- the group list, or it and the labels
  pub with_groups : {groups : List ℕ} → Section b l 1 groups → Six b l (stretch_of L 0) groups (stretch_of L 2) (stretch_of L 3) (stretch_of L 4) (stretch_of L 5)
  with_groups G = with_rows L G (whole L 5 (omega arith)) (whole L 3 (omega arith)) (whole L 4 (omega arith))

  pub with_labels_lem :
      {groups labels : List ℕ} → Section b l 1 groups → Section b l 5 labels → Six b l (stretch_of L 0) groups (stretch_of L 2) (stretch_of L 3) (stretch_of L 4) labels
  with_labels_lem G M = with_rows L G M (whole L 3 (omega arith)) (whole L 4 (omega arith))

module _ {b : List ℕ} {l : Layout} (O : SoundBytes b l) where
  pub first_in : Member (first_labels (index_in b).labels) (index_in b).labels
  first_in = first_of_lem (index_in b).labels (labels_some O)

  pub places_many : length (index_in b).children ≡ l.k
  places_many = children_many b ∙ sym (k_is O.laid)

  pub groups_many : length (index_in b).groups ≡ l.k
  groups_many = sym (index_sound O).condensed.children_long ∙ places_many

  -- of marks that are as many as there are vertices
  pub room_there : {marks : ℕ} → l.n ≤ marks → length (index_in b).names ≤ marks
  room_there h = omega (arith, names_count O)

module _
    {b : List ℕ} {l : Layout} {names groups levels starts children labels : List ℕ}
    (O : SoundBytes b l) (P : Six b l names groups levels starts children labels)
  where
    abbrev w : ℕ
    w = l.width

    abbrev z : ℕ
    z = l.stride

    abbrev k : ℕ
    k = l.k

    abbrev d : ℕ
    d = l.d

    abbrev I : Index
    I = index_in b

    S : Lent l names groups levels starts children labels
    S = lent O.laid P O.contents

    -- the index's own lists
    pub groups_are_lem : numbers w groups k ≡ I.groups
    unfolding index_from
    groups_are_lem = ap (λ (x : Index). x.groups) (index_at_lem O.laid P)

    pub children_are : children_in w starts children k l.c ≡ I.children
    unfolding index_from
    children_are = ap (λ (x : Index). x.children) (index_at_lem O.laid P)

    pub labels_are_lem : labels_in w z labels k d ≡ I.labels
    unfolding index_from
    labels_are_lem = ap (λ (x : Index). x.labels) (index_at_lem O.laid P)

    -- what is told by the labels is told by the index
    pub test_was : {r : Bool} (a : Bool) (x y : ℕ) → r ≡ cond a false (not (some_labelling (outside x y) (labels_in w z labels k d))) → r ≡ cond a false (contains I x y)
    test_was a x y e = rw labels_are_lem at e

    -- labels that can be read, and a group's name
    pub labelled : Labellings w z labels k d
    labelled = record {
      width = S.width;
      stride = S.stride;
      groups_few = omega (arith, S.vertices_few, S.groups_few);
      labellings_few = S.labellings_few;
      long = omega (arith, S.labels_long);
    }

    pub name_read : {p : ℕ} → p < k → record { width : Width w; w_in_bounds : w * p + w ≤ length groups }
    name_read {p} h = record { width = S.width; w_in_bounds = room w p k (length groups) h (omega (arith, S.groups_long)) }

    pub name_low : {p v marks : ℕ} → p < k → v ≡ num_at w groups p → l.n ≤ marks → v < marks
    name_low {p} {marks = marks} h e room = omega (arith, (spots O P marks room).name_low p h)

    pub name_was : {p v : ℕ} → p < k → v ≡ num_at w groups p → v ≡ get_or I.groups p 0
    name_was {p} h e = e ∙ sym (numbers_at w groups k p h) ∙ ap (λ (x : List ℕ). get_or x p 0) groups_are_lem

    -- the first labelling
    abbrev first : Labelling
    first = first_labels I.labels

    labelling_is : labelling_in w z (tuples_of w z labels k 0) (places_of w z labels k 0) k ≡ first
    unfolding labels_in
    labelling_is =
        sym (table_at (λ j. labelling_in w z (tuples_of w z labels k j) (places_of w z labels k j) k) d 0 _ O.laid.least) ∙ ap first_labels labels_are_lem

    module _ {tuples : List ℕ} (T : Part labels (w * (0 * ((z + 1) * k))) (w * (z * k)) tuples) {x : ℕ} (h : x < k) where
      pub s_was : {v : ℕ} → v ≡ num_at w tuples (z * x) → v ≡ get_or first.s x 0
      unfolding tuples_of
      s_was e =
          e
          ∙ ap (λ (s : List ℕ). num_at w s (z * x)) T.is
          ∙ sym (s_at w z (tuples_of w z labels k 0) (places_of w z labels k 0) k x h)
          ∙ ap (λ (m : Labelling). get_or m.s x 0) labelling_is

      -- s is a rank, e no less, and no more than there are groups
      pub s_least : {v : ℕ} → v ≡ num_at w tuples (z * x) → 1 ≤ v
      s_least e = omega (arith, s_was e, s_some I (index_sound O) (first_in O) x (omega (arith, places_many O)))

      pub e_was : {v : ℕ} → v ≡ num_at w tuples (z * x + (z - 1)) → v ≡ get_or first.e x 0
      unfolding tuples_of
      e_was e =
          e
          ∙ ap (λ (s : List ℕ). num_at w s (z * x + (z - 1))) T.is
          ∙ sym (e_at w z (tuples_of w z labels k 0) (places_of w z labels k 0) k x h)
          ∙ ap (λ (m : Labelling). get_or m.e x 0) labelling_is

      pub ranks_rise : {u v : ℕ} → u ≡ num_at w tuples (z * x) → v ≡ num_at w tuples (z * x + (z - 1)) → u ≤ v
      ranks_rise eu ev = omega (arith, s_was eu, e_was ev, s_most I (index_sound O) (first_in O) x (omega (arith, places_many O)))

      pub e_low : {v : ℕ} → v ≡ num_at w tuples (z * x + (z - 1)) → v ≤ k
      e_low ev =
          omega (
            arith,
            e_was ev,
            places_many O,
            e_most (every_member (SoundLabelling I.children) (index_sound O).labelled (first_in O)) x (omega (arith, places_many O)),
          )

    module _ {places : List ℕ} (R : Part labels (w * (0 * ((z + 1) * k) + z * k)) (w * k) places) {r : ℕ} (h : r < k) where
      pub place_read : record { width : Width w; w_in_bounds : w * r + w ≤ length places }
      place_read = record { width = S.width; w_in_bounds = room w r k (length places) h (omega (arith, R.long)) }

      pub place_low : {v : ℕ} → v ≡ num_at w places r → v < k
      place_low e = omega (arith, (ranked O P places R).place_low r h)

      pub place_was : {v : ℕ} → v ≡ num_at w places r → v ≡ get_or first.by_rank r 0
      unfolding labelling_in places_of
      place_was e =
          e
          ∙ ap (λ (s : List ℕ). num_at w s r) R.is
          ∙ sym (numbers_at w (places_of w z labels k 0) k r h)
          ∙ ap (λ (m : Labelling). get_or m.by_rank r 0) labelling_is
