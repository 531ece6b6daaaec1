-- A question on the sections of a sound plain hierarchy: they are fit for the four rules, and what decides between the two vertices' groups is the question's answer.
use mathlib.Core.Bool.{Bool, false, ◌||◌, cond}
use mathlib.Core.Path.{◌≡◌, refl, sym, ap, subst, ◌∙◌}
use mathlib.Core.List.{List, ◌++◌}
use Prim.Native.Nat.{ℕ, ◌+◌, ◌*◌, ◌≤◌, ◌<◌}
use native.Mathlib.Omega.{arith}
use lib.Dec.{eqb, leb}
use lib.ListN.{length, get_or, replicate, drop}
use Rattle.lineage.specs.Lists.{Every, cleared}
use Rattle.lineage.specs.Numbers.{numbers}
use Rattle.lineage.specs.Labels.{Labelling}
use Rattle.lineage.specs.Index.{Index}
use Rattle.lineage.specs.Question.{place_in, between, answer}
use Rattle.lineage.specs.Calls.{answered, contents_check, index_in}
use Rattle.laws.specs.Sound.{SoundLabelling, Sound}
use Rattle.laws.proofs.Decides.{sound_decides}
use Rattle.laws_hierarchy.proofs.Contained.{outer_low}
use Rattle.numbers.proofs.Numbers.{numbers_long}
use Rattle.numbers.proofs.Cleared.{cleared_past}
use Rattle.stored_header.specs.declared.Layout.{Layout}
use Rattle.stored_header.specs.Header.{Laid}
use Rattle.stored.specs.Sections.{Section, Six, tuples_of, places_of, labels_in, index_from, index_at}
use Rattle.stored.proofs.Sections.{s_at, e_at, children_long}
use Rattle.stored.proofs.Contents.{index_at_lem, stretch_of, whole}
use Rattle.sound_places.specs.Lent.{SoundBytes, Lent}
use Rattle.sound_places.proofs.Lent.{lent}
use Rattle.ask.specs.declared.Asked.{Asked}
use Rattle.ask.specs.Replies.{answer_by}
use Rattle.ask.proofs.Refusals.{Replies, replies_answered}
use Rattle.hierarchy_labels.specs.Pairs.{by_reason, Pairs, Decides}
use Rattle.hierarchy_labels.specs.Turned.{labelling_of}
use Rattle.hierarchy_labels.proofs.Rules.{labels_one}
use Rattle.hierarchy.specs.Fit.{Plain}

module _ {b : List ℕ} {l : Layout} (S : SoundBytes b l) (P : Plain l) {levels labels : List ℕ} (E : Section b l 2 levels) (M : Section b l 5 labels) where
  abbrev L : Laid b l
  L = S.laid

  abbrev w : ℕ
  w = l.width

  abbrev k : ℕ
  k = l.k

  -- the sections that are not read
  abbrev names : List ℕ
  names = stretch_of L 0

  abbrev groups : List ℕ
  groups = stretch_of L 1

  abbrev starts : List ℕ
  starts = stretch_of L 3

  abbrev children : List ℕ
  children = stretch_of L 4

  six : Six b l names groups levels starts children labels
  six = record {
    names_in = whole L 0 (omega arith);
    groups_in_lem = whole L 1 (omega arith);
    levels_in = E;
    starts_in = whole L 3 (omega arith);
    children_in_lem = whole L 4 (omega arith);
    labels_in = M;
  }

  given : Lent l names groups levels starts children labels
  given = lent L six S.contents

  abbrev I : Index
  I = index_at l names groups levels starts children labels

  -- its levels, and its one labelling
  levels_are_lem : I.levels ≡ numbers w levels k
  unfolding index_from
  levels_are_lem = refl

  labels_are_lem : I.labels ≡ labels_in w 2 labels k 1
  unfolding index_from
  labels_are_lem = rw (P.pairs, P.one) refl

  sound : Sound I
  sound = (sound_decides I).0 given.index_sound

  own : SoundLabelling I.children (labelling_of w 2 labels k)
  own = (subst (λ (ls : List Labelling). Every (SoundLabelling I.children) ls) (labels_are_lem ∙ labels_one w 2 labels k) sound.labelled).0

  named : length I.names ≡ l.n
  unfolding index_from
  named = numbers_long w names l.n

  many : length I.children ≡ k
  unfolding index_from
  many = children_long w starts children k l.c

  module _ {x t : ℕ} (source : x < k) (target : t < k) where
    pub fit_pairs : Pairs w k x t levels labels
    fit_pairs =
        let Z : List ℕ = tuples_of w 2 labels k 0 in
        let R : List ℕ = places_of w 2 labels k 0 in
        let low : get_or (labelling_of w 2 labels k).s t 0 ≤ get_or (labelling_of w 2 labels k).e t 0 = outer_low I sound (labelling_of w 2 labels k) own t (omega (arith, many)) in
        record {
          labelled =
              record {
                width = given.width;
                stride = record { low = omega arith; high = omega arith };
                groups_few = omega (arith, given.vertices_few, given.groups_few);
                labellings_few = omega arith;
                long = rw (P.pairs, P.one) at (let long : w * (l.d * ((l.stride + 1) * k)) ≤ length labels = omega (arith, given.labels_long) in long);
              };
          levels_long = omega (arith, given.levels_long);
          source_low = source;
          target_low = target;
          ordered = omega (arith, low, s_at w 2 Z R k t target, e_at w 2 Z R k t target);
        }

    -- the answer between the places of u and v is the answer to the question
    between_is : (u v : ℕ) → x ≡ place_in I u → t ≡ place_in I v → answer I u v ≡ between I x t (replicate l.n 0)
    unfolding answer
    between_is u v ex et = rw (ex, et, named) refl

    pub question_is : (u v : ℕ) {r : ℕ} → x ≡ place_in (index_in b) u → t ≡ place_in (index_in b) v → Decides w k x t levels labels r
        → answer (index_in b) u v ≡ by_reason r (replicate l.n 0)
    question_is u v ex et D =
        let same : index_in b ≡ I = sym (index_at_lem L six) in
        ap (λ (J : Index). answer J u v) same
        ∙ between_is u v (ex ∙ ap (λ (J : Index). place_in J u) same) (et ∙ ap (λ (J : Index). place_in J v) same)
        ∙ D I levels_are_lem labels_are_lem (replicate l.n 0)

-- behind 14, where the contents are sound: the answer by its reason, and the marks, cleared below n, as they are
module _ (b : List ℕ) (u v : ℕ) (marks : List ℕ) {l : Layout} (M : Laid b l) {m : List ℕ} (left : m ≡ cleared l.n marks) (passed : (contents_check b).applies ≡ false) where
  pub replies_by :
      (reason : ℕ) {says : Bool} {deciding : ℕ} → answer (index_in b) u v ≡ by_reason reason (replicate l.n 0) → says ≡ leb reason 2
      → deciding ≡ cond (eqb reason 2 || eqb reason 4) 1 0 → Replies b u v marks (answered (record { says = says; reason = reason; opened = 0; deciding = deciding })) m
  unfolding cleared
  replies_by reason {says} {deciding} told says_is deciding_is =
      let q : Asked = record { says = says; reason = reason; deciding = deciding; opened = 0 } in
      let same : answer_by q (replicate l.n 0) ≡ answer (index_in b) u v = rw (says_is, deciding_is) (sym told) in
      let (o, k) = replies_answered b u v marks M left passed q (replicate l.n 0) same in
      let kept : m ≡ replicate l.n 0 ++ drop l.n m = left ∙ ap (λ (x : List ℕ). replicate l.n 0 ++ x) (sym (ap (drop l.n) left ∙ cleared_past l.n marks)) in
      (o, kept ∙ k)
