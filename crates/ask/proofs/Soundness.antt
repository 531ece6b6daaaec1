-- What sound contents give a question: the sections are fit for the walk, and the answer between two places is the answer to the question.
use mathlib.Core.Bool.{true, false, ◌||◌}
use mathlib.Core.Logic.{◌≢◌}
use mathlib.Core.Path.{◌≡◌, refl, sym, ap, subst, ◌∙◌}
use mathlib.Core.List.{List, []}
use Prim.Native.Nat.{ℕ, ◌+◌, ◌-◌, ◌*◌, ◌≤◌, ◌<◌}
use native.Mathlib.Decide.{ℕ_discrete}
use native.Mathlib.Omega.{arith}
use lib.ListN.{length, get_or, replicate}
use borrow.Author.Tests.{le-leb}
use Rattle.lineage.specs.Numbers.{num_at, numbers}
use Rattle.lineage.specs.Sound.{child_of, sound as soundIndex}
use Rattle.lineage.specs.Labels.{Labelling}
use Rattle.lineage.specs.Index.{Index}
use Rattle.lineage.specs.Question.{outside, rule2, rule3, rule4, net_of, between, place_in, walk, answer}
use Rattle.laws.specs.Sound.{SoundGroups}
use Rattle.laws.proofs.Positions.{in_get_d}
use Rattle.laws.proofs.Tests.{or_false_left, or_false_right}
use Rattle.laws.proofs.Grouped.{group_name, place_one, levels_fall}
use Rattle.laws.proofs.Decides.{sound_decides}
use Rattle.laws_answers.proofs.Tries.{Judges}
use Rattle.laws_answers.proofs.Labellings.{none_is}
use Rattle.laws_answers.proofs.Intervals.{judged}
use Rattle.numbers.specs.Bounds.{vertex_bound}
use Rattle.numbers.proofs.Numbers.{numbers_long, numbers_at}
use Rattle.stored_header.specs.declared.Layout.{Layout}
use Rattle.stored.specs.Sections.{children_in, labels_in, index_from, index_at}
use Rattle.stored.proofs.Sections.{children_long, labels_long, starts_rise, starts_within, row_long, row_at_lem}
use Rattle.ask_walk.specs.Fit.{count, groups_in, Fit, Sure}
use Rattle.sound_places.specs.Lent.{Lent, InTriples}
use Rattle.sound_places.proofs.Vertices.{lent_sound}
use Rattle.ask_walk.proofs.Rows.{count_is}
use Rattle.ask_walk.specs.declared.towards.Towards.{Towards}
use Rattle.ask_walk.specs.Walks.{index_of_walk}
use Rattle.ask.specs.declared.sections.Sections.{Sections}
use Rattle.ask.specs.Sections.{index_of_sections, WalkTo}

module _ {l : Layout} {names groups levels starts children labels : List ℕ} (Q : InTriples l names groups levels starts children labels) where
  abbrev S : Lent l names groups levels starts children labels
  S = Q.lent

  abbrev w : ℕ
  w = l.width

  abbrev n : ℕ
  n = l.n

  abbrev k : ℕ
  k = l.k

  abbrev c : ℕ
  c = l.c

  -- the index, by its triples
  abbrev J : Index
  J = index_from w 3 n k c l.d names groups levels starts children labels

  in_triples : index_at l names groups levels starts children labels ≡ J
  in_triples = ap (λ (z : ℕ). index_from w z n k c l.d names groups levels starts children labels) Q.triples

  index_passes : soundIndex J ≡ true
  index_passes = ap soundIndex (sym in_triples) ∙ S.index_sound

  labels_fill : length labels ≡ w * (l.d * (4 * k))
  labels_fill = subst (λ (z : ℕ). length labels ≡ w * (l.d * ((z + 1) * k))) Q.triples S.labels_long

  rows : List (List ℕ)
  rows = children_in w starts children k c

  sound : SoundGroups (numbers w names n) (numbers w groups k) (numbers w levels k) rows
  unfolding rows
  sound = lent_sound S

  rows_long : length rows ≡ k
  unfolding rows
  rows_long = children_long w starts children k c

  -- child starts rise to c
  rises : (p : ℕ) → p < k → num_at w starts p ≤ num_at w starts (p + 1)
  rises = starts_rise w starts k c S.starts_sound

  ends : (p : ℕ) → p < k → num_at w starts (p + 1) ≤ c
  ends p h = starts_within w starts k c S.starts_sound (p + 1) (omega arith)

  -- number i of the children, in the row of p
  module _ (p i : ℕ) (h : p < k) (from : num_at w starts p ≤ i) (to : i < num_at w starts (p + 1)) where
    row : List ℕ
    row = get_or rows p []

    in_row : i - num_at w starts p < length row
    unfolding rows row
    in_row = omega (arith, row_long w starts children k c p h (rises p h) (ends p h))

    child_is : get_or row (i - num_at w starts p) 0 ≡ num_at w children i
    unfolding rows row
    child_is =
        let e : num_at w starts p + (i - num_at w starts p) ≡ i = omega arith in
        row_at_lem w starts children k c p h (rises p h) (ends p h) (i - num_at w starts p) (omega arith) ∙ ap (num_at w children) e

    child_low : num_at w children i < k
    unfolding row
    child_low = omega (arith, child_is, rows_long, sound.child_low p (i - num_at w starts p) (omega (arith, rows_long)) in_row)

    level_falls : num_at w levels (num_at w children i) < num_at w levels p
    unfolding row
    level_falls =
        let member : child_of rows p (num_at w children i) ≡ true = rw child_is at (in_get_d row (i - num_at w starts p) in_row) in
        omega (
          arith,
          levels_fall sound p (num_at w children i) (omega (arith, rows_long)) member,
          numbers_at w levels k p h,
          numbers_at w levels k (num_at w children i) child_low,
        )

  -- the rules agree
  module _ (t : ℕ) (t-low : t < k) where
    J_long : length J.children ≡ k
    unfolding index_from
    J_long = children_long w starts children k c

    right : Judges (net_of J t) (length J.children) t
    unfolding index_from
    right = judged J ((sound_decides J).0 index_passes) (omega (arith, labels_long w 3 labels k l.d, S.labellings_some)) t (omega (arith, J_long))

    passes : (h : ℕ) → h < k → rule2 J h t ≡ true → h ≢ t → (rule3 J h t || rule4 J h t) ≡ false
    passes h b y n = right.lets h (omega (arith, J_long)) (right.hits h (omega (arith, J_long)) y) n

    sure_at : Sure (groups_in w k l.d groups levels starts children labels) k t
    unfolding index_from
    sure_at = record {
      home = right.home;
      not_3 = λ h b y n. or_false_left (rule3 J h t) (rule4 J h t) (passes h b y n);
      not_4 = λ h b y. elim (ℕ_discrete h t) [
        | yes e ↦ rw e (none_is (outside t t) (labels_in w 3 labels k l.d) (λ z i. own_outer z))
        | no n ↦ or_false_right (rule3 J h t) (rule4 J h t) (passes h b y n)
      ];
    }
      where
        own_outer : (z : Labelling) → outside t t z ≡ false
        own_outer z = rw (le-leb (get_or z.s t 0) (get_or z.s t 0) (omega arith), le-leb (get_or z.e t 0) (get_or z.e t 0) (omega arith)) refl

  -- the sections are fit for the walk towards t
  pub fit : (t : ℕ) → t < k → Fit w k l.d t groups levels starts children labels n
  fit t h =
      let all : count w children ≡ c = count_is w c children S.width S.children_long in
      record {
        labelled = record {
          width = S.width;
          stride = record { low = omega arith; high = omega arith };
          groups_few = omega (arith, S.vertices_few, S.groups_few);
          labellings_few = S.labellings_few;
          long = omega (arith, labels_fill);
        };
        target_low = h;
        groups_long = omega (arith, S.groups_long);
        levels_long = omega (arith, S.levels_long);
        starts_long = omega (arith, S.starts_long);
        start_rises = rises;
        end_low = λ p b. omega (arith, all, ends p b);
        child_low = child_low;
        level_falls = level_falls;
        name_low = λ p b. omega (arith, numbers_at w groups k p b, numbers_long w names n, (group_name sound p (omega (arith, rows_long))).0);
        name_one = λ p q b b' e.
            place_one sound p q (omega (arith, rows_long)) (omega (arith, rows_long)) (numbers_at w groups k p b ∙ e ∙ sym (numbers_at w groups k q b'));
        sure = sure_at t h;
      }

  -- with one mark for each vertex
  module _ (m : List ℕ) (long : length m ≡ n) where
    pub marks_few : length m ≤ vertex_bound
    marks_few = omega (arith, long, S.vertices_few)

  -- the answer between the places of u and v is the answer to the question
  between_is : (u v x t : ℕ) (m : List ℕ) → x ≡ place_in J u → t ≡ place_in J v → m ≡ replicate n 0
      → between (groups_in w k l.d groups levels starts children labels) x t m ≡ answer J u v
  unfolding answer walk index_from
  between_is u v x t m ex et em =
      let all : count w children ≡ c = count_is w c children S.width S.children_long in
      rw (all, ex, et, em, numbers_long w names n) refl

  pub question_is : (u v x t : ℕ) (m : List ℕ)
      → x ≡ place_in (index_at l names groups levels starts children labels) u
      → t ≡ place_in (index_at l names groups levels starts children labels) v
      → m ≡ replicate n 0
      → between (groups_in w k l.d groups levels starts children labels) x t m ≡ answer (index_at l names groups levels starts children labels) u v
  question_is u v x t m ex et em =
      between_is u v x t m (ex ∙ ap (λ (I : Index). place_in I u) in_triples) (et ∙ ap (λ (I : Index). place_in I v) in_triples) em
      ∙ ap (λ (I : Index). answer I u v) (sym in_triples)

-- and so over the sections of a question
pub walk_is :
    (s : Sections) {t : ℕ} {a : Towards} → WalkTo s t a → (u v x : ℕ) (m : List ℕ)
    → x ≡ place_in (index_of_sections s) u → t ≡ place_in (index_of_sections s) v → m ≡ replicate s.layout.n 0
    → between (index_of_walk a) x a.t m ≡ answer (index_of_sections s) u v
walk_is s W u v x m ex et em = (λ i. between (W.index i) x (W.target i) m) ∙ question_is s.in_triples u v x _ m ex et em
