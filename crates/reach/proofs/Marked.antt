-- Over a sound index: marking a vertex's group marks that group and no other; the sweep marks what is reached from marked groups, where none of a rank above its
-- first is marked; so the sweep from one group marks what is below it.
use mathlib.Core.Bool.{true}
use mathlib.Core.Logic.{◌⊎◌, inl, inr, ◌↔◌}
use mathlib.Core.Path.{◌≡◌, refl, sym, ap, ◌∙◌}
use mathlib.Core.List.{List, [], ◌∷◌, ◌++◌}
use Prim.Native.Nat.{ℕ, ◌≤◌, ◌<◌}
use native.Mathlib.Decide.{ℕ_discrete}
use native.Mathlib.Nat.{not-suc-le-zero}
use native.Mathlib.Omega.{arith}
use lib.ListN.{length, get_or, drop, replicate, length-set}
use lib.Seq.{get_or-set_same, get_or-set_other, drop-set-lt}
use borrow.Author.Tests.{eqb-true, eq-eqb}
use Rattle.lineage.specs.Lists.{Every, cleared}
use Rattle.lineage.specs.Graph.{place_of}
use Rattle.lineage.specs.Labels.{Labelling}
use Rattle.lineage.specs.Index.{Index}
use Rattle.lineage.specs.Question.{place_in}
use Rattle.laws.specs.Leads.{Down}
use Rattle.laws.specs.Sound.{SoundLabelling, Sound}
use Rattle.laws.proofs.Grouped.{name_in, group_name, place_low, name_of_place, place_of_name}
use Rattle.laws.proofs.Inverse.{e_most}
use Rattle.numbers.proofs.Cleared.{cleared_long, cleared_at, cleared_past}
use Rattle.reach_sweep.specs.Sweep.{marked, Reached}
use Rattle.reach_sweep.proofs.Swept.{swept_long, swept_exactly, swept_past}
use Rattle.reach.specs.Marks.{first_labels, rank_in, mark_in, swept_in, reach_marks}

-- vertex u's group is marked
module _ {I : Index} (S : Sound I) (u : ℕ) (hu : u < length I.names) (marks : List ℕ) where
  abbrev name : ℕ
  name = get_or I.names u 0

  name_low : name < length I.names
  name_low = name_in S.condensed u hu

  pub mark_long : length (mark_in I u marks) ≡ length marks
  unfolding mark_in
  mark_long = length-set marks name 1

  -- a group is marked then exactly where it was before, or is u's
  pub mark_exactly :
      length I.names ≤ length marks → (p : ℕ) → p < length I.children
      → (marked I.groups (mark_in I u marks) p ≡ true) ↔ ((p ≡ place_in I u) ⊎ (marked I.groups marks p ≡ true))
  unfolding mark_in
  mark_exactly room p h =
      elim (ℕ_discrete (get_or I.groups p 0) name) [
        | yes e ↦ (
          (λ m. inl (sym (place_of_name S.condensed p h) ∙ ap (place_of I.groups) e)),
          λ w. rw e (eq-eqb _ 1 (get_or-set_same marks name 1 0 (omega (arith, name_low)))),
        )
        | no e ↦
            let other = get_or-set_other marks name (get_or I.groups p 0) 1 0 e in (
              (λ m. inr (rw other at m)),
              λ w. elim w [ inl own ↦ absurd (e (ap (λ (q : ℕ). get_or I.groups q 0) own ∙ name_of_place S.condensed u hu)) | inr m ↦ rw other m ],
            )
      ]

  -- the marks from n on are kept
  pub mark_past : drop (length I.names) (mark_in I u marks) ≡ drop (length I.names) marks
  unfolding mark_in
  mark_past = drop-set-lt (length I.names) marks name 1 name_low

-- the first of some sound labellings
pub first_sound : (children : List (List ℕ)) (labels : List Labelling) → Every (SoundLabelling children) labels → 0 < length labels → SoundLabelling children (first_labels labels)
first_sound children [] all h = absurd (not-suc-le-zero h)
first_sound children (l ∷ labels) all h = all.0

-- the sweep over a sound index, by its first labelling
module _ {I : Index} (S : Sound I) (some : 0 < length I.labels) where
  first : SoundLabelling I.children (first_labels I.labels)
  first = first_sound I.children I.labels S.labelled some

  -- where no group of a rank above `top` is marked, it marks what is reached from a marked group
  pub sweep_exactly :
      (top : ℕ) (marks : List ℕ) → length I.names ≤ length marks → top ≤ length I.children
      → ((p : ℕ) → p < length I.children → marked I.groups marks p ≡ true → get_or (first_labels I.labels).e p 0 ≤ top)
      → (q : ℕ) → q < length I.children → (marked I.groups (swept_in I top marks) q ≡ true) ↔ Reached I.groups I.children marks q
  unfolding swept_in
  sweep_exactly = swept_exactly S.condensed first

  pub rank_most : (u : ℕ) → u < length I.names → rank_in I u ≤ length I.children
  unfolding rank_in
  rank_most u hu = e_most first (place_in I u) (place_low S.condensed u hu)

  -- the sweep from u's group alone
  module _ (u : ℕ) (hu : u < length I.names) (marks : List ℕ) (room : length I.names ≤ length marks) where
    abbrev clear : List ℕ
    clear = cleared (length I.names) marks

    there : length I.names ≤ length clear
    there = omega (arith, cleared_long (length I.names) marks room)

    pub start_only : (p : ℕ) → p < length I.children → marked I.groups (mark_in I u clear) p ≡ true → p ≡ place_in I u
    start_only p h m =
        elim ((mark_exactly S u hu clear there p h).0 m) [
          | inl e ↦ e
          | inr was ↦
              absurd (omega (
                arith,
                eqb-true (get_or clear (get_or I.groups p 0) 0) 1 was,
                cleared_at (length I.names) marks (get_or I.groups p 0) (group_name S.condensed p h).0,
              ))
        ]

    start_under : (p : ℕ) → p < length I.children → marked I.groups (mark_in I u clear) p ≡ true → get_or (first_labels I.labels).e p 0 ≤ rank_in I u
    unfolding rank_in
    start_under p h m = omega (arith, ap (λ (x : ℕ). get_or (first_labels I.labels).e x 0) (start_only p h m))

    -- after it a group is marked exactly where it is below u's group
    pub reach_exactly :
        (q : ℕ) → q < length I.children → (marked I.groups (reach_marks I u marks) q ≡ true) ↔ Down I.children (place_in I u) q
    unfolding reach_marks
    reach_exactly q h =
        let own : place_in I u < length I.children = place_low S.condensed u hu in
        let (to, from) = sweep_exactly (rank_in I u) (mark_in I u clear) (omega (arith, mark_long S u hu clear, there)) (rank_most u hu) start_under q h in (
          (λ m. let R = to m in rw (start_only R.from R.low R.was) at R.path),
          λ d. from (record { from = place_in I u; low = own; was = (mark_exactly S u hu clear there (place_in I u) own).1 (inl refl); path = d }),
        )

    -- the marks are as many as before, and cleared again they are as if cleared before
    pub reach_long : length (reach_marks I u marks) ≡ length marks
    unfolding reach_marks swept_in
    reach_long =
        swept_long I.groups I.children (first_labels I.labels).by_rank (rank_in I u) (mark_in I u clear)
        ∙ mark_long S u hu clear
        ∙ cleared_long (length I.names) marks room

    pub reach_cleared : cleared (length I.names) (reach_marks I u marks) ≡ clear
    unfolding reach_marks swept_in cleared
    reach_cleared =
        ap (replicate (length I.names) 0 ++◌)
        (swept_past S.condensed first (rank_in I u) (mark_in I u clear) (rank_most u hu) ∙ mark_past S u hu clear ∙ cleared_past (length I.names) marks)
