-- Over a sound index: where the target's group alone is marked, the climb marks exactly the groups that reach it, and touches no mark from n on.
use mathlib.Core.Logic.{inl}
use mathlib.Core.Path.{◌≡◌, refl, ap, ◌∙◌}
use mathlib.Core.List.{List, ◌++◌}
use Prim.Native.Nat.{ℕ, ◌≤◌, ◌<◌}
use native.Mathlib.Omega.{arith}
use lib.ListN.{length, replicate}
use Rattle.lineage.specs.Lists.{cleared}
use Rattle.lineage.specs.Index.{Index}
use Rattle.lineage.specs.Question.{place_in}
use Rattle.laws.specs.Sound.{SoundLabelling, Sound}
use Rattle.laws.proofs.Grouped.{place_low}
use Rattle.numbers.proofs.Cleared.{cleared_long, cleared_past}
use Rattle.reach_climb.proofs.Climbed.{climbed_exactly, climbed_past}
use Rattle.reach.specs.Marks.{first_labels, mark_in}
use Rattle.reach.proofs.Marked.{mark_long, mark_exactly, mark_past, first_sound, start_only}
use Rattle.chain.specs.Marks.{climbed_in, Exact}

module _
    {I : Index} (S : Sound I) (some : 0 < length I.labels)
    (v : ℕ) (hv : v < length I.names) (marks : List ℕ) (room : length I.names ≤ length marks)
  where
    first : SoundLabelling I.children (first_labels I.labels)
    first = first_sound I.children I.labels S.labelled some

    abbrev clear : List ℕ
    clear = cleared (length I.names) marks

    abbrev start : List ℕ
    start = mark_in I v clear

    there : length I.names ≤ length clear
    there = omega (arith, cleared_long (length I.names) marks room)

    target : place_in I v < length I.children
    target = place_low S.condensed v hv

    pub climb_exactly : Exact I (place_in I v) (climbed_in I start)
    unfolding climbed_in
    climb_exactly = record {
      exactly =
          climbed_exactly S.condensed first start (omega (arith, mark_long S v hv clear, there)) (place_in I v) target
          ((mark_exactly S v hv clear there (place_in I v) target).1 (inl refl)) (start_only S some v hv marks room);
    }

    -- cleared again the marks are as if cleared before
    pub climb_cleared : cleared (length I.names) (climbed_in I start) ≡ clear
    unfolding climbed_in cleared
    climb_cleared =
        ap (replicate (length I.names) 0 ++◌)
        (climbed_past S.condensed first start (length I.children) (omega arith) ∙ mark_past S v hv clear ∙ cleared_past (length I.names) marks)
