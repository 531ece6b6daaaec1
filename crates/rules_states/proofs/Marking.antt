-- The groups of changed vertices marked one after the other: with those of the first i marked, marking the next one's marks those of the first i + 1.
use mathlib.Core.Path.{◌≡◌, refl, sym, ap, ◌∙◌}
use mathlib.Core.List.{List, [], ◌∷◌, ◌++◌}
use Prim.Native.Nat.{ℕ, ◌+◌, ◌≤◌, ◌<◌}
use native.Mathlib.Numerals.{add-one}
use lib.ListN.{length, get_or, take}
use lib.Seq.{take-suc, take_all}
use Rattle.lineage.specs.Index.{Index}
use Rattle.reach.specs.Marks.{mark_in}
use Rattle.rules_states.specs.Marks.{mark_each}

module _ (I : Index) where
  each_last : (us : List ℕ) (u : ℕ) (marks : List ℕ) → mark_each I (us ++ (u ∷ [])) marks ≡ mark_in I u (mark_each I us marks)
  unfolding mark_each
  each_last [] u marks = refl
  each_last (v ∷ us) u marks = each_last us u (mark_in I v marks)

  module _ (changed before : List ℕ) where
    pub mark_none : before ≡ mark_each I (take 0 changed) before
    unfolding mark_each
    mark_none = refl

    module _ (i : ℕ) {now : List ℕ} (e : now ≡ mark_each I (take i changed) before) where
      pub mark_more : i < length changed → {after : List ℕ} → after ≡ mark_in I (get_or changed i 0) now → after ≡ mark_each I (take (i + 1) changed) before
      mark_more h f =
          f ∙ ap (mark_in I (get_or changed i 0)) e ∙ rw (add-one, take-suc changed i 0) (sym (each_last (take i changed) (get_or changed i 0) before))

      pub mark_all_lem : length changed ≤ i → now ≡ mark_each I changed before
      mark_all_lem h = e ∙ ap (λ (us : List ℕ). mark_each I us before) (take_all i changed h)
