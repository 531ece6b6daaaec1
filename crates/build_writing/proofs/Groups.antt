-- The sections before the labels: where a layout has each of them, and that written in turn they stand one behind the other.
use mathlib.Core.Path.{◌≡◌, refl, sym, ap, ◌∙◌}
use mathlib.Core.List.{List, [], ◌∷◌, ◌++◌, map}
use Prim.Native.Nat.{ℕ, ◌+◌, ◌*◌, ◌≤◌}
use native.Mathlib.Omega.{arith}
use lib.ListN.{length}
use Rattle.lineage.specs.Lists.{joined}
use Rattle.lineage.specs.Numbers.{written}
use Rattle.numbers.specs.Put.{put}
use Rattle.numbers.proofs.Written.{written_long}
use Rattle.stored_header.specs.declared.Layout.{Layout}
use Rattle.stored_header.specs.Header.{counts, header_of, Sited}
use Rattle.stored_header.proofs.Laid.{sited_by}
use Rattle.stored.proofs.Offsets.{put_sections, sections_put_lem}
use Rattle.build_writing.specs.Words.{GroupLists, group_sections}
use Rattle.build_writing.specs.Fit.{SectionsFit}
use Rattle.build_writing.proofs.Behind.{section_put}

module _ {out : List ℕ} {form : ℕ} {l : Layout} {lists : GroupLists} (fit : SectionsFit out form l lists) where
  -- where each section starts
  pub fit_sited : Sited l
  fit_sited = sited_by l l.width l.stride (counts l.n l.k l.c l.d) fit.laid

  behind : (xs : List ℕ) (count offset next : ℕ) → length xs ≡ count → next ≡ offset + l.width * count → next ≡ offset + l.width * length xs
  behind xs count offset next h e = rw h e

  -- each lies in the output
  abbrev Lies : ℕ → List ℕ → Type 0
  Lies at xs = at + l.width * length xs ≤ length out

  pub sections_room : Lies l.names lists.names × (Lies l.groups lists.groups × (Lies l.levels lists.levels × (Lies l.starts lists.starts × Lies l.children lists.children)))
  sections_room =
      let at : Sited l = fit_sited in
      let room = fit.room in
      rw (fit.names_long, fit.groups_long, fit.levels_long, fit.starts_long, fit.children_long)
      (omega arith, (omega arith, (omega arith, (omega arith, omega arith))))

  -- header and sections, one by one
  pub groups_put : (t₀ t₁ t₂ t₃ t₄ t₅ : List ℕ)
      → t₀ ≡ put out 0 (written 4 (header_of form l))
      → t₁ ≡ put t₀ l.names (written l.width lists.names)
      → t₂ ≡ put t₁ l.groups (written l.width lists.groups)
      → t₃ ≡ put t₂ l.levels (written l.width lists.levels)
      → t₄ ≡ put t₃ l.starts (written l.width lists.starts)
      → t₅ ≡ put t₄ l.children (written l.width lists.children)
      → t₅ ≡ put out 0 (written 4 (header_of form l) ++ joined (map (written l.width) (group_sections lists)))
  groups_put t₀ t₁ t₂ t₃ t₄ t₅ e₀ e₁ e₂ e₃ e₄ e₅ =
      let at : Sited l = fit_sited in
      let w : ℕ = l.width in
      let x₁ : List ℕ = lists.names in
      let x₂ : List ℕ = lists.groups in
      let x₃ : List ℕ = lists.levels in
      let x₄ : List ℕ = lists.starts in
      let x₅ : List ℕ = lists.children in
      let X : List (List ℕ) = group_sections lists in
      let header : List ℕ = written 4 (header_of form l) in
      let groups-next = behind x₁ l.n l.names l.groups fit.names_long at.groups_at in
      let levels-next = behind x₂ l.k l.groups l.levels fit.groups_long at.levels_at in
      let starts-next = behind x₃ l.k l.levels l.starts fit.levels_long at.starts_at in
      let children-next = behind x₄ (l.k + 1) l.starts l.children fit.starts_long at.children_at_lem in
      let labels_next = behind x₅ l.c l.children l.labels fit.children_long at.labels_at in
      let long : 48 ≡ length header = sym (written_long 4 (header_of form l)) in
      section_put w t₀ t₁ t₅ x₁ (x₂ ∷ x₃ ∷ x₄ ∷ x₅ ∷ []) l.names 48 l.groups e₁ at.names_at (omega arith)
      (section_put w t₁ t₂ t₅ x₂ (x₃ ∷ x₄ ∷ x₅ ∷ []) l.groups l.groups l.levels e₂ refl levels-next
      (section_put w t₂ t₃ t₅ x₃ (x₄ ∷ x₅ ∷ []) l.levels l.levels l.starts e₃ refl starts-next
      (section_put w t₃ t₄ t₅ x₄ (x₅ ∷ []) l.starts l.starts l.children e₄ refl children-next
      (section_put w t₄ t₅ t₅ x₅ [] l.children l.children l.labels e₅ refl labels_next refl))))
      ∙ ap (λ (z : List ℕ). put_sections w z 48 X) e₀
      ∙ sections_put_lem w header X out 48 long
