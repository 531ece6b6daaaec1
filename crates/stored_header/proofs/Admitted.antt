-- What bytes, marks and words are that the checks 10 to 13 and 6 let through: laid out as the header says, with a mark for each vertex and the words that are needed.
use mathlib.Core.Path.{◌≡◌, sym, subst⁻¹}
use mathlib.Core.List.{List}
use Prim.Native.Nat.{ℕ, ◌≤◌}
use native.Mathlib.Omega.{arith}
use borrow.Author.Tests.{ltb-false, le-ltb}
use Rattle.lineage.specs.Stored.{counts_in}
use Rattle.lineage.specs.Calls.{answered, outcome, FormsTaken, words_in, form_checks}
use Rattle.stored_header.specs.declared.Layout.{Layout}
use Rattle.laws.specs.Checks.{Pass}
use Rattle.stored_header.specs.Header.{layout_in, words_of, header_checks, Laid}
use Rattle.laws.proofs.Checks.{answered_pass, answered_is}
use Rattle.stored_header.proofs.Laid.{header_laid, n_is, words_are}

-- the checks of the header, 13 and 6
module _ (T : FormsTaken) (b : List ℕ) (marks words : ℕ) where
  pub header_pass : Pass (form_checks T b marks words) → Pass (header_checks T b)
  header_pass p = (p.0, (p.1.0, (p.1.1.0, tt)))

  pub lent_pass : Pass (header_checks T b) → (counts_in b).n ≤ marks → words_in b ≤ words → Pass (form_checks T b marks words)
  lent_pass p h i = (p.0, (p.1.0, (p.1.1.0, (le-ltb marks (counts_in b).n h, (le-ltb words (words_in b) i, tt)))))

-- `admit` let them through, with this layout
pub record Admits (T : FormsTaken) (b : List ℕ) (marks words : ℕ) (l : Layout) : Type 0 where
  pub passes : answered l ≡ outcome (form_checks T b marks words) (layout_in b)

module _ {T : FormsTaken} {b : List ℕ} {marks words : ℕ} {l : Layout} (A : Admits T b marks words l) where
  pub admitted : Pass (form_checks T b marks words)
  admitted = answered_pass (layout_in b) (form_checks T b marks words) l (sym A.passes)

  pub admitted_laid : Laid b l
  admitted_laid =
      subst⁻¹ (Laid b)
      (answered_is (layout_in b) (form_checks T b marks words) l (sym A.passes))
      (header_laid b T (header_pass T b marks words admitted))

  pub admitted_room : l.n ≤ marks
  admitted_room = omega (arith, n_is admitted_laid, ltb-false marks (counts_in b).n admitted.1.1.1.0)

  pub admitted_words : words_of l ≤ words
  admitted_words = subst⁻¹ (λ (x : ℕ). x ≤ words) (words_are admitted_laid) (ltb-false words (words_in b) admitted.1.1.1.1.0)
