-- What a call that takes one form alone lets through: numbers of its width, and one labelling where it takes no more; of form 4, pairs by place.
use mathlib.Core.Bool.{◌&&◌}
use mathlib.Core.Path.{◌≡◌, ap, ◌∙◌}
use mathlib.Core.List.{List}
use Prim.Native.Nat.{ℕ}
use native.Mathlib.Omega.{arith}
use lib.Dec.{leb}
use borrow.Author.Tests.{leb-true, not-false}
use Rattle.lineage.specs.Stored.{Form, Counts, header_at, counts_in, form_of, is_form}
use Rattle.lineage.specs.Calls.{takes}
use Rattle.laws.specs.Checks.{Pass}
use Rattle.laws.proofs.Tests.{both}
use Rattle.stored_header.specs.declared.Layout.{Layout}
use Rattle.stored_header.specs.Header.{header_checks}
use Rattle.stored_header.proofs.Laid.{width_is, d_is}
use Rattle.stored_header.proofs.Admitted.{Admits, header_pass, admitted, admitted_laid}
use Rattle.convert.specs.Convert.{only}
use Rattle.convert.proofs.Theorems.{header_fit}

module _ (form : ℕ) (b : List ℕ) (header : Pass (header_checks (only form) b)) where
  pub number_is : header_at b 0 ≡ form
  number_is =
      let r = (both (leb form (header_at b 0) && leb (header_at b 0) form) (is_form (header_at b 0)) (not-false (takes (only form) (header_at b 0)) header.1.0)).0 in
      let s = both (leb form (header_at b 0)) (leb (header_at b 0) form) r in
      omega (arith, leb-true form (header_at b 0) s.0, leb-true (header_at b 0) form s.1)

  pub form_is : form_of (header_at b 0) ≡ form_of form
  form_is = ap form_of number_is

  -- d is 1
  pub one_labelling : (form_of form).labellings ≡ 1 → (counts_in b).d ≡ 1
  one_labelling few =
      let a : Counts = counts_in b in
      let n = both (leb a.n (form_of form).vertices) _ (header_fit form b header) in
      let k = both (leb a.k a.n) _ n.1 in
      let c = both (leb a.c (form_of form).entries) _ k.1 in
      let d = both (leb 1 a.d) _ c.1 in
      omega (arith, leb-true 1 a.d d.0, leb-true a.d (form_of form).labellings d.1)

module _ {form : ℕ} {b : List ℕ} {marks words : ℕ} {l : Layout} (A : Admits (only form) b marks words l) where
  header : Pass (header_checks (only form) b)
  header = header_pass (only form) b marks words (admitted A)

  pub admitted_wide : (form_of form).width ≡ 4 → l.width ≡ 4
  admitted_wide e = width_is (admitted_laid A) ∙ ap (λ (F : Form). F.width) (form_is form b header) ∙ e

  pub admitted_one : (form_of form).labellings ≡ 1 → l.d ≡ 1
  admitted_one few = d_is (admitted_laid A) ∙ one_labelling form b header few
