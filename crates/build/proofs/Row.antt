-- The row of a form of the table: it is within the bounds of every form, and with the form's number it is that form.
use mathlib.Core.Bool.{true}
use mathlib.Core.Path.{◌≡◌, sym, ap, subst, subst⁻¹, ◌∙◌}
use mathlib.Core.List.{List}
use Prim.Native.Nat.{ℕ, ◌^◌, ◌<◌}
use native.Mathlib.Omega.{arith}
use borrow.Author.Tests.{eqb-true}
use Rattle.lineage.specs.Stored.{Form, form_of, is_form}
use Rattle.lineage.specs.Calls.{Outcome, Input}
use Rattle.stored_header.specs.declared.Row.{Row}
use Rattle.stored_header.specs.Header.{row_of}
use Rattle.stored_header.proofs.Forms.{form_within}
use Rattle.build.specs.Input.{form_by, RowFit}
use Rattle.build.proofs.Answered.{Answers}

module _ (form : ℕ) (row : Row) (known : is_form form ≡ true) (is : row ≡ row_of form) where
  number_is : form ≡ (form_of form).number
  number_is = sym (eqb-true (form_of form).number form known)

  pub number_small : form < 2 ^ 32
  number_small = omega (arith, number_is, (form_within form).number)

  pub row_fit : RowFit row
  row_fit =
      let W = form_within form in
      subst⁻¹ RowFit is (record { width = W.width; stride = W.stride; labellings = W.labellings; vertices = W.vertices; edges = W.edges })

  row_form : form_by form row ≡ form_of form
  row_form = ap (form_by form) is ∙ ap (λ (number : ℕ). form_by number (row_of form)) number_is

  -- what is answered and left at that row is what is answered and left at the form
  pub row_answered : (B : Input) (work out work' out' : List ℕ) (said : Outcome ℕ) → Answers (form_by form row) B work out said work' out' → Answers (form_of form) B work out said work' out'
  row_answered B work out work' out' said = subst (λ (F : Form). Answers F B work out said work' out') row_form
