-- What the parts of the calls are lent.
use Rattle.std.specs.Prelude.{true, false, ◌≡◌, List, ℕ}
use Rattle.lineage.specs.Stored.{counts_in, form_of, is_form}
use Rattle.stored_header.specs.declared.Layout.{Layout}
use Rattle.stored_header.specs.Header.{layout_by}

-- the layout of a plain hierarchy: pairs by place, and one labelling
pub record Plain (l : Layout) : Type 0 where
  pub pairs : l.stride ≡ 2
  pub one : l.d ≡ 1

-- two forms of 32-bit numbers; where the second is not of plain hierarchies, the first takes one labelling
pub record Partners (from to : ℕ) : Type 0 where
  pub known : is_form to ≡ true
  pub wide_from : (form_of from).width ≡ 4
  pub wide_to : (form_of to).width ≡ 4
  pub one : (form_of to).tree ≡ false → (form_of from).labellings ≡ 1

-- bytes of 32-bit numbers, and the number of another form of such numbers
pub record Wide (b : List ℕ) (l : Layout) (form : ℕ) : Type 0 where
  pub width : l.width ≡ 4
  pub known : is_form form ≡ true
  pub wide : (form_of form).width ≡ 4

-- with one labelling, and the layout that the same counts have at the other form
pub record Between (b : List ℕ) (l : Layout) (form : ℕ) (to : Layout) : Type 0 where
  pub both : Wide b l form
  pub one : l.d ≡ 1
  pub laid : to ≡ layout_by 4 (form_of form).by_place (counts_in b)
