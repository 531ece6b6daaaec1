-- Every form up to the third has three numbers of a group by place, five labellings and any children; so bytes have that a call takes which takes none above.
use mathlib.Core.Bool.{false, ◌&&◌}
use mathlib.Core.Path.{◌≡◌, refl, ◌∙◌}
use mathlib.Core.List.{List}
use Prim.Native.Nat.{ℕ, zero, suc, ◌≤◌}
use native.Mathlib.Omega.{arith}
use lib.Dec.{leb}
use borrow.Author.Tests.{leb-true, not-false}
use Rattle.lineage.specs.Stored.{Form, header_at, form_of, is_form, most_labellings}
use Rattle.lineage.specs.Calls.{FormsTaken, takes}
use Rattle.laws.proofs.Tests.{and_left, and_right}
use Rattle.stored_header.specs.declared.Layout.{Layout}
use Rattle.stored_header.proofs.Laid.{stride_is}
use Rattle.stored_header.proofs.Admitted.{Admits, admitted, admitted_laid}

-- what the forms up to the third have in common
pub record Triples (F : Form) : Type 0 where
  pub stride : F.by_place ≡ 3
  pub labellings : F.labellings ≡ most_labellings
  pub any : F.tree ≡ false

pub form_triples : (number : ℕ) → number ≤ 3 → Triples (form_of number)
form_triples zero h = record { stride = refl; labellings = refl; any = refl }
form_triples (suc zero) h = record { stride = refl; labellings = refl; any = refl }
form_triples (suc (suc zero)) h = record { stride = refl; labellings = refl; any = refl }
form_triples (suc (suc (suc zero))) h = record { stride = refl; labellings = refl; any = refl }
form_triples (suc (suc (suc (suc number)))) h = absurd (omega arith)

pub admitted_triples : {T : FormsTaken} {b : List ℕ} {marks words : ℕ} {l : Layout} → Admits T b marks words l → T.most ≤ 3 → l.stride ≡ 3
admitted_triples {T} {b} A most =
    let form : ℕ = header_at b 0 in
    let taken = and_left (leb T.least form && leb form T.most) (is_form form) (not-false (takes T form) (admitted A).1.0) in
    stride_is (admitted_laid A) ∙ (form_triples form (omega (arith, leb-true form T.most (and_right (leb T.least form) (leb form T.most) taken)))).stride
