-- The two kinds of document 001, section 4, split the exceptions of x: if a child of x that contains y reached y, so would x; so such a child has y as an
-- exception. An exception is therefore indirect where some child has it as an exception, and direct where no child contains it.
use mathlib.Core.Bool.{true, false}
use mathlib.Core.Logic.{◌↔◌}
use mathlib.Core.Path.{◌≡◌}
use mathlib.Core.List.{[]}
use Prim.Native.Nat.{ℕ, ◌<◌}
use lib.Dec.{eqb}
use lib.ListN.{length, get_or}
use borrow.Author.Tests.{eq-eqb}
use Rattle.lineage.specs.Lists.{any}
use Rattle.lineage.specs.Index.{Index}
use Rattle.lineage.specs.Sound.{child_of}
use Rattle.laws.specs.Leads.{step}
use Rattle.laws.specs.Sound.{Sound}
use Rattle.laws.proofs.Tests.{and_both, and_right, clash, is_false}
use Rattle.laws.proofs.Lists.{any_in, in_any}
use Rattle.laws.proofs.Grouped.{child_in}
use Rattle.laws_exceptions.specs.Exceptions.{contains, is_exception, is_indirect}
use Rattle.laws_exceptions.proofs.Exceptions.{exception_exactly}

module _ (I : Index) (S : Sound I) (x y : ℕ) (b : x < length I.children) (excepted : is_exception I x y ≡ true) where
  -- a child that contains an exception of x has it as an exception, and the other way round
  pub child_excepted : (h : ℕ) → child_of I.children x h ≡ true → (contains I h y ≡ true) ↔ (is_exception I h y ≡ true)
  child_excepted h i =
      let E = exception_exactly I S h y (child_in S.condensed x h b i) in
      (λ c. E.1 (c, λ w. ((exception_exactly I S x y b).0 excepted).1 (step i w)), λ e. (E.0 e).0)

  -- under one labelling
  module _ (one : length I.labels ≡ 1) where
    -- some child contains y, as the kind is told
    indirect_any : (is_indirect I x y ≡ true) ↔ (any (λ h. contains I h y) (get_or I.children x []) ≡ true)
    indirect_any = (
      and_right (eqb (length I.labels) 1) (any (λ h. contains I h y) (get_or I.children x [])),
      and_both (eq-eqb (length I.labels) 1 one),
    )

    -- indirect: some child has y as an exception; direct: no child contains y
    pub kinds_split :
        ((is_indirect I x y ≡ true) ↔ ((h : ℕ) × (child_of I.children x h ≡ true) × (is_exception I h y ≡ true)))
        × ((is_indirect I x y ≡ false) ↔ ((h : ℕ) → child_of I.children x h ≡ true → contains I h y ≡ false))
    kinds_split = (
      (
        (λ t. let (h, i, c) = in_any (λ h. contains I h y) (get_or I.children x []) (indirect_any.0 t) in (h, i, (child_excepted h i).0 c)),
        λ e. let (h, i, c) = e in indirect_any.1 (any_in (λ h. contains I h y) h (get_or I.children x []) i ((child_excepted h i).1 c)),
      ),
      (
        (λ f h i. is_false (contains I h y) (λ c. clash (indirect_any.1 (any_in (λ h. contains I h y) h (get_or I.children x []) i c)) f)),
        λ none. is_false (is_indirect I x y) (λ t. let (h, i, c) = in_any (λ h. contains I h y) (get_or I.children x []) (indirect_any.0 t) in clash c (none h i)),
      ),
    )
