-- The kind of an entry, from the children of x gone through one by one: some child contains y, or none does.
use mathlib.Core.Bool.{Bool, true, false}
use mathlib.Core.Path.{◌≡◌, sym, ap, ◌∙◌}
use mathlib.Core.List.{List, []}
use Prim.Native.Nat.{ℕ, ◌≤◌, ◌<◌}
use native.Mathlib.Omega.{arith}
use borrow.Author.Tests.{eq-eqb, ne_eqb}
use lib.ListN.{length, get_or}
use Rattle.lineage.specs.Lists.{any, position}
use Rattle.lineage.specs.Index.{Index}
use Rattle.laws.proofs.Tests.{is_false, clash}
use Rattle.laws.proofs.Lists.{any_in, in_any}
use Rattle.laws.proofs.Positions.{in_get_d, position_low, at_position}
use Rattle.laws_exceptions.specs.Exceptions.{contains, is_indirect}
use Rattle.stored.specs.Rows.{Places}
use Rattle.stored.specs.Reading.{rows_of}
use Rattle.stored.specs.declared.reading.Rows.{Rows}
use Rattle.stored.specs.declared.reading.Labels.{Labels}
use Rattle.stored.proofs.Row.{row_low}
use Rattle.stored.proofs.Sections.{labels_long}
use Rattle.exceptions_marks.specs.Marks.{labels_of}
use Rattle.exceptions_rows.specs.Rows.{kinds_alone}

-- no number of a list passes where none does by its position
any_fails : (p : ℕ → Bool) (xs : List ℕ) → ((i : ℕ) → i < length xs → p (get_or xs i 0) ≡ false) → any p xs ≡ false
any_fails p xs none =
    is_false (any p xs)
    (λ t.
    let (x, i, e) = in_any p xs t in
    clash e (rw (at_position x xs i) at (none (position x xs) (position_low x xs i))))

-- none of the first i of a list of places contains y
pub record Trying (I : Index) (row : List ℕ) (y i : ℕ) : Type 0 where
  pub none : (j : ℕ) → j < i → contains I (get_or row j 0) y ≡ false

-- what is told of rows and labels alone
abbrev pub told_of : Rows → Labels → Index
told_of rows labels = kinds_alone (rows_of rows) (labels_of labels)

module _ (rows : Rows) (labels : Labels) (x y : ℕ) where
  abbrev told : Index
  told = told_of rows labels

  -- under several labellings there is one kind
  pub kind_one : (labels.d ≡ 1 → ⊥) → false ≡ is_indirect told x y
  kind_one n = rw (labels_long labels.width labels.z labels.bytes.now labels.k labels.d, ne_eqb labels.d 1 n)

  -- the children of x, as they were read
  module _ {xs : List ℕ} {len : ℕ} (are : xs ≡ get_or (rows_of rows) x []) (many : len ≡ length (get_or (rows_of rows) x [])) where
    has : len ≡ length xs
    has = many ∙ ap length (sym are)

    -- each is a place
    pub child_placed : Places rows.width rows.starts.now rows.children.now rows.k rows.c → x < rows.k → (i : ℕ) → i < len → {h : ℕ} → h ≡ get_or xs i 0 → h < rows.k
    child_placed P low i l e = omega (arith, e, ap (λ (s : List ℕ). get_or s i 0) are, row_low P low i (omega (arith, many, l)))

    module _ (one : labels.d ≡ 1) {i : ℕ} (K : Trying told xs y i) where
      kind_by_lem : {r : Bool} → r ≡ any (λ h. contains told h y) xs → r ≡ is_indirect told x y
      kind_by_lem e = rw (labels_long labels.width labels.z labels.bytes.now labels.k labels.d, eq-eqb labels.d 1 one, ← are) e

      -- the next child contains y
      pub trying_found : i < len → {h : ℕ} → h ≡ get_or xs i 0 → {r : Bool} → r ≡ contains told h y → r ≡ true → true ≡ is_indirect told x y
      trying_found l {h} is test t =
          kind_by_lem (sym (any_in (λ q. contains told q y) h xs (rw (← is) at (in_get_d xs i (omega (arith, has, l)))) (sym test ∙ t)))

      -- none does
      pub trying_all : len ≤ i → false ≡ is_indirect told x y
      trying_all m = kind_by_lem (sym (any_fails (λ q. contains told q y) xs (λ j l. K.none j (omega (arith, has, m, l)))))
