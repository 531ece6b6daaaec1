-- Bytes that a graph and orders yield, where their header is right. The bytes are short, so all counts but that of the orders are read again from the header; where
-- there is a vertex there is a group, each labelling then takes bytes, and the number of the orders is read again too.
use mathlib.Core.Bool.{true}
use mathlib.Core.Path.{◌≡◌, refl, sym, ap, subst, ◌∙◌}
use mathlib.Core.List.{List, [], ◌∷◌}
use Prim.Native.Nat.{ℕ, zero, suc, ◌+◌, ◌*◌, ◌^◌, ◌≤◌, ◌<◌}
use native.Mathlib.Nat.{mul-le-mul, mul-le-mul_left}
use native.Mathlib.Omega.{arith}
use lib.ListN.{length}
use Rattle.lineage.specs.Lists.{joined}
use Rattle.lineage.specs.Index.{Index, index_of}
use Rattle.lineage.specs.Stored.{Counts, counts_of, counts_fit, encode, header_at, counts_in}
use Rattle.lineage.specs.Calls.{FormsTaken}
use Rattle.laws.specs.Sound.{Sound}
use Rattle.laws.proofs.Sound.{made_sound}
use Rattle.laws.proofs.Grouped.{place_low}
use Rattle.numbers.proofs.Numbers.{count_low}
use Rattle.stored_header.specs.Header.{layout_in, Laid}
use Rattle.stored_header.proofs.Forms.{form_within}
use Rattle.stored_header.proofs.Laid.{header_laid}
use Rattle.open.specs.Yields.{Yields, HeaderRight}
use Rattle.open.proofs.Checks.{right_passes}
use Rattle.open.proofs.Small.{groups_few}
use Rattle.open.proofs.Bounds.{yielded_long, counts_bounded, laid_short}
use Rattle.ask.proofs.Theorems.{orders_long}
use Rattle.demands.specs.Stored.{form_in}

none_joined : (xs : List (List ℕ)) → length xs ≡ 0 → length (joined xs) ≡ 0
none_joined [] e = refl
none_joined (x ∷ xs) e = absurd (omega arith)

module _ {T : FormsTaken} {b : List ℕ} (R : HeaderRight T b) (Y : Yields (form_in b) b) where
  abbrev I : Index
  I = index_of Y.graph Y.orders

  S : Sound I
  S = made_sound Y.graph Y.ends Y.orders Y.permuted

  L : Laid b (layout_in b)
  L = header_laid b T (right_passes T b R)

  short : length (encode (form_in b) I) < 2 ^ 31
  short = subst (λ (z : List ℕ). length z < 2 ^ 31) (sym Y.bytes) (laid_short L)

  -- a vertex has its group, and with no vertex the bytes would end behind the first child start
  some_group : 0 < (counts_in b).n → 0 < length I.groups
  some_group some = go (length I.names) refl
    where
      go : (n : ℕ) → length I.names ≡ n → 0 < length I.groups
      go zero e =
          let w : ℕ = (form_in b).width in
          let a : Counts = counts_of I in
          let rows : length I.children ≡ 0 = omega (arith, S.condensed.children_long, groups_few S) in
          let no-vertices : a.n ≤ 0 = omega arith in
          let no-groups : a.k ≤ 0 = omega (arith, groups_few S) in
          let no-children : a.c ≤ 0 = omega (arith, none_joined I.children rows) in
          let no-labels : a.d * (((form_in b).by_place + 1) * a.k) ≤ 0 =
          omega (arith, mul-le-mul_left a.d (mul-le-mul_left ((form_in b).by_place + 1) no-groups)) in
          let one-start : a.k + 1 ≤ 1 = omega arith in
          let start : 1 ≤ (counts_in b).k + 1 = omega arith in
          absurd
          (omega (
            arith,
            yielded_long (form_in b) S (form_within (header_at b 0)) Y.plain,
            ap length Y.bytes,
            mul-le-mul_left w no-vertices,
            mul-le-mul_left w no-groups,
            mul-le-mul_left w one-start,
            mul-le-mul_left w no-children,
            mul-le-mul_left w no-labels,
            L.long,
            L.width.low,
            mul-le-mul_left w some,
            mul-le-mul_left w start,
          ))
      go (suc n) e = omega (arith, S.condensed.children_long, place_low S.condensed 0 (omega arith))

  -- the header's counts are the index's
  counts_are : length I.labels < 2 ^ 31 → counts_in b ≡ counts_of I
  counts_are few = ap counts_in (sym Y.bytes) ∙ counts_bounded (form_in b) S (form_within (header_at b 0)) Y.plain short few

  -- as many orders as the header says, where there is a vertex
  pub orders_are : 0 < (counts_in b).n → length Y.orders ≡ (counts_in b).d
  orders_are some =
      let a : Counts = counts_of I in
      let W = form_within (header_at b 0) in
      let some-places : 1 ≤ ((form_in b).by_place + 1) * a.k =
      let each : 1 ≤ (form_in b).by_place + 1 = omega arith in
      let one : 1 ≤ a.k = some_group some in
      mul-le-mul each one in
      let labels = count_low (form_in b).width (a.d * (((form_in b).by_place + 1) * a.k)) W.width.low in
      let few : length I.labels < 2 ^ 31 = omega (arith, short, yielded_long (form_in b) S W Y.plain, labels, mul-le-mul_left (length I.labels) some-places) in
      sym (orders_long Y.graph Y.orders) ∙ ap (λ (a : Counts). a.d) (sym (counts_are few))

  -- with as many orders the index is within the form's bounds
  pub bounds_are : length Y.orders ≡ (counts_in b).d → counts_fit (form_in b) (counts_of I) ≡ true
  bounds_are d =
      let few : length I.labels < 2 ^ 31 = omega (arith, orders_long Y.graph Y.orders, L.most) in
      ap (counts_fit (form_in b)) (sym (counts_are few)) ∙ R.counts
