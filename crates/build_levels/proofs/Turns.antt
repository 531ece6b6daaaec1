-- One turn upwards: the level of the place at hand is the greatest of one more than those of its children. This is the equation of the definition, which the ranks bound.
use mathlib.Core.Bool.{true}
use mathlib.Core.Path.{◌≡◌, sym, ap, ap₂, subst, ◌∙◌}
use mathlib.Core.List.{List, map}
use Prim.Native.Nat.{ℕ, suc, ◌+◌, ◌^◌, ◌≤◌, ◌<◌}
use native.Mathlib.Omega.{arith}
use lib.ListN.{length, get_or}
use Rattle.lineage.specs.Lists.{among, position, greatest, part}
use Rattle.lineage.specs.Graph.{level, levels_of}
use Rattle.laws.specs.Laid.{Below}
use Rattle.laws.proofs.Lists.{map_same, table_at}
use Rattle.laws.proofs.Positions.{in_get_d, position_low, greatest_at}
use Rattle.laws.proofs.Levels.{levels_meet, levels_long, level_most}
use Rattle.laws.proofs.Parts.{part_length}
use Rattle.build_levels.specs.Fit.{UpFit}
use Rattle.numbers.specs.Regions.{Part}
use Rattle.build_levels.proofs.Upwards.{Filling, by_rank, children, row, children_long, children_at_lem, child_low, child_falls, place_low, row_is, at, size, row_low_now, known}

-- the levels
module _ {work₀ : List ℕ} {out k starts values c base : ℕ} (f : UpFit work₀ out k starts values c base) where
  abbrev table : List ℕ
  table = levels_of (children f)

  pub levels_count : length table ≡ k
  levels_count = levels_long (children f) ∙ children_long f

  rank_most : (p : ℕ) → p < length (children f) → suc (position p (by_rank f)) ≤ length (children f)
  rank_most p h =
      let l : p < k = omega (arith, children_long f) in
      omega (arith, children_long f, position_low p (by_rank f) (f.order.all p l), part_length work₀ out k f.out_there.fits)

  level_meets : (p : ℕ) → p < k → get_or table p 0 ≡ greatest (map (λ q. suc (get_or table q 0)) (row f p))
  level_meets p h =
      levels_meet (children f) (child_low f) (λ q. suc (position q (by_rank f))) (child_falls f) (λ q l. omega arith) rank_most p (omega (arith, children_long f))
      ∙ ap (λ xs. greatest (map (λ q. suc (get_or table q 0)) xs)) (children_at_lem f p h)

  level_low : (p : ℕ) → p < k → get_or table p 0 ≤ k
  unfolding levels_of
  level_low p h =
      let l : p < length (children f) = omega (arith, children_long f) in
      omega (arith, children_long f, table_at (level (children f) (length (children f))) (length (children f)) p 0 l, level_most (children f) (length (children f)) p)

  module _ {work : List ℕ} {r : ℕ} (i : Filling work₀ work table out k base r) (h : r < k) where
    told : {x : ℕ} → x ≡ greatest (map (λ q. suc (get_or (part work base k) q 0)) (part work (at f i h) (size f i h))) → x ≡ get_or table (get_or work (out + r) 0) 0
    told e =
        e
        ∙ ap (λ xs. greatest (map (λ q. suc (get_or (part work base k) q 0)) xs)) (row_is f i h)
        ∙ ap greatest (map_same (λ q. suc (get_or (part work base k) q 0)) (λ q. suc (get_or table q 0)) (row f (get_or work (out + r) 0)) (λ q j. ap suc (known f i h q j)))
        ∙ sym (level_meets (get_or work (out + r) 0) (place_low f i h))

    -- one more than a child's level is still small
    small : (j : ℕ) → j < length (part work (at f i h) (size f i h)) → get_or (part work base k) (get_or (part work (at f i h) (size f i h)) j 0) 0 + 1 < 2 ^ 32
    small j l =
        let p : ℕ = get_or work (out + r) 0 in
        let q : ℕ = get_or (part work (at f i h) (size f i h)) j 0 in
        let in_row : among q (row f p) ≡ true =
        subst (λ xs. among q xs ≡ true) (row_is f i h) (in_get_d (part work (at f i h) (size f i h)) j l) in
        omega (
          arith,
          known f i h q in_row,
          greatest_at (λ x. suc (get_or table x 0)) q (row f p) in_row,
          level_meets p (place_low f i h),
          level_low p (place_low f i h),
          f.few,
        )

    -- by the slices of its row and of the words
    module _ {places words : List ℕ} (P : Part work (at f i h) (size f i h) places) (W : Part work base k words) where
      pub places_below : Below (length words) places
      places_below = rw (W.long, P.is) (row_low_now f i h)

      pub level_is : {x : ℕ} → x ≡ greatest (map (λ q. suc (get_or words q 0)) places) → x ≡ get_or table (get_or work (out + r) 0) 0
      level_is e = told (e ∙ ap₂ (λ xs ys. greatest (map (λ q. suc (get_or xs q 0)) ys)) W.is P.is)

      pub level_small : (j : ℕ) → j < length places → get_or words (get_or places j 0) 0 + 1 < 2 ^ 32
      level_small = rw (W.is, P.is) small
