-- Upwards through the ranks: the children of a place have lower ranks, so what is asked of them is known when the place is come to; at the end it is known of all.
use mathlib.Core.Bool.{true}
use mathlib.Core.Path.{◌≡◌, refl, sym, ap, ap₂, ◌∙◌}
use mathlib.Core.List.{List, []}
use Prim.Native.Nat.{ℕ, suc, ◌+◌, ◌-◌, ◌≤◌, ◌<◌}
use native.Mathlib.Decide.{ℕ_discrete}
use native.Mathlib.Numerals.{add-one}
use native.Mathlib.Omega.{arith}
use lib.Arith.{lt_of_le-ne}
use lib.ListN.{length, get_or, set, take, drop}
use lib.Seq.{get_or-set_same, get_or-set_other, ext_get_or}
use Rattle.lineage.specs.Lists.{among, position, part}
use Rattle.lineage.specs.Stored.{row_at}
use Rattle.lineage.specs.Sound.{child_of}
use Rattle.numbers.specs.Regions.{Kept, Part}
use Rattle.numbers.proofs.Regions.{slice_part, part_set, kept_apart, kept_more, read_at}
use Rattle.laws.proofs.Lists.{table_at, table_long}
use Rattle.laws.proofs.Positions.{in_get_d, at_position, position_low, position_most}
use Rattle.laws.proofs.Parts.{part_length, part_part}
use Rattle.laws.specs.Laid.{Below}
use Rattle.laws.proofs.Laid.{start_low, row_below, below_in}
use Rattle.build_rows.specs.Rows.{rows_in}
use Rattle.build_rows.proofs.Orders.{order_low}
use Rattle.build_levels.specs.Children.{children_in_words}
use Rattle.build_levels.specs.Fit.{UpFit}

-- the places at the first r ranks have the words of the table
pub record Filling (work₀ work table : List ℕ) (out k base r : ℕ) : Type 0 where
  pub kept : Kept work₀ work base k
  pub filled : (j : ℕ) → j < r → get_or (part work base k) (get_or (part work₀ out k) j 0) 0 ≡ get_or table (get_or (part work₀ out k) j 0) 0

-- the place at hand: where its turn reads and writes, and its row
pub record Place (work : List ℕ) (out k starts values base r : ℕ) : Type 0 where
  pub place_in_lem : out + r < length work
  pub low : get_or work (out + r) 0 < k
  pub start_in_lem : starts + get_or work (out + r) 0 < length work
  pub end_in : starts + (get_or work (out + r) 0 + 1) < length work
  pub rising : get_or work (starts + get_or work (out + r) 0) 0 ≤ get_or work (starts + (get_or work (out + r) 0 + 1)) 0
  pub row_in : values + get_or work (starts + (get_or work (out + r) 0 + 1)) 0 ≤ length work
  pub word_in : base + get_or work (out + r) 0 < length work

module _ {work₀ : List ℕ} {out k starts values c base : ℕ} (f : UpFit work₀ out k starts values c base) where
  abbrev pub by_rank : List ℕ
  by_rank = part work₀ out k

  abbrev pub children : List (List ℕ)
  children = children_in_words work₀ starts values c k

  abbrev pub row : ℕ → List ℕ
  row = rows_in work₀ starts values c k

  long : length by_rank ≡ k
  long = part_length work₀ out k f.out_there.fits

  pub children_long : length children ≡ k
  unfolding children_in_words
  children_long = table_long row k

  pub children_at_lem : (p : ℕ) → p < k → get_or children p [] ≡ row p
  unfolding children_in_words
  children_at_lem p h = table_at row k p [] h

  -- a child is a place, of a lower rank
  pub row_low : (p q : ℕ) → p < k → among q (row p) ≡ true → q < k
  row_low p q h i = below_in k (row p) (row_below f.laid k f.values_low p h) q i

  pub child_low : (p q : ℕ) → p < length children → child_of children p q ≡ true → q < length children
  child_low p q h i = let l : p < k = omega (arith, children_long) in omega (arith, children_long, row_low p q l (rw (children_at_lem p l) at i))

  pub child_falls : (p q : ℕ) → p < length children → child_of children p q ≡ true → suc (position q by_rank) < suc (position p by_rank)
  child_falls p q h i =
      let l : p < k = omega (arith, children_long) in
      omega (arith, f.falls p q l (rw (children_at_lem p l) at i))

  module _ {work table : List ℕ} {r : ℕ} (i : Filling work₀ work table out k base r) (h : r < k) where
    abbrev p : ℕ
    p = get_or work (out + r) 0

    p_is : p ≡ get_or by_rank r 0
    p_is = read_at f.out_there i.kept r h

    pub place_low : p < k
    place_low = rw p_is (order_low k by_rank f.order (get_or by_rank r 0) (in_get_d by_rank r (omega (arith, long))))

    start_is : get_or work (starts + p) 0 ≡ get_or (part work₀ starts (k + 1)) p 0
    start_is = read_at f.starts_there i.kept p (omega (arith, place_low))

    end_is : get_or work (starts + (p + 1)) 0 ≡ get_or (part work₀ starts (k + 1)) (suc p) 0
    end_is = read_at f.starts_there i.kept (p + 1) (omega (arith, place_low)) ∙ ap (λ z. get_or (part work₀ starts (k + 1)) z 0) (add-one p)

    inside : get_or (part work₀ starts (k + 1)) (suc p) 0 ≤ c
    inside = omega (arith, start_low f.laid (suc p) place_low, part_length work₀ values c f.values_there.fits)

    pub filling_place : Place work out k starts values base r
    filling_place =
        let long-work = i.kept.long in
        record {
          place_in_lem = omega (arith, f.out_there.fits);
          low = place_low;
          start_in_lem = omega (arith, place_low, f.starts_there.fits);
          end_in = omega (arith, place_low, f.starts_there.fits);
          rising = omega (arith, start_is, end_is, f.laid.rising p place_low);
          row_in = omega (arith, end_is, inside, f.values_there.fits);
          word_in = omega (arith, place_low, f.room);
        }

    -- its row, read as it was lent
    pub row_is : part work (values + get_or work (starts + p) 0) (get_or work (starts + (p + 1)) 0 - get_or work (starts + p) 0) ≡ row p
    unfolding row_at
    row_is =
        let s : ℕ = get_or (part work₀ starts (k + 1)) p 0 in
        let size : ℕ = get_or (part work₀ starts (k + 1)) (suc p) 0 - s in
        ap₂ (λ a b. part work (values + a) (b - a)) start_is end_is
        ∙ sym (part_part work values c s size (omega (arith, inside, f.laid.rising p place_low)))
        ∙ ap (λ z. part z s size) (kept_apart i.kept f.values_there.apart)

    -- and as a slice, beside the slice of the words of all places
    abbrev pub at : ℕ
    at = values + get_or work (starts + p) 0

    abbrev pub size : ℕ
    size = get_or work (starts + (p + 1)) 0 - get_or work (starts + p) 0

    pub row_slice : {end : ℕ} → end ≡ values + get_or work (starts + (p + 1)) 0 → Part work at size (take (end - at) (drop at work))
    row_slice e = slice_part work at size (omega (arith, filling_place)) (omega (arith, filling_place))

    pub words_slice : Part work base k (take (base + k - base) (drop base work))
    words_slice = slice_part work base k refl (omega (arith, f.room, i.kept.long))

    -- its places
    pub row_low_now : Below k (part work at size)
    row_low_now = rw row_is (row_below f.laid k f.values_low p place_low)

    -- what is asked of its children is known
    pub known : (q : ℕ) → among q (row p) ≡ true → get_or (part work base k) q 0 ≡ get_or table q 0
    known q j =
        let low : q < k = row_low p q place_low j in
        let before : position q by_rank < r =
        omega (arith, f.falls p q place_low j, ap (λ z. position z by_rank) p_is, position_most by_rank r (omega (arith, long))) in
        rw (at_position q by_rank (f.order.all q low)) at (i.filled (position q by_rank) before)

    -- the place at hand is given its word
    pub filling_more : {work' : List ℕ} {x : ℕ} → x ≡ get_or table p 0 → work' ≡ set work (base + p) x → Filling work₀ work' table out k base (r + 1)
    filling_more {x = x} is ew =
        rw ew (record {
          kept = kept_more p x place_low i.kept;
          filled = rw (part_set work base k p x place_low) (λ j l. at j l (ℕ_discrete (get_or by_rank j 0) p));
        })
      where
        at : (j : ℕ) → j < r + 1 → Dec (get_or by_rank j 0 ≡ p) → get_or (set (part work base k) p x) (get_or by_rank j 0) 0 ≡ get_or table (get_or by_rank j 0) 0
        at j l (yes z) = rw (z, get_or-set_same (part work base k) p x 0 (omega (arith, place_low, part_length work base k (omega (arith, f.room, i.kept.long))))) is
        at j l (no ne) =
            let earlier : j < r = lt_of_le-ne (omega arith) (λ z. ne (ap (λ y. get_or by_rank y 0) z ∙ sym p_is)) in
            rw (get_or-set_other (part work base k) p (get_or by_rank j 0) x 0 ne) (i.filled j earlier)

  -- at the end every place has its word
  pub filling_all : {work table : List ℕ} {r : ℕ} → Filling work₀ work table out k base r → k ≤ r → length table ≡ k → Kept work₀ work base k × (part work base k ≡ table)
  filling_all {work} {table} {r} i h l =
      let long-work : length (part work base k) ≡ k = part_length work base k (omega (arith, f.room, i.kept.long)) in
      (i.kept, ext_get_or 0 (part work base k) table (long-work ∙ sym l) (λ q j. at q (omega arith)))
    where
      at : (q : ℕ) → q < k → get_or (part work base k) q 0 ≡ get_or table q 0
      at q j =
          let a : among q by_rank ≡ true = f.order.all q j in
          rw (at_position q by_rank a) at (i.filled (position q by_rank) (omega (arith, long, position_low q by_rank a)))
