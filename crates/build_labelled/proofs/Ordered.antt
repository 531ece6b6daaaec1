-- From an order to what a traversal goes through. The places stand in the order as all k groups do, so they are an order of the places; the two passes behind read them
-- and the parents' rows, which lie outside what is written.
use mathlib.Core.Path.{◌≡◌, refl, sym, ap, ap₂, ◌∙◌, subst}
use mathlib.Core.List.{List}
use Prim.Native.Nat.{ℕ, ◌+◌, ◌≤◌}
use native.Mathlib.Omega.{arith}
use lib.ListN.{length}
use Rattle.lineage.specs.Lists.{those, part}
use Rattle.lineage.specs.Labels.{Order, in_order}
use Rattle.laws.proofs.Parts.{part_length}
use Rattle.laws.proofs.Laid.{in_below}
use Rattle.numbers.specs.Regions.{Kept, under}
use Rattle.numbers.proofs.Regions.{kept_then, kept_wider}
use Rattle.build_rows.specs.Rows.{RowsAt, rows_in, turned_row}
use Rattle.build_rows.specs.Fit.{TurnFit}
use Rattle.build_rows.proofs.Orders.{order_low}
use Rattle.build_orders.specs.Fit.{RankedFit, RootsFit}
use Rattle.build_orders.specs.Roots.{row_empty}
use Rattle.build_orders.proofs.Sequence.{places_order}
use Rattle.build_labelled.specs.Window.{roots_at, ordered_at, labels_window, groups_by, OrderRows}
use Rattle.build_labelled.specs.Fit.{PlacesFit, OrderFit}
use Rattle.build_labelled.proofs.Regions.{outside_within, starts_same, values_same}

-- the places as an order of the vertices has them are an order of the places
pub ranked_order :
    {work : List ℕ} {n k c names place base : ℕ} → PlacesFit work n k c names place base → (order : List ℕ) → Order n order → Order k (in_order order (groups_by work names n))
ranked_order {work} {n} {names = names} fit order o =
    subst (λ m. Order m (in_order order (groups_by work names n))) fit.all
    (places_order (part work names n) order (rw (part_length work names n fit.names_there.fits) o))

module _ {orders work₀ : List ℕ} {at n k c names place parents base : ℕ} (fit : OrderFit orders work₀ at n k c names place parents base) where
  abbrev ranked : List ℕ
  ranked = in_order (part orders at n) (groups_by work₀ names n)

  order : Order k ranked
  order = ranked_order fit.vertices (part orders at n) fit.order

  pub ranked_fits : RankedFit orders work₀ at n names place base
  ranked_fits = record {
    inside = fit.inside;
    order = fit.order;
    names_there = outside_within refl (omega arith) (omega arith) fit.vertices.names_there;
    place_there = outside_within refl (omega arith) (omega arith) fit.vertices.place_there;
    places = fit.vertices.places;
    room = omega (arith, fit.vertices.room);
  }

  -- the places are written in the order
  module _ {work₁ : List ℕ} {r : ℕ} (ranking : Kept work₀ work₁ base n) (most : r ≤ n) (written : part work₁ base r ≡ ranked) where
    long₁ : base + labels_window n k c ≤ length work₁
    long₁ = omega (arith, fit.vertices.room, ranking.long)

    count : r ≡ k
    count = sym (part_length work₁ base r (omega (arith, long₁))) ∙ ap length written ∙ order.long

    sequence : part work₁ base k ≡ ranked
    sequence = subst (λ m. part work₁ base m ≡ ranked) count written

    pub roots_fit : RootsFit work₁ parents k base (roots_at base n)
    roots_fit = record {
      starts_there = outside_within ranking.long (omega arith) (omega arith) fit.parents_there.starts;
      sequence_there = record { fits = omega (arith, long₁); apart = under (omega (arith, count)) };
      places = rw sequence (in_below k ranked (order_low k ranked order));
      room = omega (arith, long₁);
    }

    -- and those of them whose row of parents is empty
    module _
        {work₂ : List ℕ} {q : ℕ} (rooting : Kept work₁ work₂ (roots_at base n) k) (few : q ≤ k)
        (roots : part work₂ (roots_at base n) q ≡ those (row_empty (part work₁ parents (k + 1))) (part work₁ base k))
      where
        kept₁ : Kept work₀ work₁ base (labels_window n k c)
        kept₁ = kept_wider base (labels_window n k c) (omega arith) (omega arith) ranking

        kept₂ : Kept work₀ work₂ base (labels_window n k c)
        kept₂ = kept_then kept₁ (kept_wider base (labels_window n k c) (omega arith) (omega arith) rooting)

        sequence_same : part work₂ base k ≡ ranked
        sequence_same = rooting.below base k (omega (arith, count)) ∙ sequence

        pub turn_fits : TurnFit work₂ parents (parents + k + 1) c k base (ordered_at base n k)
        turn_fits = record {
          rows_fit = record {
            values_fit = record {
              values_there = outside_within kept₂.long (omega arith) (omega arith) fit.parents_there.values;
              room = omega (arith, fit.vertices.room, kept₂.long);
              few = fit.few;
            };
            starts_there = outside_within kept₂.long (omega arith) (omega arith) fit.parents_there.starts;
            laid = rw (starts_same fit.parents_there kept₂, values_same fit.parents_there kept₂) fit.parents_laid;
          };
          values_low = rw (values_same fit.parents_there kept₂) fit.parents_low;
          sequence_there = record { fits = omega (arith, fit.vertices.room, kept₂.long); apart = under (omega (arith, count)) };
          order = rw sequence_same order;
        }

        -- and the rows
        pub ordered :
            {work₃ : List ℕ} → Kept work₂ work₃ (ordered_at base n k) (k + 1 + c)
            → RowsAt work₃ (ordered_at base n k) k c (turned_row (rows_in work₂ parents (parents + k + 1) c k) (part work₂ base k))
            → OrderRows (part orders at n) work₀ work₃ n k c names parents base q
        ordered turning rows = record {
          kept = kept_then kept₂ (kept_wider base (labels_window n k c) (omega arith) (omega arith) turning);
          few = few;
          roots =
              turning.below (roots_at base n) q (omega arith)
              ∙ roots
              ∙ ap₂ (λ starts places. those (row_empty starts) places) (starts_same fit.parents_there kept₁) sequence;
          rows = rw (starts_same fit.parents_there kept₂, values_same fit.parents_there kept₂, sequence_same) at rows;
        }
