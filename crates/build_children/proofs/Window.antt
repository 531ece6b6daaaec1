-- From pass to pass. The stamps and then the sequence lie between the two areas; each pass finds what those before it left, and the table of places is as it
-- was.
use mathlib.Core.Path.{◌≡◌, sym, ap, subst}
use mathlib.Core.List.{List, [], ◌∷◌}
use Prim.Native.Nat.{ℕ, ◌+◌, ◌≤◌}
use native.Mathlib.Omega.{arith}
use lib.ListN.{length, replicate}
use Rattle.lineage.specs.Lists.{upto, part}
use Rattle.lineage.specs.Graph.{Graph, is_child}
use Rattle.lineage.specs.Stored.{row_at}
use Rattle.laws.specs.EdgeRows.{row}
use Rattle.laws.specs.Laid.{Below, Rows}
use Rattle.laws.proofs.Parts.{part_length}
use Rattle.laws.proofs.Laid.{values_below}
use Rattle.laws.proofs.Edges.{sources_below, targets_below}
use Rattle.numbers.specs.Regions.{Kept, under, over}
use Rattle.numbers.proofs.Regions.{kept_then, kept_wider, apart_within}
use Rattle.build_rows.specs.Rows.{RowsAt, mapped, turned_row, new_ones, stripped_row}
use Rattle.build_rows.specs.Fit.{PairsFit, TurnFit}
use Rattle.build_stripping.specs.Fit.{StripFit}
use Rattle.build_children.specs.Window.{sequence_at, children_at, children_window, ChildrenFit, ChildrenAt, ParentsAt, ChildrenFound}
use Rattle.build_children.proofs.Rows.{upto_order, rows_same, once_turned}
use Rattle.build_children.proofs.Places.{coming_from, coming_low, stripped_parents}

module _ {G : Graph} {work₀ : List ℕ} {place k base : ℕ} (fit : ChildrenFit G work₀ place k base) where
  abbrev n : ℕ
  n = G.n

  abbrev e : ℕ
  e = length G.sources

  abbrev sequence : ℕ
  sequence = sequence_at base k e

  abbrev starts : ℕ
  starts = children_at base k e

  abbrev P : List ℕ
  P = part work₀ place n

  places_long : Below (length P) G.sources
  places_long = rw (part_length work₀ place n fit.place_there.fits) (sources_below G fit.ends)

  -- a pass that writes in the window
  within : {work work' : List ℕ} {at size : ℕ} → base ≤ at → at + size ≤ base + children_window k e → Kept work work' at size → Kept work work' base (children_window k e)
  within l h K = kept_wider base (children_window k e) l h K

  pub edges_fit : PairsFit G.targets G.sources work₀ place n k starts
  edges_fit = record {
    keys_fit = record {
      keys_low = targets_below G fit.ends;
      table_there = record {
        fits = fit.place_there.fits;
        apart = apart_within starts (k + 1 + length G.targets) (omega arith) (omega (arith, fit.ends.paired)) fit.place_there.apart;
      };
      table_low = fit.place_low;
      room = omega (arith, fit.room, fit.ends.paired);
      few = omega (arith, fit.few_edges, fit.ends.paired);
    };
    paired = fit.ends.paired;
    values_low = sources_below G fit.ends;
  }

  -- the edges are laid out by target, and the stamps cleared
  module _
      {work₁ work₂ : List ℕ} (laying : Kept work₀ work₁ starts (k + 1 + length G.targets))
      (edges : Rows (part work₁ starts (k + 1)) (part work₁ (starts + k + 1) (length G.targets)) k (row (mapped P G.targets) (mapped P G.sources)))
      (clearing : Kept work₁ work₂ sequence k) (cleared : part work₂ sequence k ≡ replicate k 0)
    where
      kept₂ : Kept work₀ work₂ base (children_window k e)
      kept₂ = kept_then (within (omega arith) (omega (arith, fit.ends.paired)) laying) (within (omega arith) (omega arith) clearing)

      room₂ : base + children_window k e ≤ length work₂
      room₂ = omega (arith, fit.room, kept₂.long)

      edges_are : ChildrenAt work₂ base k e e (coming_from G P)
      edges_are =
          rw (clearing.above starts (k + 1) (omega arith), clearing.above (starts + k + 1) e (omega arith))
          (subst (λ m. Rows (part work₁ starts (k + 1)) (part work₁ (starts + k + 1) m) k (coming_from G P)) (sym fit.ends.paired) edges)

      pub strip_fits : StripFit work₂ starts (starts + k + 1) e k base
      strip_fits = record {
        starts_there = record { fits = omega (arith, room₂); apart = over (omega arith) };
        values_there = record { fits = omega (arith, room₂); apart = over (omega arith) };
        laid = edges_are.laid;
        values_low = values_below edges_are k (λ q p h i. coming_low G P k places_long fit.place_low q p i);
        stamps = cleared;
        room = omega (arith, room₂);
        few_values = fit.few_edges;
        few = fit.few_groups;
      }

      -- they are stripped, and the sequence is written
      module _
          {work₃ work₄ : List ℕ} {c : ℕ} (stripping : Kept work₂ work₃ base (k + 1 + e + k)) (few : c ≤ e)
          (stripped : RowsAt work₃ base k c (stripped_row (row_at (part work₂ starts (k + 1)) (part work₂ (starts + k + 1) e))))
          (counting : Kept work₃ work₄ sequence k) (counted : part work₄ sequence k ≡ upto k)
        where
          kept₄ : Kept work₀ work₄ base (children_window k e)
          kept₄ = kept_then kept₂ (kept_then (within (omega arith) (omega arith) stripping) (within (omega arith) (omega arith) counting))

          room₄ : base + children_window k e ≤ length work₄
          room₄ = omega (arith, fit.room, kept₄.long)

          parents_are : ParentsAt work₄ base k c (is_child G P)
          parents_are =
              rw (counting.below base (k + 1) (omega arith), counting.below (base + k + 1) c (omega arith))
              (stripped_parents G P k places_long fit.place_low (rows_same stripped (λ q h. ap (new_ones (q ∷ [])) (edges_are.row_is q h))))

          pub turn_fits : TurnFit work₄ base (base + k + 1) c k sequence starts
          turn_fits = record {
            rows_fit = record {
              values_fit = record {
                values_there = record { fits = omega (arith, room₄); apart = under (omega arith) };
                room = omega (arith, room₄);
                few = omega (arith, fit.few_edges);
              };
              starts_there = record { fits = omega (arith, room₄); apart = under (omega arith) };
              laid = parents_are.laid;
            };
            values_low = parents_are.low;
            sequence_there = record { fits = omega (arith, room₄); apart = under (omega arith) };
            order = rw counted (upto_order k);
          }

          -- and turned
          pub found :
              {work₅ : List ℕ} → Kept work₄ work₅ starts (k + 1 + c)
              → RowsAt work₅ starts k c (turned_row (row_at (part work₄ base (k + 1)) (part work₄ (base + k + 1) c)) (part work₄ sequence k))
              → ChildrenFound G work₀ work₅ place k base c
          found {work₅} turning turned = record {
            kept = kept_then kept₄ (within (omega arith) (omega arith) turning);
            few = few;
            children = once_turned parents_are (upto_order k) (rw counted at turned);
            parents = rw (turning.below base (k + 1) (omega arith), turning.below (base + k + 1) c (omega arith)) parents_are;
          }
