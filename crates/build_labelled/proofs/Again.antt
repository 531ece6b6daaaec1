-- One labelling after another. The groups lie outside the window, so they are there for the next order as for the first, and for the levels, which stand beside the
-- labelling whose ranks they are found by.
use mathlib.Core.Path.{◌≡◌, ap, ap₂, ◌∙◌}
use mathlib.Core.List.{List}
use Prim.Native.Nat.{ℕ, ◌+◌, ◌*◌}
use native.Mathlib.Omega.{arith}
use Rattle.lineage.specs.Lists.{part}
use Rattle.lineage.specs.Graph.{group_list, levels_of}
use Rattle.lineage.specs.Labels.{labelling}
use Rattle.numbers.specs.Regions.{Kept}
use Rattle.numbers.proofs.Regions.{kept_then, kept_wider, kept_apart, outside_kept}
use Rattle.build_levels.specs.Fit.{UpFit}
use Rattle.build_labelled.specs.Window.{walk_at, by_rank_at, labels_window, children_by, Labelled}
use Rattle.build_labelled.specs.Fit.{GroupsFit, LabelFit}
use Rattle.build_labelled.proofs.Regions.{rows_within, starts_same, values_same, children_same}
use Rattle.build_labelled.proofs.Forest.{by_rank_is, up_fits}

-- something was written in the window
module _
    {work work' : List ℕ} {n k c names place parents children base : ℕ} (fit : GroupsFit work n k c names place parents children base) (K : Kept work work' base (labels_window n k c))
  where
    names_same : part work' names n ≡ part work names n
    names_same = kept_apart K fit.vertices.names_there.apart

    place_same : part work' place n ≡ part work place n
    place_same = kept_apart K fit.vertices.place_there.apart

    -- the groups are still there
    pub groups_kept : GroupsFit work' n k c names place parents children base
    groups_kept = record {
      vertices = record {
        names_there = outside_kept fit.vertices.names_there K;
        place_there = outside_kept fit.vertices.place_there K;
        places = rw (place_same, names_same) fit.vertices.places;
        all = rw names_same fit.vertices.all;
        room = omega (arith, fit.vertices.room, K.long);
      };
      children_there = rows_within K.long (omega arith) (omega arith) fit.children_there;
      children_laid = rw (starts_same fit.children_there K, values_same fit.children_there K) fit.children_laid;
      sound = rw (names_same, children_same fit.children_there K) fit.sound;
      parents_there = rows_within K.long (omega arith) (omega arith) fit.parents_there;
      parents_are =
          rw (starts_same fit.parents_there K, values_same fit.parents_there K, children_same fit.children_there K) fit.parents_are;
      few_groups = fit.few_groups;
      few_children = fit.few_children;
    }

    -- what is labelled now is labelled as if nothing had been written
    pub labelled_since : {order work'' : List ℕ} → Labelled order work' work'' n k c names children base → Labelled order work work'' n k c names children base
    labelled_since {order} l = record {
      kept = kept_then K l.kept;
      made = l.made ∙ ap₂ (λ names below. labelling (group_list names) below order) names_same (children_same fit.children_there K);
    }

-- a labelling is there: the levels can be found, and it stays beside them
module _
    {orders work work' : List ℕ} {at n k c names place parents children base : ℕ} (fit : LabelFit orders work at n k c names place parents children base)
    (l : Labelled (part orders at n) work work' n k c names children base)
  where
    pub levels_fit : UpFit work' (by_rank_at base n k c) k children (children + k + 1) c base
    levels_fit = up_fits fit l.kept (ap (λ z. z.by_rank) l.made ∙ by_rank_is fit) (omega arith) (omega arith)

    pub levels_beside :
        {work'' : List ℕ} → Kept work' work'' base k → part work'' base k ≡ levels_of (children_by work' children k c)
        → Labelled (part orders at n) work work'' n k c names children base × (part work'' base k ≡ levels_of (children_by work children k c))
    levels_beside K levels = (
      record {
        kept = kept_then l.kept (kept_wider base (labels_window n k c) (omega arith) (omega arith) K);
        made =
            (λ i. record {
              s = K.above (walk_at base n k c) k (omega arith) i;
              m = K.above (walk_at base n k c + 5 * k) k (omega arith) i;
              e = K.above (walk_at base n k c + 6 * k) k (omega arith) i;
              by_rank = K.above (by_rank_at base n k c) k (omega arith) i;
            })
            ∙ l.made;
      },
      levels ∙ ap levels_of (children_same fit.groups.children_there l.kept),
    )
