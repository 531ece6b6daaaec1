-- The turns of the loop over orders. Each writes its labelling behind those before it, from groups that no turn alters: so what it writes is as if it were the first.
use mathlib.Core.Path.{◌≡◌, refl, sym, ap, ap₂, subst, ◌∙◌}
use mathlib.Core.List.{List, map}
use Prim.Native.Nat.{ℕ, ◌+◌, ◌-◌, ◌*◌, ◌≤◌, ◌<◌}
use native.Mathlib.Omega.{arith}
use native.Mathlib.Nat.{mul-le-mul_left}
use lib.ListN.{length}
use Rattle.lineage.specs.Lists.{upto, joined, part}
use Rattle.lineage.specs.Numbers.{written}
use Rattle.lineage.specs.Graph.{group_list}
use Rattle.lineage.specs.Labels.{labelling}
use Rattle.lineage.specs.Stored.{starts_from, label_numbers}
use Rattle.lineage.specs.Calls.{order_at}
use Rattle.laws.proofs.Labelled.{labelling_sound}
use Rattle.laws.proofs.Parts.{part_length}
use Rattle.numbers.specs.Put.{put}
use Rattle.numbers.specs.Regions.{Kept}
use Rattle.numbers.proofs.Regions.{kept_same}
use Rattle.build_labelled.specs.Window.{labels_window, children_by}
use Rattle.build_labelled.proofs.Regions.{children_same}
use Rattle.build_labelled.proofs.Again.{groups_kept, labelled_since}
use Rattle.stored_header.specs.declared.Layout.{Layout}
use Rattle.stored_header.specs.Header.{counts}
use Rattle.stored_header.proofs.Laid.{sited_by}
use Rattle.stored.proofs.Held.{labelling_within}
use Rattle.stored.proofs.LabelNumbers.{numbers_of_long}
use Rattle.build_writing.proofs.Behind.{blocks_put, blocks_none, blocks_more}
use Rattle.build_indexed.specs.Memory.{children_from, labels_from, labelling_under, labelling_block, GroupsStored, Ready, OrderLabelled}

-- j orders are gone through: their labellings are written, and the last of them is still there
pub record Turns (l : Layout) (e : ℕ) (orders out₀ work₀ out work : List ℕ) (j : ℕ) : Type 0 where
  pub long : length out ≡ length out₀
  pub kept : Kept work₀ work (labels_from l.n l.k e) (labels_window l.n l.k l.c)
  pub last : 0 < j → OrderLabelled l e orders work₀ work (j - 1)
  pub labels : out ≡ blocks_put l.width l.labels (labelling_block l e orders work₀) out₀ j

module _ {l : Layout} {e : ℕ} {orders work₀ : List ℕ} (fit : Ready l e orders work₀) where
  -- where the labels end
  pub total_at : l.total ≡ l.labels + l.width * (l.d * ((l.stride + 1) * l.k))
  total_at = (sited_by l l.width l.stride (counts l.n l.k l.c l.d) fit.laid).total_at

  -- something was written where labellings are made: the groups are still there
  module _ {work : List ℕ} (K : Kept work₀ work (labels_from l.n l.k e) (labels_window l.n l.k l.c)) where
    abbrev S : GroupsStored work₀ l.n l.k l.c e
    S = fit.stored

    names_same : part work 0 l.n ≡ part work₀ 0 l.n
    names_same = K.below 0 l.n (omega arith)

    below_same : children_by work (children_from l.n l.k e) l.k l.c ≡ children_by work₀ (children_from l.n l.k e) l.k l.c
    below_same = children_same S.fit.children_there K

    stored_kept : GroupsStored work l.n l.k l.c e
    stored_kept = record {
      few_groups = S.few_groups;
      few_children = S.few_children;
      fit = groups_kept S.fit K;
      groups = K.below l.n l.k (omega (arith, S.few_groups)) ∙ S.groups ∙ ap group_list (sym names_same);
      starts = K.below (children_from l.n l.k e) (l.k + 1) (omega arith) ∙ S.starts ∙ ap (starts_from 0) (sym below_same);
      values = K.below (children_from l.n l.k e + l.k + 1) l.c (omega (arith, S.few_children)) ∙ S.values ∙ ap joined (sym below_same);
    }

    ready_kept : Ready l e orders work
    ready_kept = record {
      width = fit.width;
      stride = fit.stride;
      laid = fit.laid;
      vertices = fit.vertices;
      edges = fit.edges;
      least = fit.least;
      most = fit.most;
      whole = fit.whole;
      permuted = fit.permuted;
      stored = stored_kept;
    }

    block_same : (j : ℕ) → labelling_block l e orders work j ≡ labelling_block l e orders work₀ j
    block_same j =
        ap₂ (λ (names : List ℕ) (children : List (List ℕ)). label_numbers l.stride l.k (labelling (group_list names) children (order_at l.n orders j)))
        names_same
        below_same

  -- a labelling has z numbers by place and one by rank for each group
  block_long : (j : ℕ) → j < l.d → length (labelling_block l e orders work₀ j) ≡ (l.stride + 1) * l.k
  block_long j h =
      let G = fit.stored.fit in
      let all : length (part work₀ 0 l.n) ≡ l.n = part_length work₀ 0 l.n (omega (arith, G.vertices.room)) in
      numbers_of_long fit.stride l.k (labelling_under l e orders work₀ j)
      ((labelling_sound G.sound (order_at l.n orders j) (rw all (fit.permuted j h))).at_long ∙ G.sound.children_long ∙ G.vertices.all)

  pub turns_none : (out₀ : List ℕ) → Turns l e orders out₀ work₀ out₀ work₀ 0
  turns_none out₀ = record {
    long = refl;
    kept = kept_same work₀ (labels_from l.n l.k e) (labels_window l.n l.k l.c);
    last = λ h. absurd (omega arith);
    labels = blocks_none l.width l.labels (labelling_block l e orders work₀) out₀;
  }

  module _ {out₀ out work : List ℕ} {j : ℕ} (t : Turns l e orders out₀ work₀ out work j) where
    pub turns_ready : Ready l e orders work
    turns_ready = ready_kept t.kept

    -- where the next labelling goes; it lies in the output
    pub turns_within : l.total ≤ length out₀ → j < l.d → l.labels + l.width * ((l.stride + 1) * l.k * j) + l.width * ((l.stride + 1) * l.k) ≤ length out₀
    turns_within room h = omega (arith, total_at, mul-le-mul_left l.width (labelling_within ((l.stride + 1) * l.k) l.d j h))

    pub turns_more : {out' work' : List ℕ} {at : ℕ}
        → l.total ≤ length out₀
        → j < l.d
        → at ≡ l.labels + l.width * ((l.stride + 1) * l.k * j)
        → length out' ≡ length out
        → OrderLabelled l e orders work work' j
        → out' ≡ put out at (written l.width (labelling_block l e orders work j))
        → Turns l e orders out₀ work₀ out' work' (j + 1)
    turns_more {at = at} room h here long made put_is =
        let since = labelled_since fit.stored.fit t.kept made in
        let before : j ≡ j + 1 - 1 = omega arith in
        record {
          long = long ∙ t.long;
          kept = since.kept;
          last = λ _. subst (OrderLabelled l e orders work₀ _) before since;
          labels =
              put_is
              ∙ ap (λ (z : List ℕ). put out at (written l.width z)) (block_same t.kept j)
              ∙ blocks_more l.width l.labels (labelling_block l e orders work₀) out₀ ((l.stride + 1) * l.k) out at j (λ i b. block_long i (omega arith)) t.labels here
              (omega (arith, turns_within room h));
        }

    -- all of them
    pub turns_all : j ≡ l.d
        → OrderLabelled l e orders work₀ work (l.d - 1) × (out ≡ put out₀ l.labels (written l.width (joined (map (labelling_block l e orders work₀) (upto l.d)))))
    turns_all done = (
      subst (λ (i : ℕ). OrderLabelled l e orders work₀ work (i - 1)) done (t.last (omega (arith, fit.least))),
      t.labels ∙ ap (blocks_put l.width l.labels (labelling_block l e orders work₀) out₀) done,
    )
