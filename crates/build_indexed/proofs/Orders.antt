-- One order after the other: the groups that lie in work memory can be labelled under each, and the labelling that is left is what is written.
use mathlib.Core.Path.{◌≡◌, refl, sym, ap, ◌∙◌}
use mathlib.Core.List.{List}
use Prim.Native.Nat.{ℕ, ◌+◌, ◌-◌, ◌*◌, ◌≤◌, ◌<◌}
use native.Mathlib.Omega.{arith}
use lib.ListN.{length, take, drop}
use Rattle.lineage.specs.Lists.{part}
use Rattle.lineage.specs.Numbers.{written}
use Rattle.lineage.specs.Labels.{Labelling}
use Rattle.lineage.specs.Stored.{label_numbers}
use Rattle.numbers.specs.Put.{put}
use Rattle.build_orders.proofs.Permutations.{order_room}
use Rattle.build_labelled.specs.Window.{walk_at, window_labelling, Labelled}
use Rattle.build_labelled.specs.Fit.{LabelFit}
use Rattle.stored_header.specs.declared.Layout.{Layout}
use Rattle.numbers.specs.Regions.{Part}
use Rattle.numbers.proofs.Regions.{slice_part}
use Rattle.build_writing.specs.Fit.{LabellingFit}
use Rattle.build_indexed.specs.Memory.{children_from, labels_from, labelling_block, Ready, OrderLabelled}

-- a labelling's lists are slices of its regions in work memory
pub record Slices (work : List ℕ) (walk k : ℕ) (l : Labelling) : Type 0 where
  pub s : Part work walk k l.s
  pub m : Part work (walk + 5 * k) k l.m
  pub e : Part work (walk + 6 * k) k l.e
  pub by_rank : Part work (walk + 4 * k) k l.by_rank

module _ {l : Layout} {e : ℕ} {orders work : List ℕ} (fit : Ready l e orders work) where
  -- the regions that code has reckoned
  module _
      {children base walk : ℕ} (children-is : children ≡ children_from l.n l.k e) (base-is : base ≡ labels_from l.n l.k e)
      (walk_is : walk ≡ walk_at (labels_from l.n l.k e) l.n l.k l.c)
    where
      pub label_fits : (j : ℕ) → j < l.d → LabelFit orders work (j * l.n) l.n l.k l.c 0 (2 * l.n) (3 * l.n) children base
      label_fits j h =
          rw (children-is, base-is)
          (record { inside = omega (arith, order_room j l.d l.n h, fit.whole); order = fit.permuted j h; groups = fit.stored.fit })

      module _
          {work' : List ℕ} (j : ℕ) (made : Labelled (part orders (j * l.n) l.n) work work' l.n l.k l.c 0 children base)
        where
          pub order_labelled : OrderLabelled l e orders work work' j
          order_labelled = rw (children-is, base-is) at made

          -- the labelling as slices of its regions
          pub slices : {s m e r : ℕ} → s ≡ walk + l.k → m ≡ walk + 5 * l.k + l.k → e ≡ walk + 6 * l.k + l.k → r ≡ walk + 4 * l.k + l.k
              → Slices work' walk l.k (record {
                s = take (s - walk) (drop walk work');
                m = take (m - (walk + 5 * l.k)) (drop (walk + 5 * l.k) work');
                e = take (e - (walk + 6 * l.k)) (drop (walk + 6 * l.k) work');
                by_rank = take (r - (walk + 4 * l.k)) (drop (walk + 4 * l.k) work');
              })
          slices s m e r =
              let room : walk + 7 * l.k ≤ length work' = omega (arith, fit.stored.fit.vertices.room, order_labelled.kept.long) in
              record {
                s = slice_part work' walk l.k s (omega arith);
                m = slice_part work' (walk + 5 * l.k) l.k m (omega arith);
                e = slice_part work' (walk + 6 * l.k) l.k e (omega arith);
                by_rank = slice_part work' (walk + 4 * l.k) l.k r (omega arith);
              }

          module _ {lies : Labelling} (S : Slices work' walk l.k lies) where
            pub labelling_fits : (out' : List ℕ) (at : ℕ) → at + l.width * ((l.stride + 1) * l.k) ≤ length out' → LabellingFit out' at l.width l.stride lies
            labelling_fits out' at h = record {
              width = fit.width;
              stride = fit.stride;
              room = rw S.s.long h;
              m_long = S.m.long ∙ sym S.s.long;
              e_long = S.e.long ∙ sym S.s.long;
              ranks_long = S.by_rank.long ∙ sym S.s.long;
              few = omega (arith, S.s.long, fit.vertices, fit.stored.few_groups);
            }

            labelling_there : lies ≡ window_labelling work' (labels_from l.n l.k e) l.n l.k l.c
            labelling_there =
                let at : (b : ℕ) → part work' (walk + b) l.k ≡ part work' (walk_at (labels_from l.n l.k e) l.n l.k l.c + b) l.k = λ b. rw walk_is refl in
                λ i. record {
                  s = (S.s.is ∙ ap (λ b. part work' b l.k) walk_is) i;
                  m = (S.m.is ∙ at (5 * l.k)) i;
                  e = (S.e.is ∙ at (6 * l.k)) i;
                  by_rank = (S.by_rank.is ∙ at (4 * l.k)) i;
                }

            pub order_written : (out' r : List ℕ) (at : ℕ)
                → r ≡ put out' at (written l.width (label_numbers l.stride (length lies.s) lies))
                → r ≡ put out' at (written l.width (labelling_block l e orders work j))
            order_written out' r at h =
                h
                ∙ ap (λ (k : ℕ). put out' at (written l.width (label_numbers l.stride k lies))) S.s.long
                ∙ ap (λ (z : Labelling). put out' at (written l.width (label_numbers l.stride l.k z))) (labelling_there ∙ order_labelled.made)
