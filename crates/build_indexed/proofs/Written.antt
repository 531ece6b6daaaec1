-- What is written is the index of the groups that lie in work memory, under the orders: the labels at their offset, then header, names, group list, levels, child starts
-- and children, each from its region.
use mathlib.Core.Path.{◌≡◌, refl, sym, ap, ap₂, subst⁻¹, ◌∙◌}
use mathlib.Core.List.{List, ◌++◌, map, map-map}
use Prim.Native.Nat.{ℕ, ◌+◌, ◌-◌, ◌*◌, ◌^◌, ◌≤◌, ◌<◌}
use native.Mathlib.Omega.{arith}
use lib.ListN.{length, get_or, take, drop}
use Rattle.lineage.specs.Lists.{upto, joined, part, Every}
use Rattle.lineage.specs.Numbers.{written}
use Rattle.lineage.specs.Graph.{levels_of}
use Rattle.lineage.specs.Labels.{labelling}
use Rattle.lineage.specs.Index.{Index, index_by}
use Rattle.lineage.specs.Stored.{Form, Counts, offsets, label_numbers, counts_of, header, encode}
use Rattle.lineage.specs.Calls.{order_at, length_of}
use Rattle.laws.proofs.Lists.{table_long}
use Rattle.laws.proofs.Levels.{levels_long}
use Rattle.laws.proofs.Labelled.{labelling_sound}
use Rattle.laws.proofs.Parts.{part_length}
use Rattle.laws.proofs.Every.{every_table}
use Rattle.numbers.specs.Put.{put}
use Rattle.numbers.specs.Regions.{Kept, Part}
use Rattle.numbers.proofs.Regions.{slice_part}
use Rattle.build_levels.specs.Fit.{UpFit}
use Rattle.build_labelled.specs.Window.{walk_at, labels_window, groups_by, children_by}
use Rattle.build_labelled.specs.Fit.{LabelFit}
use Rattle.build_labelled.proofs.Again.{levels_fit, levels_beside}
use Rattle.stored_header.specs.declared.Layout.{Layout}
use Rattle.stored_header.specs.Header.{counts, header_of}
use Rattle.stored_header.proofs.Laid.{Bounded}
use Rattle.stored.proofs.Encoded.{header_fits}
use Rattle.build_writing.specs.Words.{GroupLists, group_sections}
use Rattle.build_writing.specs.Fit.{SectionsFit}
use Rattle.build_writing.proofs.Encoded.{Whole, first_sections, label_section, index_put}
use Rattle.build_indexed.specs.Written.{written_as}
use Rattle.build_indexed.specs.Memory.{children_from, labels_from, condensed_in, labelling_under, labelling_block, Ready, OrderLabelled}
use Rattle.build_indexed.proofs.Orders.{label_fits}
use Rattle.build_indexed.proofs.Turns.{total_at}

-- the sections before the labels are slices of work memory: the names and the group list from its start on, the levels from base on, and the children
pub record Slices (work : List ℕ) (l : Layout) (base rows : ℕ) (lists : GroupLists) : Type 0 where
  pub names : Part work 0 l.n lists.names
  pub groups : Part work l.n l.k lists.groups
  pub levels : Part work base l.k lists.levels
  pub starts : Part work rows (l.k + 1) lists.starts
  pub children : Part work (rows + l.k + 1) l.c lists.children

module _ {l : Layout} {e : ℕ} {orders work₀ : List ℕ} (fit : Ready l e orders work₀) where
  abbrev groups : List ℕ
  groups = groups_by work₀ 0 l.n

  abbrev children : List (List ℕ)
  children = children_by work₀ (children_from l.n l.k e) l.k l.c

  -- the index, its labellings one by one
  abbrev I : Index
  I = record {
    names = part work₀ 0 l.n;
    groups = groups;
    levels = levels_of children;
    children = children;
    labels = map (labelling_under l e orders work₀) (upto l.d);
  }

  index_is : index_by (condensed_in work₀ l.n l.k l.c e) (map (order_at l.n orders) (upto l.d)) ≡ I
  unfolding index_by
  index_is = rw (fit.stored.groups, map-map (labelling groups children) (order_at l.n orders) (upto l.d))

  names_long : length (part work₀ 0 l.n) ≡ l.n
  names_long = part_length work₀ 0 l.n (omega (arith, fit.stored.fit.vertices.room))

  all : length groups ≡ l.k
  all = fit.stored.fit.vertices.all

  children_long : length children ≡ length groups
  children_long = fit.stored.fit.sound.children_long

  -- every group has its level and its children, and every rank its place
  ranks_long : (j : ℕ) → j < l.d → length (labelling_under l e orders work₀ j).by_rank ≡ length groups
  ranks_long j h = (labelling_sound fit.stored.fit.sound (order_at l.n orders j) (rw names_long (fit.permuted j h))).at_long ∙ children_long

  whole : Whole I
  whole = record {
    levels = levels_long children ∙ children_long;
    children = children_long;
    ranks = every_table (λ x. length x.by_rank ≡ length groups) (labelling_under l e orders work₀) l.d ranks_long;
  }

  counts_are : counts_of I ≡ counts l.n l.k l.c l.d
  counts_are =
      let entries : length (joined children) ≡ l.c =
      sym (ap length fit.stored.values) ∙ part_length work₀ (children_from l.n l.k e + l.k + 1) l.c (omega (arith, fit.stored.fit.children_there.values.fits)) in
      rw (names_long, all, entries, table_long (labelling_under l e orders work₀) l.d)

  -- its labels
  section_is : joined (map (labelling_block l e orders work₀) (upto l.d)) ≡ label_section l.stride I
  section_is =
      ap joined
      (sym (map-map (label_numbers l.stride l.k) (labelling_under l e orders work₀) (upto l.d))
      ∙ ap (λ (k : ℕ). map (label_numbers l.stride k) (map (labelling_under l e orders work₀) (upto l.d))) (sym all))

  module _ (form : ℕ) where
    abbrev F : Form
    F = written_as form l.width l.stride

    header_is : header_of form l ≡ header F (counts_of I)
    header_is = ap (header_of form) fit.laid ∙ ap (header F) (sym counts_are)

    pub header_small : form < 2 ^ 32 → Every (λ x. x < 2 ^ 32) (header_of form l)
    header_small small =
        let bounded : Bounded F (counts l.n l.k l.c l.d) =
        record {
          width = fit.width;
          stride = fit.stride;
          vertices = fit.vertices;
          groups = fit.stored.few_groups;
          entries = omega (arith, fit.edges, fit.stored.few_children);
          least = fit.least;
          most = fit.most;
        } in
        subst⁻¹ (λ (z : List ℕ). Every (λ x. x < 2 ^ 32) z) (ap (header_of form) fit.laid) (header_fits F (counts l.n l.k l.c l.d) small bounded)

    total_is : length_of F I ≡ l.total
    total_is = ap (λ (a : Counts). get_or (offsets l.width l.stride a.n a.k a.c a.d) 6 0) counts_are ∙ sym (ap (λ (z : Layout). z.total) fit.laid)

    pub index_total : length_of F (index_by (condensed_in work₀ l.n l.k l.c e) (map (order_at l.n orders) (upto l.d))) ≡ l.total
    index_total = ap (length_of F) index_is ∙ total_is

    labels_is : l.labels ≡ get_or (offsets l.width l.stride (counts_of I).n (counts_of I).k (counts_of I).c (counts_of I).d) 5 0
    labels_is = ap (λ (z : Layout). z.labels) fit.laid ∙ ap (λ (a : Counts). get_or (offsets l.width l.stride a.n a.k a.c a.d) 5 0) (sym counts_are)

  -- the regions that code has reckoned, and the last labelling in its window
  module _
      {children_at_lem base walk : ℕ} (children-is : children_at_lem ≡ children_from l.n l.k e) (base-is : base ≡ labels_from l.n l.k e)
      (walk_is : walk ≡ walk_at (labels_from l.n l.k e) l.n l.k l.c)
      {work₁ : List ℕ} (made : OrderLabelled l e orders work₀ work₁ (l.d - 1))
    where
      last_fits : LabelFit orders work₀ ((l.d - 1) * l.n) l.n l.k l.c 0 (2 * l.n) (3 * l.n) (children_from l.n l.k e) (labels_from l.n l.k e)
      last_fits = label_fits fit refl refl refl (l.d - 1) (omega (arith, fit.least))

      pub levels_there : UpFit work₁ (walk + 4 * l.k) l.k children_at_lem (children_at_lem + l.k + 1) l.c base
      levels_there = rw (children-is, base-is, walk_is) (levels_fit last_fits made)

      module _
          {work₂ : List ℕ} (K : Kept work₁ work₂ base l.k)
          (levels : part work₂ base l.k ≡ levels_of (children_by work₁ children_at_lem l.k l.c))
        where
          beside : OrderLabelled l e orders work₀ work₂ (l.d - 1) × (part work₂ (labels_from l.n l.k e) l.k ≡ levels_of children)
          beside = levels_beside last_fits made (rw base-is at K) (rw (base-is, children-is) at levels)

          pub index_kept : Kept work₀ work₂ (labels_from l.n l.k e) (labels_window l.n l.k l.c)
          index_kept = beside.0.kept

          names_slice : Part work₂ 0 l.n (take l.n work₂)
          unfolding part
          names_slice = record { is = refl; long = part_length work₂ 0 l.n (omega (arith, fit.stored.fit.vertices.room, index_kept.long)) }

          -- the five sections before the labels as slices of their regions
          pub slices : {list levels starts values : ℕ}
              → list ≡ l.n + l.k → levels ≡ base + l.k → starts ≡ children_at_lem + (l.k + 1) → values ≡ children_at_lem + l.k + 1 + l.c
              → Slices work₂ l base children_at_lem (record {
                names = take l.n work₂;
                groups = take (list - l.n) (drop l.n work₂);
                levels = take (levels - base) (drop base work₂);
                starts = take (starts - children_at_lem) (drop children_at_lem work₂);
                children = take (values - (children_at_lem + l.k + 1)) (drop (children_at_lem + l.k + 1) work₂);
              })
          slices list levels starts values =
              let room = fit.stored.fit.vertices.room in
              let same = index_kept.long in
              record {
                names = names_slice;
                groups = slice_part work₂ l.n l.k list (omega (arith, fit.stored.few_groups));
                levels = slice_part work₂ base l.k levels (omega arith);
                starts = slice_part work₂ children_at_lem (l.k + 1) starts (omega arith);
                children = slice_part work₂ (children_at_lem + l.k + 1) l.c values (omega (arith, fit.stored.few_children));
              }

          module _ {lists : GroupLists} (S : Slices work₂ l base children_at_lem lists) where
            pub groups_fit : (form : ℕ) {out₁ : List ℕ} → form < 2 ^ 32 → l.total ≤ length out₁ → SectionsFit out₁ form l lists
            groups_fit form small long = record {
              width = fit.width;
              laid = fit.laid;
              small = header_small form small;
              room = omega (arith, total_at fit);
              names_long = S.names.long;
              groups_long = S.groups.long;
              levels_long = S.levels.long;
              starts_long = S.starts.long;
              children_long = S.children.long;
            }

            sections_are : group_sections lists ≡ first_sections I
            sections_are =
                let names = index_kept.below 0 l.n (omega arith) in
                let list = index_kept.below l.n l.k (omega (arith, fit.stored.few_groups)) ∙ fit.stored.groups in
                let starts = index_kept.below (children_from l.n l.k e) (l.k + 1) (omega arith) ∙ fit.stored.starts in
                let values = index_kept.below (children_from l.n l.k e + l.k + 1) l.c (omega (arith, fit.stored.few_children)) ∙ fit.stored.values in
                rw (S.names.is, S.groups.is, S.levels.is, S.starts.is, S.children.is, children-is, base-is, names, list, beside.1, starts, values)

            pub index_written : (form : ℕ) (out₀ out₁ out₂ : List ℕ)
                → l.total ≤ length out₀
                → out₁ ≡ put out₀ l.labels (written l.width (joined (map (labelling_block l e orders work₀) (upto l.d))))
                → out₂
                ≡ put out₁ 0 (written 4 (header_of form l) ++ joined (map (written l.width) (group_sections lists)))
                → out₂ ≡ encode (written_as form l.width l.stride) (index_by (condensed_in work₀ l.n l.k l.c e) (map (order_at l.n orders) (upto l.d))) ++ drop l.total out₀
            index_written form out₀ out₁ out₂ room e₁ e₂ =
                e₂
                ∙ ap₂ (λ (z bytes : List ℕ). put z 0 bytes)
                (e₁ ∙ ap (λ (z : List ℕ). put out₀ l.labels (written l.width z)) section_is)
                (ap₂ (λ (h : List ℕ) (x : List (List ℕ)). written 4 h ++ joined (map (written l.width) x)) (header_is form) sections_are)
                ∙ index_put (F form) I fit.stride whole out₀ l.labels (labels_is form) (omega (arith, total_is form))
                ∙ ap₂ (λ (J : Index) (n : ℕ). encode (F form) J ++ drop n out₀) (sym index_is) (total_is form)
