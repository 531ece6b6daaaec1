-- Checks 8, 22 and 9, and the build behind them. An order that is no permutation is refused by its number; otherwise groups and children are found, a group that is a child of two
-- others is refused by its name where the form takes plain hierarchies alone, and they give the total length before anything is written: an output shorter than that is refused
-- with it.
use mathlib.Core.Bool.{true, false, not, ◌&&◌, cond}
use mathlib.Core.Path.{◌≡◌, refl, sym, ap, subst, subst⁻¹, ◌∙◌}
use mathlib.Core.List.{List, ◌++◌, map}
use Prim.Native.Nat.{ℕ, ◌+◌, ◌-◌, ◌*◌, ◌^◌, ◌≤◌, ◌<◌}
use native.Mathlib.Omega.{arith}
use lib.ListN.{length, get_or, take, drop}
use borrow.Author.Tests.{lt-ltb, le-ltb}
use Rattle.std.specs.Prelude.{Option, Some, None}
use Rattle.lineage.specs.Lists.{upto, any, first_of}
use Rattle.lineage.specs.Graph.{Graph, Condensed}
use Rattle.lineage.specs.Index.{Index, index_by, index_of}
use Rattle.lineage.specs.Stored.{Form, encode}
use Rattle.lineage.specs.Sound.{shared, is_tree}
use Rattle.lineage.specs.Calls.{refused, answered, Input, order_at, orders_of, bad_order, work_needed, built, length_of, tree_check}
use Rattle.laws.proofs.Lists.{in_upto, any_none}
use Rattle.laws.proofs.Parts.{part_at}
use Rattle.numbers.specs.Regions.{Kept, Part}
use Rattle.numbers.proofs.Regions.{slice_part, kept_then, kept_wider}
use Rattle.numbers.specs.Found.{found_below}
use Rattle.build_orders.proofs.Permutations.{order_of}
use Rattle.build_labelled.specs.Window.{labels_window, children_by}
use Rattle.stored_header.specs.declared.Row.{Row}
use Rattle.stored_header.specs.declared.Layout.{Layout}
use Rattle.stored_header.specs.Header.{counts, layout_by}
use Rattle.build_indexed.specs.Memory.{children_from, labels_from, condensed_in, CondensedFit, CondensedFound, Ready}
use Rattle.build_indexed.specs.Shared.{row_shared}
use Rattle.build_indexed.specs.Written.{written_as}
use Rattle.build_indexed.proofs.Shared.{first_shared}
use Rattle.build_indexed.proofs.Written.{index_total, header_small}
use Rattle.build.specs.Input.{form_by, RowFit}
use Rattle.build.specs.Admitted.{Admitted}
use Rattle.build.specs.Answers.{LateBuilt}
use Rattle.build.proofs.Checks.{any_some, first_some, any_none_found}
use Rattle.build.proofs.Tree.{tree_passes, tree_fails}

module _ {B : Input} {form : ℕ} {row : Row} (fit : RowFit row) (work : List ℕ) (A : Admitted (form_by form row) B (length work)) where
  abbrev F : Form
  F = form_by form row

  abbrev G : Graph
  G = B.graph

  abbrev n : ℕ
  n = G.n

  abbrev e : ℕ
  e = length G.sources

  -- the first order that is no permutation, looked for in the first n words
  module _ {bad : Option ℕ} (found : bad ≡ found_below B.d (first_of (bad_order n B.orders) (upto B.d) B.d)) {w₁ : List ℕ} (K : Kept work w₁ 0 n) where
    order_kept : Kept work w₁ 0 (work_needed G)
    order_kept = kept_wider 0 (work_needed G) (omega arith) (omega arith) K

    pub order_refused : (out : List ℕ) {i : ℕ} → bad ≡ Some i → LateBuilt F B work out (refused 8 i) w₁ out
    order_refused out h =
        let some = any_some (bad_order n B.orders) B.d found h in
        record {
          answer = ap (refused 8) (first_some (bad_order n B.orders) B.d found h) ∙ rw some;
          output = rw some;
          kept = order_kept;
        }

    pub condensed_fit : CondensedFit G w₁
    condensed_fit = record { ends = A.ends; vertices = omega (arith, A.vertices, fit.vertices); edges = omega (arith, A.edges, fit.edges); room = omega (arith, A.room, K.long) }

    -- every order is a permutation, and k groups and c child entries are found
    module _
        (right : bad ≡ None) {w₂ : List ℕ} {k c : ℕ} (C : CondensedFound G w₁ w₂ k c)
      where
        -- the layout
        abbrev L : Layout
        L = layout_by row.width row.stride (counts n k c B.d)

        none : any (bad_order n B.orders) (upto B.d) ≡ false
        none = any_none_found (bad_order n B.orders) B.d found right

        ready : Ready L e B.orders w₂
        ready = record {
          width = fit.width;
          stride = fit.stride;
          laid = refl;
          vertices = omega (arith, A.vertices, fit.vertices);
          edges = omega (arith, A.edges, fit.edges);
          least = A.least;
          most = omega (arith, A.most, fit.labellings);
          whole = A.whole;
          permuted =
              λ j h.
              order_of n B.d B.orders A.whole j h
              (any_none (bad_order n B.orders) (upto B.d) none j (in_upto B.d j h));
          stored = C.stored;
        }

        -- the index of what lies in work memory is the one that is built
        index_built : index_by (condensed_in w₂ n k c e) (orders_of B) ≡ built B
        unfolding index_of
        index_built = ap (λ (z : Condensed). index_by z (orders_of B)) C.is

        total_built : length_of F (built B) ≡ L.total
        total_built = ap (length_of F) (sym index_built) ∙ index_total ready form

        -- its bytes depend on the form's number, width and numbers by place alone
        bytes_same : (I : Index) → encode (written_as form row.width row.stride) I ≡ encode F I
        unfolding encode
        bytes_same I = refl

        -- what is said of that layout holds of the one that code has
        module _ {l : Layout} (l-is : l ≡ L) where
          pub layout_ready : Ready l e B.orders w₂
          layout_ready = subst⁻¹ (λ (z : Layout). Ready z e B.orders w₂) l-is ready

          total_is : l.total ≡ length_of F (built B)
          total_is = ap (λ (z : Layout). z.total) l-is ∙ sym total_built

          pub total_small : form < 2 ^ 32 → l.total < 2 ^ 32
          total_small small = (header_small layout_ready form small).1.1.1.1.1.1.1.1.1.1.1.0

        condensed_kept : Kept work w₂ 0 (work_needed G)
        condensed_kept = kept_then order_kept C.kept

        -- where the rows of parents start, as a slice
        pub parents_slice : {end : ℕ} → end ≡ 3 * n + (k + 1) → Part w₂ (3 * n) (k + 1) (take (end - 3 * n) (drop (3 * n) w₂))
        parents_slice e = slice_part w₂ (3 * n) (k + 1) e (omega (arith, A.room, condensed_kept.long, C.stored.few_groups))

        abbrev children : List (List ℕ)
        children = children_by w₂ (children_from n k e) k c

        children_long : length children ≡ k
        children_long = C.stored.fit.sound.children_long ∙ C.stored.fit.vertices.all

        children_built : (built B).children ≡ children
        unfolding index_by
        children_built = ap (λ (I : Index). I.children) (sym index_built)

        -- the first group that keeps the graph out of the form
        module _
            {starts : List ℕ} (P : Part w₂ (3 * n) (k + 1) starts) {first : Option ℕ}
            (first_is : first ≡ cond row.tree (found_below k (first_of (row_shared starts) (upto k) k)) None)
          where
            kept_out_is : first ≡ cond row.tree (found_below k (first_of (shared children) (upto k) k)) None
            kept_out_is =
                first_is ∙ ap (λ (x : ℕ). cond row.tree (found_below k x) None) (ap (λ (z : List ℕ). first_of (row_shared z) (upto k) k) P.is ∙ first_shared C.stored)

            module _ {p : ℕ} (h : first ≡ Some p) where
              pub shared_low : p < k
              shared_low = (tree_fails children k children_long row.tree first kept_out_is h).low

              -- its name
              name_is : get_or w₂ (n + p) 0 ≡ get_or (built B).groups p 0
              unfolding index_by
              name_is = part_at w₂ n k p shared_low ∙ ap (λ (I : Index). get_or I.groups p 0) index_built

              pub shared_refused : (out : List ℕ) → LateBuilt F B work out (refused 22 (get_or w₂ (n + p) 0)) w₂ out
              shared_refused out =
                  let fails = tree_fails children k children_long row.tree first kept_out_is h in
                  let test : (row.tree && not (is_tree (built B).children)) ≡ true = ap (λ (x : List (List ℕ)). row.tree && not (is_tree x)) children_built ∙ fails.applies in
                  let name : get_or w₂ (n + p) 0 ≡ (tree_check F (built B)).extra =
                  name_is
                  ∙ ap (λ (i : ℕ). get_or (built B).groups i 0)
                  (fails.is ∙ ap (λ (x : List (List ℕ)). first_of (shared x) (upto (length x)) 0) (sym children_built)) in
                  record { answer = ap (refused 22) name ∙ rw (none, test); output = rw (none, test); kept = condensed_kept }

            passes : first ≡ None → (row.tree && not (is_tree (built B).children)) ≡ false
            passes h =
                ap (λ (x : List (List ℕ)). row.tree && not (is_tree x)) children_built
                ∙ tree_passes children k children_long row.tree first kept_out_is h

            -- none does: the output is too short, or it is written
            module _ (plain : first ≡ None) {l : Layout} (l-is : l ≡ L) where
              pub short_refused : (out : List ℕ) → length out < l.total → LateBuilt F B work out (refused 9 l.total) w₂ out
              short_refused out h =
                  let short = lt-ltb (length out) (length_of F (built B)) (omega (arith, total_is l-is)) in
                  record { answer = ap (refused 9) (total_is l-is) ∙ rw (none, passes plain, short); output = rw (none, passes plain, short); kept = condensed_kept }

              pub finished : (out : List ℕ) {w₃ out' : List ℕ}
                  → l.total ≤ length out
                  → out' ≡ encode (written_as form l.width l.stride) (index_by (condensed_in w₂ l.n l.k l.c e) (map (order_at l.n B.orders) (upto l.d))) ++ drop l.total out
                  → Kept w₂ w₃ (labels_from l.n l.k e) (labels_window l.n l.k l.c)
                  → LateBuilt F B work out (answered l.total) w₃ out'
              finished out {w₃} {out'} h put_is K' =
                  let long = le-ltb (length out) (length_of F (built B)) (omega (arith, total_is l-is)) in
                  let bytes : out' ≡ encode (written_as form row.width row.stride) (index_by (condensed_in w₂ n k c e) (orders_of B)) ++ drop L.total out =
                  subst
                  (λ (z : Layout).
                  out' ≡ encode (written_as form z.width z.stride) (index_by (condensed_in w₂ z.n z.k z.c e) (map (order_at z.n B.orders) (upto z.d))) ++ drop z.total out)
                  l-is put_is in
                  let kept : Kept w₂ w₃ (labels_from n k e) (labels_window n k c) =
                  subst (λ (z : Layout). Kept w₂ w₃ (labels_from z.n z.k e) (labels_window z.n z.k z.c)) l-is K' in
                  record {
                    answer = ap answered (total_is l-is) ∙ rw (none, passes plain, long);
                    output =
                        bytes
                        ∙ ap (λ (x : List ℕ). x ++ drop L.total out) (bytes_same (index_by (condensed_in w₂ n k c e) (orders_of B)))
                        ∙ ap (λ (I : Index). encode F I ++ drop L.total out) index_built
                        ∙ ap (λ (m : ℕ). encode F (built B) ++ drop m out) (sym total_built)
                        ∙ rw (none, passes plain, long);
                    kept =
                        kept_then condensed_kept
                        (kept_wider 0 (work_needed G) (omega arith) (omega (arith, C.stored.few_groups, C.stored.few_children)) kept);
                  }
