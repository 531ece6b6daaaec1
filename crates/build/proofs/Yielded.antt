-- Whatever edge list and orders yield bytes that open as a hierarchy, it is a plain hierarchy: the children are among what is written. Their index with s in the place of m
-- has the same bytes, since m is not written, and it is read again from them; so its children are those that the opener has tested.
use mathlib.Core.Bool.{true}
use mathlib.Core.Logic.{◌↔◌}
use mathlib.Core.Path.{◌≡◌, refl, sym, ap, ap₂, subst⁻¹, ◌∙◌}
use mathlib.Core.List.{List, [], ◌∷◌, ◌++◌, map, map-map}
use Prim.Native.Nat.{ℕ, ◌^◌, ◌<◌}
use native.Mathlib.Omega.{arith}
use lib.Dec.{leb}
use lib.ListN.{length, length-map}
use borrow.Author.Tests.{leb-true}
use Rattle.lineage.specs.Lists.{joined, Every}
use Rattle.lineage.specs.Numbers.{written}
use Rattle.lineage.specs.Graph.{Graph, Ends, Reaches, levels_of}
use Rattle.lineage.specs.Labels.{Order, Labelling}
use Rattle.lineage.specs.Index.{Index, index_by, index_of, Made}
use Rattle.lineage.specs.Question.{place_in}
use Rattle.lineage.specs.Stored.{form4, Counts, counts_of, counts_fit, label_numbers, sections, header, encode}
use Rattle.lineage.specs.Sound.{is_tree}
use Rattle.lineage.specs.Calls.{answered, hierarchy, index_in, open_answer}
use Rattle.laws.specs.Sound.{SoundLabelling, Sound}
use Rattle.laws.proofs.Tests.{both}
use Rattle.laws.proofs.Sound.{made_sound}
use Rattle.laws_answers.specs.Answers.{Member}
use Rattle.laws_hierarchy.specs.Hierarchy.{Contained}
use Rattle.stored.specs.Fits.{Full, Fits}
use Rattle.stored.proofs.Encoded.{index_encode}
use Rattle.open.proofs.Small.{sections_small}
use Rattle.open.proofs.Fits.{yielded_fits, form_wide}
use Rattle.build.proofs.Hierarchy.{opened_tree, contained_opened}

-- with s in the place of m
abbrev outer_alone : Labelling → Labelling
outer_alone l = record { s = l.s; m = l.s; e = l.e; by_rank = l.by_rank }

abbrev without_inner : Index → Index
without_inner I = record { names = I.names; groups = I.groups; levels = I.levels; children = I.children; labels = map outer_alone I.labels }

-- the same is written
counts_same : (I : Index) → counts_of (without_inner I) ≡ counts_of I
counts_same I = ap (λ (d : ℕ). record { n = length I.names; k = (counts_of I).k; c = (counts_of I).c; d = d }) (length-map I.labels outer_alone)

sections_same : (I : Index) → sections 2 (without_inner I) ≡ sections 2 I
sections_same I = rw (map-map (label_numbers 2 (length I.groups)) outer_alone I.labels)

bytes_same : (I : Index) → encode form4 (without_inner I) ≡ encode form4 I
unfolding encode
bytes_same I = ap₂ (λ (a : Counts) (x : List (List ℕ)). written 4 (header form4 a) ++ joined (map (written 4) x)) (counts_same I) (sections_same I)

full_same : (children : List (List ℕ)) (k : ℕ) → length children ≡ k → (ls : List Labelling) → Every (SoundLabelling children) ls → Every (Full 2 k) (map outer_alone ls)
full_same children k e [] h = tt
full_same children k e (l ∷ ls) h = (
  record { s = h.0.s_long ∙ e; m = h.0.s_long ∙ e; e = h.0.e_long ∙ e; by_rank = h.0.at_long ∙ e; alike = λ pairs. refl },
  full_same children k e ls h.1,
)

module _
    (G : Graph) (ends : Ends G) (orders : List (List ℕ)) (permuted : Every (Order G.n) orders)
    (bounds : counts_fit form4 (counts_of (index_of G orders)) ≡ true)
  where
    abbrev I : Index
    I = index_of G orders

    made : Sound I
    made = made_sound G ends orders permuted

    levels_are_lem : I.levels ≡ levels_of I.children
    unfolding index_of index_by
    levels_are_lem = refl

    fits : Fits form4 (without_inner I)
    fits =
        let a : Counts = counts_of I in
        let S = made.condensed in
        let n = both (leb a.n 200000) _ bounds in
        let k = both (leb a.k a.n) _ n.1 in
        let c = both (leb a.c 1000000) _ k.1 in
        record {
          known = refl;
          counts = ap (counts_fit form4) (counts_same I) ∙ bounds;
          levels = S.levels_long ∙ S.children_long;
          children = S.children_long;
          labels = full_same I.children (length I.groups) S.children_long I.labels made.labelled;
          small =
              subst⁻¹ (Every (Every (λ x. x < 256 ^ 4))) (sections_same I)
              (sections_small made levels_are_lem (256 ^ 4)
              (omega (arith, leb-true a.n 200000 n.0))
              (omega (arith, leb-true a.c 1000000 c.0))
              2);
        }

    -- the bytes that are written of it open as a hierarchy
    module _ {b : List ℕ} (yields : encode form4 I ≡ b) (marks work : ℕ) {a : Counts} (e : answered a ≡ open_answer hierarchy b marks work) where
      -- so it is one
      pub yielded_plain : is_tree I.children ≡ true
      yielded_plain =
          let held : index_in b ≡ without_inner I = ap index_in (sym yields ∙ sym (bytes_same I)) ∙ index_encode fits in
          ap (λ (J : Index). is_tree J.children) (sym held) ∙ opened_tree b marks work e

      abbrev yielded_made : Made (index_in b)
      yielded_made = record {
        graph = G;
        ends = ends;
        orders = orders;
        permuted = permuted;
        yields = sym (index_encode (yielded_fits (form_wide 4) G ends orders permuted (λ t. yielded_plain) bounds)) ∙ ap index_in yields;
      }

      -- and outer containment of two vertices' groups holds exactly where the one reaches the other
      pub contained_yielded : (l : Labelling) → Member l (index_in b).labels → (u v : ℕ) → u < length (index_in b).names → v < length (index_in b).names
          → Contained l (place_in (index_in b) u) (place_in (index_in b) v) ↔ Reaches G u v
      contained_yielded = contained_opened b marks work e yielded_made
