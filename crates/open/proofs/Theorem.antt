-- Opening decides exactly what it should: bytes open where some edge list, of any length, and some orders yield exactly these bytes. What opens passes the local
-- tests, so some graph and orders make the index that it holds, and that index, written, is the bytes again. What a graph and orders yield fits the form, and its
-- bytes are read again as the index, which passes the tests.
use mathlib.Core.Bool.{true}
use mathlib.Core.Logic.{◌↔◌}
use mathlib.Core.Path.{◌≡◌, refl, sym, ap, subst, ◌∙◌}
use mathlib.Core.List.{List}
use Prim.Native.Nat.{ℕ, ◌^◌, ◌≤◌, ◌<◌}
use native.Mathlib.Omega.{arith}
use lib.ListN.{length, length-map}
use Rattle.std.specs.Prelude.{Result}
use Rattle.lineage.specs.Lists.{Every}
use Rattle.lineage.specs.Graph.{Graph, Ends}
use Rattle.lineage.specs.Labels.{Order, labelling}
use Rattle.lineage.specs.Index.{Index, index_by, index_of, Made}
use Rattle.lineage.specs.Stored.{Form, Counts, counts_of, counts_fit, encode, header_at, counts_in, form_of}
use Rattle.lineage.specs.Sound.{is_tree, sound, contents_sound}
use Rattle.lineage.specs.Calls.{answered, FormsTaken, takes, words_for, words_in, open_answer, open_marks, open_work, index_in}
use Rattle.laws.proofs.Sound.{made_sound, sound_is_made, made_long}
use Rattle.laws.proofs.Decides.{sound_decides}
use Rattle.refusals.specs.declared.Refusal.{Refusal}
use Rattle.refusals.proofs.Told.{outcome_once}
use Rattle.numbers.proofs.Written.{Bytes}
use Rattle.stored_header.proofs.Forms.{form_within}
use Rattle.stored_header.proofs.Laid.{header_laid}
use Rattle.stored.proofs.Contents.{contents_starts, contents_sound_lem, contents_tree}
use Rattle.stored.proofs.Decoded.{counts_are, encode_decode}
use Rattle.open.specs.Yields.{Yields, HeaderRight}
use Rattle.open.proofs.Checks.{opened_right, opened_contents, right_passes}
use Rattle.open.specs.declared.Opened.{Opened}
use Rattle.open.specs.Opened.{counts_told, opened_of}
use Rattle.open.proofs.Bounds.{counts_bounded, laid_short}
use Rattle.open.proofs.Fits.{Wide, form_wide, bounds_kept, yielded_fits, encoded_opens, fits_opens}

-- What opens.
module _ (T : FormsTaken) (b : List ℕ) (marks work : ℕ) {a : Counts} (e : answered a ≡ open_answer T b marks work) where
  abbrev F : Form
  F = form_of (header_at b 0)

  contents : contents_sound F b ≡ true
  contents = opened_contents T b marks work e

  -- it holds the names, group list, levels, children and labels of some graph under some orders
  pub opened_made : Made (index_in b)
  opened_made = (sound_is_made (index_in b)).0 ((sound_decides (index_in b)).1 (contents_sound_lem F b contents))

  pub opened_counts : counts_of (index_of opened_made.graph opened_made.orders) ≡ counts_in b
  opened_counts = ap counts_of opened_made.yields ∙ counts_are F b (contents_starts F b contents)

  -- those of a plain hierarchy, where the form is one of these
  pub opened_plain : F.tree ≡ true → is_tree (index_of opened_made.graph opened_made.orders).children ≡ true
  opened_plain tree = ap (λ (I : Index). is_tree I.children) opened_made.yields ∙ contents_tree F b contents tree

  opened_yields : Bytes b → Yields F b
  opened_yields small =
      let M : Made (index_in b) = opened_made in
      let laid = header_laid b T (right_passes T b (opened_right T b marks work e)) in
      record {
        graph = M.graph;
        ends = M.ends;
        orders = M.orders;
        permuted = M.permuted;
        plain = opened_plain;
        bytes = ap (encode F) M.yields ∙ encode_decode laid small (contents_starts F b contents);
      }

-- What is yielded.
module _ {F : Form} {b : List ℕ} (Y : Yields F b) where
  abbrev I : Index
  I = index_of Y.graph Y.orders

  passes : sound I ≡ true
  passes = (sound_decides I).1 (made_sound Y.graph Y.ends Y.orders Y.permuted)

  -- as many labellings as orders
  labellings : length I.labels ≡ length Y.orders
  unfolding index_of index_by
  labellings = length-map Y.orders (labelling I.groups I.children)

  yields_open : Wide F → counts_fit F (counts_of I) ≡ true → (T : FormsTaken) (marks work : ℕ)
      → takes T (header_at b 0) ≡ true
      → (counts_in b).n ≤ marks
      → words_in b ≤ work
      → answered (counts_in b) ≡ open_answer T b marks work
  yields_open W bounds T marks work =
      subst (λ (z : List ℕ). takes T (header_at z 0) ≡ true → (counts_in z).n ≤ marks → words_in z ≤ work → answered (counts_in z) ≡ open_answer T z marks work) Y.bytes
      (encoded_opens (yielded_fits W Y.graph Y.ends Y.orders Y.permuted Y.plain bounds) passes Y.plain T marks work)

-- Any forms, and bytes with the form that they name.
module _ (T : FormsTaken) (b : List ℕ) where
  abbrev own : Form
  own = form_of (header_at b 0)

  -- the header's counts are the index's
  counts_right : (Y : Yields own b) → HeaderRight T b → length Y.orders ≡ (counts_in b).d
      → counts_fit own (counts_of (index_of Y.graph Y.orders)) ≡ true
  counts_right Y R d =
      let L = header_laid b T (right_passes T b R) in
      let short : length (encode own (index_of Y.graph Y.orders)) < 2 ^ 31 = subst (λ (z : List ℕ). length z < 2 ^ 31) (sym Y.bytes) (laid_short L) in
      let S = made_sound Y.graph Y.ends Y.orders Y.permuted in
      let counts = counts_bounded own S (form_within (header_at b 0)) Y.plain short (omega (arith, labellings Y, L.most)) in
      ap (counts_fit own) (sym counts ∙ ap counts_in Y.bytes) ∙ R.counts

  -- with marks and words that suffice
  module _ (marks work : ℕ) (small : Bytes b) (room : (counts_in b).n ≤ marks) (words : words_in b ≤ work) where
    -- bytes open exactly where their header is right for a form that is taken and some edge list, of any length, and d orders yield exactly these bytes
    pub opens_exactly :
        (open_answer T b marks work ≡ answered (counts_in b)) ↔ (HeaderRight T b × ((Y : Yields own b) × (length Y.orders ≡ (counts_in b).d)))
    unfolding opened_yields
    opens_exactly = (
      (λ e.
          let Y = opened_yields T b marks work (sym e) small in
          (opened_right T b marks work (sym e), (Y, sym (labellings Y) ∙ ap (λ (a : Counts). a.d) (opened_counts T b marks work (sym e))))),
      λ (R, (Y, d)). sym (yields_open Y (form_wide (header_at b 0)) (counts_right Y R d) T marks work R.taken room words),
    )

    -- the same by the counts of what is yielded: n, c and d are within the form's bounds
    pub opens_within :
        (open_answer T b marks work ≡ answered (counts_in b))
        ↔ ((takes T (header_at b 0) ≡ true) × ((Y : Yields own b) × (counts_fit own (counts_of (index_of Y.graph Y.orders)) ≡ true)))
    unfolding opened_yields
    opens_within = (
      (λ e.
          let R = opened_right T b marks work (sym e) in
          (R.taken, (opened_yields T b marks work (sym e) small, ap (counts_fit own) (opened_counts T b marks work (sym e)) ∙ R.counts))),
      λ (taken, (Y, bounds)). sym (yields_open Y (form_wide (header_at b 0)) bounds T marks work taken room words),
    )

    -- and so of the code: whatever answer its contract allows
    pub accepts_exactly : (r : Result Opened Refusal) → opened_of r ≡ open_answer T b marks work
        → (opened_of r ≡ answered (counts_in b)) ↔ (HeaderRight T b × ((Y : Yields own b) × (length Y.orders ≡ (counts_in b).d)))
    accepts_exactly r e = rw e opens_exactly

-- what a build of accepted input stores at any form of the table opens, where that form is taken
pub built_opens : {F : Form} → Wide F → (G : Graph) → Ends G → (orders : List (List ℕ)) → Every (Order G.n) orders
    → G.n ≤ F.vertices
    → length G.sources ≤ F.edges
    → 1 ≤ length orders
    → length orders ≤ F.labellings
    → (F.tree ≡ true → is_tree (index_of G orders).children ≡ true)
    → (T : FormsTaken) (marks work : ℕ)
    → takes T F.number ≡ true
    → G.n ≤ marks
    → words_for F.width (counts_of (index_of G orders)) ≤ work
    → open_answer T (encode F (index_of G orders)) marks work ≡ answered (counts_of (index_of G orders))
built_opens W G ends orders permuted vertices edges least most plain T marks work taken room words =
    let bounds = bounds_kept W G ends orders permuted vertices edges least most in
    let passes = (sound_decides (index_of G orders)).1 (made_sound G ends orders permuted) in
    let n = made_long (record { graph = G; ends = ends; orders = orders; permuted = permuted; yields = refl }) in
    sym (fits_opens (yielded_fits W G ends orders permuted plain bounds) passes plain T marks work taken (omega arith) words)

-- counts are told as they are
told_apart : (o o' : Opened) → counts_told o ≡ counts_told o' → o ≡ o'
told_apart o o' = ap (λ (a : Counts). record { n = a.n; k = a.k; c = a.c; d = a.d })

-- What opening may answer and leave, by its contract: two results are equal.
pub record Allowed (T : FormsTaken) (b marks work : List ℕ) (r : Result Opened Refusal) (m w : List ℕ) : Type 0 where
  pub answers : opened_of r ≡ open_answer T b (length marks) (length work)
  pub leaves : m ≡ open_marks T b marks (length work)
  pub clears : w ≡ open_work T b (length marks) work

pub opened_once : {T : FormsTaken} {b marks work : List ℕ} {r r' : Result Opened Refusal} {m m' w w' : List ℕ}
    → Allowed T b marks work r m w
    → Allowed T b marks work r' m' w'
    → (r ≡ r') × ((m ≡ m') × (w ≡ w'))
opened_once A B = (outcome_once counts_told told_apart _ _ (A.answers ∙ sym B.answers), (A.leaves ∙ sym B.leaves, A.clears ∙ sym B.clears))
