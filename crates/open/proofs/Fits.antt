-- What some edge list and orders yield within a form's bounds fits the form, and its bytes open.
use mathlib.Core.Bool.{Bool, true, false, not, ◌&&◌, ◌||◌}
use mathlib.Core.Path.{◌≡◌, refl, sym, ap, ap₂, subst, subst⁻¹, ◌∙◌}
use mathlib.Core.List.{List, [], ◌∷◌}
use Prim.Native.Nat.{ℕ, ◌^◌, ◌≤◌, ◌<◌}
use native.Mathlib.Omega.{arith}
use lib.Dec.{leb}
use lib.ListN.{length, length-map}
use borrow.Author.Tests.{leb-true, le-leb, eq-eqb}
use Rattle.lineage.specs.Lists.{Every}
use Rattle.lineage.specs.Graph.{Graph, Ends, names_of, condense, levels_of}
use Rattle.lineage.specs.Labels.{Order, Labelling, labelling}
use Rattle.lineage.specs.Index.{Index, index_by, index_of}
use Rattle.lineage.specs.Stored.{Form, form1, form2, form3, form4, forms, Counts, counts_of, counts_fit, encode, header_at, counts_in, form_of, section}
use Rattle.lineage.specs.Sound.{is_tree, starts_pass, sound, contents_sound}
use Rattle.lineage.specs.Calls.{answered, FormsTaken, takes, words_for, words_in, open_answer}
use Rattle.laws.specs.Sound.{SoundLabelling, Sound}
use Rattle.laws.proofs.Tests.{and_both, both}
use Rattle.laws.proofs.Names.{names_long}
use Rattle.laws.proofs.Sound.{made_sound}
use Rattle.laws.proofs.Starts.{starts_pass_lem}
use Rattle.laws_hierarchy.specs.Hierarchy.{Alike}
use Rattle.laws_hierarchy.proofs.Unopened.{tree_alike}
use Rattle.stored_header.proofs.Forms.{Within, form_within, form_each}
use Rattle.stored.specs.Fits.{Full, Fits}
use Rattle.stored.proofs.Encoded.{header_read, counts_read, decode_encode, encode_passes}
use Rattle.open.proofs.Checks.{passed_opens}
use Rattle.open.proofs.Starts.{starts_read}
use Rattle.open.proofs.Small.{groups_few, sections_small}
use Rattle.open.proofs.Entries.{entries_few}

-- a form of the table, whose width holds its bounds, and which takes no more edges than child entries
pub record Wide (F : Form) : Type 0 where
  pub known : form_of F.number ≡ F
  pub vertices : F.vertices < 256 ^ F.width
  pub entries : F.entries < 256 ^ F.width
  pub edges : F.edges ≤ F.entries

form1_wide : Wide form1
form1_wide = record { known = refl; vertices = omega arith; entries = omega arith; edges = omega arith }

form2_wide : Wide form2
form2_wide = record { known = refl; vertices = omega arith; entries = omega arith; edges = omega arith }

form3_wide : Wide form3
form3_wide = record { known = refl; vertices = omega arith; entries = omega arith; edges = omega arith }

form4_wide : Wide form4
form4_wide = record { known = refl; vertices = omega arith; entries = omega arith; edges = omega arith }

forms_wide : Every Wide forms
forms_wide = (form1_wide, (form2_wide, (form3_wide, (form4_wide, tt))))

-- every number stands for such a form
pub form_wide : (number : ℕ) → Wide (form_of number)
form_wide = form_each Wide forms_wide

-- so it is within the bounds of every form
pub wide_within : {F : Form} → Wide F → Within F
wide_within {F} W = subst Within W.known (form_within F.number)

-- accepted input keeps the bounds: there are no more groups than vertices, and no more child entries than edges
pub bounds_kept : {F : Form} → Wide F → (G : Graph) → Ends G → (orders : List (List ℕ)) → Every (Order G.n) orders
    → G.n ≤ F.vertices
    → length G.sources ≤ F.edges
    → 1 ≤ length orders
    → length orders ≤ F.labellings
    → counts_fit F (counts_of (index_of G orders)) ≡ true
unfolding index_of index_by condense
bounds_kept {F} W G ends orders permuted vertices edges least most =
    let a : Counts = counts_of (index_of G orders) in
    let n : a.n ≡ G.n = names_long G ends in
    let d : a.d ≡ length orders = length-map orders (labelling (index_of G orders).groups (index_of G orders).children) in
    and_both (le-leb a.n F.vertices (omega arith))
    (and_both (le-leb a.k a.n (groups_few (made_sound G ends orders permuted)))
    (and_both (le-leb a.c F.entries (omega (arith, entries_few G (names_of G), W.edges)))
    (and_both (le-leb 1 a.d (omega arith)) (le-leb a.d F.labellings (omega arith)))))

-- each labelling has its k entries
pub full : {z : ℕ} (children : List (List ℕ)) (k : ℕ) → length children ≡ k → (ls : List Labelling) → Every (SoundLabelling children) ls
    → (z ≡ 2 → Every (λ l. l.m ≡ l.s) ls)
    → Every (Full z k) ls
full children k e [] h alike = tt
full children k e (l ∷ ls) h alike = (
  record {
    s = h.0.s_long ∙ e;
    m = h.0.m_long ∙ e;
    e = h.0.e_long ∙ e;
    by_rank = h.0.at_long ∙ e;
    alike = λ pairs. (alike pairs).0;
  },
  full children k e ls h.1 (λ pairs. (alike pairs).1),
)

-- at a form of pairs the children are a plain hierarchy, so m is s
pub plain_alike : {F : Form} {I : Index} → Within F → Sound I → (F.tree ≡ true → is_tree I.children ≡ true) → F.by_place ≡ 2 → Alike I
plain_alike {F} {I} W S plain pairs = tree_alike I S (plain (W.pairs ∙ eq-eqb F.by_place 2 pairs))

module _ {F : Form} (W : Wide F) (G : Graph) (ends : Ends G) (orders : List (List ℕ)) (permuted : Every (Order G.n) orders)
    (plain : F.tree ≡ true → is_tree (index_of G orders).children ≡ true)
    (bounds : counts_fit F (counts_of (index_of G orders)) ≡ true)
  where
    abbrev I : Index
    I = index_of G orders

    yielded_sound : Sound I
    yielded_sound = made_sound G ends orders permuted

    levels_are_lem : I.levels ≡ levels_of I.children
    unfolding index_of index_by
    levels_are_lem = refl

    pub yielded_fits : Fits F I
    yielded_fits =
        let a : Counts = counts_of I in
        let S = yielded_sound.condensed in
        let n = both (leb a.n F.vertices) _ bounds in
        let k = both (leb a.k a.n) _ n.1 in
        let c = both (leb a.c F.entries) _ k.1 in
        record {
          known = W.known;
          counts = bounds;
          levels = S.levels_long ∙ S.children_long;
          children = S.children_long;
          labels =
              full I.children (length I.groups) S.children_long I.labels yielded_sound.labelled (plain_alike (wide_within W) yielded_sound plain);
          small =
              sections_small yielded_sound levels_are_lem (256 ^ F.width)
              (omega (arith, leb-true a.n F.vertices n.0, W.vertices))
              (omega (arith, leb-true a.c F.entries c.0, W.entries))
              F.by_place;
        }

-- the bytes of an index that fits and passes its tests open
module _ {F : Form} {I : Index} (E : Fits F I) (passes : sound I ≡ true) (plain : F.tree ≡ true → is_tree I.children ≡ true) where
  abbrev b : List ℕ
  b = encode F I

  number_again : header_at b 0 ≡ F.number
  number_again = header_read E 0 (omega arith)

  form_again : form_of (header_at b 0) ≡ F
  form_again = ap form_of number_again ∙ E.known

  plain_test : (t : Bool) → F.tree ≡ t → (not t || is_tree I.children) ≡ true
  plain_test true e = plain e
  plain_test false e = refl

  contents_again : contents_sound F b ≡ true
  unfolding contents_sound
  contents_again =
      let a : Counts = counts_of I in
      ap₂
      (λ (z : Counts) (J : Index). starts_pass (section F.width F.by_place z b 3) z.k z.c && (sound J && (not F.tree || is_tree J.children)))
      (counts_read E) (decode_encode E)
      ∙ ap₂ (λ (s : List ℕ) (k : ℕ). starts_pass s k a.c && (sound I && (not F.tree || is_tree I.children))) (starts_read E) (sym E.children)
      ∙ rw (starts_pass_lem I.children, passes) (plain_test F.tree refl)

  words_again : words_in b ≡ words_for F.width (counts_of I)
  words_again = ap₂ (λ (G : Form) (a : Counts). words_for G.width a) form_again (counts_read E)

  module _ (T : FormsTaken) (marks work : ℕ) where
    -- told from the bytes
    pub encoded_opens : takes T (header_at b 0) ≡ true → (counts_in b).n ≤ marks → words_in b ≤ work → answered (counts_in b) ≡ open_answer T b marks work
    encoded_opens taken room words =
        passed_opens T b (encode_passes E T (sym (ap (takes T) number_again) ∙ taken)) marks work room words (ap (λ (G : Form). contents_sound G b) form_again ∙ contents_again)

    -- and from the index
    pub fits_opens : takes T F.number ≡ true → length I.names ≤ marks → words_for F.width (counts_of I) ≤ work
        → answered (counts_of I) ≡ open_answer T b marks work
    fits_opens taken room words =
        ap answered (sym (counts_read E))
        ∙ encoded_opens (ap (takes T) number_again ∙ taken)
        (omega (arith, ap (λ (a : Counts). a.n) (counts_read E)))
        (subst⁻¹ (λ (x : ℕ). x ≤ work) words_again words)
