-- What a finished conversion keeps. The index of sound bytes fits the other form, since its counts do; so the bytes that are written hold the same index, and they
-- open. Every call answers from the index, so it answers alike; and turned back they are the bytes that there were, since these are written from their index.
use mathlib.Core.Bool.{true, false, not, ◌&&◌}
use mathlib.Core.Path.{◌≡◌, sym, ap, ap₂, subst, subst⁻¹, ◌∙◌}
use mathlib.Core.List.{List, ◌++◌}
use Prim.Native.Nat.{ℕ, ◌≤◌}
use native.Mathlib.Omega.{arith}
use lib.Dec.{leb, ltb}
use lib.ListN.{length}
use borrow.Author.Tests.{leb-true, ltb-false, le-leb, le-ltb, eq-eqb, eqb-true, not-false}
use Rattle.lineage.specs.Index.{Index, index_of, Made}
use Rattle.lineage.specs.Stored.{Form, Counts, counts_of, counts_fit, offsets_fit, encode, header_at, counts_in, form_of, is_form}
use Rattle.lineage.specs.Sound.{is_tree, sound}
use Rattle.lineage.specs.Calls.{Check, answered, FormsTaken, takes, words_for, words_in, contents_check, index_in, open_answer}
use Rattle.laws.specs.Checks.{Pass}
use Rattle.laws.proofs.Tests.{and_both, both, or_false_left, or_false_right, neither, clash}
use Rattle.laws.proofs.Checks.{stops_outcome, answered_pass, pass_front, pass_behind, pass_both}
use Rattle.laws.proofs.Decides.{sound_decides}
use Rattle.numbers.proofs.Written.{Bytes}
use Rattle.stored_header.specs.Header.{header_checks}
use Rattle.stored_header.proofs.Laid.{header_laid}
use Rattle.stored_header.proofs.Admitted.{header_pass, lent_pass}
use Rattle.stored.specs.Fits.{Fits}
use Rattle.stored.proofs.Contents.{contents_starts, contents_sound_lem, contents_tree}
use Rattle.stored.proofs.Encoded.{header_read, counts_read, encode_passes, index_encode}
use Rattle.stored.proofs.Decoded.{encode_decode}
use Rattle.open.proofs.Checks.{opened_contents, passed_opens}
use Rattle.open.proofs.Fits.{form_wide, yielded_fits, fits_opens}
use Rattle.open.proofs.Theorem.{opened_made, opened_counts}
use Rattle.sound_places.proofs.Triples.{Triples, form_triples}
use Rattle.convert.specs.Convert.{converted, only, beyond, convert_early, convert_late, convert_answer}
use Rattle.convert.proofs.Same.{Alike}

-- a call that takes one form alone takes that one
only_takes : (from number : ℕ) → takes (only from) number ≡ true → number ≡ from
only_takes from number h =
    let r = (both (leb from number && leb number from) (is_form number) h).0 in
    let s = both (leb from number) (leb number from) r in
    omega (arith, leb-true from number s.0, leb-true number from s.1)

-- a header that is right for one form alone: its number, and its counts within that form
module _ (from : ℕ) (b : List ℕ) (header : Pass (header_checks (only from) b)) where
  header_number : header_at b 0 ≡ from
  header_number = only_takes from (header_at b 0) (not-false (takes (only from) (header_at b 0)) header.1.0)

  pub header_fit : counts_fit (form_of from) (counts_in b) ≡ true
  header_fit =
      let own : Form = form_of (header_at b 0) in
      ap (λ (x : ℕ). counts_fit (form_of x) (counts_in b)) (sym header_number) ∙ (neither (counts_fit own (counts_in b)) (offsets_fit own (counts_in b) b) header.1.1.0).0

-- counts that fit a form are not beyond it, nor beyond a wider one; those that fit one and are not beyond another fit that one
pub fits_within : (F G : Form) → F.vertices ≤ G.vertices → F.entries ≤ G.entries → (a : Counts) → counts_fit F a ≡ true → beyond G a ≡ false
fits_within F G vertices entries a fit =
    let n = both (leb a.n F.vertices) _ fit in
    let k = both (leb a.k a.n) _ n.1 in
    let c = both (leb a.c F.entries) _ k.1 in
    let low : a.n ≤ G.vertices = omega (arith, leb-true a.n F.vertices n.0) in
    rw (
      le-ltb G.vertices a.n low,
      le-ltb G.vertices a.k (omega (arith, leb-true a.k a.n k.0)),
      le-ltb G.entries a.c (omega (arith, leb-true a.c F.entries c.0)),
    )

within_fits : (F G : Form) → F.labellings ≤ G.labellings → (a : Counts) → counts_fit F a ≡ true → beyond G a ≡ false → counts_fit G a ≡ true
within_fits F G labellings a fit within =
    let n = both (leb a.n F.vertices) _ fit in
    let k = both (leb a.k a.n) _ n.1 in
    let c = both (leb a.c F.entries) _ k.1 in
    let d = both (leb 1 a.d) _ c.1 in
    let few : a.d ≤ G.labellings = omega (arith, leb-true a.d F.labellings d.1) in
    let entries = or_false_right (ltb G.vertices a.k) _ (or_false_right (ltb G.vertices a.n) _ within) in
    and_both (le-leb a.n G.vertices (ltb-false G.vertices a.n (or_false_left _ _ within)))
    (and_both k.0 (and_both (le-leb a.c G.entries (ltb-false G.entries a.c entries)) (and_both d.0 (le-leb a.d G.labellings few))))

-- a form of the table is taken by a call that takes it alone
own_takes : (form : ℕ) → takes (only (form_of form).number) (form_of form).number ≡ true
own_takes form =
    let x : ℕ = (form_of form).number in
    and_both (and_both (le-leb x x (omega arith)) (le-leb x x (omega arith)))
    (eq-eqb (form_of x).number x (ap (λ (F : Form). F.number) (form_wide form).known))

-- the bytes can be turned: their header is right for the form to be turned, their contents are sound, their counts fit the other form, and where that is one of plain
-- hierarchies they hold one
pub record Turnable (from to : ℕ) (b : List ℕ) : Type 0 where
  pub header : Pass (header_checks (only from) b)
  pub contents : (contents_check b).applies ≡ false
  pub fit : counts_fit (form_of to) (counts_in b) ≡ true
  pub plain : (form_of to).tree ≡ true → is_tree (index_in b).children ≡ true

-- exactly then they are, where marks, words and output suffice; of two forms up to the third
pub answered_turnable : (from to : ℕ) → (from ≤ 3) × (to ≤ 3) → (b : List ℕ) (marks work out : ℕ) {total : ℕ} → convert_answer from to b marks work out ≡ answered total → Turnable from to b
unfolding convert_answer
answered_turnable from to triples b marks work out {total} e =
    let early : List Check = convert_early from b marks work in
    let late : List Check = convert_late to b out in
    let p : Pass (early ++ late) = answered_pass (length (converted (form_of to) b)) (early ++ late) total e in
    let l : Pass late = pass_behind early late p in
    let header : Pass (header_checks (only from) b) = header_pass (only from) b marks work (pass_front early late p) in
    let F : Triples (form_of from) = form_triples from triples.0 in
    let G : Triples (form_of to) = form_triples to triples.1 in
    record {
      header = header;
      contents = l.0;
      fit = within_fits (form_of from) (form_of to) (omega (arith, F.labellings, G.labellings)) (counts_in b) (header_fit from b header) l.1.0;
      plain = λ tree. clash tree G.any;
    }

pub turnable_answered : {from to : ℕ} {b : List ℕ} → Turnable from to b → (marks work out : ℕ)
    → (counts_in b).n ≤ marks
    → words_in b ≤ work
    → length (converted (form_of to) b) ≤ out
    → convert_answer from to b marks work out ≡ answered (length (converted (form_of to) b))
unfolding convert_answer
turnable_answered {from} {to} {b} C marks work out room words fits =
    let early : List Check = convert_early from b marks work in
    let late : List Check = convert_late to b out in
    let needed : ℕ = length (converted (form_of to) b) in
    let within : beyond (form_of to) (counts_in b) ≡ false = fits_within (form_of to) (form_of to) (omega arith) (omega arith) (counts_in b) C.fit in
    stops_outcome needed (early ++ late) 8
    (pass_both early late (lent_pass (only from) b marks work C.header room words) (C.contents, (within, (le-ltb out needed fits, tt))))

module _ {from to : ℕ} {b : List ℕ} (C : Turnable from to b) where
  abbrev F : Form
  F = form_of from

  abbrev G : Form
  G = form_of to

  abbrev a : Counts
  a = counts_in b

  abbrev turned : List ℕ
  turned = converted G b

  number_is : header_at b 0 ≡ from
  number_is = header_number from b C.header

  own_fit : counts_fit F a ≡ true
  own_fit = header_fit from b C.header

  opens : answered a ≡ open_answer (only from) b a.n (words_in b)
  opens = passed_opens (only from) b C.header a.n (words_in b) (omega arith) (omega arith) (not-false _ C.contents)

  abbrev made : Made (index_in b)
  made = opened_made (only from) b a.n (words_in b) opens

  made_counts : counts_of (index_of made.graph made.orders) ≡ a
  made_counts = opened_counts (only from) b a.n (words_in b) opens

  -- the index fits the other form
  pub turned_fits : Fits G (index_in b)
  turned_fits =
      subst (Fits G) made.yields
      (yielded_fits (form_wide to) made.graph made.ends made.orders made.permuted
      (λ tree. ap (λ (I : Index). is_tree I.children) made.yields ∙ C.plain tree)
      (ap (counts_fit G) made_counts ∙ C.fit))

  own_counts : counts_of (index_in b) ≡ a
  own_counts = sym (ap counts_of made.yields) ∙ made_counts

  own_sound : sound (index_in b) ≡ true
  own_sound = (sound_decides (index_in b)).1 (contents_sound_lem (form_of (header_at b 0)) b (not-false _ C.contents))

  -- what is written holds the same index, with the same counts
  pub index_kept : index_in turned ≡ index_in b
  index_kept = index_encode turned_fits

  pub counts_kept : counts_in turned ≡ a
  counts_kept = counts_read turned_fits ∙ own_counts

  number_turned : header_at turned 0 ≡ G.number
  number_turned = header_read turned_fits 0 (omega arith)

  -- and it opens, where its form is taken
  pub turned_opens : (T : FormsTaken) (marks work : ℕ)
      → takes T G.number ≡ true
      → a.n ≤ marks
      → words_for G.width a ≤ work
      → open_answer T turned marks work ≡ answered a
  turned_opens T marks work taken room words =
      sym
      (fits_opens turned_fits own_sound C.plain T marks work taken
      (omega (arith, ap (λ (z : Counts). z.n) own_counts))
      (subst⁻¹ (λ (z : Counts). words_for G.width z ≤ work) own_counts words))
      ∙ ap answered own_counts

  pub words_turned : words_in turned ≡ words_for G.width a
  words_turned = ap₂ (λ (H : Form) (z : Counts). words_for H.width z) (ap form_of number_turned ∙ (form_wide to).known) counts_kept

  contents_turned : (contents_check turned).applies ≡ false
  contents_turned =
      ap not
      (opened_contents (only G.number) turned a.n (words_for G.width a) (sym (turned_opens (only G.number) a.n (words_for G.width a) (own_takes to) (omega arith) (omega arith))))

  -- Every question, list and Monday call is answered alike, where both forms are taken and the words suffice.
  pub turned_alike : (T : FormsTaken) (work work' : ℕ)
      → takes T from ≡ true
      → takes T G.number ≡ true
      → words_in b ≤ work
      → words_for G.width a ≤ work'
      → Alike T b turned work work'
  turned_alike T work work' taken taken' words words' = record {
    right =
        record {
          header = (C.header.0, (ap not (ap (takes T) number_is ∙ taken), C.header.1.1));
          words = words;
          contents = C.contents;
        };
    right' =
        record {
          header = encode_passes turned_fits T taken';
          words = subst⁻¹ (λ (x : ℕ). x ≤ work') words_turned words';
          contents = contents_turned;
        };
    counts = counts_kept;
    index = index_kept;
  }

  -- Back again.
  pub turned_back : Bytes b → converted F turned ≡ b
  turned_back small =
      ap (encode F) index_kept
      ∙ ap (λ (x : ℕ). encode (form_of x) (index_in b)) (sym number_is)
      ∙ encode_decode (header_laid b (only from) C.header) small (contents_starts (form_of (header_at b 0)) b (not-false _ C.contents))

  pub turnable_back : is_form to ≡ true → Turnable to from turned
  turnable_back known =
      let number : G.number ≡ to = eqb-true G.number to known in
      record {
        header = encode_passes turned_fits (only to) (subst (λ (x : ℕ). takes (only x) G.number ≡ true) number (own_takes to));
        contents = contents_turned;
        fit = ap (counts_fit F) counts_kept ∙ own_fit;
        plain = λ tree.
            ap (λ (I : Index). is_tree I.children) index_kept
            ∙ contents_tree (form_of (header_at b 0)) b (not-false _ C.contents) (ap (λ (x : ℕ). (form_of x).tree) number_is ∙ tree);
      }
