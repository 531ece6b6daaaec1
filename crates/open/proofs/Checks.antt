-- What `open` answers and leaves, by where its checks stop; and what bytes are that open.
use mathlib.Core.Bool.{Bool, true, false, not, cond}
use mathlib.Core.Path.{◌≡◌, sym, ap, ◌∙◌}
use mathlib.Core.List.{List, [], ◌∷◌, ◌++◌}
use Prim.Native.Nat.{ℕ, ◌≤◌}
use lib.ListN.{length}
use borrow.Author.Tests.{ltb-false, not-false}
use Rattle.lineage.specs.Lists.{cleared}
use Rattle.lineage.specs.Stored.{Form, Counts, header_at, counts_in, form_of, counts_fit, offsets_fit}
use Rattle.lineage.specs.Sound.{contents_sound}
use Rattle.lineage.specs.Calls.{Check, Outcome, refused, answered, outcome, FormsTaken, takes, words_in, form_checks, contents_check, open_answer, open_marks, open_work}
use Rattle.laws.proofs.Tests.{neither}
use Rattle.stored_header.specs.declared.Layout.{Layout}
use Rattle.laws.specs.Checks.{Pass, Comes}
use Rattle.stored_header.specs.Header.{layout_in, words_of, header_checks, Laid}
use Rattle.laws.proofs.Checks.{stops_outcome, answered_pass, pass_behind, pass_both, refused_comes, rest_comes}
use Rattle.stored_header.proofs.Checked.{all_right}
use Rattle.stored_header.proofs.Laid.{n_is, k_is, c_is, d_is, words_are, cleared_in}
use Rattle.stored_header.proofs.Admitted.{lent_pass, Admits, admitted, admitted_laid}
use Rattle.open.specs.Yields.{HeaderRight}

-- 15 as code tests it
pub contents_applies : {b : List ℕ} {l : Layout} {t : Bool} → Laid b l → t ≡ contents_sound (form_of (header_at b 0)) b → (contents_check b).applies ≡ not t
contents_applies L e = ap not (sym e)

-- the needed words as code has them
pub words_cleared : {b : List ℕ} {l : Layout} {needed : ℕ} → Laid b l → needed ≡ words_of l → (work : List ℕ) {w : List ℕ} → w ≡ cleared needed work
    → w ≡ cleared (words_in b) work
words_cleared L e work f = f ∙ ap (λ (n : ℕ). cleared n work) (e ∙ words_are L)

module _ (T : FormsTaken) (b marks work : List ℕ) where
  abbrev early : List Check
  early = form_checks T b (length marks) (length work)

  abbrev late : List Check
  late = contents_check b ∷ []

  -- what may be answered, and what marks and words may hold afterwards
  abbrev pub Opens : Outcome Counts → List ℕ → List ℕ → Type 0
  Opens o m w =
      (o ≡ open_answer T b (length marks) (length work)) × ((m ≡ open_marks T b marks (length work)) × (w ≡ open_work T b (length marks) work))

  opens_by : {o : Outcome Counts} {kept stops : Bool}
      → Comes early late (counts_in b) o kept stops
      → Opens o (cond kept marks (cleared (counts_in b).n marks)) (cond kept work (cleared (words_in b) work))
  unfolding open_answer open_marks open_work
  opens_by C = (sym C.says, (rw C.before, rw C.before))

  pub opens_refused : {x y : ℕ} → refused x y ≡ outcome early (layout_in b) → Opens (refused x y) marks work
  opens_refused e = opens_by (refused_comes (counts_in b) (layout_in b) early [] late _ _ (sym e))

  -- t says whether the contents are sound, and marks and needed words are cleared
  module _ {l : Layout} (A : Admits T b (length marks) (length work) l)
      {t : Bool} (told : t ≡ contents_sound (form_of (header_at b 0)) b)
      {m : List ℕ} (left : m ≡ cleared l.n marks)
      {needed : ℕ} (need : needed ≡ words_of l) {w : List ℕ} (words : w ≡ cleared needed work)
    where
      abbrev L : Laid b l
      L = admitted_laid A

      -- behind 6 the check of the contents decides
      opens_late : {o : Outcome Counts} → outcome late (counts_in b) ≡ o → Opens o m w
      opens_late e =
          let (o, (k, v)) = opens_by (rest_comes (counts_in b) early [] late (admitted A) e) in
          (o, (cleared_in L marks left ∙ k, words_cleared L need work words ∙ v))

      pub opens_unsound : not t ≡ true → Opens (refused 15 0) m w
      opens_unsound h = opens_late (stops_outcome (counts_in b) late 0 (contents_applies L told ∙ h))

      pub opens_sound : not t ≡ false → Opens (answered (record { n = l.n; k = l.k; c = l.c; d = l.d })) m w
      opens_sound h =
          let (o, rest) = opens_late (stops_outcome (counts_in b) late 1 (contents_applies L told ∙ h, tt)) in (rw (n_is L, k_is L, c_is L, d_is L) o, rest)

module _ (T : FormsTaken) (b : List ℕ) where
  -- what opens: its header is right, and its contents are sound
  module _ (m w : ℕ) {a : Counts} (e : answered a ≡ open_answer T b m w) where
    abbrev F : Form
    F = form_of (header_at b 0)

    passed : Pass (form_checks T b m w ++ (contents_check b ∷ []))
    unfolding open_answer
    passed = answered_pass (counts_in b) (form_checks T b m w ++ (contents_check b ∷ [])) a (sym e)

    pub opened_right : HeaderRight T b
    opened_right =
        let fit = neither (counts_fit F (counts_in b)) (offsets_fit F (counts_in b) b) passed.1.1.0 in
        record {
          long = ltb-false (length b) 48 passed.0;
          taken = not-false (takes T (header_at b 0)) passed.1.0;
          counts = fit.0;
          offsets = fit.1;
        }

    pub opened_contents : contents_sound F b ≡ true
    opened_contents = not-false (contents_sound F b) (pass_behind (form_checks T b m w) (contents_check b ∷ []) passed).0

  -- a header that is right passes; with sound contents, and marks and words that suffice, the bytes open
  pub right_passes : HeaderRight T b → Pass (header_checks T b)
  right_passes R = all_right T b R.long R.taken R.counts R.offsets

  pub passed_opens : Pass (header_checks T b) → (m w : ℕ) → (counts_in b).n ≤ m → words_in b ≤ w → contents_sound (form_of (header_at b 0)) b ≡ true
      → answered (counts_in b) ≡ open_answer T b m w
  unfolding open_answer
  passed_opens p m w h i s =
      let late : List Check = contents_check b ∷ [] in
      sym (stops_outcome (counts_in b) (form_checks T b m w ++ late) 6 (pass_both (form_checks T b m w) late (lent_pass T b m w p h i) (ap not s, tt)))
