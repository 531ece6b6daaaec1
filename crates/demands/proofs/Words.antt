-- A call that is lent no words leaves none: where no check before 15 applies, 6 does not, so none are needed.
use mathlib.Core.Bool.{Bool, true, false, not, ◌||◌, cond}
use mathlib.Core.Path.{◌≡◌, refl}
use mathlib.Core.List.{List, [], ◌∷◌, ◌++◌}
use Prim.Native.Nat.{ℕ}
use native.Mathlib.Omega.{arith}
use lib.Dec.{leb, ltb}
use lib.ListN.{length}
use borrow.Author.Tests.{ltb-false}
use Rattle.lineage.specs.Lists.{cleared}
use Rattle.lineage.specs.Stored.{Form, header_length, Counts, header_at, counts_in, form_of, counts_fit, offsets_fit}
use Rattle.lineage.specs.Calls.{Check, check, any_applies, FormsTaken, takes, words_in, form_checks, work_after, open_work, ask_work}
use Rattle.ask_all.specs.Batch.{batch_work}
use Rattle.convert.specs.Convert.{only, convert_work}
use Rattle.laws.proofs.Tests.{or_false_left, or_false_right}

none_cleared : (needed : ℕ) → needed ≡ 0 → cleared needed [] ≡ []
unfolding cleared
none_cleared needed e = rw e refl

-- the fifth of some tests of which none holds
fifth : (p q r s t rest : Bool) → (p || (q || (r || (s || (t || rest))))) ≡ false → t ≡ false
fifth p q r s t rest h =
    or_false_left t rest
    (or_false_right s (t || rest) (or_false_right r (s || (t || rest)) (or_false_right q (r || (s || (t || rest))) (or_false_right p (q || (r || (s || (t || rest)))) h))))

no_words : (T : FormsTaken) (b : List ℕ) (marks : ℕ) (more : List Check) → work_after (form_checks T b marks 0 ++ more) b [] ≡ []
no_words T b marks more = at (any_applies (form_checks T b marks 0 ++ more)) refl
  where
    at : (t : Bool) → any_applies (form_checks T b marks 0 ++ more) ≡ t → cond t [] (cleared (words_in b) []) ≡ []
    at true e = refl
    at false e =
        let F : Form = form_of (header_at b 0) in
        let a : Counts = counts_in b in
        let six : ltb 0 (words_in b) ≡ false =
        fifth (ltb (length b) header_length) (not (takes T (header_at b 0))) (not (counts_fit F a) || not (offsets_fit F a b)) (ltb marks a.n) (ltb 0 (words_in b))
        (any_applies more) e in
        none_cleared (words_in b) (omega (arith, ltb-false 0 (words_in b) six))

-- so of opening, asking, and asking all pairs
module _ (T : FormsTaken) (b : List ℕ) where
  pub open_no_words : (marks : ℕ) → open_work T b marks [] ≡ []
  unfolding open_work
  open_no_words marks = no_words T b marks []

  pub ask_no_words : (u v marks : ℕ) → ask_work T b u v marks [] ≡ []
  unfolding ask_work
  ask_no_words u v marks = no_words T b marks (check (leb (counts_in b).n u) 14 0 ∷ check (leb (counts_in b).n v) 14 1 ∷ [])

  pub batch_no_words : (marks : ℕ) → batch_work T b marks [] ≡ []
  unfolding batch_work
  batch_no_words marks = no_words T b marks []

-- and of a conversion
pub convert_no_words : (from : ℕ) (b : List ℕ) (marks : ℕ) → convert_work from b marks [] ≡ []
unfolding convert_work
convert_no_words from b marks = no_words (only from) b marks []
