-- What a conversion answers and leaves, by where its checks stop: at one of 10 to 13 and 6, at 15, or as those of its own decide, which for [7] are 19 and 9.
use mathlib.Core.Bool.{Bool, true, false, not, cond}
use mathlib.Core.Path.{◌≡◌, refl, sym, ◌∙◌}
use mathlib.Core.List.{List, [], ◌∷◌, ◌++◌}
use Prim.Native.Nat.{ℕ}
use lib.ListN.{length, drop}
use Rattle.std.specs.Prelude.{Result}
use Rattle.lineage.specs.Lists.{cleared}
use Rattle.lineage.specs.Sound.{contents_sound}
use Rattle.lineage.specs.Stored.{Form, header_at, counts_in, form_of}
use Rattle.lineage.specs.Calls.{Check, Outcome, refused, outcome, any_applies, words_in, contents_check}
use Rattle.laws.specs.Checks.{Comes}
use Rattle.laws.proofs.Checks.{pass_both, refused_comes, rest_comes}
use Rattle.stored_header.specs.declared.Layout.{Layout}
use Rattle.stored_header.specs.Header.{layout_in, words_of, Laid}
use Rattle.stored_header.proofs.Laid.{cleared_in}
use Rattle.stored_header.proofs.Admitted.{Admits, admitted, admitted_laid}
use Rattle.open.proofs.Checks.{contents_applies, words_cleared}
use Rattle.refusals.specs.declared.Refusal.{Refusal}
use Rattle.convert.specs.Convert.{converted, only, fit_checks, convert_early, convert_answer, convert_marks, convert_work, convert_output}
use Rattle.convert.specs.Converted.{converted_of, Turned}

-- any checks behind 15, and any bytes to be written where none applies
module _ (from : ℕ) (b marks work out bytes : List ℕ) (own : List Check) where
  abbrev needed : ℕ
  needed = length bytes

  abbrev early : List Check
  early = convert_early from b (length marks) (length work)

  abbrev late : List Check
  late = contents_check b ∷ own

  -- what may be answered, and what marks, words and output may hold afterwards
  abbrev pub Leaves : Outcome ℕ → List ℕ → List ℕ → List ℕ → Type 0
  Leaves o m w f =
      (o ≡ outcome (early ++ late) needed)
      × ((m ≡ convert_marks from b marks (length work))
      × ((w ≡ convert_work from b (length marks) work) × (f ≡ cond (any_applies (early ++ late)) out (bytes ++ drop needed out))))

  leaves_by : {o : Outcome ℕ} {kept stops : Bool}
      → Comes early late needed o kept stops
      → Leaves o (cond kept marks (cleared (counts_in b).n marks)) (cond kept work (cleared (words_in b) work)) (cond stops out (bytes ++ drop needed out))
  unfolding convert_marks convert_work
  leaves_by C = (sym C.says, (rw C.before, (rw C.before, rw C.all)))

  pub leaves_refused : {x y : ℕ} → refused x y ≡ outcome early (layout_in b) → Leaves (refused x y) marks work out
  leaves_refused e = leaves_by (refused_comes needed (layout_in b) early [] late _ _ (sym e))

  -- t says whether the contents are sound, and marks and needed words are cleared
  module _ {l : Layout} (A : Admits (only from) b (length marks) (length work) l)
      {t : Bool} (told : t ≡ contents_sound (form_of (header_at b 0)) b)
      {m : List ℕ} (left : m ≡ cleared l.n marks)
      {words : ℕ} (need : words ≡ words_of l) {w : List ℕ} (clears : w ≡ cleared words work)
    where
      abbrev L : Laid b l
      L = admitted_laid A

      leaves_late : {o : Outcome ℕ} {stops : Bool} → Comes early late needed o false stops → Leaves o m w (cond stops out (bytes ++ drop needed out))
      leaves_late C =
          let (o, (k, (v, f))) = leaves_by C in
          (o, (cleared_in L marks left ∙ k, (words_cleared L need work clears ∙ v, f)))

      pub leaves_unsound : not t ≡ true → Leaves (refused 15 0) m w out
      leaves_unsound h =
          let stops : (contents_check b).applies ≡ true = contents_applies L told ∙ h in
          let says : outcome late needed ≡ refused 15 0 = rw stops refl in
          let writes : out ≡ cond (any_applies late) out (bytes ++ drop needed out) = rw stops refl in
          let (o, (k, (v, f))) = leaves_late (rest_comes needed early [] late (admitted A) says) in
          (o, (k, (v, writes ∙ f)))

      -- where 15 does not apply, the checks of its own decide
      pub leaves_own : not t ≡ false → {o : Outcome ℕ} {f : List ℕ} → o ≡ outcome own needed → f ≡ cond (any_applies own) out (bytes ++ drop needed out) → Leaves o m w f
      leaves_own h says writes =
          let sound : List Check = contents_check b ∷ [] in
          let (o, (k, (v, f))) = leaves_late (rest_comes needed early sound own (pass_both early sound (admitted A) (contents_applies L told ∙ h, tt)) (sym says)) in
          (o, (k, (v, writes ∙ f)))

-- between two forms
module _ (from to : ℕ) (b marks work out : List ℕ) where
  abbrev G : Form
  G = form_of to

  abbrev bytes : List ℕ
  bytes = converted G b

  abbrev own : List Check
  own = fit_checks G b (length out)

  abbrev pub Converts : Outcome ℕ → List ℕ → List ℕ → List ℕ → Type 0
  Converts o m w f =
      (o ≡ convert_answer from to b (length marks) (length work) (length out))
      × ((m ≡ convert_marks from b marks (length work))
      × ((w ≡ convert_work from b (length marks) work) × (f ≡ convert_output from to b (length marks) (length work) out)))

  converts : {o : Outcome ℕ} {m w f : List ℕ} → Leaves from b marks work out bytes own o m w f → Converts o m w f
  unfolding convert_answer convert_output
  converts L = L

  pub converts_refused : {x y : ℕ} → refused x y ≡ outcome (convert_early from b (length marks) (length work)) (layout_in b) → Converts (refused x y) marks work out
  converts_refused e = converts (leaves_refused from b marks work out bytes own e)

  module _ {l : Layout} (A : Admits (only from) b (length marks) (length work) l)
      {t : Bool} (told : t ≡ contents_sound (form_of (header_at b 0)) b)
      {m : List ℕ} (left : m ≡ cleared l.n marks)
      {words : ℕ} (need : words ≡ words_of l) {w : List ℕ} (clears : w ≡ cleared words work)
    where
      pub converts_unsound : not t ≡ true → Converts (refused 15 0) m w out
      converts_unsound h = converts (leaves_unsound from b marks work out bytes own A told left need clears h)

      pub converts_turned : not t ≡ false → {r : Result ℕ Refusal} {f : List ℕ} → Turned G b out r f → Converts (converted_of r) m w f
      converts_turned h W = converts (leaves_own from b marks work out bytes own A told left need clears h W.answers W.writes)
