-- What a call on stored bytes answers and leaves in marks and words, by where its checks stop: at one of 10 to 13 and 6, at one of its own, at 15, or at one behind 15.
use mathlib.Core.Bool.{Bool, true, false, not, cond}
use mathlib.Core.Path.{◌≡◌, refl, sym, subst⁻¹, ◌∙◌}
use mathlib.Core.List.{List, [], ◌∷◌, ◌++◌, append-nil}
use Prim.Native.Nat.{ℕ}
use lib.Dec.{ltb}
use lib.ListN.{length}
use Rattle.lineage.specs.Lists.{cleared}
use Rattle.lineage.specs.Stored.{header_at, counts_in, form_of}
use Rattle.lineage.specs.Sound.{contents_sound}
use Rattle.lineage.specs.Calls.{Check, Outcome, refused, outcome, any_applies, FormsTaken, words_in, form_checks, contents_check, marks_after, work_after}
use Rattle.laws.specs.Checks.{Stops, Pass, stopped, Comes}
use Rattle.laws.proofs.Checks.{pass_both, refused_comes, stops_comes, rest_comes}
use Rattle.stored_header.specs.declared.Layout.{Layout}
use Rattle.stored_header.specs.Header.{layout_in, words_of}
use Rattle.stored_header.proofs.Laid.{cleared_in}
use Rattle.stored_header.proofs.Admitted.{Admits, admitted, admitted_laid}
use Rattle.open.proofs.Checks.{contents_applies, words_cleared}

-- the checks before 15, of which the call's own stand behind 10 to 13 and 6
abbrev pub before : FormsTaken → (b marks work : List ℕ) → (own : List Check) → List Check
before T b marks work own = form_checks T b (length marks) (length work) ++ own

-- the answer a stands behind all checks: the outcome, the marks, the words, and whether a check stops the call
pub record Called
    (T : FormsTaken) (b marks work : List ℕ) (own late : List Check) {A : Type 0} (a : A) (o : Outcome A) (marks' work' : List ℕ) (stops : Bool)
    : Type 0 where
  pub says : o ≡ outcome (before T b marks work own ++ (contents_check b ∷ late)) a
  pub leaves : marks' ≡ marks_after (before T b marks work own) b marks
  pub clears : work' ≡ work_after (before T b marks work own) b work
  pub all : any_applies (before T b marks work own ++ (contents_check b ∷ late)) ≡ stops

module _ {T : FormsTaken} {b marks work : List ℕ} {own late : List Check} {A : Type 0} {a : A} where
  called_by :
      {o : Outcome A} {kept stops : Bool} → Comes (before T b marks work own) (contents_check b ∷ late) a o kept stops
      → Called T b marks work own late a o (cond kept marks (cleared (counts_in b).n marks)) (cond kept work (cleared (words_in b) work)) stops
  called_by C = record { says = sym C.says; leaves = rw C.before; clears = rw C.before; all = C.all }

  -- one of 10 to 13 and 6 refuses
  pub called_refused :
      {x y : ℕ} → refused x y ≡ outcome (form_checks T b (length marks) (length work)) (layout_in b) → Called T b marks work own late a (refused x y) marks work true
  called_refused e = called_by (refused_comes a (layout_in b) (form_checks T b (length marks) (length work)) own (contents_check b ∷ late) _ _ (sym e))

  module _ {l : Layout} (admits : Admits T b (length marks) (length work) l) where
    -- behind 6 they stop at number i
    pub called_at :
        (i : ℕ) → Stops (own ++ (contents_check b ∷ late)) i
        → Called T b marks work own late a (stopped (own ++ (contents_check b ∷ late)) i a) (cond (ltb i (length own)) marks (cleared (counts_in b).n marks))
        (cond (ltb i (length own)) work (cleared (words_in b) work)) (ltb i (length (own ++ (contents_check b ∷ late))))
    called_at i s = called_by (stops_comes a (form_checks T b (length marks) (length work)) own (contents_check b ∷ late) i (admitted admits) s)

    -- the call's own pass, t says whether the contents are sound, and marks and needed words are cleared
    module _
        (passes : Pass own) {t : Bool} (told : t ≡ contents_sound (form_of (header_at b 0)) b) {m : List ℕ} (left : m ≡ cleared l.n marks) {needed : ℕ}
        (need : needed ≡ words_of l) {w : List ℕ} (words : w ≡ cleared needed work)
      where
        late_by :
            {o : Outcome A} {stops : Bool} → Comes (before T b marks work own) (contents_check b ∷ late) a o false stops → Called T b marks work own late a o m w stops
        late_by C =
            let L = called_by C in record {
              says = L.says;
              leaves = cleared_in (admitted_laid admits) marks left ∙ L.leaves;
              clears = words_cleared (admitted_laid admits) need work words ∙ L.clears;
              all = L.all;
            }

        pub called_unsound : not t ≡ true → Called T b marks work own late a (refused 15 0) m w true
        called_unsound h =
            let stops : (contents_check b).applies ≡ true = contents_applies (admitted_laid admits) told ∙ h in
            let C = rest_comes a (before T b marks work own) [] (contents_check b ∷ late)
            (subst⁻¹ Pass (append-nil (before T b marks work own)) (pass_both (form_checks T b (length marks) (length work)) own (admitted admits) passes))
            (rw stops refl) in
            late_by (record { says = C.says; before = C.before; all = C.all ∙ rw stops refl })

        -- the checks behind 15 decide
        pub called_late : not t ≡ false → {o : Outcome A} → o ≡ outcome late a → Called T b marks work own late a o m w (any_applies late)
        called_late h e =
            late_by (rest_comes a (before T b marks work own) (contents_check b ∷ []) late
            (pass_both (before T b marks work own) (contents_check b ∷ []) (pass_both (form_checks T b (length marks) (length work)) own (admitted admits) passes)
            (contents_applies (admitted_laid admits) told ∙ h, tt)) (sym e))
