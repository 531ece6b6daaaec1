-- What a conversion between forms 2 and 4 answers and leaves, by where its checks stop: at one of 10 to 13 and 6, at 15, or as 4, 22 and 9 decide.
use mathlib.Core.Bool.{Bool, true, false, not}
use mathlib.Core.Path.{◌≡◌}
use mathlib.Core.List.{List}
use Prim.Native.Nat.{ℕ}
use lib.ListN.{length}
use Rattle.lineage.specs.Lists.{cleared}
use Rattle.lineage.specs.Sound.{contents_sound}
use Rattle.lineage.specs.Stored.{Form, header_at, form_of}
use Rattle.lineage.specs.Calls.{Check, Outcome, refused, outcome}
use Rattle.stored_header.specs.declared.Layout.{Layout}
use Rattle.stored_header.specs.Header.{layout_in, words_of}
use Rattle.stored_header.proofs.Admitted.{Admits}
use Rattle.std.specs.Prelude.{Result}
use Rattle.refusals.specs.declared.Refusal.{Refusal}
use Rattle.convert.specs.Convert.{converted, only, convert_early, convert_marks, convert_work}
use Rattle.convert.specs.Converted.{converted_of}
use Rattle.convert.proofs.Refusals.{Leaves, leaves_refused, leaves_unsound, leaves_own}
use Rattle.hierarchy.specs.Turn.{plain_checks, turn_answer, turn_output}
use Rattle.hierarchy.specs.Turned.{Turned}

module _ (from to : ℕ) (b marks work out : List ℕ) where
  abbrev G : Form
  G = form_of to

  abbrev bytes : List ℕ
  bytes = converted G b

  abbrev own : List Check
  own = plain_checks G b (length out)

  abbrev pub Turns : Outcome ℕ → List ℕ → List ℕ → List ℕ → Type 0
  Turns o m w f =
      (o ≡ turn_answer from to b (length marks) (length work) (length out))
      × ((m ≡ convert_marks from b marks (length work))
      × ((w ≡ convert_work from b (length marks) work) × (f ≡ turn_output from to b (length marks) (length work) out)))

  turns : {o : Outcome ℕ} {m w f : List ℕ} → Leaves from b marks work out bytes own o m w f → Turns o m w f
  unfolding turn_answer turn_output
  turns L = L

  pub turns_refused : {x y : ℕ} → refused x y ≡ outcome (convert_early from b (length marks) (length work)) (layout_in b) → Turns (refused x y) marks work out
  turns_refused e = turns (leaves_refused from b marks work out bytes own e)

  module _ {l : Layout} (A : Admits (only from) b (length marks) (length work) l)
      {t : Bool} (told : t ≡ contents_sound (form_of (header_at b 0)) b)
      {m : List ℕ} (left : m ≡ cleared l.n marks)
      {words : ℕ} (need : words ≡ words_of l) {w : List ℕ} (clears : w ≡ cleared words work)
    where
      pub turns_unsound : not t ≡ true → Turns (refused 15 0) m w out
      turns_unsound h = turns (leaves_unsound from b marks work out bytes own A told left need clears h)

      pub turns_turned : not t ≡ false → {r : Result ℕ Refusal} {f : List ℕ} → Turned G b out r f → Turns (converted_of r) m w f
      turns_turned h W = turns (leaves_own from b marks work out bytes own A told left need clears h W.answers W.writes)
