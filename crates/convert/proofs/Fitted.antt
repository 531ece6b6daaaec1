-- Behind 15: 19 by the row of the other form, then 9 by the length that its layout has, or what is written.
use mathlib.Core.Bool.{Bool, true, false, cond}
use mathlib.Core.Path.{◌≡◌, refl, sym, ap, ap₂, subst⁻¹, ◌∙◌}
use mathlib.Core.List.{List, [], ◌++◌}
use Prim.Native.Nat.{ℕ, ◌≤◌, ◌<◌}
use native.Mathlib.Omega.{arith}
use lib.Dec.{ltb}
use lib.ListN.{length, drop}
use borrow.Author.Tests.{lt-ltb, le-ltb}
use Rattle.std.specs.Prelude.{Result, Ok, Err}
use Rattle.lineage.specs.Numbers.{Width}
use Rattle.lineage.specs.Stored.{Form, counts_in, form_of, is_form}
use Rattle.lineage.specs.Calls.{refused, answered}
use Rattle.laws.specs.Checks.{Stops, stopped}
use Rattle.laws.proofs.Checks.{stops_early, stops_outcome}
use Rattle.numbers.specs.Put.{put}
use Rattle.numbers.proofs.Put.{put_start}
use Rattle.stored_header.specs.declared.Row.{Row}
use Rattle.stored_header.specs.declared.Layout.{Layout}
use Rattle.stored_header.specs.Header.{Stride, row_of, counts, layout_by, Laid}
use Rattle.stored_header.proofs.Forms.{form_within}
use Rattle.sound_places.specs.declared.SoundImage.{SoundImage}
use Rattle.refusals.specs.declared.Refusal.{Refusal}
use Rattle.refusals.specs.declared.Refusal.TheVariants.{BeyondForm, OutputShort}
use Rattle.convert.specs.Convert.{converted, beyond, fit_checks}
use Rattle.convert.specs.Converted.{converted_of, Turned}
use Rattle.convert.specs.Fit.{Turns}
use Rattle.convert.proofs.Written.{converted_long}

-- another form that has as many numbers by place as sound bytes, with its row of the table
pub record Other (s : SoundImage) (form : ℕ) (row : Row) : Type 0 where
  pub known : is_form form ≡ true
  pub alike : (form_of form).by_place ≡ s.image.layout.stride
  pub row_is : row ≡ row_of form

module _ {s : SoundImage} {form : ℕ} {row : Row} (O : Other s form row) where
  abbrev b : List ℕ
  b = s.image.bytes.now

  abbrev l : Layout
  l = s.image.layout

  abbrev G : Form
  G = form_of form

  abbrev L : Laid b l
  L = s.image.laid

  pub row_stride : Stride row.stride
  row_stride = subst⁻¹ (λ (r : Row). Stride r.stride) O.row_is (form_within form).stride

  -- the layout of the same counts at the other form
  pub turns : {to : Layout} → to ≡ layout_by row.width row.stride (counts l.n l.k l.c l.d) → Turns s form to
  turns e = record {
    known = O.known;
    alike = O.alike;
    laid = e ∙ ap₂ (λ (r : Row) (z : Layout). layout_by r.width r.stride (counts z.n z.k z.c z.d)) O.row_is L.is;
  }

  module _ (out : List ℕ) where
    -- the checks stop at number i: 19, 9, none
    turned_at : (i : ℕ) → Stops (fit_checks G b (length out)) i → {r : Result ℕ Refusal} → converted_of r ≡ stopped (fit_checks G b (length out)) i (length (converted G b))
        → Turned G b out r (cond (ltb i 2) out (converted G b ++ drop (length (converted G b)) out))
    turned_at i S e = record {
      answers = e ∙ sym (stops_outcome (length (converted G b)) (fit_checks G b (length out)) i S);
      writes = rw (stops_early (fit_checks G b (length out)) [] i S);
    }

    module _ {t : Bool} (told : t ≡ beyond G (counts l.n l.k l.c l.d)) where
      beyond_is : beyond G (counts_in b) ≡ t
      beyond_is = sym (told ∙ ap (λ (z : Layout). beyond G (counts z.n z.k z.c z.d)) L.is)

      module _ (within : t ≡ false) {to : Layout} (T : Turns s form to) where
        pub turned_short : length out < to.total → Turned G b out (Err (OutputShort to.total)) out
        turned_short h = turned_at 1 (beyond_is ∙ within, lt-ltb (length out) (length (converted G b)) (omega (arith, converted_long T))) (ap (refused 9) (converted_long T))

        pub turned_whole : to.total ≤ length out → {t : List ℕ} → t ≡ put out 0 (converted G b) → Turned G b out (Ok to.total) t
        turned_whole h e =
            subst⁻¹ (Turned G b out (Ok to.total)) (e ∙ put_start out (converted G b))
            (turned_at 2 (beyond_is ∙ within, (le-ltb (length out) (length (converted G b)) (omega (arith, converted_long T)), tt)) (ap answered (converted_long T)))
