-- The whole run: too many bytes, a bad line, or what a good text comes to, printed at the start of the output.
use mathlib.Core.List.{List, ◌++◌}
use mathlib.Core.Path.{◌≡◌, sym, ap, ◌∙◌}
use Prim.Native.Nat.{ℕ, ◌*◌, ◌≤◌, ◌<◌}
use native.Mathlib.Nat.{mul-le-mul}
use native.Mathlib.Omega.{arith}
use lib.ListN.{length, drop}
use borrow.Author.Tests.{lt-ltb, le-ltb}
use Rattle.lineage.specs.Stored.{most_labellings}
use Rattle.numbers.specs.Put.{put}
use Rattle.text_lines.specs.Lines.{bytes}
use Rattle.text.specs.Text.{most_bytes, most_vertices}
use Rattle.std.specs.Prelude.{Result}
use Rattle.text.specs.declared.Reading.{Reading as ReadingRead}
use Rattle.text.specs.Blocks.{reading_of, TextInto}
use Rattle.text.specs.Output.{refusal, after_reading, output}
use Rattle.text_printing.specs.Printer.{Put}

-- looked at before any line
pub many_bytes : (text : List ℕ) → most_bytes < length text → refusal 17 0 ++ bytes "\n" ≡ output text
unfolding output
many_bytes text h = rw (lt-ltb most_bytes (length text) h)

-- otherwise what was read decides
pub read_prints : {text sources targets orders asked : List ℕ} {r : Result ReadingRead ℕ} → length text ≤ most_bytes → TextInto r text sources targets orders asked
    → after_reading (reading_of r sources targets orders asked) ≡ output text
unfolding output
read_prints {text} {sources} {targets} {orders} {asked} h R = rw (le-ltb most_bytes (length text) h) (ap after_reading R.read)

-- what is put at the start of the output is all that is printed, and the output behind it keeps its contents
pub printed : (text : List ℕ) {out exit xs : List ℕ} {r : ℕ} → xs ≡ output text → Put out 0 xs r exit → (r ≡ length (output text)) × (exit ≡ output text ++ drop r out)
unfolding put
printed text {out} {xs = xs} {r = r} e p =
    let all : r ≡ length xs = omega (arith, p.behind) in (
      all ∙ ap length e,
      p.whole ∙ ap (λ (k : ℕ). xs ++ drop k out) (sym p.behind) ∙ ap (λ (s : List ℕ). s ++ drop r out) e,
    )

-- the orders' numbers fit their list
pub orders_within : (d n : ℕ) → d ≤ most_labellings → n ≤ most_vertices → d * n ≤ most_labellings * most_vertices
orders_within d n h l = mul-le-mul h l
