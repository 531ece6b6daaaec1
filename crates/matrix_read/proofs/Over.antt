-- The four kinds of lines, one after the other, and what they come to.
use mathlib.Core.Bool.{Bool, true, false, true≢false, ◌&&◌, and-false}
use mathlib.Core.List.{List, [], ◌∷◌}
use mathlib.Core.Path.{◌≡◌, refl, sym, ap, ◌∙◌}
use Prim.Native.Nat.{ℕ, suc, ◌+◌, ◌≤◌, ◌<◌}
use native.Mathlib.Omega.{arith}
use lib.Dec.{eqb}
use lib.ListN.{length, drop, length-drop}
use lib.Seq.{drop-drop}
use borrow.Author.Tests.{eq-eqb, ne_eqb}
use Rattle.laws.proofs.Tests.{both}
use Rattle.laws.proofs.Lists.{same_list_lem}
use Rattle.text_lines.specs.Lines.{lf, first_piece, other_pieces, pieces}
use Rattle.text_lines.specs.Reader.{is_more}
use Rattle.matrix_lines.specs.Matrix.{Raw, header, is_header, is_comment, number, is_size, is_entry, Run, stop, with_line, run, is_done, size_at, bad_line, saying, matrix_reading}
use Rattle.matrix_lines.specs.Reader.{header_in, all_run, RunInto}
use Rattle.matrix_lines.proofs.Lines.{ended_long}
use Rattle.matrix_lines.proofs.Runs.{run_more, run_stops, run_end, run_left, run_few, reading_is}
use Rattle.std.proofs.Common.{Some, None}
use Rattle.matrix_read.specs.declared.Size.{Size}
use Rattle.matrix_read.specs.Entries.{size_by, size_in}
use Rattle.matrix_read.specs.Over.{entries_from, Stands}

-- no header
pub headless : (text : List ℕ) → header_in text ≡ false → matrix_reading text ≡ bad_line 1
unfolding matrix_reading
headless text e = rw (run_stops is_header text 1 e)

-- behind the header
pub record Headed (text : List ℕ) : Type 0 where
  pub headed : run is_header 1 (pieces lf text) ≡ record { taken = first_piece lf text ∷ []; rest = pieces lf (drop 49 text) }
  pub long : 49 ≤ length text

one_taken : (test : Raw → Bool) (l : Raw) (lines : List Raw) → with_line l (run test 0 lines) ≡ record { taken = l ∷ []; rest = lines }
unfolding run
one_taken test l lines = refl

pub header_read : (text : List ℕ) → header_in text ≡ true → Headed text
header_read text e =
    let tests = both (is_more (other_pieces lf text)) (is_header (first_piece lf text)) e in
    let same : first_piece lf text ≡ header = same_list_lem (first_piece lf text) header tests.1 in
    let size : length (first_piece lf text) ≡ 48 = ap (λ (l : Raw). length l) same in
    let place : suc (length (first_piece lf text)) ≡ 49 = omega arith in
    record {
      headed =
          run_more is_header text 0 tests.0 tests.1
          ∙ (one_taken is_header (first_piece lf text) (pieces lf (drop (suc (length (first_piece lf text))) text))
          ∙ ap (λ (q : ℕ). record { taken = first_piece lf text ∷ []; rest = pieces lf (drop q text) }) place);
      long = omega (arith, ended_long text tests.0);
    }

-- what a size line that was read says of its line
pub record SizeGood (text : List ℕ) (at n entries next : ℕ) : Type 0 where
  pub sized : run is_size 1 (pieces lf (drop at text)) ≡ record { taken = first_piece lf (drop at text) ∷ []; rest = pieces lf (drop next text) }
  pub first : number 0 (first_piece lf (drop at text)) ≡ n
  pub third : number 2 (first_piece lf (drop at text)) ≡ entries
  pub inside : next ≤ length text
  pub behind : at < next

module _ (text : List ℕ) (at : ℕ) (low : at ≤ length text) where
  s : List ℕ
  s = drop at text

  pub size_taken : (r : Size) → Some r ≡ size_in at (drop at text) → SizeGood text at r.n r.entries r.next
  unfolding size_in
  size_taken r e = go (is_more (other_pieces lf (drop at text))) (is_size (first_piece lf (drop at text))) refl refl e
    where
      go : (x y : Bool) → is_more (other_pieces lf (drop at text)) ≡ x → is_size (first_piece lf (drop at text)) ≡ y
          → Some r ≡ size_by (x && y) (number 0 (first_piece lf (drop at text))) (number 2 (first_piece lf (drop at text))) (at + suc (length (first_piece lf (drop at text))))
          → SizeGood text at r.n r.entries r.next
      go true true m z h =
          let l : Raw = first_piece lf (drop at text) in
          let same : r ≡ record { n = number 0 l; entries = number 2 l; next = at + suc (length l) } = cc in
          let goes : drop (suc (length l)) (drop at text) ≡ drop (at + suc (length l)) text = drop-drop (suc (length l)) at text in
          rw same record {
            sized =
                run_more is_size (drop at text) 0 m z
                ∙ (one_taken is_size l (pieces lf (drop (suc (length l)) (drop at text))) ∙ ap (λ (t : List ℕ). record { taken = l ∷ []; rest = pieces lf t }) goes);
            first = refl;
            third = refl;
            inside = omega (arith, ended_long (drop at text) m, length-drop at text);
            behind = omega arith;
          }
      go true false m z h = absurd (true≢false cc)
      go false y m z h = absurd (true≢false cc)

  pub size_left : None ≡ size_in at (drop at text) → run is_size 1 (pieces lf (drop at text)) ≡ stop (pieces lf (drop at text))
  unfolding size_in
  size_left e = run_stops is_size (drop at text) 1 (go (is_more (other_pieces lf (drop at text)) && is_size (first_piece lf (drop at text))) e)
    where
      go : (x : Bool) → None ≡ size_by x (number 0 (first_piece lf (drop at text))) (number 2 (first_piece lf (drop at text))) (at + suc (length (first_piece lf (drop at text)))) → x ≡ false
      go true h = absurd (true≢false cc)
      go false h = refl

-- no size line
nothing_said : number 2 [] ≡ 0
unfolding first_piece other_pieces
nothing_said = refl

none_run : (test : Raw → Bool) (lines : List Raw) → stop lines ≡ run test (number 2 []) lines
unfolding run
none_run test lines = rw nothing_said

module _ (text : List ℕ) (g : Headed text) (count at : ℕ) (c : RunInto text 49 (all_run is_comment (drop 49 text)) count at) where
  abbrev h : Run
  h = record { taken = first_piece lf text ∷ []; rest = pieces lf (drop 49 text) }

  abbrev C : Run
  C = all_run is_comment (drop 49 text)

  pub sizeless : None ≡ size_in at (drop at text) → matrix_reading text ≡ bad_line (count + 2)
  sizeless e =
      let X : List Raw = pieces lf (drop at text) in
      let sized : stop X ≡ run is_size 1 C.rest = rw c.rest (sym (size_left text at c.inside e)) in
      let line : suc (1 + length C.taken + 0 + 0) ≡ count + 2 = omega (arith, c.counted) in
      sym (reading_is text h C (stop X) (stop X) (sym g.headed) refl sized (none_run (is_entry (size_at 0 (stop X))) X)) ∙ ap bad_line line

  module _ (n entries next : ℕ) (z : SizeGood text at n entries next) where
    abbrev S : Run
    S = record { taken = first_piece lf (drop at text) ∷ []; rest = pieces lf (drop next text) }

    abbrev E : Run
    E = entries_from n entries text next

    all_say : matrix_reading text ≡ saying h C S E
    all_say =
        let sized : S ≡ run is_size 1 C.rest = rw c.rest (sym z.sized) in
        let entered : E ≡ run (is_entry (size_at 0 S)) (size_at 2 S) S.rest = rw (z.first, z.third) in
        sym (reading_is text h C S E (sym g.headed) refl sized entered)

    module _ (passed end : ℕ) (e : RunInto text next (entries_from n entries text next) passed end) where
      -- an entry is missing, or a line or a byte is left
      not_whole : (eqb (length E.taken) (number 2 (first_piece lf (drop at text))) && is_done E.rest) ≡ false → matrix_reading text ≡ bad_line (count + passed + 3)
      not_whole f =
          let line : suc (1 + length C.taken + 1 + length E.taken) ≡ count + passed + 3 = omega (arith, c.counted, e.counted) in
          all_say ∙ (rw f (ap bad_line line))

      pub entries_few : passed < entries → matrix_reading text ≡ bad_line (count + passed + 3)
      entries_few low = not_whole (rw (z.third, ne_eqb (length E.taken) entries (omega (arith, e.counted))))

      pub lines_left : end < length text → matrix_reading text ≡ bad_line (count + passed + 3)
      lines_left low = not_whole (rw (e.rest, run_left text end low) (and-false (eqb (length E.taken) (number 2 (first_piece lf (drop at text))))))

      stands : passed ≡ entries → length text ≤ end → Stands text n entries next
      stands full h' = record {
        reads =
            all_say
            ∙ rw (eq-eqb (length E.taken) (number 2 (first_piece lf (drop at text))) (e.counted ∙ (full ∙ sym z.third)), e.rest, run_end text end h', z.first);
        counted = e.counted ∙ full;
        inside = z.inside;
      }

      pub all_stands : entries ≤ passed → length text ≤ end → Stands text n entries next
      all_stands enough h' = stands (omega (arith, e.counted, run_few (is_entry n) entries (pieces lf (drop next text)))) h'
