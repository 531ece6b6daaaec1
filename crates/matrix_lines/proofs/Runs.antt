-- Lines that stand first and pass a test: one more, none more, the end of the text; over lines, and over the bytes from a position on.
use mathlib.Core.Bool.{Bool, true, false, false≢true, ◌&&◌, and-false}
use mathlib.Core.List.{List, [], ◌∷◌, ◌++◌}
use mathlib.Core.Path.{◌≡◌, refl, sym, ap, ◌∙◌}
use Prim.Native.Nat.{ℕ, zero, suc, ◌≤◌, ◌<◌}
use native.Mathlib.Omega.{arith}
use lib.Dec.{eqb, eqb-suc-zero}
use lib.ListN.{length, get_or, drop, drop_of_length-le}
use lib.Seq.{drop-cons}
use borrow.Author.Tests.{ne_eqb}
use Rattle.lineage.specs.Lists.{joined, Every}
use Rattle.text_lines.specs.Lines.{lf, keep, first_piece, begin, other_pieces, pieces}
use Rattle.text_lines.specs.Reader.{is_more}
use Rattle.text_lines.proofs.Words.{line_behind}
use Rattle.matrix_lines.specs.Matrix.{Raw, Run, stop, with_line, go_on, run, is_done, is_header, is_comment, is_size, is_entry, size_at, saying, matrix_reading}

-- a line stands behind these
pub more_behind : (ls : List Raw) (last : Raw) (rest : List Raw) → is_more (ls ++ (last ∷ rest)) ≡ true
more_behind [] last rest = refl
more_behind (l ∷ ls) last rest = refl

module _ (test : Raw → Bool) where
  -- a line that passes and an LF behind it
  pub line_passes : (most : ℕ) (l : Raw) (others : List Raw) → test l ≡ true → is_more others ≡ true → run test (suc most) (l ∷ others) ≡ with_line l (run test most others)
  unfolding run
  line_passes most l [] e m = absurd (false≢true m)
  line_passes most l (l' ∷ more) e m = rw e

  -- a line that fails, or none: no line more
  pub line_fails : (most : ℕ) (l : Raw) (others : List Raw) → (is_more others && test l) ≡ false → run test most (l ∷ others) ≡ stop (l ∷ others)
  unfolding run
  line_fails zero l others e = refl
  line_fails (suc most) l [] e = refl
  line_fails (suc most) l (l' ∷ more) e = rw e

  -- as many lines as may be, and all pass
  pub all_pass : (lines : List Raw) (last : Raw) (rest : List Raw) → Every (λ l. test l ≡ true) lines
      → run test (length lines) (lines ++ (last ∷ rest)) ≡ record { taken = lines; rest = last ∷ rest }
  unfolding run
  all_pass [] last rest h = refl
  all_pass (l ∷ lines) last rest h =
      line_passes (length lines) l (lines ++ (last ∷ rest)) h.0 (more_behind lines last rest) ∙ ap (with_line l) (all_pass lines last rest h.1)

  -- all pass, and the line behind them fails or is none
  pub pass_then : (lines : List Raw) (last : Raw) (rest : List Raw) → Every (λ l. test l ≡ true) lines → (is_more rest && test last) ≡ false
      → (most : ℕ) → length lines ≤ most → run test most (lines ++ (last ∷ rest)) ≡ record { taken = lines; rest = last ∷ rest }
  pass_then [] last rest h f most low = line_fails most last rest f
  pass_then (l ∷ lines) last rest h f zero low = absurd (omega arith)
  pass_then (l ∷ lines) last rest h f (suc most) low =
      line_passes most l (lines ++ (last ∷ rest)) h.0 (more_behind lines last rest) ∙ ap (with_line l) (pass_then lines last rest h.1 f most (omega arith))

  -- all pass, with a line behind them: as many are taken at least
  pub pass_least : (lines : List Raw) (last : Raw) (rest : List Raw) → Every (λ l. test l ≡ true) lines → (most : ℕ) → length lines ≤ most
      → length lines ≤ length (run test most (lines ++ (last ∷ rest))).taken
  pass_least [] last rest h most low = omega arith
  pass_least (l ∷ lines) last rest h zero low = absurd (omega arith)
  pass_least (l ∷ lines) last rest h (suc most) low =
      let one : run test (suc most) (l ∷ (lines ++ (last ∷ rest))) ≡ with_line l (run test most (lines ++ (last ∷ rest))) =
      line_passes most l (lines ++ (last ∷ rest)) h.0 (more_behind lines last rest) in
      omega (arith, ap (λ (R : Run). length R.taken) one, pass_least lines last rest h.1 most (omega arith))

-- at most `most` lines
pub run_few : (test : Raw → Bool) (most : ℕ) (lines : List Raw) → length (run test most lines).taken ≤ most
unfolding run
run_few test zero lines = omega arith
run_few test (suc most) [] = omega arith
run_few test (suc most) (l ∷ []) = omega arith
run_few test (suc most) (l ∷ (l' ∷ more)) = go (test l) (run_few test most (l' ∷ more))
  where
    go : (t : Bool) → length (run test most (l' ∷ more)).taken ≤ most → length (go_on t l (l' ∷ more) (λ lines. run test most lines)).taken ≤ suc most
    go true h = omega arith
    go false h = omega arith

module _ (test : Raw → Bool) (s : List ℕ) where
  -- where the line behind the first begins
  abbrev next : List ℕ
  next = drop (suc (length (first_piece lf s))) s

  -- one line more
  pub run_more : (most : ℕ) → is_more (other_pieces lf s) ≡ true → test (first_piece lf s) ≡ true
      → run test (suc most) (pieces lf s) ≡ with_line (first_piece lf s) (run test most (pieces lf next))
  run_more most m e =
      line_passes test most (first_piece lf s) (other_pieces lf s) e m ∙ ap (λ (ls : List Raw). with_line (first_piece lf s) (run test most ls)) (sym (line_behind s m))

  -- the same where no number bounds the lines
  pub run_on : is_more (other_pieces lf s) ≡ true → test (first_piece lf s) ≡ true
      → run test (length (pieces lf s)) (pieces lf s) ≡ with_line (first_piece lf s) (run test (length (pieces lf next)) (pieces lf next))
  run_on m e =
      line_passes test (length (other_pieces lf s)) (first_piece lf s) (other_pieces lf s) e m
      ∙ ap (λ (ls : List Raw). with_line (first_piece lf s) (run test (length ls) ls)) (sym (line_behind s m))

  -- none more
  pub run_stops : (most : ℕ) → (is_more (other_pieces lf s) && test (first_piece lf s)) ≡ false → run test most (pieces lf s) ≡ stop (pieces lf s)
  run_stops most e = line_fails test most (first_piece lf s) (other_pieces lf s) e

-- nothing is left of the text
pub run_end : (text : List ℕ) (at : ℕ) → length text ≤ at → is_done (pieces lf (drop at text)) ≡ true
unfolding first_piece other_pieces
run_end text at h = rw (drop_of_length-le text h)

-- something is left
bytes_left : (b : ℕ) (s : List ℕ) → is_done (pieces lf (b ∷ s)) ≡ false
unfolding first_piece other_pieces
bytes_left b s = go (eqb b lf)
  where
    go : (x : Bool) → is_done (keep x b (first_piece lf s) ∷ begin x (first_piece lf s) (other_pieces lf s)) ≡ false
    go true = rw (ne_eqb (suc (suc (length (other_pieces lf s)))) 1 (omega arith))
    go false =
        rw (eqb-suc-zero (length (first_piece lf s ++ joined (other_pieces lf s))), and-false (eqb (suc (length (other_pieces lf s))) 1))

pub run_left : (text : List ℕ) (at : ℕ) → at < length text → is_done (pieces lf (drop at text)) ≡ false
run_left text at h = rw (drop-cons text at 0 h) (bytes_left (get_or text at 0) (drop (suc at) text))

-- what the four runs say
pub reading_is : (text : List ℕ) (h c s e : Run) → h ≡ run is_header 1 (pieces lf text) → c ≡ run is_comment (length h.rest) h.rest → s ≡ run is_size 1 c.rest
    → e ≡ run (is_entry (size_at 0 s)) (size_at 2 s) s.rest → saying h c s e ≡ matrix_reading text
unfolding matrix_reading
reading_is text h c s e hh hc hs he = rw (← hh, ← hc, ← hs, ← he)
