-- What a text says is what stands in it: a text that says an edge list is the header, comments, the size line and the entries of this edge list, every number as its decimal.
-- The four runs cut the text's lines into these, with nothing left; each line that passes its test is the row of its own numbers; and lines put together again are the text.
use mathlib.Core.Bool.{Bool, true, false, true≢false, ◌&&◌}
use mathlib.Core.List.{List, [], ◌∷◌, ◌++◌, append_assoc, append-nil}
use mathlib.Core.Path.{◌≡◌, refl, sym, ap, ap₂, ◌∙◌, subst}
use Prim.Native.Nat.{ℕ, zero, suc, ◌+◌, ◌-◌, ◌≤◌, ◌<◌}
use native.Mathlib.Omega.{arith}
use lib.Dec.{eqb, leb}
use lib.ListN.{length, get_or, length-map}
use borrow.Author.Tests.{eqb-true, leb-true}
use Rattle.lineage.specs.Lists.{joined, all_of, Every}
use Rattle.lineage.specs.Graph.{Graph}
use Rattle.laws.proofs.Tests.{both}
use Rattle.laws.proofs.Lists.{same_list_lem}
use Rattle.text_lines.specs.Lines.{lf, space, pieces, is_decimal}
use Rattle.matrix_lines.specs.Matrix.{Raw, header, is_header, is_comment, number, most_digits, is_row, is_size, is_vertex, is_entry, Run, go_on, run, is_done, ends, says, judged, matrix_reading, ended, row, entry_rows}
use Rattle.matrix_lines.specs.Grammar.{most_written, Comment, commented, Holds}
use Rattle.matrix_lines.proofs.Pieces.{Lacks}
use Rattle.matrix_lines.proofs.Canonical.{decimal_low}
use Rattle.matrix_lines.proofs.Joined.{between, pieces_back, pieces_lack, ended_between, row_two, row_three}

-- what a run takes and what it leaves are all lines, and what it takes passes
pub run_split : (test : Raw → Bool) (most : ℕ) (lines : List Raw) → lines ≡ (run test most lines).taken ++ (run test most lines).rest
unfolding run
run_split test zero lines = refl
run_split test (suc most) [] = refl
run_split test (suc most) (l ∷ []) = refl
run_split test (suc most) (l ∷ (l' ∷ more)) = go (test l) (run_split test most (l' ∷ more))
  where
    go : (t : Bool) → l' ∷ more ≡ (run test most (l' ∷ more)).taken ++ (run test most (l' ∷ more)).rest
        → l ∷ (l' ∷ more) ≡ (go_on t l (l' ∷ more) (λ lines. run test most lines)).taken ++ (go_on t l (l' ∷ more) (λ lines. run test most lines)).rest
    go true h = ap (λ (ls : List Raw). l ∷ ls) h
    go false h = refl

pub run_all : (test : Raw → Bool) (most : ℕ) (lines : List Raw) → Every (λ l. test l ≡ true) (run test most lines).taken
unfolding run
run_all test zero lines = tt
run_all test (suc most) [] = tt
run_all test (suc most) (l ∷ []) = tt
run_all test (suc most) (l ∷ (l' ∷ more)) = go (test l) refl (run_all test most (l' ∷ more))
  where
    go : (t : Bool) → test l ≡ t → Every (λ x. test x ≡ true) (run test most (l' ∷ more)).taken → Every (λ x. test x ≡ true) (go_on t l (l' ∷ more) (λ lines. run test most lines)).taken
    go true e h = (e, h)
    go false e h = tt

-- one line
single : (ls : List Raw) → length ls ≡ 1 → ls ≡ get_or ls 0 [] ∷ []
single [] e = absurd (omega arith)
single (l ∷ []) e = refl
single (l ∷ (m ∷ ls)) e = absurd (omega arith)

-- nothing is left
done : (ls : List Raw) → is_done ls ≡ true → ls ≡ [] ∷ []
done ls e =
    let tests = both (eqb (length ls) 1) (eqb (length (joined ls)) 0) e in
    go ls (eqb-true (length ls) 1 tests.0) (eqb-true (length (joined ls)) 0 tests.1)
  where
    go : (xs : List Raw) → length xs ≡ 1 → length (joined xs) ≡ 0 → xs ≡ [] ∷ []
    go [] n z = absurd (omega arith)
    go ([] ∷ []) n z = refl
    go ((b ∷ l) ∷ []) n z = absurd (omega arith)
    go (l ∷ (m ∷ xs)) n z = absurd (omega arith)

-- an entry's line is the row of its ends, counted from 1
module _ (n : ℕ) (l : Raw) (e : is_entry n l ≡ true) where
  entry_tests : (is_row 2 l ≡ true) × ((is_vertex n (number 0 l) && is_vertex n (number 1 l)) ≡ true)
  unfolding is_entry
  entry_tests = both (is_row 2 l) (is_vertex n (number 0 l) && is_vertex n (number 1 l)) e

  vertex : (x : ℕ) → is_vertex n x ≡ true → (suc (x - 1) ≡ x) × (x - 1 < n)
  vertex x h =
      let tests = both (leb 1 x) (leb x n) h in
      let low : 1 ≤ x = leb-true 1 x tests.0 in
      let high : x ≤ n = leb-true x n tests.1 in
      (omega arith, omega arith)

  source_is : (suc (number 0 l - 1) ≡ number 0 l) × (number 0 l - 1 < n)
  source_is = vertex (number 0 l) (both (is_vertex n (number 0 l)) (is_vertex n (number 1 l)) entry_tests.1).0

  target_is : (suc (number 1 l - 1) ≡ number 1 l) × (number 1 l - 1 < n)
  target_is = vertex (number 1 l) (both (is_vertex n (number 0 l)) (is_vertex n (number 1 l)) entry_tests.1).1

  entry_row : l ≡ row (suc (number 0 l - 1)) (suc (number 1 l - 1) ∷ [])
  entry_row = row_two l entry_tests.0 ∙ ap₂ (λ (u v : ℕ). row u (v ∷ [])) (sym source_is.0) (sym target_is.0)

-- all entries
entry_rows_lem : (n : ℕ) (ls : List Raw) → Every (λ l. is_entry n l ≡ true) ls → ls ≡ entry_rows (ends 0 ls) (ends 1 ls)
entry_rows_lem n [] h = refl
entry_rows_lem n (l ∷ ls) h = ap₂ (λ (x : Raw) (xs : List Raw). x ∷ xs) (entry_row n l h.0) (entry_rows_lem n ls h.1)

entry_sources : (n : ℕ) (ls : List Raw) → Every (λ l. is_entry n l ≡ true) ls → Every (λ u. u < n) (ends 0 ls)
entry_sources n [] h = tt
entry_sources n (l ∷ ls) h = ((source_is n l h.0).1, entry_sources n ls h.1)

entry_targets : (n : ℕ) (ls : List Raw) → Every (λ l. is_entry n l ≡ true) ls → Every (λ v. v < n) (ends 1 ls)
entry_targets n [] h = tt
entry_targets n (l ∷ ls) h = ((target_is n l h.0).1, entry_targets n ls h.1)

-- a number of a row has at most seven digits
row_low : (size i : ℕ) (l : Raw) → is_row size l ≡ true → i < size → number i l ≤ most_written
unfolding is_row
row_low size i l e low =
    let ws : List Raw = pieces space l in
    let tests = both (eqb (length ws) size) (all_of (is_decimal most_digits) ws) e in
    decimal_low (get_or ws i []) (at ws i tests.1 (omega (arith, eqb-true (length ws) size tests.0)))
  where
    at : (ws : List Raw) (j : ℕ) → all_of (is_decimal most_digits) ws ≡ true → j < length ws → is_decimal most_digits (get_or ws j []) ≡ true
    at [] j h k = absurd (omega arith)
    at (w ∷ ws) zero h k = (both (is_decimal most_digits w) (all_of (is_decimal most_digits) ws) h).0
    at (w ∷ ws) (suc j) h k = at ws j (both (is_decimal most_digits w) (all_of (is_decimal most_digits) ws) h).1 (omega arith)

-- the size line is the row of n, n and the entries
module _ (l : Raw) (e : is_size l ≡ true) where
  size_tests : (is_row 3 l ≡ true) × (eqb (number 0 l) (number 1 l) ≡ true)
  unfolding is_size
  size_tests = both (is_row 3 l) (eqb (number 0 l) (number 1 l)) e

  pub size_row_lem : l ≡ row (number 0 l) (number 0 l ∷ number 2 l ∷ [])
  size_row_lem =
      row_three l size_tests.0
      ∙ ap (λ (x : ℕ). row (number 0 l) (x ∷ number 2 l ∷ [])) (sym (eqb-true (number 0 l) (number 1 l) size_tests.1))

  size_low : (i : ℕ) → i < 3 → number i l ≤ most_written
  size_low i h = row_low 3 i l size_tests.0 h

-- what a text that says an edge list was judged by
judged_says : (h w : Bool) (G' G : Graph) (good : ℕ) → judged h w G' good ≡ says G → (h ≡ true) × ((w ≡ true) × (G' ≡ G))
judged_says true true G' G good e = (refl, (refl, cc))
judged_says true false G' G good e = absurd (true≢false cc)
judged_says false w G' G good e = absurd (true≢false cc)

-- lines of which some stand in front of others
every_front : (P : Raw → Type 0) (xs ys : List Raw) → Every P (xs ++ ys) → Every P xs
every_front P [] ys h = tt
every_front P (x ∷ xs) ys h = (h.0, every_front P xs ys h.1)

comments_are : (ls : List Raw) → Every (λ l. is_comment l ≡ true) ls → Every (Lacks lf) ls → Every Comment ls
comments_are [] h k = tt
comments_are (l ∷ ls) h k = (record { marked = h.0; one = k.0 }, comments_are ls h.1 k.1)

-- the four runs of a text
module _ (text : List ℕ) where
  abbrev pub headed : Run
  headed = run is_header 1 (pieces lf text)

  abbrev pub remarked : Run
  remarked = run is_comment (length headed.rest) headed.rest

  abbrev pub sized : Run
  sized = run is_size 1 remarked.rest

  -- the size line
  abbrev pub size_line : Raw
  size_line = get_or sized.taken 0 []

  abbrev pub entered : Run
  entered = run (is_entry (number 0 size_line)) (number 2 size_line) sized.rest

-- the one line that is the header
pub header_one : (text : List ℕ) → length (headed text).taken ≡ 1 → (headed text).taken ≡ header ∷ []
header_one text e =
    let one : (headed text).taken ≡ get_or (headed text).taken 0 [] ∷ [] = single (headed text).taken e in
    let passes : Every (λ l. is_header l ≡ true) (get_or (headed text).taken 0 [] ∷ []) = subst (Every (λ (l : Raw). is_header l ≡ true)) one (run_all is_header 1 (pieces lf text)) in
    one ∙ ap (λ (l : Raw). l ∷ []) (same_list_lem (get_or (headed text).taken 0 []) header passes.0)

module _ (text : List ℕ) (G : Graph) (said : matrix_reading text ≡ says G) where
  abbrev H : Run
  H = headed text

  abbrev C : Run
  C = remarked text

  abbrev S : Run
  S = sized text

  -- the size line
  abbrev z : Raw
  z = size_line text

  abbrev E : Run
  E = entered text

  facts :
      (eqb (length H.taken) 1 ≡ true)
      × (((eqb (length S.taken) 1 && (eqb (length E.taken) (number 2 z) && is_done E.rest)) ≡ true)
      × (record { n = number 0 z; sources = ends 0 E.taken; targets = ends 1 E.taken } ≡ G))
  unfolding matrix_reading
  facts =
      judged_says (eqb (length H.taken) 1) (eqb (length S.taken) 1 && (eqb (length E.taken) (number 2 z) && is_done E.rest))
      (record { n = number 0 z; sources = ends 0 E.taken; targets = ends 1 E.taken }) G (length H.taken + length C.taken + length S.taken + length E.taken) said

  counts : (eqb (length S.taken) 1 ≡ true) × ((eqb (length E.taken) (number 2 z) && is_done E.rest) ≡ true)
  counts = both (eqb (length S.taken) 1) (eqb (length E.taken) (number 2 z) && is_done E.rest) facts.1.0

  last : (eqb (length E.taken) (number 2 z) ≡ true) × (is_done E.rest ≡ true)
  last = both (eqb (length E.taken) (number 2 z)) (is_done E.rest) counts.1

  one_header : H.taken ≡ header ∷ []
  one_header = header_one text (eqb-true (length H.taken) 1 facts.0)

  one_size : S.taken ≡ z ∷ []
  one_size = single S.taken (eqb-true (length S.taken) 1 counts.0)

  is_size_lem : is_size z ≡ true
  is_size_lem = (subst (Every (λ (l : Raw). is_size l ≡ true)) one_size (run_all is_size 1 C.rest)).0

  are_entries : Every (λ l. is_entry (number 0 z) l ≡ true) E.taken
  are_entries = run_all (is_entry (number 0 z)) (number 2 z) S.rest

  counted : length E.taken ≡ number 2 z
  counted = eqb-true (length E.taken) (number 2 z) last.0

  -- the lines, one run behind the other, and nothing behind the last LF
  lines_are : pieces lf text ≡ (header ∷ (C.taken ++ (z ∷ E.taken))) ++ ([] ∷ [])
  lines_are =
      let left : S.rest ≡ E.taken ++ ([] ∷ []) = run_split (is_entry (number 0 z)) (number 2 z) S.rest ∙ ap (λ (ls : List Raw). E.taken ++ ls) (done E.rest last.1) in
      let behind : C.rest ≡ z ∷ (E.taken ++ ([] ∷ [])) = run_split is_size 1 C.rest ∙ ap₂ (λ (xs ys : List Raw). xs ++ ys) one_size left in
      let comments : H.rest ≡ C.taken ++ (z ∷ (E.taken ++ ([] ∷ []))) =
      run_split is_comment (length H.rest) H.rest ∙ ap (λ (ls : List Raw). C.taken ++ ls) behind in
      run_split is_header 1 (pieces lf text)
      ∙ (ap₂ (λ (xs ys : List Raw). xs ++ ys) one_header comments ∙ ap (λ (ls : List Raw). header ∷ ls) (sym (append_assoc C.taken (z ∷ E.taken) ([] ∷ []))))

  text_is : text ≡ ended (header ∷ (C.taken ++ (z ∷ E.taken)))
  text_is =
      sym (pieces_back lf text)
      ∙ (ap (between lf) lines_are ∙ (ended_between (header ∷ (C.taken ++ (z ∷ E.taken))) [] ∙ append-nil (ended (header ∷ (C.taken ++ (z ∷ E.taken))))))

  remarks : Every Comment C.taken
  remarks =
      let all : Every (Lacks lf) ((header ∷ (C.taken ++ (z ∷ E.taken))) ++ ([] ∷ [])) = subst (Every (Lacks lf)) lines_are (pieces_lack lf text) in
      let some : Every (Lacks lf) C.taken = every_front (Lacks lf) C.taken (z ∷ E.taken) (every_front (Lacks lf) (header ∷ (C.taken ++ (z ∷ E.taken))) ([] ∷ []) all).1 in
      comments_are C.taken (run_all is_comment (length H.rest) H.rest) some

  long : (i : ℕ) → length (ends i E.taken) ≡ number 2 z
  long i = length-map E.taken (λ l. number i l - 1) ∙ counted

  holds : Holds text (record { n = number 0 z; sources = ends 0 E.taken; targets = ends 1 E.taken })
  unfolding commented
  holds = record {
    comments = C.taken;
    remarks = remarks;
    fits = record {
      low = size_low z is_size_lem 0 (omega arith);
      short = omega (arith, long 0, size_low z is_size_lem 2 (omega arith));
      even = long 0 ∙ sym (long 1);
      sources = entry_sources (number 0 z) E.taken are_entries;
      targets = entry_targets (number 0 z) E.taken are_entries;
    };
    whole =
        text_is
        ∙ ap₂ (λ (l : Raw) (ls : List Raw). ended (header ∷ (C.taken ++ (l ∷ ls))))
        (size_row_lem z is_size_lem ∙ ap (λ (m : ℕ). row (number 0 z) (number 0 z ∷ m ∷ [])) (sym (long 0)))
        (entry_rows_lem (number 0 z) E.taken are_entries);
  }

  pub said_holds : Holds text G
  said_holds = subst (Holds text) facts.1.1 holds
