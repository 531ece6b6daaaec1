-- Reading a text of the subset gives its n and edge list; so what was written is read back.
use mathlib.Core.Bool.{Bool, true, false, ◌&&◌}
use mathlib.Core.List.{List, [], ◌∷◌, ◌++◌, append_assoc}
use mathlib.Core.Path.{◌≡◌, refl, sym, ap, ap₂, ◌∙◌}
use Prim.Native.Nat.{ℕ, suc, ◌-◌, ◌≤◌, ◌<◌}
use native.Mathlib.Omega.{arith}
use lib.Dec.{eqb, leb}
use lib.ListN.{length, get_or, length-append}
use borrow.Author.Tests.{eq-eqb, ne_eqb, le-leb, leb-true}
use Rattle.lineage.specs.Lists.{all_of, Every}
use Rattle.lineage.specs.Graph.{Graph}
use Rattle.laws.proofs.Tests.{both}
use Rattle.laws.proofs.Every.{every_from, every_append}
use Rattle.text_lines.specs.Lines.{lf, space, is_digit, pieces, is_decimal, value, decimal}
use Rattle.matrix_lines.specs.Matrix.{Raw, header, is_header, is_comment, number, most_digits, is_row, is_size, is_vertex, is_entry, Run, with_line, run, ends, says, saying, matrix_reading, row, entry_rows, matrix_text}
use Rattle.matrix_lines.specs.Grammar.{most_written, Writable, Comment, commented}
use Rattle.text_lines.proofs.Digits.{decimal_digits, decimal_some, decimal_is, decimal_value}
use Rattle.matrix_lines.proofs.Pieces.{Lacks, row_pieces, row_lacks, ended_pieces}
use Rattle.matrix_lines.proofs.Runs.{line_passes, pass_then, more_behind, all_pass, reading_is}

module _ (x : ℕ) (fits : x ≤ most_written) where
  few : is_decimal most_digits (decimal x) ≡ true
  few = decimal_is most_digits x (omega arith) (omega arith) (omega arith)

  same : value (decimal x) ≡ x
  same = decimal_value x (omega arith)

-- the size line
module _ (n m : ℕ) (low : n ≤ most_written) (short : m ≤ most_written) where
  abbrev size_row : Raw
  size_row = row n (n ∷ m ∷ [])

  size_words : pieces space size_row ≡ decimal n ∷ decimal n ∷ decimal m ∷ []
  size_words = row_pieces n (n ∷ m ∷ [])

  size_passes : is_size size_row ≡ true
  unfolding is_size is_row
  size_passes =
      ap (λ (ws : List Raw). (eqb (length ws) 3 && all_of (is_decimal most_digits) ws) && eqb (value (get_or ws 0 [])) (value (get_or ws 1 []))) size_words
      ∙ rw (few n low, few m short, same n low, eq-eqb n n refl)

  size_first : number 0 size_row ≡ n
  size_first = ap (λ (ws : List Raw). value (get_or ws 0 [])) size_words ∙ same n low

  size_third : number 2 size_row ≡ m
  size_third = ap (λ (ws : List Raw). value (get_or ws 2 [])) size_words ∙ same m short

-- a row begins with a digit, so it is no comment
digit_no_comment : (w rest : List ℕ) → all_of is_digit w ≡ true → 1 ≤ length w → is_comment (w ++ rest) ≡ false
digit_no_comment [] rest h l = absurd (omega arith)
digit_no_comment (b ∷ w) rest h l =
    let high : 48 ≤ b = leb-true 48 b (both (leb 48 b) (leb b 57) (both (is_digit b) (all_of is_digit w) h).0).0 in
    ne_eqb b 37 (omega arith)

pub row_no_comment : (x y : ℕ) (more : List ℕ) → is_comment (row x (y ∷ more)) ≡ false
row_no_comment x y more = digit_no_comment (decimal x) (space ∷ row y more) (decimal_digits x) (decimal_some x)

-- an entry
module _ (n u v : ℕ) (low : n ≤ most_written) (source : u < n) (target : v < n) where
  abbrev entry_row : Raw
  entry_row = row (suc u) (suc v ∷ [])

  entry_words : pieces space entry_row ≡ decimal (suc u) ∷ decimal (suc v) ∷ []
  entry_words = row_pieces (suc u) (suc v ∷ [])

  entry_passes : is_entry n entry_row ≡ true
  unfolding is_entry is_row
  entry_passes =
      ap (λ (ws : List Raw). (eqb (length ws) 2 && all_of (is_decimal most_digits) ws) && (is_vertex n (value (get_or ws 0 [])) && is_vertex n (value (get_or ws 1 [])))) entry_words
      ∙ rw (few (suc u) (omega arith), few (suc v) (omega arith), same (suc u) (omega arith), same (suc v) (omega arith), le-leb 1 (suc u) (omega arith), le-leb (suc u) n source, le-leb 1 (suc v) (omega arith), le-leb (suc v) n target)

  entry_source : number 0 entry_row - 1 ≡ u
  entry_source = ap (λ (ws : List Raw). value (get_or ws 0 []) - 1) entry_words ∙ (ap (λ (k : ℕ). k - 1) (same (suc u) (omega arith)) ∙ omega arith)

  entry_target : number 1 entry_row - 1 ≡ v
  entry_target = ap (λ (ws : List Raw). value (get_or ws 1 []) - 1) entry_words ∙ (ap (λ (k : ℕ). k - 1) (same (suc v) (omega arith)) ∙ omega arith)

-- all entries
module _ (n : ℕ) (low : n ≤ most_written) where
  entries_pass : (S T : List ℕ) → Every (λ u. u < n) S → Every (λ v. v < n) T → Every (λ l. is_entry n l ≡ true) (entry_rows S T)
  entries_pass [] T hs ht = tt
  entries_pass (u ∷ S) [] hs ht = tt
  entries_pass (u ∷ S) (v ∷ T) hs ht = (entry_passes n u v low hs.0 ht.0, entries_pass S T hs.1 ht.1)

  entry_sources : (S T : List ℕ) → length S ≡ length T → Every (λ u. u < n) S → Every (λ v. v < n) T → ends 0 (entry_rows S T) ≡ S
  entry_sources [] T e hs ht = refl
  entry_sources (u ∷ S) [] e hs ht = absurd (omega arith)
  entry_sources (u ∷ S) (v ∷ T) e hs ht =
      ap₂ (λ (x : ℕ) (xs : List ℕ). x ∷ xs) (entry_source n u v low hs.0 ht.0) (entry_sources S T (omega arith) hs.1 ht.1)

  entry_targets : (S T : List ℕ) → length S ≡ length T → Every (λ u. u < n) S → Every (λ v. v < n) T → ends 1 (entry_rows S T) ≡ T
  entry_targets [] [] e hs ht = refl
  entry_targets [] (v ∷ T) e hs ht = absurd (omega arith)
  entry_targets (u ∷ S) [] e hs ht = absurd (omega arith)
  entry_targets (u ∷ S) (v ∷ T) e hs ht =
      ap₂ (λ (x : ℕ) (xs : List ℕ). x ∷ xs) (entry_target n u v low hs.0 ht.0) (entry_targets S T (omega arith) hs.1 ht.1)

entries_long : (S T : List ℕ) → length S ≡ length T → length (entry_rows S T) ≡ length S
entries_long [] T e = refl
entries_long (u ∷ S) [] e = absurd (omega arith)
entries_long (u ∷ S) (v ∷ T) e = ap suc (entries_long S T (omega arith))

entries_lack : (S T : List ℕ) → Every (Lacks lf) (entry_rows S T)
entries_lack [] T = tt
entries_lack (u ∷ S) [] = tt
entries_lack (u ∷ S) (v ∷ T) = (row_lacks (suc u) (suc v ∷ []), entries_lack S T)

pub one_taken : (test : Raw → Bool) (l : Raw) (lines : List Raw) → with_line l (run test 0 lines) ≡ record { taken = l ∷ []; rest = lines }
unfolding run
one_taken test l lines = refl

-- the lines of the text: the header, the comments, the size line, the entries, and nothing behind the last LF
written_lines : (comments : List Raw) (G : Graph) → Every Comment comments
    → pieces lf (commented comments G)
    ≡ header ∷ (comments ++ (row G.n (G.n ∷ length G.sources ∷ []) ∷ (entry_rows G.sources G.targets ++ ([] ∷ []))))
unfolding commented
written_lines comments G h =
    let n : ℕ = G.n in
    let m : ℕ = length G.sources in
    let R : Raw = row n (n ∷ m ∷ []) in
    let E : List Raw = entry_rows G.sources G.targets in
    let lack : Every (Lacks lf) (comments ++ (R ∷ E)) =
    every_append (Lacks lf) comments (R ∷ E) (every_from Comment (Lacks lf) (λ l c. c.one) comments h) (row_lacks n (n ∷ m ∷ []), entries_lack G.sources G.targets) in
    ended_pieces (header ∷ (comments ++ (R ∷ E))) (refl, lack) ∙ ap (λ (ls : List Raw). header ∷ ls) (append_assoc comments (R ∷ E) ([] ∷ []))

-- a text of the subset is read to its edge list
pub commented_round : (comments : List Raw) (G : Graph) → Every Comment comments → Writable G → matrix_reading (commented comments G) ≡ says G
commented_round comments G remarks w =
    let n : ℕ = G.n in
    let m : ℕ = length G.sources in
    let E : List Raw = entry_rows G.sources G.targets in
    let R : Raw = row n (n ∷ m ∷ []) in
    let rest : List Raw = E ++ ([] ∷ []) in
    let h : Run = record { taken = header ∷ []; rest = comments ++ (R ∷ rest) } in
    let c : Run = record { taken = comments; rest = R ∷ rest } in
    let s : Run = record { taken = R ∷ []; rest = rest } in
    let e : Run = record { taken = E; rest = [] ∷ [] } in
    let long : length E ≡ m = entries_long G.sources G.targets w.even in
    let first : number 0 R ≡ n = size_first n m w.low w.short in
    let third : number 2 R ≡ m = size_third n m w.low w.short in
    let headed : h ≡ run is_header 1 (pieces lf (commented comments G)) =
    rw (written_lines comments G remarks)
    (sym (line_passes is_header 0 header (comments ++ (R ∷ rest)) refl (more_behind comments R rest) ∙ one_taken is_header header (comments ++ (R ∷ rest)))) in
    let passed : c ≡ run is_comment (length h.rest) h.rest =
    sym
    (pass_then is_comment comments R rest (every_from Comment (λ l. is_comment l ≡ true) (λ l k. k.marked) comments remarks)
    (rw (row_no_comment n n (m ∷ []), more_behind E [] [])) (length (comments ++ (R ∷ rest))) (omega (arith, length-append comments (R ∷ rest)))) in
    let sized : s ≡ run is_size 1 c.rest = sym (line_passes is_size 0 R rest (size_passes n m w.low w.short) (more_behind E [] []) ∙ one_taken is_size R rest) in
    let entered : e ≡ run (is_entry (number 0 R)) (number 2 R) rest =
    rw (first, third, ← long) (sym (all_pass (is_entry n) E [] [] (entries_pass n w.low G.sources G.targets w.sources w.targets))) in
    let same : saying h c s e ≡ says G =
    rw (first, third, long, eq-eqb m m refl, entry_sources n w.low G.sources G.targets w.even w.sources w.targets, entry_targets n w.low G.sources G.targets w.even w.sources w.targets) in
    sym (reading_is (commented comments G) h c s e headed passed sized entered) ∙ same

-- and what is written has no comments
pub matrix_round : (G : Graph) → Writable G → matrix_reading (matrix_text G) ≡ says G
unfolding matrix_text commented
matrix_round G w = commented_round [] G tt w
