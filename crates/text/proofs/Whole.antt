-- A whole text: its four blocks, one behind the other, and what they say together.
use mathlib.Core.Bool.{Bool, true, false, ◌&&◌, and-false}
use mathlib.Core.List.{List, [], ◌∷◌, ◌++◌, map}
use mathlib.Core.Path.{◌≡◌, refl, ap, ◌∙◌, subst}
use Prim.Native.Nat.{ℕ, zero, suc, ◌+◌, ◌*◌, ◌≤◌, ◌<◌}
use native.Mathlib.Omega.{arith}
use lib.Dec.{eqb, leb, eqb-suc-zero}
use lib.ListN.{length, get_or, take, drop, drop_of_length-le}
use lib.Seq.{drop-cons, get_or-take}
use borrow.Author.Tests.{ne_eqb, le-leb, lt-leb}
use Rattle.lineage.specs.Lists.{joined}
use Rattle.lineage.specs.Stored.{most_labellings}
use Rattle.text_lines.specs.Lines.{bytes, space, lf, keep, first_piece, begin, other_pieces, pieces, Line, lines_of, most_digits, line_is}
use Rattle.text.specs.Blocks.{BlockInto, most_questions, reading_of}
use Rattle.std.proofs.Common.{Ok}
use Rattle.text.specs.Text.{most_bytes, Block, with_line, go_on, block, most_edges, most_vertices, Text, bad_line, of_pairs, is_end, vertices, judged, saying, reading}

-- a block ends before the last piece
block_short : (first : List ℕ) (size most : ℕ) (l : Line) (lines : List Line) → (block first size most (l ∷ lines)).count ≤ length lines
unfolding block
block_short first size zero l lines = omega arith
block_short first size (suc most) l [] = omega arith
block_short first size (suc most) l (l' ∷ more) = go (line_is most_digits first size l) (block_short first size most l' more)
  where
    go : (t : Bool) → (block first size most (l' ∷ more)).count ≤ length more
        → (go_on t l (l' ∷ more) (λ lines. block first size most lines)).count ≤ suc (length more)
    go true h = omega arith
    go false h = omega arith

-- a block that ends before the most of its lines is the same for any such most
block_settled : (first : List ℕ) (size m m' : ℕ) (lines : List Line) → (block first size m lines).count < m → (block first size m' lines).count < m'
    → block first size m lines ≡ block first size m' lines
unfolding block
block_settled first size zero m' lines h h' = absurd (omega arith)
block_settled first size (suc m) zero lines h h' = absurd (omega arith)
block_settled first size (suc m) (suc m') [] h h' = refl
block_settled first size (suc m) (suc m') (l ∷ []) h h' = refl
block_settled first size (suc m) (suc m') (l ∷ (l' ∷ more)) h h' = go (line_is most_digits first size l) h h' (block_settled first size m m' (l' ∷ more))
  where
    go : (t : Bool) → (go_on t l (l' ∷ more) (λ lines. block first size m lines)).count < suc m → (go_on t l (l' ∷ more) (λ lines. block first size m' lines)).count < suc m'
        → ((block first size m (l' ∷ more)).count < m → (block first size m' (l' ∷ more)).count < m' → block first size m (l' ∷ more) ≡ block first size m' (l' ∷ more))
        → go_on t l (l' ∷ more) (λ lines. block first size m lines) ≡ go_on t l (l' ∷ more) (λ lines. block first size m' lines)
    go true k k' rest = ap (with_line l) (rest (omega arith) (omega arith))
    go false k k' rest = refl

-- any number of questions that fit: as many as there are lines, or one more than fit the text
questions_settled : (size most : ℕ) (s : List ℕ) (q : Block) → q ≡ block (bytes "q") size most (lines_of s) → q.count < most
    → q ≡ block (bytes "q") size (length (lines_of s)) (lines_of s)
unfolding lines_of
questions_settled size most s q e h =
    let all : List Line = map (pieces space) (other_pieces lf s) in
    e ∙ block_settled (bytes "q") size most (suc (length all)) (pieces space (first_piece lf s) ∷ all) (subst (λ (b : Block). b.count < most) e h)
    (omega (arith, block_short (bytes "q") size (suc (length all)) (pieces space (first_piece lf s)) all))

-- nothing is left of the text
end_reached : (text : List ℕ) (at : ℕ) → length text ≤ at → is_end (lines_of (drop at text)) ≡ true
unfolding lines_of first_piece other_pieces
end_reached text at h = rw (drop_of_length-le text h)

-- something is left
bytes_left : (b : ℕ) (s : List ℕ) → is_end (lines_of (b ∷ s)) ≡ false
unfolding lines_of first_piece other_pieces
bytes_left b s = go (eqb b lf) (eqb b space) refl
  where
    go : (x y : Bool) → eqb b space ≡ y
        → is_end (pieces space (keep x b (first_piece lf s)) ∷ map (pieces space) (begin x (first_piece lf s) (other_pieces lf s))) ≡ false
    go true y e = rw (ne_eqb (suc (suc (length (map (pieces space) (other_pieces lf s))))) 1 (omega arith))
    go false true e =
        let others : List Line = map (pieces space) (other_pieces lf s) in
        let words : Line = other_pieces space (first_piece lf s) in
        rw (e, ne_eqb (suc (suc (length (words ++ joined others)))) 1 (omega arith), and-false (eqb (suc (length others)) 1))
    go false false e =
        let others : List Line = map (pieces space) (other_pieces lf s) in
        let word : List ℕ = first_piece space (first_piece lf s) in
        let words : Line = other_pieces space (first_piece lf s) in
        rw (e, eqb-suc-zero (length (word ++ joined (words ++ joined others))), and-false (eqb (suc (length (words ++ joined others))) 1), and-false (eqb (suc (length others)) 1))

line_left : (text : List ℕ) (at : ℕ) → at < length text → is_end (lines_of (drop at text)) ≡ false
line_left text at h = rw (drop-cons text at 0 h) (bytes_left (get_or text at 0) (drop (suc at) text))

-- what the four blocks say
pub reading_is : (text : List ℕ) (v e o q : Block) → v ≡ block (bytes "v") 1 1 (lines_of text) → e ≡ block (bytes "e") 2 most_edges v.rest
    → o ≡ block (bytes "o") (vertices v) most_labellings e.rest → q ≡ block (bytes "q") 2 (length o.rest) o.rest → saying v e o q ≡ reading text
unfolding reading
reading_is text v e o q hv he ho hq = rw (← hv, ← he, ← ho, ← hq)

-- the first line is bad
first_bad : {text head : List ℕ} {count next : ℕ} → BlockInto text 0 118 1 1 count next head → (eqb count 1 && leb (get_or (take (count * 1) head) 0 0) most_vertices) ≡ false
    → bad_line 1 ≡ reading text
unfolding reading
first_bad b e = rw (← b.read, e)

first_number : (head : List ℕ) (count : ℕ) → count ≡ 1 → get_or (take (count * 1) head) 0 0 ≡ get_or head 0 0
first_number head count e = rw e (get_or-take 1 head 0 0 (omega arith))

-- it is no `v n`
pub first_missing : {text head : List ℕ} {count next : ℕ} → BlockInto text 0 118 1 1 count next head → count ≡ 0 → bad_line 1 ≡ reading text
first_missing b e = first_bad b (rw e)

-- n is over 512
pub first_high : {text head : List ℕ} {count next : ℕ} (n : ℕ) → BlockInto text 0 118 1 1 count next head → count ≡ 1 → get_or head 0 0 ≡ n → most_vertices < n → bad_line 1 ≡ reading text
first_high {head} {count} n b one e h =
    let high : most_vertices < get_or head 0 0 = omega (arith, e) in
    first_bad b (rw (first_number head count one, lt-leb (get_or head 0 0) most_vertices high, and-false (eqb count 1)))

-- Four blocks were read: the lists hold their numbers, and the first line's number is n.
pub record Four (text head pairs orders asked : List ℕ) (n vc va ec ea oc oa qc qa : ℕ) : Type 0 where
  pub v : BlockInto text 0 118 1 1 vc va head
  pub e : BlockInto text va 101 2 most_edges ec ea pairs
  pub o : BlockInto text ea 111 n most_labellings oc oa orders
  pub q : BlockInto text oa 113 2 (most_questions + 1) qc qa asked
  pub one : vc ≡ 1
  pub first : get_or head 0 0 ≡ n
  pub low : n ≤ most_vertices
  pub short : length text ≤ most_bytes

module _ {text head pairs orders asked : List ℕ} {n vc va ec ea oc oa qc qa : ℕ} (b : Four text head pairs orders asked n vc va ec ea oc oa qc qa) where
  -- the questions are few enough
  pub few_asked : qc ≤ most_questions
  few_asked = omega (arith, b.q.spent, b.q.inside, b.short)

  number : get_or (take (vc * 1) head) 0 0 ≡ n
  number = first_number head vc b.one ∙ b.first

  say : Text
  say = record { n = n; sources = of_pairs 0 (take (ec * 2) pairs); targets = of_pairs 1 (take (ec * 2) pairs); d = oc; orders = take (oc * n) orders; asked = take (qc * 2) asked }

  four_say : (end : Bool) → is_end (lines_of (drop qa text)) ≡ end → judged true end say (1 + ec + oc + qc) ≡ reading text
  unfolding say
  four_say end e =
      let v : Block = record { count = vc; numbers = take (vc * 1) head; rest = lines_of (drop va text) } in
      let e' : Block = record { count = ec; numbers = take (ec * 2) pairs; rest = lines_of (drop ea text) } in
      let o : Block = record { count = oc; numbers = take (oc * n) orders; rest = lines_of (drop oa text) } in
      let q : Block = record { count = qc; numbers = take (qc * 2) asked; rest = lines_of (drop qa text) } in
      let ordered : o ≡ block (bytes "o") (vertices v) most_labellings e'.rest = rw number b.o.read in
      let questioned : q ≡ block (bytes "q") 2 (length o.rest) o.rest = questions_settled 2 (most_questions + 1) (drop oa text) q b.q.read (omega (arith, few_asked)) in
      let same : judged true end say (1 + ec + oc + qc) ≡ saying v e' o q = rw (number, b.one, e, le-leb n most_vertices b.low) in
      same ∙ reading_is text v e' o q b.v.read b.e.read ordered questioned

  -- a line is left
  pub four_bad : qa < length text → bad_line (2 + ec + oc + qc) ≡ reading text
  four_bad h = ap bad_line (omega arith) ∙ four_say false (line_left text qa h)

  -- none is left
  pub four_good : (sources targets : List ℕ) → length text ≤ qa → take ec sources ≡ of_pairs 0 (take (ec * 2) pairs) → take ec targets ≡ of_pairs 1 (take (ec * 2) pairs)
      → reading_of (Ok (record { n = n; edges = ec; orders = oc; questions = qc })) sources targets orders asked ≡ reading text
  unfolding say
  four_good sources targets h s t = rw (s, t) (four_say true (end_reached text qa h))
