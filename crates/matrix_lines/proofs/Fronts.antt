-- The first bad line: the four runs of a text take lines that may stand first in a text, and no longer stretch of its lines may. For where more lines may stand first, the
-- runs take them too: the header, then comments up to the size line, which is no comment, then the size line, then entries, at most as many as it says.
use mathlib.Core.Bool.{Bool, true, false, true≢false, ◌&&◌}
use mathlib.Core.List.{List, [], ◌∷◌, ◌++◌, append_assoc, append-nil}
use mathlib.Core.Logic.{◌⊎◌, inl, inr}
use mathlib.Core.Path.{◌≡◌, refl, sym, ap, ◌∙◌, subst}
use Prim.Native.Nat.{ℕ, zero, suc, ◌+◌, ◌≤◌, ◌<◌}
use native.Mathlib.Omega.{arith}
use lib.Dec.{eqb}
use lib.ListN.{length, get_or, take, drop, length-append, take-append-drop}
use lib.Seq.{take_at, drop-cons, length-take-le}
use borrow.Author.Tests.{eqb-true, eq-eqb}
use Rattle.lineage.specs.Lists.{Every}
use Rattle.lineage.specs.Graph.{Graph}
use Rattle.laws.proofs.Tests.{clash}
use Rattle.text_lines.specs.Lines.{lf, first_piece, other_pieces, pieces}
use Rattle.matrix_lines.specs.Matrix.{Raw, header, is_header, is_comment, number, is_size, is_entry, Run, go_on, run, is_done, ends, bad_line, judged, matrix_reading}
use Rattle.matrix_lines.specs.Grammar.{Front, none, headed as headedFront, sized as sizedFront, FirstBad}
use Rattle.matrix_lines.proofs.Runs.{line_passes, pass_then, pass_least, more_behind, run_few}
use Rattle.matrix_lines.proofs.Round.{row_no_comment, one_taken}
use Rattle.matrix_lines.proofs.Said.{run_split, run_all, size_row_lem, header_one, headed, remarked, sized, size_line, entered}

-- a line is left wherever there was one
rest_some : (test : Raw → Bool) (most : ℕ) (lines : List Raw) → 1 ≤ length lines → 1 ≤ length (run test most lines).rest
unfolding run
rest_some test zero lines h = h
rest_some test (suc most) [] h = h
rest_some test (suc most) (l ∷ []) h = h
rest_some test (suc most) (l ∷ (l' ∷ more)) h = go (test l) (rest_some test most (l' ∷ more) (omega arith))
  where
    go : (t : Bool) → 1 ≤ length (run test most (l' ∷ more)).rest → 1 ≤ length (go_on t l (l' ∷ more) (λ lines. run test most lines)).rest
    go true k = k
    go false k = omega arith

-- without a size line no entries are taken
none_said : number 2 [] ≡ 0
unfolding first_piece other_pieces
none_said = refl

none_taken : (test : Raw → Bool) (lines : List Raw) → (run test (number 2 []) lines).taken ≡ []
unfolding run
none_taken test lines = rw none_said

-- a size line is no comment
size_no_comment : (s : Raw) → is_size s ≡ true → is_comment s ≡ false
size_no_comment s e = ap is_comment (size_row_lem s e) ∙ row_no_comment (number 0 s) (number 0 s) (number 2 s ∷ [])

module _ (text : List ℕ) where
  abbrev H : Run
  H = headed text

  abbrev C : Run
  C = remarked text

  abbrev S : Run
  S = sized text

  abbrev z : Raw
  z = size_line text

  abbrev E : Run
  E = entered text

  -- the lines that the runs take
  abbrev fronts : List Raw
  fronts = H.taken ++ (C.taken ++ (S.taken ++ E.taken))

  abbrev goods : ℕ
  goods = length H.taken + length C.taken + length S.taken + length E.taken

  fronts_long : length fronts ≡ goods
  fronts_long =
      omega
      (arith, length-append H.taken (C.taken ++ (S.taken ++ E.taken)), length-append C.taken (S.taken ++ E.taken), length-append S.taken E.taken)

  lines_cut : pieces lf text ≡ fronts ++ E.rest
  lines_cut =
      let left : S.rest ≡ E.taken ++ E.rest = run_split (is_entry (number 0 z)) (number 2 z) S.rest in
      let behind : C.rest ≡ (S.taken ++ E.taken) ++ E.rest =
      run_split is_size 1 C.rest ∙ (ap (λ (ls : List Raw). S.taken ++ ls) left ∙ sym (append_assoc S.taken E.taken E.rest)) in
      let comments : H.rest ≡ (C.taken ++ (S.taken ++ E.taken)) ++ E.rest =
      run_split is_comment (length H.rest) H.rest
      ∙ (ap (λ (ls : List Raw). C.taken ++ ls) behind ∙ sym (append_assoc C.taken (S.taken ++ E.taken) E.rest)) in
      run_split is_header 1 (pieces lf text)
      ∙ (ap (λ (ls : List Raw). H.taken ++ ls) comments ∙ sym (append_assoc H.taken (C.taken ++ (S.taken ++ E.taken)) E.rest))

  rest_left : 1 ≤ length E.rest
  rest_left =
      rest_some (is_entry (number 0 z)) (number 2 z) S.rest
      (rest_some is_size 1 C.rest (rest_some is_comment (length H.rest) H.rest (rest_some is_header 1 (pieces lf text) (omega arith))))

  some_left : goods < length (pieces lf text)
  some_left = omega (arith, ap length lines_cut, length-append fronts E.rest, fronts_long, rest_left)

  -- they may stand first
  module _ (head : H.taken ≡ header ∷ []) where
    abbrev Stand : List Raw → Type 0
    Stand ls = Front (header ∷ (C.taken ++ ls))

    comments_pass : Every (λ l. is_comment l ≡ true) C.taken
    comments_pass = run_all is_comment (length H.rest) H.rest

    stand : (ss : List Raw) → S.taken ≡ ss → Stand (ss ++ E.taken)
    stand [] e =
        let unsized : z ≡ [] = ap (λ (ls : List Raw). get_or ls 0 []) e in
        let nothing : E.taken ≡ [] = ap (λ (l : Raw). (run (is_entry (number 0 l)) (number 2 l) S.rest).taken) unsized ∙ none_taken (is_entry (number 0 [])) S.rest in
        subst Stand (sym nothing) (subst (λ (ls : List Raw). Front (header ∷ ls)) (sym (append-nil C.taken)) (headedFront C.taken comments_pass))
    stand (s ∷ []) e =
        let same : z ≡ s = ap (λ (ls : List Raw). get_or ls 0 []) e in
        let passes : is_size z ≡ true = ap is_size same ∙ (subst (Every (λ (l : Raw). is_size l ≡ true)) e (run_all is_size 1 C.rest)).0 in
        subst (λ (l : Raw). Stand (l ∷ E.taken)) same
        (sizedFront C.taken z E.taken comments_pass passes (run_few (is_entry (number 0 z)) (number 2 z) S.rest) (run_all (is_entry (number 0 z)) (number 2 z) S.rest))
    stand (s ∷ (s' ∷ more)) e = absurd (omega (arith, ap length e, run_few is_size 1 C.rest))

    fronts_stand : Front (take goods (pieces lf text))
    fronts_stand =
        subst Front (sym (ap (take goods) lines_cut ∙ take_at fronts E.rest goods fronts_long))
        (subst (λ (hs : List Raw). Front (hs ++ (C.taken ++ (S.taken ++ E.taken)))) (sym head) (stand S.taken refl))

  -- where the header stands first, it is taken
  module _ (more : List Raw) (x : Raw) (rest : List Raw) (are : pieces lf text ≡ header ∷ (more ++ (x ∷ rest))) where
    head_run : H ≡ record { taken = header ∷ []; rest = more ++ (x ∷ rest) }
    head_run =
        ap (run is_header 1) are
        ∙ (line_passes is_header 0 header (more ++ (x ∷ rest)) refl (more_behind more x rest) ∙ one_taken is_header header (more ++ (x ∷ rest)))

    head_taken : length H.taken ≡ 1
    head_taken = ap (λ (R : Run). length R.taken) head_run

    head_left : H.rest ≡ more ++ (x ∷ rest)
    head_left = ap (λ (R : Run). R.rest) head_run

  -- comments that stand behind it
  comments_least : (cs : List Raw) (x : Raw) (rest : List Raw) → pieces lf text ≡ header ∷ (cs ++ (x ∷ rest)) → Every (λ l. is_comment l ≡ true) cs → length cs ≤ length C.taken
  comments_least cs x rest are h =
      let left : H.rest ≡ cs ++ (x ∷ rest) = head_left cs x rest are in
      let same : length C.taken ≡ length (run is_comment (length (cs ++ (x ∷ rest))) (cs ++ (x ∷ rest))).taken =
      ap (λ (ls : List Raw). length (run is_comment (length ls) ls).taken) left in
      omega (arith, same, pass_least is_comment cs x rest h (length (cs ++ (x ∷ rest))) (omega (arith, length-append cs (x ∷ rest))))

  -- and entries behind the size line
  module _ (cs : List Raw) (s : Raw) (es : List Raw) (x : Raw) (rest : List Raw) (are : pieces lf text ≡ header ∷ (cs ++ (s ∷ (es ++ (x ∷ rest)))))
      (comments : Every (λ l. is_comment l ≡ true) cs)
      (size : is_size s ≡ true) where
    abbrev tail : List Raw
    tail = es ++ (x ∷ rest)

    comments_run : C ≡ record { taken = cs; rest = s ∷ tail }
    comments_run =
        ap (λ (ls : List Raw). run is_comment (length ls) ls) (head_left cs s tail are)
        ∙ pass_then is_comment cs s tail comments (rw (size_no_comment s size, more_behind es x rest)) (length (cs ++ (s ∷ tail))) (omega (arith, length-append cs (s ∷ tail)))

    size_run : S ≡ record { taken = s ∷ []; rest = tail }
    size_run =
        ap (λ (R : Run). run is_size 1 R.rest) comments_run
        ∙ (line_passes is_size 0 s tail size (more_behind es x rest) ∙ one_taken is_size s tail)

    entries_least : length es ≤ number 2 s → Every (λ l. is_entry (number 0 s) l ≡ true) es → length es ≤ length E.taken
    entries_least few h =
        let same : length E.taken ≡ length (run (is_entry (number 0 s)) (number 2 s) tail).taken =
        ap (λ (R : Run). length (run (is_entry (number 0 (get_or R.taken 0 []))) (number 2 (get_or R.taken 0 [])) R.rest).taken) size_run in
        omega (arith, same, pass_least (is_entry (number 0 s)) es x rest h (number 2 s) few)

    all_least : length es ≤ number 2 s → Every (λ l. is_entry (number 0 s) l ≡ true) es → suc (length (cs ++ (s ∷ es))) ≤ goods
    all_least few h =
        omega
        (arith, length-append cs (s ∷ es), head_taken cs s tail are, ap (λ (R : Run). length R.taken) comments_run, ap (λ (R : Run). length R.taken) size_run, entries_least few h)

  -- lines that may stand first, with a line behind them, are all taken
  front_least : (ls : List Raw) → Front ls → (x : Raw) (rest : List Raw) → pieces lf text ≡ ls ++ (x ∷ rest) → length ls ≤ goods
  front_least [] none x rest are = omega arith
  front_least (l ∷ ls) (headedFront cs h) x rest are = omega (arith, head_taken cs x rest are, comments_least cs x rest are h)
  front_least (l ∷ ls) (sizedFront cs s es h size few k) x rest are =
      all_least cs s es x rest (are ∙ ap (λ (ys : List Raw). header ∷ ys) (append_assoc cs (s ∷ es) (x ∷ rest))) h size few k

  front_head : (ls : List Raw) → Front ls → 1 ≤ length ls → (x : Raw) (rest : List Raw) → pieces lf text ≡ ls ++ (x ∷ rest) → length H.taken ≡ 1
  front_head [] none low x rest are = absurd (omega arith)
  front_head (l ∷ ls) (headedFront cs h) low x rest are = head_taken cs x rest are
  front_head (l ∷ ls) (sizedFront cs s es h size few k) low x rest are =
      head_taken cs s (es ++ (x ∷ rest)) (are ∙ ap (λ (ys : List Raw). header ∷ ys) (append_assoc cs (s ∷ es) (x ∷ rest)))

-- what a bad text was judged by
judged_bad : (h w : Bool) (G : Graph) (good line : ℕ) → judged h w G good ≡ bad_line line → ((h ≡ false) × (line ≡ 1)) ⊎ ((h ≡ true) × (line ≡ suc good))
judged_bad false w G good line e = inl (refl, cc)
judged_bad true false G good line e = inr (refl, cc)
judged_bad true true G good line e = absurd (true≢false cc)

-- a front and a line behind it, cut from longer lines
cut_at : (lines : List Raw) (k : ℕ) → k < length lines → lines ≡ take k lines ++ (get_or lines k [] ∷ drop (suc k) lines)
cut_at lines k low = sym (take-append-drop k lines) ∙ ap (λ (ls : List Raw). take k lines ++ ls) (drop-cons lines k [] low)

module _ (text : List ℕ) (line : ℕ) (said : matrix_reading text ≡ bad_line line) where
  abbrev lines : List Raw
  lines = pieces lf text

  -- so many lines that may stand first, with a line behind them
  first_bad_by : (good : ℕ) → line ≡ suc good → good < length lines → Front (take good lines)
      → ((ls : List Raw) → Front ls → 1 ≤ length ls → (x : Raw) (rest : List Raw) → lines ≡ ls ++ (x ∷ rest) → length ls ≤ good) → FirstBad text line
  first_bad_by good next inside before least = record {
    good = good;
    next = next;
    inside = inside;
    before = before;
    stops = λ low F.
        let long : length (take (suc good) lines) ≡ suc good = length-take-le (suc good) lines (omega arith) in
        omega
        (arith, long, least (take (suc good) lines) F (omega (arith, long)) (get_or lines (suc good) []) (drop (suc (suc good)) lines) (cut_at lines (suc good) low));
  }

  pub bad_first : FirstBad text line
  unfolding matrix_reading
  bad_first =
      go
      (judged_bad (eqb (length (headed text).taken) 1)
      (eqb (length (sized text).taken) 1 && (eqb (length (entered text).taken) (number 2 (size_line text)) && is_done (entered text).rest))
      (record { n = number 0 (size_line text); sources = ends 0 (entered text).taken; targets = ends 1 (entered text).taken }) (goods text) line said)
    where
      go : ((eqb (length (headed text).taken) 1 ≡ false) × (line ≡ 1)) ⊎ ((eqb (length (headed text).taken) 1 ≡ true) × (line ≡ suc (goods text))) → FirstBad text line
      go (inl (h, one)) =
          first_bad_by 0 one (omega arith) none
          (λ ls F low x rest are. clash (eq-eqb (length (headed text).taken) 1 (front_head text ls F low x rest are)) h)
      go (inr (h, next)) =
          first_bad_by (goods text) next (some_left text) (fronts_stand text (header_one text (eqb-true (length (headed text).taken) 1 h)))
          (λ ls F low x rest are. front_least text ls F x rest are)
