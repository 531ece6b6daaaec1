-- Entries stored one by one: what stands in a list, then the ends still to be stored, are the ends of all.
use mathlib.Core.List.{List, [], ◌∷◌, ◌++◌, append_assoc, append-nil}
use mathlib.Core.Path.{◌≡◌, refl, sym, ap, ◌∙◌}
use Prim.Native.Nat.{ℕ, suc, ◌+◌, ◌-◌, ◌<◌}
use native.Mathlib.Nat.{sub-zero}
use native.Mathlib.Numerals.{add-one}
use native.Mathlib.Omega.{arith}
use lib.ListN.{length, take, drop, set, take-append-drop}
use lib.Seq.{drop-drop, drop-set-lt, take-suc-set}
use Rattle.text_lines.specs.Lines.{lf, first_piece, pieces}
use Rattle.matrix_lines.specs.Matrix.{Raw, number, is_entry, Run, stop, with_line, run, ends}
use Rattle.matrix_lines.proofs.Runs.{run_more, run_stops}
use Rattle.std.proofs.Common.{Some, None}
use Rattle.matrix_read.specs.declared.Entry.{Entry}
use Rattle.matrix_read.specs.Entries.{entry_in}
use Rattle.matrix_read.specs.Over.{entries_from}
use Rattle.matrix_read.proofs.Entries.{EntryGood, entry_taken, entry_left}

-- i ends stand in the list; those of `left` are to be stored; they are the ends of `whole`
pub record Column (k : ℕ) (whole left : List Raw) (i : ℕ) (lent held : List ℕ) : Type 0 where
  pub stored : take i held ++ ends k left ≡ ends k whole
  pub kept : drop i held ≡ drop i lent

column_begins : (k : ℕ) (whole : List Raw) (lent : List ℕ) → Column k whole whole 0 lent lent
column_begins k whole lent = record { stored = refl; kept = refl }

column_turns : (k : ℕ) (whole left : List Raw) (l : Raw) (i u : ℕ) (lent held : List ℕ) → Column k whole (l ∷ left) i lent held → i < length held → u ≡ number k l - 1
    → Column k whole left (i + 1) lent (set held i u)
column_turns k whole left l i u lent held c low e = record {
  stored = rw (add-one i, take-suc-set held i u low, e) (append_assoc (take i held) ((number k l - 1) ∷ []) (ends k left) ∙ c.stored);
  kept = drop-set-lt (i + 1) held i u (omega arith) ∙ (sym (drop-drop 1 i held) ∙ (ap (drop 1) c.kept ∙ drop-drop 1 i lent));
}

column_ends : (k : ℕ) (whole : List Raw) (i count : ℕ) (lent held : List ℕ) → Column k whole [] i lent held → i ≡ count → held ≡ ends k whole ++ drop count lent
column_ends k whole i count lent held c e =
    let front : take i held ≡ ends k whole = sym (append-nil (take i held)) ∙ c.stored in
    sym (take-append-drop i held) ∙ (rw (front, c.kept, e))

-- both lists
pub record Storing (text : List ℕ) (at n count : ℕ) (S T : List ℕ) (i p : ℕ) (S' T' : List ℕ) : Type 0 where
  pub left : length (entries_from n (count - i) text p).taken ≡ count - i
  pub sources : Column 0 (entries_from n count text at).taken (entries_from n (count - i) text p).taken i S S'
  pub targets : Column 1 (entries_from n count text at).taken (entries_from n (count - i) text p).taken i T T'

module _ (text : List ℕ) (at n count : ℕ) (S T : List ℕ) (i p : ℕ) (S' T' : List ℕ) (k : Storing text at n count S T i p S' T') where
  -- there is an entry, as they were counted
  pub store_never : i < count → None ≡ entry_in n p (drop p text) → ⊥
  store_never low e =
      let none : entries_from n (count - i) text p ≡ stop (pieces lf (drop p text)) = run_stops (is_entry n) (drop p text) (count - i) (entry_left n p (drop p text) e) in
      let nothing : length (entries_from n (count - i) text p).taken ≡ 0 = ap (λ (R : Run). length R.taken) none in
      omega (arith, k.left, nothing)

  pub store_turns : (r : Entry) → i < count → i < length S' → i < length T' → Some r ≡ entry_in n p (drop p text)
      → Storing text at n count S T (i + 1) r.next (set S' i r.source) (set T' i r.target)
  store_turns r low ls lt e =
      let s : List ℕ = drop p text in
      let t : EntryGood n p s r = entry_taken n p s r e in
      let goes : drop (suc (length (first_piece lf s))) s ≡ drop r.next text =
      drop-drop (suc (length (first_piece lf s))) p text ∙ ap (λ (q : ℕ). drop q text) (sym t.behind) in
      let one_left : count - i ≡ suc (count - (i + 1)) = omega arith in
      let one : entries_from n (count - i) text p ≡ with_line (first_piece lf s) (entries_from n (count - (i + 1)) text r.next) =
      ap (λ (m : ℕ). entries_from n m text p) one_left
      ∙ (run_more (is_entry n) s (count - (i + 1)) t.ended t.right ∙ ap (λ (z : List ℕ). with_line (first_piece lf s) (run (is_entry n) (count - (i + 1)) (pieces lf z))) goes) in
      let taken : (entries_from n (count - i) text p).taken ≡ first_piece lf s ∷ (entries_from n (count - (i + 1)) text r.next).taken = ap (λ (R : Run). R.taken) one in
      let long : length (entries_from n (count - i) text p).taken ≡ suc (length (entries_from n (count - (i + 1)) text r.next).taken) = ap (λ (ls' : List Raw). length ls') taken in
      let whole : List Raw = (entries_from n count text at).taken in
      let rest : List Raw = (entries_from n (count - (i + 1)) text r.next).taken in
      record {
        left = omega (arith, k.left, long);
        sources = column_turns 0 whole rest (first_piece lf s) i r.source S S' (rw taken at k.sources) ls t.source;
        targets = column_turns 1 whole rest (first_piece lf s) i r.target T T' (rw taken at k.targets) lt t.target;
      }
