-- A row that was read says what its line is; entries passed one by one are the run of them.
use mathlib.Core.Bool.{Bool, true, false, true≢false, ◌&&◌, and-false}
use mathlib.Core.List.{List, [], map}
use mathlib.Core.Path.{◌≡◌, refl, sym, ap, ◌∙◌}
use Prim.Native.Nat.{ℕ, suc, ◌+◌, ◌-◌, ◌≤◌, ◌<◌}
use native.Mathlib.Nat.{sub-zero, zero-add}
use native.Mathlib.Omega.{arith}
use lib.Dec.{eqb, leb}
use lib.ListN.{length, get_or, take, drop, length-drop}
use lib.Seq.{drop-drop, get_or-take}
use borrow.Author.Tests.{eqb-true, eq-eqb, ne_eqb, le-leb, leb-true}
use Rattle.lineage.specs.Lists.{all_of}
use Rattle.laws.proofs.Tests.{both}
use Rattle.laws.proofs.Lists.{get_d_mapped}
use Rattle.std.proofs.Common.{Some, None}
use Rattle.text_lines.specs.Lines.{lf, space, first_piece, other_pieces, pieces, is_decimal, value}
use Rattle.text_lines.specs.Reader.{found, none, after, is_more, Into}
use Rattle.matrix_lines.specs.Matrix.{Raw, number, most_digits, is_row, is_size, is_vertex, is_entry, Run, stop, with_line, run}
use Rattle.matrix_lines.specs.declared.LineKind.TheVariants.{Row}
use Rattle.matrix_lines.specs.Reader.{kind_in, found_row, row_in, RunInto}
use Rattle.matrix_lines.proofs.Firsts.{row_not}
use Rattle.matrix_lines.proofs.Lines.{ended_long}
use Rattle.matrix_lines.proofs.Runs.{run_more, run_stops}
use Rattle.matrix_read.specs.declared.Entry.{Entry}
use Rattle.matrix_read.specs.Over.{entries_from}
use Rattle.matrix_read.specs.Entries.{entry_by, entry_in, size_in}

-- what a row that was read says of its line
pub record RowGood (size at : ℕ) (s exit : List ℕ) (next : ℕ) : Type 0 where
  pub ended : is_more (other_pieces lf s) ≡ true
  pub right : is_row size (first_piece lf s) ≡ true
  pub stored : take size exit ≡ map value (pieces space (first_piece lf s))
  pub behind : next ≡ at + suc (length (first_piece lf s))

module _ (size at : ℕ) (s entry exit : List ℕ) where
  pub row_good : (next : ℕ) → Into (Some next) (row_in size s) at 0 size entry exit → RowGood size at s exit next
  unfolding row_in
  row_good next t = go (is_more (other_pieces lf s)) (is_row size (first_piece lf s)) refl refl t.read
    where
      go : (x y : Bool) → is_more (other_pieces lf s) ≡ x → is_row size (first_piece lf s) ≡ y
          → found (take (0 + size) exit) next ≡ after [] at (found_row (x && y) (map value (pieces space (first_piece lf s))) (suc (length (first_piece lf s)))) → RowGood size at s exit next
      go true true m r h = record { ended = m; right = r; stored = rw (← (zero-add size)) (cc); behind = cc }
      go true false m r h = absurd (true≢false cc)
      go false y m r h = absurd (true≢false cc)

  pub row_bad : Into None (row_in size s) at 0 size entry exit → (is_more (other_pieces lf s) && is_row size (first_piece lf s)) ≡ false
  unfolding row_in
  row_bad t = go (is_more (other_pieces lf s) && is_row size (first_piece lf s)) t.read
    where
      go : (x : Bool) → none ≡ after [] at (found_row x (map value (pieces space (first_piece lf s))) (suc (length (first_piece lf s)))) → x ≡ false
      go true h = absurd (true≢false cc)
      go false h = refl

-- number i of the line stands at i
pub stored_at : {size at next : ℕ} {s exit : List ℕ} → RowGood size at s exit next → (i : ℕ) → i < size → get_or exit i 0 ≡ number i (first_piece lf s)
unfolding is_row
stored_at {size} {at} {next} {s} {exit} g i low =
    let words : List Raw = pieces space (first_piece lf s) in
    let long : length words ≡ size = eqb-true (length words) size (both (eqb (length words) size) (all_of (is_decimal most_digits) words) g.right).0 in
    sym (get_or-take size exit i 0 low) ∙ (ap (λ (ns : List ℕ). get_or ns i 0) g.stored ∙ get_d_mapped value words i [] 0 (omega arith))

-- An entry.
module _ (n : ℕ) {at next : ℕ} {s exit : List ℕ} (g : RowGood 2 at s exit next) where
  abbrev u : ℕ
  u = get_or exit 0 0

  abbrev v : ℕ
  v = get_or exit 1 0

  pub entry_good : 1 ≤ u → u ≤ n → 1 ≤ v → v ≤ n → Some (record { source = u - 1; target = v - 1; next = next }) ≡ entry_in n at s
  unfolding entry_in is_entry
  entry_good u1 un v1 vn =
      rw (g.ended, g.right, ← (stored_at g 0 (omega arith)), ← (stored_at g 1 (omega arith)), le-leb 1 u u1, le-leb u n un, le-leb 1 v v1, le-leb v n vn, g.behind)

  pub entry_outside : (1 ≤ u → u ≤ n → 1 ≤ v → v ≤ n → ⊥) → None ≡ entry_in n at s
  unfolding entry_in is_entry
  entry_outside e = rw (g.ended, g.right, ← (stored_at g 0 (omega arith)), ← (stored_at g 1 (omega arith))) (go (leb 1 u) (leb u n) (leb 1 v) (leb v n) refl refl refl refl)
    where
      go : (a b c d : Bool) → leb 1 u ≡ a → leb u n ≡ b → leb 1 v ≡ c → leb v n ≡ d → None ≡ entry_by ((a && b) && (c && d)) (u - 1) (v - 1) (at + suc (length (first_piece lf s)))
      go true true true true p q r t = absurd (e (leb-true 1 u p) (leb-true u n q) (leb-true 1 v r) (leb-true v n t))
      go true true true false p q r t = refl
      go true true false d p q r t = refl
      go true false c d p q r t = refl
      go false b c d p q r t = refl

fewer : (a b c : Bool) → (a && b) ≡ false → (a && (b && c)) ≡ false
fewer true true c e = absurd (true≢false e)
fewer true false c e = refl
fewer false b c e = refl

-- a line that is no row is no entry
pub entry_unrow : (n at : ℕ) (s : List ℕ) → (kind_in s ≡ Row → ⊥) → None ≡ entry_in n at s
unfolding entry_in is_entry
entry_unrow n at s h = rw (row_not 2 s h, and-false (is_more (other_pieces lf s)))

pub entry_none : (n at : ℕ) (s entry exit : List ℕ) → Into None (row_in 2 s) at 0 2 entry exit → None ≡ entry_in n at s
unfolding entry_in is_entry
entry_none n at s entry exit t =
    let l : Raw = first_piece lf s in
    rw (fewer (is_more (other_pieces lf s)) (is_row 2 l) (is_vertex n (number 0 l) && is_vertex n (number 1 l)) (row_bad 2 at s entry exit t))

-- The size line.
module _ {at next : ℕ} {s exit : List ℕ} (g : RowGood 3 at s exit next) where
  pub size_good : get_or exit 0 0 ≡ get_or exit 1 0 → Some (record { n = get_or exit 0 0; entries = get_or exit 2 0; next = next }) ≡ size_in at s
  unfolding size_in is_size
  size_good e =
      rw (g.ended, g.right, ← (stored_at g 0 (omega arith)), ← (stored_at g 1 (omega arith)), ← (stored_at g 2 (omega arith)), eq-eqb (get_or exit 0 0) (get_or exit 1 0) e, g.behind)

  pub size_unequal : (get_or exit 0 0 ≡ get_or exit 1 0 → ⊥) → None ≡ size_in at s
  unfolding size_in is_size
  size_unequal e = rw (g.ended, g.right, ← (stored_at g 0 (omega arith)), ← (stored_at g 1 (omega arith)), ne_eqb (get_or exit 0 0) (get_or exit 1 0) e)

pub size_unrow : (at : ℕ) (s : List ℕ) → (kind_in s ≡ Row → ⊥) → None ≡ size_in at s
unfolding size_in is_size
size_unrow at s h = rw (row_not 3 s h, and-false (is_more (other_pieces lf s)))

pub size_none : (at : ℕ) (s entry exit : List ℕ) → Into None (row_in 3 s) at 0 3 entry exit → None ≡ size_in at s
unfolding size_in is_size
size_none at s entry exit t =
    let l : Raw = first_piece lf s in
    rw (fewer (is_more (other_pieces lf s)) (is_row 3 l) (eqb (number 0 l) (number 1 l)) (row_bad 3 at s entry exit t))

-- What an entry that was read says of its line.
pub record EntryGood (n at : ℕ) (s : List ℕ) (r : Entry) : Type 0 where
  pub ended : is_more (other_pieces lf s) ≡ true
  pub right : is_entry n (first_piece lf s) ≡ true
  pub source : r.source ≡ number 0 (first_piece lf s) - 1
  pub target : r.target ≡ number 1 (first_piece lf s) - 1
  pub behind : r.next ≡ at + suc (length (first_piece lf s))

module _ (n at : ℕ) (s : List ℕ) where
  pub entry_taken : (r : Entry) → Some r ≡ entry_in n at s → EntryGood n at s r
  unfolding entry_in
  entry_taken r e = go (is_more (other_pieces lf s)) (is_entry n (first_piece lf s)) refl refl e
    where
      go : (x y : Bool) → is_more (other_pieces lf s) ≡ x → is_entry n (first_piece lf s) ≡ y
          → Some r ≡ entry_by (x && y) (number 0 (first_piece lf s) - 1) (number 1 (first_piece lf s) - 1) (at + suc (length (first_piece lf s))) → EntryGood n at s r
      go true true m y h =
          let l : Raw = first_piece lf s in
          let same : r ≡ record { source = number 0 l - 1; target = number 1 l - 1; next = at + suc (length l) } = cc in
          rw same record { ended = m; right = y; source = refl; target = refl; behind = refl }
      go true false m y h = absurd (true≢false cc)
      go false x m y h = absurd (true≢false cc)

  pub entry_left : None ≡ entry_in n at s → (is_more (other_pieces lf s) && is_entry n (first_piece lf s)) ≡ false
  unfolding entry_in
  entry_left e = go (is_more (other_pieces lf s) && is_entry n (first_piece lf s)) e
    where
      go : (x : Bool) → None ≡ entry_by x (number 0 (first_piece lf s) - 1) (number 1 (first_piece lf s) - 1) (at + suc (length (first_piece lf s))) → x ≡ false
      go true h = absurd (true≢false cc)
      go false h = refl

-- Entries passed one by one: i of them from `at` on, up to p.
pub record Passing (text : List ℕ) (at n most i p : ℕ) : Type 0 where
  pub counted : length (entries_from n most text at).taken ≡ i + length (entries_from n (most - i) text p).taken
  pub rest : (entries_from n most text at).rest ≡ (entries_from n (most - i) text p).rest
  pub inside : p ≤ length text
  pub spent : at + i ≤ p

module _ (text : List ℕ) (at n most i p : ℕ) (k : Passing text at n most i p) where
  ends_by : entries_from n (most - i) text p ≡ stop (pieces lf (drop p text)) → RunInto text at (entries_from n most text at) i p
  ends_by stopped =
      let nothing : length (entries_from n (most - i) text p).taken ≡ 0 = ap (λ (R : Run). length R.taken) stopped in
      record { counted = omega (arith, k.counted, nothing); rest = k.rest ∙ ap (λ (R : Run). R.rest) stopped; inside = k.inside; spent = k.spent }

  pub pass_stops : None ≡ entry_in n p (drop p text) → RunInto text at (entries_from n most text at) i p
  pass_stops e = ends_by (run_stops (is_entry n) (drop p text) (most - i) (entry_left n p (drop p text) e))

  pub pass_full : i ≡ most → RunInto text at (entries_from n most text at) most p
  unfolding run
  pass_full h =
      let none_left : most - i ≡ 0 = omega arith in
      let passed : RunInto text at (entries_from n most text at) i p = ends_by (rw none_left) in
      rw h at passed

  -- an entry more
  pub pass_turns : (r : Entry) → i < most → Some r ≡ entry_in n p (drop p text) → Passing text at n most (i + 1) r.next
  pass_turns r low e =
      let s : List ℕ = drop p text in
      let t : EntryGood n p s r = entry_taken n p s r e in
      let goes : drop (suc (length (first_piece lf s))) s ≡ drop r.next text =
      drop-drop (suc (length (first_piece lf s))) p text ∙ ap (λ (q : ℕ). drop q text) (sym t.behind) in
      let left : most - i ≡ suc (most - (i + 1)) = omega arith in
      let one : entries_from n (most - i) text p ≡ with_line (first_piece lf s) (entries_from n (most - (i + 1)) text r.next) =
      ap (λ (m : ℕ). entries_from n m text p) left
      ∙ (run_more (is_entry n) s (most - (i + 1)) t.ended t.right ∙ ap (λ (z : List ℕ). with_line (first_piece lf s) (run (is_entry n) (most - (i + 1)) (pieces lf z))) goes) in
      let taken : length (entries_from n (most - i) text p).taken ≡ suc (length (entries_from n (most - (i + 1)) text r.next).taken) = ap (λ (R : Run). length R.taken) one in
      record {
        counted = omega (arith, k.counted, taken);
        rest = k.rest ∙ ap (λ (R : Run). R.rest) one;
        inside = omega (arith, ended_long s t.ended, length-drop p text, t.behind, k.inside);
        spent = omega (arith, k.spent, t.behind);
      }
