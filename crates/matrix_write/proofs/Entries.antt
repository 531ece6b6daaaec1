-- The lines of the edges, one after the other: what is passed and what is still to come are the whole text. Counting adds the length of the next line, writing puts
-- the next line behind the others; and since the whole has room, so has every line.
use mathlib.Core.List.{List, [], ◌++◌, append_assoc}
use mathlib.Core.Path.{◌≡◌, refl, sym, ap, ap₂, ◌∙◌}
use Prim.Native.Nat.{ℕ, suc, ◌+◌, ◌*◌, ◌^◌, ◌≤◌, ◌<◌}
use native.Mathlib.Omega.{arith}
use lib.ListN.{length, get_or, length-append}
use Rattle.lineage.specs.Graph.{Graph}
use Rattle.laws.proofs.Edges.{sources_below, targets_below}
use Rattle.text_printing.specs.Printer.{Put}
use Rattle.text_printing.proofs.Putting.{put_put, put_same, put_empty}
use Rattle.matrix_lines.specs.Matrix.{ended, entry_rows, matrix_text}
use Rattle.matrix_write.specs.Fit.{Lines}
use Rattle.matrix_write.proofs.Rows.{pair_line, front_lines, front_short, text_parts, entries_from, entry_line, entries_next}

-- the ends of edge i, one higher, are numbers of 32 bits
pub ends_fit : (G : Graph) → Lines G → (i : ℕ) → i < length G.sources → (suc (get_or G.sources i 0) < 2 ^ 32) × (suc (get_or G.targets i 0) < 2 ^ 32)
ends_fit G L i low =
    (omega (arith, sources_below G L.ends i low, L.vertices), omega (arith, targets_below G L.ends i (omega (arith, L.ends.paired)), L.vertices))

-- the bytes up to edge i are counted
pub record Counted (G : Graph) (size i : ℕ) : Type 0 where
  pub whole : size + length (entries_from G.sources G.targets i) ≡ length (matrix_text G)
  pub small : size ≤ 82 + 22 * i

module _ (G : Graph) (L : Lines G) where
  pub counted_begins : {size : ℕ} → size ≡ length (front_lines G.n (length G.sources)) → Counted G size 0
  counted_begins e = record {
    whole = omega (arith, e, ap length (text_parts G), length-append (front_lines G.n (length G.sources)) (ended (entry_rows G.sources G.targets)));
    small = omega (arith, e, front_short G.n (length G.sources));
  }

-- the lines up to edge i are put from `at` on, and `next` is the position behind them
pub record Entered (S T entry : List ℕ) (at i next : ℕ) (out : List ℕ) : Type 0 where
  pub lines : List ℕ
  pub put : Put entry at lines next out
  pub whole : lines ++ entries_from S T i ≡ ended (entry_rows S T)

pub entered_begins : (S T entry : List ℕ) (at : ℕ) → Entered S T entry at 0 at entry
entered_begins S T entry at = record { lines = []; put = put_none; whole = refl }
  where
    put_none : Put entry at [] at entry
    put_none = record { behind = omega arith; whole = (put_empty entry at).whole }

module _ {S T entry : List ℕ} {at i next : ℕ} {out : List ℕ} (E : Entered S T entry at i next out) (paired : length S ≡ length T)
    (room : at + length (ended (entry_rows S T)) ≤ length entry)
  where
    pub entered_turns : {x y last : ℕ} {exit : List ℕ} → i < length S → x ≡ suc (get_or S i 0) → y ≡ suc (get_or T i 0)
        → Put out next (pair_line x y) last exit
        → Entered S T entry at (i + 1) last exit
    entered_turns h source target p = record {
      lines = E.lines ++ entry_line S T i;
      put = put_put E.put (put_same (ap₂ pair_line source target) p) (omega arith);
      whole =
          append_assoc E.lines (entry_line S T i) (entries_from S T (i + 1))
          ∙ ap (λ (s : List ℕ). E.lines ++ s) (sym (entries_next S T i paired h))
          ∙ E.whole;
    }
