-- `ask_pairs::ask_pairs` meets its contract: the table is laid out over all vertices, and answers by it are those of the index; the marks are settled by the last stamp.
-- The walks alter the words of the stack alone, which lie before the table.
use native.Mathlib.Omega.{arith}
use mathlib.Core.Path.{◌≡◌, ◌∙◌}
use mathlib.Core.List.{List}
use Prim.Native.Nat.{ℕ, ◌+◌, ◌≤◌}
use lib.ListN.{length}
use Rattle.numbers.specs.Regions.{Kept}
use Rattle.numbers.proofs.Regions.{kept_then, kept_wider}
use Rattle.ask_stacked.specs.Words.{stack_words}
use Rattle.ask_pairs.specs.Places.{Placed, table_in}
use Rattle.ask_pairs.proofs.Placing.{laid, laid_placed, laid_kept}
use Rattle.ask_pairs.proofs.Lent.{listed, named}
use Rattle.ask_pairs.proofs.ask_pairs.Goals as goal
use Rattle.ask_pairs.proofs.ask_pairs.Goals.{After-lay_out, After-stack_words-base}

-- the table has room
room : (b : After-stack_words-base) → b.stack_words-base.result + b.args.sections.now.layout.n ≤ length b.args.work.now
room b = omega (arith, b.stack_words-base.ensures, b.requires.n_in_bounds)

long : (o : After-lay_out) → length o.lay_out.new.places ≡ o.args.sections.now.layout.n
long o = omega (arith, o.lay_out.auto)

-- it is there, and only its words are altered by then
abbrev tabled : (o : After-lay_out) → List ℕ
tabled o = laid o.stack_words-base.result o.args.sections.now.layout.n o.args.work.now o.lay_out.new.places

table : (o : After-lay_out) → let s = o.args in
    Placed s.sections.now.layout.width s.sections.now.layout.n s.sections.now.layout.k s.sections.now.names.now s.sections.now.groups.now (table_in s.sections.now.layout.width s.sections.now.layout.n (tabled o))
table o = laid_placed o.args.sections.now.layout.width _ _ o.stack_words-base.ensures _ _ (omega (arith, o.stack_words-base.ensures, o.requires.n_in_bounds)) (long o) o.lay_out.ensures

words : (o : After-lay_out) → let s = o.args in Kept s.work.now (tabled o) 0 (stack_words s.sections.now.layout.width s.sections.now.layout.n + s.sections.now.layout.n)
words o = laid_kept o.args.sections.now.layout.width _ _ o.stack_words-base.ensures _ o.lay_out.new.places (omega (arith, o.stack_words-base.ensures, o.requires.n_in_bounds)) (long o)

pub lay_out-requires : goal.lay_out-requires
lay_out-requires c = let S = c.args.sections.now.in_triples.lent in (listed S, (named S, omega (arith, room (goal.at.lay_out-requires c).After-stack_words-base)))

pub ask_each-last-requires : goal.ask_each-last-requires
ask_each-last-requires c = record {
  placed = table (goal.at.ask_each-last-requires c).After-lay_out;
  n_in_bounds = omega (arith, (words (goal.at.ask_each-last-requires c).After-lay_out).long, c.requires.n_in_bounds);
  marks_value = c.requires.marks_value;
}

pub returns : goal.returns
returns c =
    let e = c.ask_each-last.ensures in record {
      answers_after = e.answers_after;
      marks_after = c.settle.ensures ∙ e.marks_after;
      kept = kept_then (words (goal.at.returns c).After-lay_out) (kept_wider 0 _ (omega arith) (omega arith) e.kept);
    }
