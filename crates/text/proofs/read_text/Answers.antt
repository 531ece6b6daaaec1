-- `text::read_text` meets its contract: the four blocks are read one behind the other, and together they say what the text says.
use mathlib.Core.Path.{◌≡◌, refl}
use native.Mathlib.Nat.{pos_of_ne-zero}
use native.Mathlib.Omega.{arith}
use lib.ListN.{get_or}
use Rattle.text.proofs.Whole.{first_missing, first_high, Four, few_asked, four_bad, four_good}
use Rattle.text.proofs.read_text.Goals as goal
use Rattle.text.proofs.read_text.Goals.{After-read_block-q, Else-v-eq0}

-- the first line was read
one : (c : Else-v-eq0) → c.read_block-v.result.count ≡ 1
one c = omega (arith, pos_of_ne-zero c.if-v-eq0.false, c.read_block-v.ensures.few)

-- all four were
four : (c : After-read_block-q) → Four c.args.text.now
    c.read_block-v.new.into
    c.read_block-e.new.into
    c.read_block-o.new.into
    c.read_block-q.new.into
    (get_or c.read_block-v.new.into 0 0)
    c.read_block-v.result.count
    c.read_block-v.result.at
    c.read_block-e.result.count
    c.read_block-e.result.at
    c.read_block-o.result.count
    c.read_block-o.result.at
    c.read_block-q.result.count
    c.read_block-q.result.at
four c = record {
  v = c.read_block-v.ensures;
  e = c.read_block-e.ensures;
  o = c.read_block-o.ensures;
  q = c.read_block-q.ensures;
  one = omega (arith, pos_of_ne-zero c.if-v-eq0.false, c.read_block-v.ensures.few);
  first = refl;
  low = c.if-n-gt-MOST_VERTICES.false;
  short = c.requires.text_len_bound;
}

pub returns-then-v-eq0 : goal.returns-then-v-eq0
returns-then-v-eq0 c = record { read = first_missing c.read_block-v.ensures c.if-v-eq0.true; within = omega arith }

pub returns-then-n-gt-MOST_VERTICES : goal.returns-then-n-gt-MOST_VERTICES
returns-then-n-gt-MOST_VERTICES c =
    record {
      read = first_high _ c.read_block-v.ensures (one (goal.at.returns-then-n-gt-MOST_VERTICES c).Else-v-eq0) refl c.if-n-gt-MOST_VERTICES.true;
      within = omega arith;
    }

pub returns-then-q-text : goal.returns-then-q-text
returns-then-q-text c =
    let b = four (goal.at.returns-then-q-text c).After-read_block-q in
    record { read = four_bad b c.if-q-text.true; within = omega (arith, few_asked b, b.e.few, b.o.few) }

pub returns : goal.returns
returns c =
    let b = four (goal.at.returns c).After-read_block-q in
    record {
      read = four_good b _ _ c.if-q-text.false c.take_column.ensures c.take_column-2.ensures;
      within = omega (arith, few_asked b, b.e.few, b.o.few, b.low);
    }
