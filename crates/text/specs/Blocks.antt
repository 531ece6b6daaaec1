-- What reading lines of one letter into a list leaves, and what reading a whole text does.
use Rattle.std.specs.Prelude.{List, [], ◌∷◌, ◌≡◌, Result, Ok, Err, ℕ, ◌+◌, ◌*◌, ◌≤◌, length, take, drop}
use Rattle.lineage.specs.Stored.{most_labellings}
use Rattle.text.specs.declared.Reading.{Reading as ReadingRead}
use Rattle.text_lines.specs.Lines.{lines_of}
use Rattle.text.specs.Text.{Block, block, most_vertices, most_edges, Reading, says, bad_line, reading}

-- `count` lines up to `next`, whose numbers are the first of the list, and the lines behind them; a line takes two bytes for each number and two more
pub record BlockInto (text : List ℕ) (at letter size most count next : ℕ) (exit : List ℕ) : Type 0 where
  pub read :
      ◌≡◌ {A = Block} (record { count = count; numbers = take (count * size) exit; rest = lines_of (drop next text) })
      (block (letter ∷ []) size most (lines_of (drop at text)))
  pub few : count ≤ most
  pub inside : next ≤ length text
  pub spent : at + count * (2 * size + 2) ≤ next

-- the most questions that fit a text: a line of one takes 6 bytes at least
abbrev pub most_questions : ℕ
most_questions = 5461

-- lists that hold what a text may say
pub record Lent (sources targets orders asked : List ℕ) : Type 0 where
  pub sources_long : most_edges ≤ length sources
  pub targets_long : most_edges ≤ length targets
  pub orders_long : most_labellings * most_vertices ≤ length orders
  pub asked_long : 2 * (most_questions + 1) ≤ length asked

-- what the counts and the lists say, or the bad line
abbrev pub reading_of : Result ReadingRead ℕ → List ℕ → List ℕ → List ℕ → List ℕ → Reading
reading_of (Ok r) sources targets orders asked =
    says (record {
      n = r.n;
      sources = take r.edges sources;
      targets = take r.edges targets;
      d = r.orders;
      orders = take (r.orders * r.n) orders;
      asked = take (r.questions * 2) asked;
    })
reading_of (Err l) sources targets orders asked = bad_line l

-- the counts, or the line, are within the program's bounds
abbrev pub Within : Result ReadingRead ℕ → Type 0
Within (Ok r) = (r.n ≤ most_vertices) × ((r.edges ≤ most_edges) × ((r.orders ≤ most_labellings) × (r.questions ≤ most_questions)))
Within (Err l) = l ≤ 2 + most_edges + most_labellings + most_questions

-- a text read into lists
pub record TextInto (r : Result ReadingRead ℕ) (text sources targets orders asked : List ℕ) : Type 0 where
  pub read : reading_of r sources targets orders asked ≡ reading text
  pub within : Within r
