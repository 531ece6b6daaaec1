-- The Monday call too: over bytes that hold the same index it gives the same answers, pair by pair those of single questions, and leaves the same marks.
use mathlib.Core.Bool.{not, cond}
use mathlib.Core.Path.{◌≡◌, sym, ap, ap₂, ◌∙◌}
use mathlib.Core.List.{List, [], ◌∷◌, ◌++◌, map}
use Prim.Native.Nat.{ℕ, ◌*◌}
use lib.Dec.{eqb, ltb}
use lib.ListN.{length, get_or, drop}
use Rattle.lineage.specs.Lists.{upto, joined, cleared}
use Rattle.lineage.specs.Index.{Index}
use Rattle.lineage.specs.Stored.{counts_in}
use Rattle.lineage.specs.Question.{answer}
use Rattle.lineage.specs.Calls.{Check, check, outcome, any_applies, FormsTaken, form_checks, index_in}
use Rattle.laws.proofs.Lists.{table_same}
use Rattle.ask_pairs.specs.Pairs.{last_marks}
use Rattle.ask_all.specs.Batch.{six_of, asked_at, batch_late, batch_answer, batch_answers, batch_marks}
use Rattle.convert.proofs.Same.{Fewer, none, keep, pass, fewer_outcome, fewer_applies, Right, marks_check, front, Alike, same_n, by_same, asked_same}

module _ (sources targets : List ℕ) where
  -- 13 for n vertices, 2 and 16
  abbrev batch_checks : (n marks answers : ℕ) → List Check
  batch_checks n marks answers =
      marks_check n marks
      ∷ check (not (eqb (length sources) (length targets))) 2 0
      ∷ check (ltb answers (6 * length sources)) 16 (length sources)
      ∷ []

  abbrev marks_by : ℕ → Index → (marks : List ℕ) → (answers : ℕ) → List ℕ
  marks_by n I marks answers =
      cond (any_applies (batch_checks n (length marks) answers))
      (cond (any_applies (marks_check n (length marks) ∷ [])) marks (cleared n marks))
      (last_marks n (answer I) sources targets (length sources) ++ drop n marks)

  -- the six numbers of every pair, each asked by itself
  abbrev pairs : FormsTaken → List ℕ → (marks work : ℕ) → List ℕ
  pairs T b marks work = joined (map (λ i. six_of (asked_at T b sources targets marks work i)) (upto (length sources)))

  module _ {T : FormsTaken} {b : List ℕ} {work : ℕ} (R : Right T b work) where
    batch_fewer : (marks answers : ℕ) → Fewer (form_checks T b marks work ++ batch_late b sources targets answers) (batch_checks (counts_in b).n marks answers)
    batch_fewer marks answers = front R marks (pass _ R.contents (keep _ (keep _ none)))

    batch_front : (marks : ℕ) → Fewer (form_checks T b marks work) (marks_check (counts_in b).n marks ∷ [])
    batch_front marks = front R marks none

    batched_by : (marks answers : ℕ) → batch_answer T b sources targets marks work answers ≡ outcome (batch_checks (counts_in b).n marks answers) (length sources)
    unfolding batch_answer
    batched_by marks answers = fewer_outcome (length sources) (batch_fewer marks answers)

    batch_answers_by : (marks : ℕ) (answers : List ℕ)
        → batch_answers T b sources targets marks work answers
        ≡ cond (any_applies (batch_checks (counts_in b).n marks (length answers))) answers (pairs T b marks work ++ drop (6 * length sources) answers)
    unfolding batch_answers
    batch_answers_by marks answers = rw (fewer_applies (batch_fewer marks (length answers)))

    batch_marks_by : (marks : List ℕ) (answers : ℕ) → batch_marks T b sources targets marks work answers ≡ marks_by (counts_in b).n (index_in b) marks answers
    unfolding batch_marks
    batch_marks_by marks answers = rw (fewer_applies (batch_fewer (length marks) answers), fewer_applies (batch_front (length marks)))

  module _ {T : FormsTaken} {b b' : List ℕ} {work work' : ℕ} (S : Alike T b b' work work') where
    pub batched_same : (marks answers : ℕ) → batch_answer T b' sources targets marks work' answers ≡ batch_answer T b sources targets marks work answers
    batched_same marks answers =
        batched_by S.right' marks answers
        ∙ ap (λ (n : ℕ). outcome (batch_checks n marks answers) (length sources)) (same_n S)
        ∙ sym (batched_by S.right marks answers)

    pairs_same : (marks : ℕ) → pairs T b' marks work' ≡ pairs T b marks work
    pairs_same marks =
        ap joined
        (table_same (λ i. six_of (asked_at T b' sources targets marks work' i)) (λ i. six_of (asked_at T b sources targets marks work i)) (length sources)
        (λ i h. ap six_of (asked_same S (get_or sources i 0) (get_or targets i 0) marks)))

    pub batch_answers_same : (marks : ℕ) (answers : List ℕ) → batch_answers T b' sources targets marks work' answers ≡ batch_answers T b sources targets marks work answers
    batch_answers_same marks answers =
        batch_answers_by S.right' marks answers
        ∙ ap₂ (λ (n : ℕ) (six : List ℕ). cond (any_applies (batch_checks n marks (length answers))) answers (six ++ drop (6 * length sources) answers)) (same_n S) (pairs_same marks)
        ∙ sym (batch_answers_by S.right marks answers)

    pub batch_marks_same : (marks : List ℕ) (answers : ℕ) → batch_marks T b' sources targets marks work' answers ≡ batch_marks T b sources targets marks work answers
    batch_marks_same marks answers =
        batch_marks_by S.right' marks answers
        ∙ by_same S (λ (n : ℕ) (I : Index). marks_by n I marks answers)
        ∙ sym (batch_marks_by S.right marks answers)
