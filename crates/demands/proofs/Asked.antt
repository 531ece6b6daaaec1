-- Opening and asking check the same: bytes that open answer every question between their vertices, and bytes on which a question is answered open.
use mathlib.Core.Path.{◌≡◌}
use mathlib.Core.List.{List, [], ◌∷◌, ◌++◌}
use Prim.Native.Nat.{ℕ, ◌≤◌, ◌<◌}
use lib.ListN.{length, drop}
use borrow.Author.Tests.{lt-leb, le-ltb}
use Rattle.lineage.specs.Stored.{Counts, counts_in}
use Rattle.lineage.specs.Question.{answer}
use Rattle.lineage.specs.Calls.{answered, FormsTaken, words_in, form_checks, contents_check, open_answer, index_in, ask_early, Said, said_of, ask_answer, ask_marks}
use Rattle.laws.proofs.Checks.{stops_outcome, answered_pass, answered_is}
use Rattle.ask.proofs.Theorems.{marks_are}

module _ (T : FormsTaken) (b : List ℕ) where
  -- what opens
  module _ (m w : ℕ) {a : Counts} (e : open_answer T b m w ≡ answered a) where
    -- the counts that are given are the header's
    pub opened_counts : a ≡ counts_in b
    unfolding open_answer
    opened_counts = answered_is (counts_in b) (form_checks T b m w ++ (contents_check b ∷ [])) a e

    -- it is asked: none of a question's checks applies
    module _ (u v : ℕ) (source : u < (counts_in b).n) (target : v < (counts_in b).n) where
      pub opened_asks : (marks work : ℕ) → (counts_in b).n ≤ marks → words_in b ≤ work → ask_answer T b u v marks work ≡ answered (said_of (answer (index_in b) u v))
      unfolding open_answer ask_answer
      opened_asks marks work room words =
          let p = answered_pass (counts_in b) (form_checks T b m w ++ (contents_check b ∷ [])) a e in
          stops_outcome (said_of (answer (index_in b) u v)) (ask_early T b u v marks work ++ (contents_check b ∷ [])) 8 (
            p.0,
            (
              p.1.0,
              (
                p.1.1.0,
                (
                  le-ltb marks (counts_in b).n room,
                  (le-ltb work (words_in b) words, (lt-leb (counts_in b).n u source, (lt-leb (counts_in b).n v target, (p.1.1.1.1.1.0, tt)))),
                ),
              ),
            ),
          )

      -- and leaves the marks that the definition gives
      pub opened_marks : (marks : List ℕ) (work : ℕ) → (counts_in b).n ≤ length marks → words_in b ≤ work
          → ask_marks T b u v marks work ≡ (answer (index_in b) u v).marks ++ drop (counts_in b).n marks
      opened_marks marks work room words = marks_are T b u v marks work (said_of (answer (index_in b) u v)) (opened_asks (length marks) work room words)

  -- what is asked opens
  module _ (u v m w : ℕ) {s : Said} (e : ask_answer T b u v m w ≡ answered s) where
    pub asked_opens : open_answer T b m w ≡ answered (counts_in b)
    unfolding open_answer ask_answer
    asked_opens =
        let p = answered_pass (said_of (answer (index_in b) u v)) (ask_early T b u v m w ++ (contents_check b ∷ [])) s e in
        stops_outcome (counts_in b) (form_checks T b m w ++ (contents_check b ∷ [])) 6
        (p.0, (p.1.0, (p.1.1.0, (p.1.1.1.0, (p.1.1.1.1.0, (p.1.1.1.1.1.1.1.0, tt))))))
