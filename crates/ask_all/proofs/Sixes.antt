-- What a pair gets inside a call that is not refused is what a single question gets: its checks 10 to 13, 6 and 15 do not apply, and 14 is left.
use mathlib.Core.Bool.{Bool, true, false, cond}
use mathlib.Core.Path.{◌≡◌, refl, sym, ap, ◌∙◌}
use mathlib.Core.List.{List, [], ◌∷◌, ◌++◌, map}
use Prim.Native.Nat.{ℕ, ◌*◌}
use lib.Dec.{leb}
use lib.ListN.{length, get_or, drop}
use Rattle.lineage.specs.Lists.{upto, joined}
use Rattle.lineage.specs.Stored.{counts_in}
use Rattle.lineage.specs.Question.{Answer, answer}
use Rattle.lineage.specs.Calls.{Check, check, outcome, FormsTaken, form_checks, contents_check, index_in, said_of, ask_answer}
use Rattle.laws.proofs.Lists.{table_same}
use Rattle.numbers.specs.Put.{put}
use Rattle.numbers.proofs.Put.{put_start}
use Rattle.laws.specs.Checks.{Pass}
use Rattle.ask_pairs.specs.Pairs.{six_refused, six_answered, pair_six, sixes}
use Rattle.ask_pairs.proofs.Pairs.{sixes_long}
use Rattle.ask_all.specs.Batch.{six_of, asked_at}

-- the checks before 14 pass, and 15 does
passed_six :
    (cs : List Check) (late : Check) (s t : Bool) (a : Answer) → Pass cs → late.applies ≡ false
    → six_of (outcome ((cs ++ (check s 14 0 ∷ check t 14 1 ∷ [])) ++ (late ∷ [])) (said_of a))
    ≡ cond s (six_refused 14 0) (cond t (six_refused 14 1) (six_answered a))
passed_six [] late true t a p l = refl
passed_six [] late false true a p l = refl
passed_six [] late false false a p l = rw l refl
passed_six (c ∷ cs) late s t a p l = rw p.0 (passed_six cs late s t a p.1 l)

module _ (T : FormsTaken) (b : List ℕ) (marks work : ℕ) (passes : Pass (form_checks T b marks work)) (contents : (contents_check b).applies ≡ false) where
  pub pair_asked : (u v : ℕ) → pair_six (counts_in b).n (answer (index_in b)) u v ≡ six_of (ask_answer T b u v marks work)
  unfolding pair_six ask_answer
  pair_asked u v = sym (passed_six (form_checks T b marks work) (contents_check b) (leb (counts_in b).n u) (leb (counts_in b).n v) (answer (index_in b) u v) passes contents)

  -- all pairs' numbers, put into the answer list
  pub answers_are :
      (sources targets answers : List ℕ)
      → put answers 0 (sixes (counts_in b).n (answer (index_in b)) sources targets (length sources))
      ≡ joined (map (λ i. six_of (asked_at T b sources targets marks work i)) (upto (length sources))) ++ drop (6 * length sources) answers
  unfolding sixes
  answers_are sources targets answers =
      let same =
      ap joined
      (table_same (λ j. pair_six (counts_in b).n (answer (index_in b)) (get_or sources j 0) (get_or targets j 0)) (λ i. six_of (asked_at T b sources targets marks work i)) (length sources)
      (λ j h. pair_asked (get_or sources j 0) (get_or targets j 0))) in
      put_start answers _
      ∙ rw (sixes_long (counts_in b).n (answer (index_in b)) sources targets (length sources)) (ap (λ (z : List ℕ). z ++ drop (6 * length sources) answers) same)
