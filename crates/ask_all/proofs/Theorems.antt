-- What the answers of a call for all pairs say, wherever none of its refusals applies, whatever forms it takes: read back, pair i has the answer of a single question, so yes exactly where a path
-- leads from its source to its target; the marks are those of opening and then asking pair after pair on the same buffer; and two results that the contract allows are
-- equal.
use mathlib.Core.Bool.{Bool, true, false, ◌||◌, cond}
use mathlib.Core.Logic.{◌↔◌}
use mathlib.Core.Path.{◌≡◌, refl, sym, ap, ◌∙◌}
use mathlib.Core.List.{List, [], ◌∷◌, ◌++◌, map}
use Prim.Native.Nat.{ℕ, zero, suc, ◌+◌, ◌*◌, ◌≤◌, ◌<◌}
use native.Mathlib.Omega.{arith}
use lib.Dec.{eqb, leb}
use native.Mathlib.Nat.{add-zero}
use lib.ListN.{length, get_or, drop, length-append, length-drop, length-replicate, get_or-append}
use lib.Seq.{drop_at}
use borrow.Author.Tests.{ltb-false, ne_eqb}
use Rattle.std.specs.Prelude.{Result}
use Rattle.lineage.specs.Lists.{upto, joined, cleared}
use Rattle.lineage.specs.Stored.{counts_in}
use Rattle.lineage.specs.Graph.{Reaches}
use Rattle.lineage.specs.Index.{Made}
use Rattle.lineage.specs.Question.{answer}
use Rattle.lineage.specs.Calls.{Check, check, Outcome, refused, answered, outcome, any_applies, FormsTaken, words_in, form_checks, contents_check, index_in, open_marks, Said, said_of, ask_early, ask_answer, ask_marks}
use Rattle.laws.proofs.Tests.{clash}
use Rattle.laws.proofs.Lists.{table_at, table_long}
use Rattle.laws.proofs.Every.{every_table}
use Rattle.laws.proofs.Parts.{part_at}
use Rattle.laws.proofs.Joined.{block_at, table_blocks_long}
use Rattle.laws.specs.Checks.{Pass, Told}
use Rattle.laws.proofs.Checks.{outcome_told, answered_pass, pass_front}
use Rattle.ask.proofs.Theorems.{asked_right, answer_long}
use Rattle.ask_pairs.specs.Pairs.{last_marks}
use Rattle.ask_all.specs.declared.BatchRefusal.{BatchRefusal}
use Rattle.ask_all.specs.Batched.{batched_of, Own}
use Rattle.ask_all.proofs.Own.{batched_one}
use Rattle.ask_all.specs.Batch.{six_of, pair_in, asked_at, batch_late, batch_answer, batch_answers, batch_marks, batch_work}

-- what a call is allowed to return, and to leave
pub record Allowed (T : FormsTaken) (b sources targets marks work answers : List ℕ) (r : Result ℕ BatchRefusal) (m w a : List ℕ) : Type 0 where
  pub own : Own r
  pub returns : batched_of r ≡ batch_answer T b sources targets (length marks) (length work) (length answers)
  pub leaves : m ≡ batch_marks T b sources targets marks (length work) (length answers)
  pub clears : w ≡ batch_work T b (length marks) work
  pub writes : a ≡ batch_answers T b sources targets (length marks) (length work) answers

pub batch_once :
    {T : FormsTaken} {b sources targets marks work answers : List ℕ} {r r' : Result ℕ BatchRefusal} {m m' w w' a a' : List ℕ}
    → Allowed T b sources targets marks work answers r m w a → Allowed T b sources targets marks work answers r' m' w' a'
    → (r ≡ r') × ((m ≡ m') × ((w ≡ w') × (a ≡ a')))
batch_once {r = r} {r'} A B =
    (batched_one r r' A.own B.own (A.returns ∙ sym B.returns), (A.leaves ∙ sym B.leaves, (A.clears ∙ sym B.clears, A.writes ∙ sym B.writes)))

-- The six numbers of a pair determine its outcome, since no refusal has the number 0.
abbrev Some : ℕ → ℕ → Type 0
Some number extra = 0 < number

abbrev Any : Said → Type 0
Any s = Unit {0}

yes_back : (b : Bool) → eqb (cond b 1 0) 1 ≡ b
yes_back true = refl
yes_back false = refl

-- what is read from the place of pair i, where these six numbers stand
module _ (answers : List ℕ) (i : ℕ) where
  pub six_back : (o : Outcome Said) → Told Some Any o → ((j : ℕ) → j < 6 → get_or answers (6 * i + j) 0 ≡ get_or (six_of o) j 0) → pair_in answers i ≡ o
  six_back (refused number extra) some at =
      let first : get_or answers (6 * i) 0 ≡ number = ap (λ (z : ℕ). get_or answers z 0) (sym (add-zero (6 * i))) ∙ at 0 (omega arith) in
      rw (first, at 1 (omega arith), ne_eqb number 0 (λ e. omega (arith, e, some))) refl
  six_back (answered s) some at =
      let first : get_or answers (6 * i) 0 ≡ 0 = ap (λ (z : ℕ). get_or answers z 0) (sym (add-zero (6 * i))) ∙ at 0 (omega arith) in
      rw (first, at 2 (omega arith), at 3 (omega arith), at 4 (omega arith), at 5 (omega arith), yes_back s.says) refl

-- no refusal of a question has the number 0
asked_some : (T : FormsTaken) (b : List ℕ) (u v m w : ℕ) → Told Some Any (ask_answer T b u v m w)
unfolding ask_answer
asked_some T b u v m w =
    outcome_told (said_of (answer (index_in b) u v)) Some Any (ask_early T b u v m w ++ (contents_check b ∷ []))
    (omega arith, (omega arith, (omega arith, (omega arith, (omega arith, (omega arith, (omega arith, (omega arith, tt)))))))) tt

six_size : (o : Outcome Said) → length (six_of o) ≡ 6
six_size (refused number extra) = refl
six_size (answered s) = refl

-- number j of pair i in a table of six numbers a pair
table_six :
    (f : ℕ → Outcome Said) (p i j : ℕ) (rest : List ℕ) → i < p → j < 6
    → get_or (joined (map (λ k. six_of (f k)) (upto p)) ++ rest) (6 * i + j) 0 ≡ get_or (six_of (f i)) j 0
table_six f p i j rest h l =
    let X : List (List ℕ) = map (λ k. six_of (f k)) (upto p) in
    let long : length (joined X) ≡ 6 * p = table_blocks_long (λ k. six_of (f k)) 6 p (λ k b. six_size (f k)) in
    let sized = every_table (λ x. length x ≡ 6) (λ k. six_of (f k)) p (λ k b. six_size (f k)) in
    get_or-append (joined X) rest 0 (6 * i + j) (omega (arith, long))
    ∙ part_at (joined X) (6 * i) 6 j l
    ∙ ap (λ (z : List ℕ). get_or z j 0) (block_at 6 X i sized (omega (arith, table_long (λ k. six_of (f k)) p)) ∙ table_at (λ k. six_of (f k)) p i [] h)

-- Checks that pass, then 14 for source and target, then 15 that does not apply: whether one applies, and what is answered where none does.
passed_any : (cs : List Check) → Pass cs → any_applies cs ≡ false
passed_any [] p = refl
passed_any (c ∷ cs) p = rw p.0 (passed_any cs p.1)

passed_early : (cs : List Check) (s t : Bool) → Pass cs → any_applies (cs ++ (check s 14 0 ∷ check t 14 1 ∷ [])) ≡ (s || t)
passed_early [] true t p = refl
passed_early [] false true p = refl
passed_early [] false false p = refl
passed_early (c ∷ cs) s t p = rw p.0 (passed_early cs s t p.1)

passed_late : (cs : List Check) (late : Check) (s t : Bool) → Pass cs → late.applies ≡ false → any_applies ((cs ++ (check s 14 0 ∷ check t 14 1 ∷ [])) ++ (late ∷ [])) ≡ (s || t)
passed_late [] late true t p l = refl
passed_late [] late false true p l = refl
passed_late [] late false false p l = rw l refl
passed_late (c ∷ cs) late s t p l = rw p.0 (passed_late cs late s t p.1 l)

passed_answer : (cs : List Check) (late : Check) (s t : Bool) (a : Said) → Pass cs → late.applies ≡ false → (s || t) ≡ false
    → outcome ((cs ++ (check s 14 0 ∷ check t 14 1 ∷ [])) ++ (late ∷ [])) a ≡ answered a
passed_answer [] late true t a p l f = absurd (clash refl f)
passed_answer [] late false true a p l f = absurd (clash refl f)
passed_answer [] late false false a p l f = rw l refl
passed_answer (c ∷ cs) late s t a p l f = rw p.0 (passed_answer cs late s t a p.1 l f)

-- one pair more, asked on marks that begin with n of an earlier pair's
module _ (T : FormsTaken) (b : List ℕ) (u v : ℕ) (marks m : List ℕ) (w : ℕ) (form_pass : Pass (form_checks T b (length marks) w)) (contents : (contents_check b).applies ≡ false)
    (room : (counts_in b).n ≤ length marks) (long : length m ≡ (counts_in b).n) where
  abbrev refuses : Bool
  refuses = leb (counts_in b).n u || leb (counts_in b).n v

  own_long : (r : Bool) → refuses ≡ r → length (cond r m (answer (index_in b) u v).marks) ≡ (counts_in b).n
  unfolding ask_answer
  own_long true e = long
  own_long false e =
      answer_long T b u v marks w (said_of (answer (index_in b) u v))
      (passed_answer (form_checks T b (length marks) w) (contents_check b) (leb (counts_in b).n u) (leb (counts_in b).n v) (said_of (answer (index_in b) u v)) form_pass contents e)

  whole : length (m ++ drop (counts_in b).n marks) ≡ length marks
  whole = omega (arith, length-append m (drop (counts_in b).n marks), length-drop (counts_in b).n marks, long, room)

  joins : (r : Bool) (x a : List ℕ) → cond r (cond r (m ++ drop (counts_in b).n marks) x) (a ++ drop (counts_in b).n (m ++ drop (counts_in b).n marks)) ≡ cond r m a ++ drop (counts_in b).n marks
  joins true x a = refl
  joins false x a = ap (λ (z : List ℕ). a ++ z) (drop_at m (drop (counts_in b).n marks) (counts_in b).n long)

  pair_more :
      (before : List ℕ) → before ≡ m ++ drop (counts_in b).n marks
      → (ask_marks T b u v before w ≡ cond refuses m (answer (index_in b) u v).marks ++ drop (counts_in b).n marks)
      × (length (cond refuses m (answer (index_in b) u v).marks) ≡ (counts_in b).n)
  unfolding ask_marks
  pair_more before is = (
    rw (
      is,
      whole,
      passed_late (form_checks T b (length marks) w) (contents_check b) (leb (counts_in b).n u) (leb (counts_in b).n v) form_pass contents,
      passed_early (form_checks T b (length marks) w) (leb (counts_in b).n u) (leb (counts_in b).n v) form_pass,
    )
        (joins refuses (cleared (counts_in b).n (m ++ drop (counts_in b).n marks)) (answer (index_in b) u v).marks),
    own_long refuses refl,
  )

-- Of a call that is not refused.
module _ (T : FormsTaken) (b sources targets marks : List ℕ) (w : ℕ) (answers : List ℕ) (count : ℕ)
    (e : batch_answer T b sources targets (length marks) w (length answers) ≡ answered count) where
  passes : Pass (form_checks T b (length marks) w ++ batch_late b sources targets (length answers))
  unfolding batch_answer
  passes = answered_pass (length sources) (form_checks T b (length marks) w ++ batch_late b sources targets (length answers)) count e

  none : any_applies (form_checks T b (length marks) w ++ batch_late b sources targets (length answers)) ≡ false
  none = rw (passes.0, passes.1.0, passes.1.1.0, passes.1.1.1.0, passes.1.1.1.1.0, passes.1.1.1.1.1.0, passes.1.1.1.1.1.1.0, passes.1.1.1.1.1.1.1.0) refl

  module _ (i : ℕ) (h : i < length sources) where
    -- pair by pair the answer of a single question
    pub batch_each : pair_in (batch_answers T b sources targets (length marks) w answers) i ≡ ask_answer T b (get_or sources i 0) (get_or targets i 0) (length marks) w
    unfolding batch_answers
    batch_each =
        rw none
        (six_back (joined (map (λ k. six_of (asked_at T b sources targets (length marks) w k)) (upto (length sources))) ++ drop (6 * length sources) answers) i (ask_answer T b (get_or sources i 0) (get_or targets i 0) (length marks) w) (asked_some T b (get_or sources i 0) (get_or targets i 0) (length marks) w)
        (λ j l. table_six (asked_at T b sources targets (length marks) w) (length sources) i j (drop (6 * length sources) answers) h l))

    -- so yes exactly where a path leads from source to target, in whatever graph yields the bytes
    pub batch_right :
        (s : Said) → pair_in (batch_answers T b sources targets (length marks) w answers) i ≡ answered s → (M : Made (index_in b))
        → (s.says ≡ true) ↔ Reaches M.graph (get_or sources i 0) (get_or targets i 0)
    batch_right s f M = asked_right T b (get_or sources i 0) (get_or targets i 0) marks w s (sym batch_each ∙ f) M

  -- The marks are those of opening the index, and then asking pair after pair on the same buffer: a pair that is refused with 14 leaves them.
  abbrev pub asked_on : ℕ → List ℕ
  asked_on zero = open_marks T b marks w
  asked_on (suc i) = ask_marks T b (get_or sources i 0) (get_or targets i 0) (asked_on i) w

  abbrev last : ℕ → List ℕ
  last i = last_marks (counts_in b).n (answer (index_in b)) sources targets i

  form_pass : Pass (form_checks T b (length marks) w)
  form_pass = pass_front (form_checks T b (length marks) w) (batch_late b sources targets (length answers)) passes

  contents : (contents_check b).applies ≡ false
  contents = passes.1.1.1.1.1.0

  room : (counts_in b).n ≤ length marks
  room = ltb-false (length marks) (counts_in b).n form_pass.1.1.1.0

  -- before pair i
  folded : (i : ℕ) → (asked_on i ≡ last i ++ drop (counts_in b).n marks) × (length (last i) ≡ (counts_in b).n)
  unfolding open_marks last_marks cleared
  folded zero = (
    rw (passed_any (form_checks T b (length marks) w) form_pass) refl,
    length-replicate (counts_in b).n 0,
  )
  folded (suc i) =
      let (is, long) = folded i in
      pair_more T b (get_or sources i 0) (get_or targets i 0) marks (last i) w form_pass contents room long (asked_on i) is

  pub batch_fold : batch_marks T b sources targets marks w (length answers) ≡ asked_on (length sources)
  unfolding batch_marks
  batch_fold = rw none (sym (folded (length sources)).0)

-- the words after it: those needed are 0, and later ones as they were
pub batch_words :
    (T : FormsTaken) (b sources targets : List ℕ) (m : ℕ) (work : List ℕ) (a count : ℕ) → batch_answer T b sources targets m (length work) a ≡ answered count
    → batch_work T b m work ≡ cleared (words_in b) work
unfolding batch_answer batch_work
batch_words T b sources targets m work a count e =
    let early : List Check = form_checks T b m (length work) in
    rw (passed_any early (pass_front early (batch_late b sources targets a) (answered_pass (length sources) (early ++ batch_late b sources targets a) count e))) refl
