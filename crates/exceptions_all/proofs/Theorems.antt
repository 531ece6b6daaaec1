-- What the answers of a call for all pairs by exception lists say, wherever none of its refusals applies: read back, pair i has the answer of a single question by the
-- lists, so yes exactly where a path leads; and two results that the contract allows are equal.
use Rattle.std.specs.Prelude.{Result}
use mathlib.Core.Bool.{Bool, true, false, cond}
use mathlib.Core.Logic.{◌↔◌}
use mathlib.Core.Path.{◌≡◌, refl, sym, ap, ◌∙◌}
use mathlib.Core.List.{List, [], ◌++◌, map}
use Prim.Native.Nat.{ℕ, ◌+◌, ◌*◌, ◌<◌}
use native.Mathlib.Nat.{add-zero}
use native.Mathlib.Omega.{arith}
use lib.Dec.{eqb}
use lib.ListN.{length, get_or, drop, get_or-append}
use borrow.Author.Tests.{ne_eqb}
use Rattle.lineage.specs.Lists.{upto, joined}
use Rattle.lineage.specs.Graph.{Reaches}
use Rattle.lineage.specs.Index.{Made}
use Rattle.lineage.specs.Calls.{Check, Outcome, refused, answered, any_applies, index_in}
use Rattle.laws.specs.Checks.{Told}
use Rattle.laws.proofs.Lists.{table_at, table_long}
use Rattle.laws.proofs.Every.{every_table}
use Rattle.laws.proofs.Parts.{part_at}
use Rattle.laws.proofs.Joined.{block_at, table_blocks_long}
use Rattle.laws.proofs.Checks.{stops_early, outcome_told, answered_pass}
use Rattle.laws_exceptions.specs.Exceptions.{says_by_exceptions}
use Rattle.exceptions.specs.Calls.{form_one_checks, ask_late, exceptions_asked, exception_marks}
use Rattle.exceptions.proofs.Asking.{exceptions_right}
use Rattle.exceptions_all.specs.Batch.{three_of, pair_in, asked_at, all_late, all_exceptions, exceptions_answers}
use Rattle.ask_all.specs.declared.BatchRefusal.{BatchRefusal}
use Rattle.ask_all.specs.Batched.{batched_of, Own}
use Rattle.ask_all.proofs.Own.{batched_one}

-- what a call is allowed to return, and to leave
pub record Allowed (b lists sources targets marks list : List ℕ) (r : Result ℕ BatchRefusal) (m a : List ℕ) : Type 0 where
  pub own : Own r
  pub answers : batched_of r ≡ all_exceptions b lists sources targets (length marks) (length list)
  pub leaves : m ≡ exception_marks b marks
  pub writes : a ≡ exceptions_answers b lists sources targets (length marks) list

pub all_once :
    {b lists sources targets marks answers : List ℕ} {r r' : Result ℕ BatchRefusal} {m m' a a' : List ℕ}
    → Allowed b lists sources targets marks answers r m a → Allowed b lists sources targets marks answers r' m' a' → (r ≡ r') × ((m ≡ m') × (a ≡ a'))
all_once {r = r} {r'} A B = (batched_one r r' A.own B.own (A.answers ∙ sym B.answers), (A.leaves ∙ sym B.leaves, A.writes ∙ sym B.writes))

-- The three numbers of a pair determine its outcome, since no refusal has the number 0.
abbrev Some : ℕ → ℕ → Type 0
Some number extra = 0 < number

abbrev Any : Bool → Type 0
Any s = Unit {0}

yes_back : (b : Bool) → eqb (cond b 1 0) 1 ≡ b
yes_back true = refl
yes_back false = refl

-- what is read from the place of pair i, where these three numbers stand
module _ (answers : List ℕ) (i : ℕ) where
  three_back : (o : Outcome Bool) → Told Some Any o → ((j : ℕ) → j < 3 → get_or answers (3 * i + j) 0 ≡ get_or (three_of o) j 0) → pair_in answers i ≡ o
  three_back (refused number extra) some at =
      let first : get_or answers (3 * i) 0 ≡ number = ap (λ (z : ℕ). get_or answers z 0) (sym (add-zero (3 * i))) ∙ at 0 (omega arith) in
      rw (first, at 1 (omega arith), ne_eqb number 0 (λ e. omega (arith, e, some))) refl
  three_back (answered s) some at =
      let first : get_or answers (3 * i) 0 ≡ 0 = ap (λ (z : ℕ). get_or answers z 0) (sym (add-zero (3 * i))) ∙ at 0 (omega arith) in
      rw (first, at 2 (omega arith), yes_back s) refl

-- no refusal of a question has the number 0
asked_some : (b lists : List ℕ) (u v m : ℕ) → Told Some Any (exceptions_asked b lists u v m)
unfolding exceptions_asked
asked_some b lists u v m =
    outcome_told (says_by_exceptions (index_in b) u v) Some Any (form_one_checks b m ++ ask_late b lists u v)
    (omega arith, (omega arith, (omega arith, (omega arith, (omega arith, (omega arith, (omega arith, (omega arith, (omega arith, tt))))))))) tt

three_size : (o : Outcome Bool) → length (three_of o) ≡ 3
three_size (refused number extra) = refl
three_size (answered s) = refl

-- number j of pair i in a table of three numbers a pair
table_three :
    (f : ℕ → Outcome Bool) (p i j : ℕ) (rest : List ℕ) → i < p → j < 3
    → get_or (joined (map (λ k. three_of (f k)) (upto p)) ++ rest) (3 * i + j) 0 ≡ get_or (three_of (f i)) j 0
table_three f p i j rest h l =
    let X : List (List ℕ) = map (λ k. three_of (f k)) (upto p) in
    let long : length (joined X) ≡ 3 * p = table_blocks_long (λ k. three_of (f k)) 3 p (λ k b. three_size (f k)) in
    let sized = every_table (λ x. length x ≡ 3) (λ k. three_of (f k)) p (λ k b. three_size (f k)) in
    get_or-append (joined X) rest 0 (3 * i + j) (omega (arith, long))
    ∙ part_at (joined X) (3 * i) 3 j l
    ∙ ap (λ (z : List ℕ). get_or z j 0) (block_at 3 X i sized (omega (arith, table_long (λ k. three_of (f k)) p)) ∙ table_at (λ k. three_of (f k)) p i [] h)

-- Of a call that is not refused.
module _ (b lists sources targets : List ℕ) (m : ℕ) (answers : List ℕ) (count : ℕ) (e : all_exceptions b lists sources targets m (length answers) ≡ answered count) where
  abbrev checks : List Check
  checks = form_one_checks b m ++ all_late b lists sources targets (length answers)

  none : any_applies checks ≡ false
  unfolding all_exceptions
  none = stops_early checks [] 9 (answered_pass (length sources) checks count e)

  module _ (i : ℕ) (h : i < length sources) where
    -- pair by pair the answer of a single question by the lists
    pub all_each : pair_in (exceptions_answers b lists sources targets m answers) i ≡ exceptions_asked b lists (get_or sources i 0) (get_or targets i 0) m
    unfolding exceptions_answers
    all_each =
        rw none
        (three_back (joined (map (λ k. three_of (asked_at b lists sources targets m k)) (upto (length sources))) ++ drop (3 * length sources) answers) i
        (exceptions_asked b lists (get_or sources i 0) (get_or targets i 0) m) (asked_some b lists (get_or sources i 0) (get_or targets i 0) m)
        (λ j l. table_three (asked_at b lists sources targets m) (length sources) i j (drop (3 * length sources) answers) h l))

    -- so yes exactly where a path leads from source to target, in whatever graph yields the index
    pub all_right :
        (s : Bool) → pair_in (exceptions_answers b lists sources targets m answers) i ≡ answered s → (M : Made (index_in b))
        → (s ≡ true) ↔ Reaches M.graph (get_or sources i 0) (get_or targets i 0)
    all_right s f M = exceptions_right b lists (get_or sources i 0) (get_or targets i 0) m s (sym all_each ∙ f) M
