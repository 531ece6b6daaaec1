-- What a program in C may rely on. Its numbers are a function of what was lent, so two results that the contracts allow are equal. No refusal has the number 0, so the
-- refusal's number tells a refusal from an answer, and the outcome of the definitions is read off the numbers; yes is then 1 exactly where a path exists, and
-- the labelling is the first that decides.
use mathlib.Core.Bool.{Bool, true, false, cond}
use mathlib.Core.Logic.Iff
use mathlib.Core.Logic.{◌↔◌}
use mathlib.Core.Path.{◌≡◌, refl, sym, ap, ◌∙◌}
use mathlib.Core.List.{List, [], ◌∷◌, ◌++◌}
use Prim.Native.Nat.{ℕ, ◌<◌}
use native.Mathlib.Omega.{arith}
use lib.Dec.{eqb}
use lib.ListN.{length}
use borrow.Author.Tests.{eqb-true, eq-eqb, ne_eqb}
use Rattle.lineage.specs.Lists.{Every}
use Rattle.lineage.specs.Graph.{Reaches}
use Rattle.lineage.specs.Index.{Made}
use Rattle.lineage.specs.Stored.{Counts, counts_in}
use Rattle.lineage.specs.Question.{place_in, answer}
use Rattle.lineage.specs.Calls.{Check, Outcome, refused, answered, outcome, FormsTaken, host, form_checks, contents_check, open_answer, open_marks, index_in, ask_early, Said, said_of, ask_answer, ask_marks}
use Rattle.laws.specs.Checks.{Told}
use Rattle.laws.proofs.Checks.{outcome_told}
use Rattle.laws_answers.specs.Answers.{Deciding}
use Rattle.ask.proofs.Theorems.{asked_right, asked_deciding}
use Rattle.ask_all.specs.Batch.{batch_late, batch_answer, batch_answers, batch_marks}
use Rattle.face.specs.declared.DrobistenOpened.{DrobistenOpened}
use Rattle.face.specs.declared.DrobistenAsked.{DrobistenAsked}
use Rattle.face.specs.declared.DrobistenAskedAll.{DrobistenAskedAll}
use Rattle.face.specs.Host.{host_opened, host_asked, host_asked_all, host_counted, host_said, opened_by, asked_by, asked_all_by, counted_by, said_by}

-- a refusal's number is above 0; of an answer nothing is asked
abbrev Some : ℕ → ℕ → Type 0
Some number extra = 0 < number

abbrev Any : {A : Type 0} → A → Type 0
Any a = Unit {0}

abbrev pub Numbered : {A : Type 0} → Outcome A → Type 0
Numbered o = Told Some Any o

-- the outcome of checks with such numbers
pub numbered : {A : Type 0} (a : A) (cs : List Check) → Every (λ c. 0 < c.number) cs → Numbered (outcome cs a)
numbered a cs each = outcome_told a Some Any cs each tt

-- an outcome whose refusal is not 0 is read back

pub opened_back : (o : Outcome Counts) → Numbered o → opened_by (host_opened o) ≡ o
opened_back (refused number extra) some = rw (ne_eqb number 0 (λ e. omega arith)) refl
opened_back (answered a) some = refl

yes_back : (says : Bool) (reason opened deciding : ℕ) → let s : Said = record { says = says; reason = reason; opened = opened; deciding = deciding } in
    asked_by (host_asked (answered s)) ≡ answered s
yes_back true reason opened deciding = refl
yes_back false reason opened deciding = refl

pub asked_back : (o : Outcome Said) → Numbered o → asked_by (host_asked o) ≡ o
asked_back (refused number extra) some = rw (ne_eqb number 0 (λ e. omega arith)) refl
asked_back (answered s) some = yes_back s.says s.reason s.opened s.deciding

pub asked_all_back : (o : Outcome ℕ) → Numbered o → asked_all_by (host_asked_all o) ≡ o
asked_all_back (refused number extra) some = rw (ne_eqb number 0 (λ e. omega arith)) refl
asked_all_back (answered count) some = refl

pub counted_back : (o : Outcome ℕ) → Numbered o → counted_by (host_counted o) ≡ o
counted_back (refused number extra) some = rw (ne_eqb number 0 (λ e. omega arith)) refl
counted_back (answered count) some = refl

pub said_back : (o : Outcome Bool) → Numbered o → said_by (host_said o) ≡ o
said_back (refused number extra) some = rw (ne_eqb number 0 (λ e. omega arith)) refl
said_back (answered true) some = refl
said_back (answered false) some = refl

-- so are the outcomes that opening and asking give, whatever forms are taken
pub opened_read : (T : FormsTaken) (b : List ℕ) (m w : ℕ) → opened_by (host_opened (open_answer T b m w)) ≡ open_answer T b m w
unfolding open_answer
opened_read T b m w =
    opened_back (open_answer T b m w)
    (numbered (counts_in b) (form_checks T b m w ++ (contents_check b ∷ [])) (omega arith, (omega arith, (omega arith, (omega arith, (omega arith, (omega arith, tt)))))))

pub asked_read : (T : FormsTaken) (b : List ℕ) (u v m w : ℕ) → asked_by (host_asked (ask_answer T b u v m w)) ≡ ask_answer T b u v m w
unfolding ask_answer
asked_read T b u v m w =
    asked_back (ask_answer T b u v m w)
    (numbered (said_of (answer (index_in b) u v)) (ask_early T b u v m w ++ (contents_check b ∷ []))
    (omega arith, (omega arith, (omega arith, (omega arith, (omega arith, (omega arith, (omega arith, (omega arith, tt)))))))))

pub asked_all_read : (T : FormsTaken) (b S R : List ℕ) (m w a : ℕ) → asked_all_by (host_asked_all (batch_answer T b S R m w a)) ≡ batch_answer T b S R m w a
unfolding batch_answer
asked_all_read T b S R m w a =
    asked_all_back (batch_answer T b S R m w a)
    (numbered (length S) (form_checks T b m w ++ batch_late b S R a)
    (omega arith, (omega arith, (omega arith, (omega arith, (omega arith, (omega arith, (omega arith, (omega arith, tt)))))))))

-- what `drobisten_open`, `drobisten_ask` and `drobisten_ask_all` may return and leave, by their contracts
pub record Opens (b marks : List ℕ) (r : DrobistenOpened) (m : List ℕ) : Type 0 where
  pub returns : r ≡ host_opened (open_answer host b (length marks) 0)
  pub leaves : m ≡ open_marks host b marks 0

pub record Asks (b : List ℕ) (u v : ℕ) (marks : List ℕ) (r : DrobistenAsked) (m : List ℕ) : Type 0 where
  pub returns : r ≡ host_asked (ask_answer host b u v (length marks) 0)
  pub leaves : m ≡ ask_marks host b u v marks 0

pub record AsksAll (b S T marks answers : List ℕ) (r : DrobistenAskedAll) (m a : List ℕ) : Type 0 where
  pub returns : r ≡ host_asked_all (batch_answer host b S T (length marks) 0 (length answers))
  pub leaves : m ≡ batch_marks host b S T marks 0 (length answers)
  pub writes : a ≡ batch_answers host b S T (length marks) 0 answers

-- two results are equal
pub opened_once : {b marks : List ℕ} {r r' : DrobistenOpened} {m m' : List ℕ} → Opens b marks r m → Opens b marks r' m' → (r ≡ r') × (m ≡ m')
opened_once A B = (A.returns ∙ sym B.returns, A.leaves ∙ sym B.leaves)

pub asked_once : {b : List ℕ} {u v : ℕ} {marks : List ℕ} {r r' : DrobistenAsked} {m m' : List ℕ} → Asks b u v marks r m → Asks b u v marks r' m' → (r ≡ r') × (m ≡ m')
asked_once A B = (A.returns ∙ sym B.returns, A.leaves ∙ sym B.leaves)

pub asked_all_once :
    {b S T marks answers : List ℕ} {r r' : DrobistenAskedAll} {m m' a a' : List ℕ}
    → AsksAll b S T marks answers r m a → AsksAll b S T marks answers r' m' a' → (r ≡ r') × ((m ≡ m') × (a ≡ a'))
asked_all_once A B = (A.returns ∙ sym B.returns, (A.leaves ∙ sym B.leaves, A.writes ∙ sym B.writes))

-- Of an answer, which is where the refusal is 0, by a call that takes the forms T.
module _ (T : FormsTaken) (b : List ℕ) (u v : ℕ) (marks : List ℕ) (w : ℕ) {r : DrobistenAsked} (returns : r ≡ host_asked (ask_answer T b u v (length marks) w)) (none : r.refusal ≡ 0) where
  -- what its numbers say
  abbrev said : Said
  said = record { says = eqb r.yes 1; reason = r.reason; opened = r.opened; deciding = r.labelling }

  answer_read : ask_answer T b u v (length marks) w ≡ answered said
  answer_read =
      sym (asked_read T b u v (length marks) w) ∙ ap asked_by (sym returns) ∙ ap (λ (x : ℕ). cond (eqb x 0) (answered said) (refused x r.extra)) none

  -- yes is 1 exactly where a path leads from source to target, in whatever graph yields the bytes
  pub yes_right : (M : Made (index_in b)) → (r.yes ≡ 1) ↔ Reaches M.graph u v
  yes_right M = Iff.trans (eq-eqb r.yes 1, eqb-true r.yes 1) (asked_right T b u v marks w said answer_read M)

  -- the labelling is the first whose interval settled the answer
  pub labelling_decides : Deciding (index_in b) (place_in (index_in b) u) (place_in (index_in b) v) r.reason r.labelling
  labelling_decides = asked_deciding T b u v marks w said answer_read

-- Of the host's answer.
module _ {b : List ℕ} {u v : ℕ} {marks : List ℕ} {r : DrobistenAsked} {m : List ℕ} (A : Asks b u v marks r m) (none : r.refusal ≡ 0) where
  pub host_right : (M : Made (index_in b)) → (r.yes ≡ 1) ↔ Reaches M.graph u v
  host_right = yes_right host b u v marks 0 A.returns none

  pub host_deciding : Deciding (index_in b) (place_in (index_in b) u) (place_in (index_in b) v) r.reason r.labelling
  host_deciding = labelling_decides host b u v marks 0 A.returns none
