-- What `ask_all_exceptions` answers and leaves, by where its checks stop: at one of those up to 20, at 2 or 16, or behind them. A pair inside a call that is not refused
-- gets what a single question gets: 10 to 13, 15 and 20 do not apply to it, and 14 is left.
use mathlib.Core.Bool.{Bool, true, false, not, cond}
use mathlib.Core.Path.{◌≡◌, refl, sym, ap, subst, ◌∙◌}
use mathlib.Core.List.{List, [], ◌∷◌, ◌++◌, map}
use Prim.Native.Nat.{ℕ, ◌*◌, ◌/◌, ◌≤◌, ◌<◌}
use native.Mathlib.Omega.{arith}
use native.Mathlib.Nat.{div-lt_iff_lt-mul, mul-div-le}
use lib.Dec.{eqb, leb, ltb}
use lib.ListN.{length, get_or, drop}
use borrow.Author.Tests.{lt-ltb}
use Rattle.std.specs.Prelude.{Result, Err, IsErrAnd}
use Rattle.std.proofs.lemmas.Result.{err_from_is_err_and}
use Rattle.refusals.specs.declared.Refusal.{Refusal}
use Rattle.refusals.specs.Refusals.{number_of, extra_of}
use Rattle.ask_all.specs.declared.BatchRefusal.{BatchRefusal}
use Rattle.ask_all.specs.declared.BatchRefusal.TheVariants.{Refused}
use Rattle.ask_all.specs.Batched.{batched_of, Own}
use Rattle.lineage.specs.Lists.{upto, joined}
use Rattle.lineage.specs.Stored.{counts_in}
use Rattle.lineage.specs.Calls.{Check, check, Outcome, refused, answered, outcome, contents_check, index_in}
use Rattle.laws.specs.Checks.{Stops, Pass, stopped, Told, Comes}
use Rattle.laws.proofs.Lists.{table_same}
use Rattle.laws.proofs.Checks.{outcome_told, pass_front, pass_behind, refused_comes, stops_comes}
use Rattle.laws_exceptions.specs.Exceptions.{says_by_exceptions}
use Rattle.numbers.specs.Put.{put}
use Rattle.numbers.proofs.Put.{put_start}
use Rattle.stored_header.specs.declared.Layout.{Layout}
use Rattle.stored_header.proofs.Laid.{n_is}
use Rattle.sound_places.specs.declared.SoundImage.{SoundImage}
use Rattle.exceptions.specs.Calls.{form_one_checks, belong_check, open_late, listed_checks, exceptions_asked}
use Rattle.exceptions.proofs.Refusals.{AdmitsLists, header_of, listed_passed, listed_sound, sound_bytes_are}
use Rattle.exceptions_all.specs.Pairs.{pair_three, threes}
use Rattle.exceptions_all.specs.Batch.{three_of, asked_at, all_exceptions, exceptions_answers}
use Rattle.exceptions_all.proofs.Pairs.{threes_long}

-- room for three numbers a pair
pub three_short : (a p : ℕ) → a / 3 < p → a < 3 * p
three_short a p h = let room : a < p * 3 = (div-lt_iff_lt-mul {k = 3} (omega arith)).0 h in omega arith

pub three_room : (a p : ℕ) → p ≤ a / 3 → 3 * p ≤ a
three_room a p h = omega (arith, mul-div-le a 3)

-- a pair where the checks before 14 pass
passed_three :
    (cs : List Check) (x y : Check) (s t a : Bool) → Pass cs → x.applies ≡ false → y.applies ≡ false
    → three_of (outcome (cs ++ (x ∷ y ∷ check s 14 0 ∷ check t 14 1 ∷ [])) a) ≡ cond s (14 ∷ 0 ∷ 0 ∷ []) (cond t (14 ∷ 1 ∷ 0 ∷ []) (0 ∷ 0 ∷ cond a 1 0 ∷ []))
passed_three [] x y true t a p hx hy = rw (hx, hy) refl
passed_three [] x y false true a p hx hy = rw (hx, hy) refl
passed_three [] x y false false a p hx hy = rw (hx, hy) refl
passed_three (c ∷ cs) x y s t a p hx hy = rw p.0 (passed_three cs x y s t a p.1 hx hy)

module _ (b lists : List ℕ) (marks : ℕ) (passes : Pass (form_one_checks b marks)) (sound : (contents_check b).applies ≡ false) (belong : (belong_check b lists).applies ≡ false) where
  pair_asked : (u v : ℕ) → pair_three (counts_in b).n (says_by_exceptions (index_in b)) u v ≡ three_of (exceptions_asked b lists u v marks)
  unfolding pair_three exceptions_asked
  pair_asked u v =
      sym (passed_three (form_one_checks b marks) (contents_check b) (belong_check b lists) (leb (counts_in b).n u) (leb (counts_in b).n v) (says_by_exceptions (index_in b) u v) passes sound belong)

  -- all pairs' numbers, put into the answer list
  answers_are :
      (sources targets answers : List ℕ)
      → put answers 0 (threes (counts_in b).n (says_by_exceptions (index_in b)) sources targets (length sources))
      ≡ joined (map (λ i. three_of (asked_at b lists sources targets marks i)) (upto (length sources))) ++ drop (3 * length sources) answers
  unfolding threes
  answers_are sources targets answers =
      let same =
      ap joined
      (table_same (λ j. pair_three (counts_in b).n (says_by_exceptions (index_in b)) (get_or sources j 0) (get_or targets j 0)) (λ i. three_of (asked_at b lists sources targets marks i)) (length sources)
      (λ j h. pair_asked (get_or sources j 0) (get_or targets j 0))) in
      put_start answers _
      ∙ rw (threes_long (counts_in b).n (says_by_exceptions (index_in b)) sources targets (length sources)) (ap (λ (z : List ℕ). z ++ drop (3 * length sources) answers) same)

-- none of the checks up to 20 is 16
abbrev Other : ℕ → ℕ → Type 0
Other number extra = number ≡ 16 → ⊥

abbrev Any : List ℕ × Layout → Type 0
Any l = Unit {0}

pub listed_own : (b lists : List ℕ) (m : ℕ) {x y : ℕ} → refused x y ≡ outcome (listed_checks b lists m) (header_of b) → x ≡ 16 → ⊥
listed_own b lists m e =
    subst (Told Other Any) (sym e)
    (outcome_told (header_of b) Other Any (listed_checks b lists m) (
      (λ z. omega (arith, z)),
      ((λ z. omega (arith, z)), ((λ z. omega (arith, z)), ((λ z. omega (arith, z)), ((λ z. omega (arith, z)), ((λ z. omega (arith, z)), ((λ z. omega (arith, z)), tt)))))),
    )
    tt)

-- what is answered where `?` passed a refusal on
module _ (r : Result ℕ BatchRefusal) (e : Refusal) (passed : IsErrAnd r (λ y. y ≡ Refused e)) where
  result_is : r ≡ Err (Refused e)
  result_is = let (y, is, same) = err_from_is_err_and r passed in is ∙ ap Err same

  pub batch_passed : {o : Outcome ℕ} → refused (number_of e) (extra_of e) ≡ o → batched_of r ≡ o
  batch_passed says = rw result_is says

  pub own_passed : (number_of e ≡ 16 → ⊥) → Own r
  own_passed other = rw result_is other

module _ (b lists sources targets answers marks : List ℕ) where
  abbrev shared : List Check
  shared = listed_checks b lists (length marks)

  abbrev late : List Check
  late = check (not (eqb (length sources) (length targets))) 2 0 ∷ check (ltb (length answers) (3 * length sources)) 16 (length sources) ∷ []

  -- what may be answered, and what the answers may hold afterwards
  abbrev pub Asks : Outcome ℕ → List ℕ → Type 0
  Asks o a =
      (o ≡ all_exceptions b lists sources targets (length marks) (length answers)) × (a ≡ exceptions_answers b lists sources targets (length marks) answers)

  abbrev written : Bool → List ℕ
  written stops =
      cond stops answers (joined (map (λ i. three_of (asked_at b lists sources targets (length marks) i)) (upto (length sources))) ++ drop (3 * length sources) answers)

  all_by : {o : Outcome ℕ} {kept stops : Bool} → Comes shared late (length sources) o kept stops → Asks o (written stops)
  unfolding all_exceptions exceptions_answers
  all_by C = (sym C.says, rw C.all refl)

  -- the checks up to 20 stop it
  pub all_refused : {x y : ℕ} → refused x y ≡ outcome shared (header_of b) → Asks (refused x y) answers
  all_refused e = all_by (refused_comes (length sources) (header_of b) shared [] late _ _ (sym e))

  module _ {s : SoundImage} (A : AdmitsLists b lists (length marks) s) where
    all_behind : (i : ℕ) → Stops late i → Asks (stopped late i (length sources)) (written (ltb i 2))
    all_behind i stops = all_by (stops_comes (length sources) shared [] late i (listed_passed A) stops)

    -- 2 or 16
    pub all_stopped : (i : ℕ) → i < 2 → Stops late i → Asks (stopped late i (length sources)) answers
    all_stopped i h stops = rw (lt-ltb i 2 h) at (all_behind i stops)

    -- none, and the pairs are answered
    pub all_answered :
        Stops late 2 → {a : List ℕ} → a ≡ put answers 0 (threes s.image.layout.n (says_by_exceptions (index_in s.image.bytes.now)) sources targets (length sources))
        → Asks (answered (length sources)) a
    all_answered stops e =
        let (o, a) = all_behind 2 stops in
        let first = pass_front (form_one_checks b (length marks)) (open_late b lists) (listed_passed A) in
        let (sound, (belong, _)) = pass_behind (form_one_checks b (length marks)) (open_late b lists) (listed_passed A) in
        (o, e ∙ rw (n_is s.image.laid, sound_bytes_are (listed_sound A)) (answers_are b lists (length marks) first sound belong sources targets answers) ∙ a)
