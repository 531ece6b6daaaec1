-- Pairs answered one after the other. Before pair i the answers hold six numbers for each pair before it, and the marks that bear the last stamp are those of the last
-- pair that was not refused; each pair adds six numbers, and marks where it is not refused.
use mathlib.Core.Bool.{Bool, true, false, ◌||◌, cond}
use mathlib.Core.Path.{◌≡◌, refl, sym, ap, ◌∙◌}
use mathlib.Core.List.{List, [], ◌∷◌}
use Prim.Native.Nat.{ℕ, zero, suc, ◌+◌, ◌*◌, ◌≤◌, ◌<◌}
use native.Mathlib.Omega.{arith}
use native.Mathlib.Numerals.{add-one}
use lib.Dec.{leb}
use lib.ListN.{length, get_or, set, drop, replicate, length-append, length-drop, length-replicate}
use borrow.Author.Tests.{leb-false, le-leb, lt-leb}
use Rattle.lineage.specs.Lists.{joined}
use Rattle.lineage.specs.Question.{Answer}
use Rattle.laws.proofs.Tests.{or_left, or_right}
use Rattle.laws.proofs.Lists.{table_same}
use Rattle.laws.proofs.Joined.{joined_more, table_blocks_long}
use Rattle.numbers.specs.Put.{put}
use Rattle.numbers.proofs.Put.{put_none, put_start, put_next, put_sets}
use Rattle.ask_walk.specs.Stamps.{seen_as, Under}
use Rattle.ask_walk.proofs.Stamped.{seen_new, zero_under}
use Rattle.ask.specs.declared.Asked.{Asked}
use Rattle.ask.specs.Replies.{answer_by}
use Rattle.ask_pairs.specs.Pairs.{six_refused, six_answered, pair_six, sixes, last_marks}

-- six numbers a pair
six_long : (a b : Bool) (x y z : List ℕ) → length x ≡ 6 → length y ≡ 6 → length z ≡ 6 → length (cond a x (cond b y z)) ≡ 6
six_long true b x y z e f g = e
six_long false true x y z e f g = f
six_long false false x y z e f g = g

module _ (n : ℕ) (ans : ℕ → ℕ → Answer) (sources targets : List ℕ) where
  abbrev pair_at : ℕ → List ℕ
  pair_at i = pair_six n ans (get_or sources i 0) (get_or targets i 0)

  pair_long : (i : ℕ) → length (pair_at i) ≡ 6
  unfolding pair_six
  pair_long i = six_long (leb n (get_or sources i 0)) (leb n (get_or targets i 0)) _ _ _ refl refl refl

  pub sixes_long : (i : ℕ) → length (sixes n ans sources targets i) ≡ 6 * i
  unfolding sixes
  sixes_long i = table_blocks_long pair_at 6 i (λ j h. pair_long j)

  -- six numbers more
  sixes_put : (a b s : List ℕ) (i : ℕ) → 6 * i ≤ length a → b ≡ put a 0 (sixes n ans sources targets i) → s ≡ pair_at i
      → put b (6 * i) s ≡ put a 0 (sixes n ans sources targets (i + 1))
  unfolding sixes
  sixes_put a b s i fits e f =
      let at : 0 + length (sixes n ans sources targets i) ≡ 6 * i = omega (arith, sixes_long i) in
      rw (e, f, add-one, joined_more pair_at i, ← at) (put_next a 0 (sixes n ans sources targets i) (omega arith) (pair_at i))

-- six stores, one behind the other
pub six_put :
    (a : List ℕ) (at u v w x y z : ℕ) → at + 6 ≤ length a
    → set (set (set (set (set (set a at u) (at + 1) v) (at + 2) w) (at + 3) x) (at + 4) y) (at + 5) z ≡ put a at (u ∷ v ∷ w ∷ x ∷ y ∷ z ∷ [])
six_put a at u v w x y z h =
    let two : at + 2 ≡ suc (suc at) = omega arith in
    let three : at + 3 ≡ suc (suc (suc at)) = omega arith in
    let four : at + 4 ≡ suc (suc (suc (suc at))) = omega arith in
    let five : at + 5 ≡ suc (suc (suc (suc (suc at)))) = omega arith in
    rw (add-one, two, three, four, five) (put_sets a at (u ∷ v ∷ w ∷ x ∷ y ∷ z ∷ []) h)

-- before pair i
pub record Asking (n : ℕ) (ans : ℕ → ℕ → Answer) (sources targets answers₀ marks answers : List ℕ) (i used last : ℕ) : Type 0 where
  pub low : i ≤ length sources
  pub wrote : answers ≡ put answers₀ 0 (sixes n ans sources targets i)
  pub seen : seen_as last marks ≡ last_marks n ans sources targets i
  pub under : Under (used + 1) marks
  pub long : length marks ≡ n

module _ {n : ℕ} {ans : ℕ → ℕ → Answer} {sources targets answers₀ marks answers : List ℕ} {i used last : ℕ}
    (A : Asking n ans sources targets answers₀ marks answers i used last) where
  -- the answers stay as long as they are
  pub asking_long : 6 * length sources ≤ length answers₀ → length answers ≡ length answers₀
  asking_long fits =
      let s : List ℕ = sixes n ans sources targets i in
      omega (
        arith,
        ap length (A.wrote ∙ put_start answers₀ s),
        length-append s (drop (length s) answers₀),
        length-drop (length s) answers₀,
        sixes_long n ans sources targets i,
        A.low,
      )

  -- behind the last pair
  pub asking_all :
      length sources ≤ i
      → (answers ≡ put answers₀ 0 (sixes n ans sources targets (length sources))) × (seen_as last marks ≡ last_marks n ans sources targets (length sources))
  asking_all h = let all : i ≡ length sources = omega (arith, h, A.low) in (rw all at A.wrote, rw all at A.seen)

module _ (n : ℕ) (ans : ℕ → ℕ → Answer) (sources targets answers₀ : List ℕ) where
  pub asking_none : (marks : List ℕ) → marks ≡ replicate n 0 → Asking n ans sources targets answers₀ marks answers₀ 0 0 1
  unfolding sixes last_marks
  asking_none marks e =
      let U : Under 1 marks = zero_under 1 n marks (omega arith) e in
      let long : length marks ≡ n = ap length e ∙ length-replicate n 0 in
      record {
        low = omega arith;
        wrote = sym (put_none answers₀ 0);
        seen = seen_new 1 marks U ∙ ap (λ (z : ℕ). replicate z 0) long;
        under = U;
        long = long;
      }

  module _ {marks answers : List ℕ} {i used last : ℕ} (A : Asking n ans sources targets answers₀ marks answers i used last) (fits : 6 * length sources ≤ length answers₀)
      (lt : i < length sources) (u v : ℕ) (source : u ≡ get_or sources i 0) (target : v ≡ get_or targets i 0) where
    -- six numbers more
    more : (s : List ℕ) {answers' : List ℕ} → answers' ≡ put answers (6 * i) s → s ≡ pair_six n ans u v → answers' ≡ put answers₀ 0 (sixes n ans sources targets (i + 1))
    more s e f = e ∙ sixes_put n ans sources targets answers₀ answers s i (omega arith) A.wrote (f ∙ rw (source, target) refl)

    -- a refused pair leaves the marks
    module _ (refuses : (leb n u || leb n v) ≡ true) where
      kept : seen_as last marks ≡ last_marks n ans sources targets (i + 1)
      unfolding last_marks
      kept = rw (add-one, ← source, ← target, refuses) A.seen

      refused_pair : (s : List ℕ) {answers' : List ℕ} → answers' ≡ put answers (6 * i) s → s ≡ pair_six n ans u v → Asking n ans sources targets answers₀ marks answers' (i + 1) used last
      refused_pair s e f = record { low = omega arith; wrote = more s e f; seen = kept; under = A.under; long = A.long }

    pub asking_source : {answers' : List ℕ} → n ≤ u → answers' ≡ put answers (6 * i) (six_refused 14 0) → Asking n ans sources targets answers₀ marks answers' (i + 1) used last
    unfolding pair_six
    asking_source h e = refused_pair (or_left (leb n v) (le-leb n u h)) (six_refused 14 0) e (rw (le-leb n u h) refl)

    pub asking_target : {answers' : List ℕ} → u < n → n ≤ v → answers' ≡ put answers (6 * i) (six_refused 14 1) → Asking n ans sources targets answers₀ marks answers' (i + 1) used last
    unfolding pair_six
    asking_target h b e = refused_pair (or_right (leb n u) (le-leb n v b)) (six_refused 14 1) e (rw (lt-leb n u h, le-leb n v b) refl)

    -- an answered pair has marks of its own
    pub asking_answer :
        {answers' : List ℕ} → u < n → v < n → (r : Asked) (stamp used' : ℕ) (marks' : List ℕ) → answer_by r (seen_as stamp marks') ≡ ans u v → Under (used' + 1) marks' → length marks' ≡ n
        → answers' ≡ put answers (6 * i) (0 ∷ 0 ∷ cond r.says 1 0 ∷ r.reason ∷ r.opened ∷ r.deciding ∷ [])
        → Asking n ans sources targets answers₀ marks' answers' (i + 1) used' stamp
    unfolding pair_six last_marks
    asking_answer h b r stamp used' marks' is U long e = record {
      low = omega arith;
      wrote = more _ e (rw (lt-leb n u h, lt-leb n v b) (ap six_answered is));
      seen = rw (add-one, ← source, ← target, lt-leb n u h, lt-leb n v b) (ap (λ (a : Answer). a.marks) is);
      under = U;
      long = long;
    }

-- Ways of answering that agree below n give the same numbers and the same marks.
module _ {A : Type 0} (n u v : ℕ) {x y : A} (h : u < n → v < n → x ≡ y) where
  same_six : (r s : A) → cond (leb n u) r (cond (leb n v) s x) ≡ cond (leb n u) r (cond (leb n v) s y)
  same_six r s = at (leb n u) (leb n v) (leb-false n u) (leb-false n v)
    where
      at : (a b : Bool) → (a ≡ false → u < n) → (b ≡ false → v < n) → cond a r (cond b s x) ≡ cond a r (cond b s y)
      at true b f g = refl
      at false true f g = refl
      at false false f g = h (f refl) (g refl)

  same_marks : (r s : A) → r ≡ s → cond (leb n u || leb n v) r x ≡ cond (leb n u || leb n v) s y
  same_marks r s e = at (leb n u) (leb n v) (leb-false n u) (leb-false n v)
    where
      at : (a b : Bool) → (a ≡ false → u < n) → (b ≡ false → v < n) → cond (a || b) r x ≡ cond (a || b) s y
      at true b f g = e
      at false true f g = e
      at false false f g = h (f refl) (g refl)

module _ (n : ℕ) (f g : ℕ → ℕ → Answer) (same : (u v : ℕ) → u < n → v < n → f u v ≡ g u v) (sources targets : List ℕ) where
  pub sixes_same : (i : ℕ) → sixes n f sources targets i ≡ sixes n g sources targets i
  unfolding sixes pair_six
  sixes_same i =
      ap joined
      (table_same _ _ i
      (λ j h. same_six n (get_or sources j 0) (get_or targets j 0) (λ a b. ap six_answered (same (get_or sources j 0) (get_or targets j 0) a b)) (six_refused 14 0) (six_refused 14 1)))

  pub marks_same : (i : ℕ) → last_marks n f sources targets i ≡ last_marks n g sources targets i
  unfolding last_marks
  marks_same zero = refl
  marks_same (suc i) =
      same_marks n (get_or sources i 0) (get_or targets i 0) (λ a b. ap (λ (z : Answer). z.marks) (same (get_or sources i 0) (get_or targets i 0) a b)) _ _ (marks_same i)
