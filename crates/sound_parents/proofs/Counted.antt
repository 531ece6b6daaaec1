-- What marks tell that count each number of a list, up to 2: from 0, a mark is 0 exactly where the number does not stand in the list, and 2 exactly where it stands there
-- more than once.
use mathlib.Core.Bool.{Bool, true, false, not}
use mathlib.Core.Path.{◌≡◌, refl, sym, ap, ◌∙◌}
use mathlib.Core.List.{List, [], ◌∷◌, ◌++◌}
use Prim.Native.Nat.{ℕ, zero, suc, ◌+◌, ◌≤◌, ◌<◌}
use native.Mathlib.Decide.{ℕ_discrete}
use native.Mathlib.Numerals.{add-one}
use native.Mathlib.Omega.{arith}
use lib.Dec.{eqb, ltb}
use lib.ListN.{length, get_or, drop, set, replicate, length-set, drop_of_length-le}
use lib.Seq.{drop-cons, drop-set-lt, get_or-set_same, get_or-set_other}
use borrow.Author.Tests.{eq-eqb, ne_eqb, lt-ltb}
use Rattle.lineage.specs.Lists.{among, those, cleared}
use Rattle.laws.proofs.Lists.{here, there, those_yes, those_no}
use Rattle.numbers.proofs.Cleared.{cleared_past}
use Rattle.sound_blocks.specs.Marks.{unmarked}
use Rattle.sound_parents.specs.Told.{one_more, count_all, marked_twice, twice}

-- j of the list are counted
pub record Counting (qs first : List ℕ) (j : ℕ) (marks : List ℕ) : Type 0 where
  pub long : length marks ≡ length first
  pub ahead : count_all (drop j qs) marks ≡ count_all qs first

module _ {qs first marks : List ℕ} {j : ℕ} (K : Counting qs first j marks) where
  pub counting_more : {q x : ℕ} → j < length qs → q ≡ get_or qs j 0 → x ≡ one_more (get_or marks q 0) → Counting qs first (j + 1) (set marks q x)
  counting_more {q} {x} h e t =
      let next : drop j qs ≡ q ∷ drop (j + 1) qs =
      rw (add-one j) (drop-cons qs j 0 h ∙ ap (λ (y : ℕ). y ∷ drop (suc j) qs) (sym e)) in
      record { long = length-set marks q x ∙ K.long; ahead = rw t (rw next at K.ahead) }

  pub counting_all : length qs ≤ j → marks ≡ count_all qs first
  counting_all h = rw (drop_of_length-le qs h) at K.ahead

-- as many marks as before, and those from n on as they were where the list is below n
pub counts_long : (qs marks : List ℕ) → length (count_all qs marks) ≡ length marks
counts_long [] marks = refl
counts_long (q ∷ qs) marks = counts_long qs (set marks q (one_more (get_or marks q 0))) ∙ length-set marks q (one_more (get_or marks q 0))

counts_past : (n : ℕ) (qs marks : List ℕ) → ((q : ℕ) → among q qs ≡ true → q < n) → drop n (count_all qs marks) ≡ drop n marks
counts_past n [] marks low = refl
counts_past n (q ∷ qs) marks low =
    counts_past n qs (set marks q (one_more (get_or marks q 0))) (λ x i. low x (there x q qs i))
    ∙ drop-set-lt n marks q (one_more (get_or marks q 0)) (low q (here q qs))

-- counted below n, they are gone when those below n are cleared again
pub counted_cleared : (qs : List ℕ) (n : ℕ) (marks : List ℕ) → ((q : ℕ) → among q qs ≡ true → q < n) → cleared n (count_all qs (cleared n marks)) ≡ cleared n marks
unfolding cleared
counted_cleared qs n marks low =
    ap (λ (rest : List ℕ). replicate n 0 ++ rest) (counts_past n qs (cleared n marks) low ∙ cleared_past n marks)

-- what so many entries make of a mark
abbrev raised : ℕ → ℕ → ℕ
raised mark zero = mark
raised mark (suc i) = raised (one_more mark) i

count_at : (qs marks : List ℕ) (p : ℕ) → p < length marks → get_or (count_all qs marks) p 0 ≡ raised (get_or marks p 0) (length (those (eqb p) qs))
count_at [] marks p h = refl
count_at (q ∷ qs) marks p h =
    count_at qs (set marks q (one_more (get_or marks q 0))) p (rw (length-set marks q (one_more (get_or marks q 0))) h) ∙ at (ℕ_discrete p q)
  where
    at :
        Dec (p ≡ q)
        → raised (get_or (set marks q (one_more (get_or marks q 0))) p 0) (length (those (eqb p) qs)) ≡ raised (get_or marks p 0) (length (those (eqb p) (q ∷ qs)))
    at (yes e) =
        rw (e, those_yes (eqb q) q qs (eq-eqb q q refl), get_or-set_same marks q (one_more (get_or marks q 0)) 0 (rw (← e) h))
    at (no e) = rw (get_or-set_other marks q p (one_more (get_or marks q 0)) 0 e, those_no (eqb p) q qs (ne_eqb p q e))

-- 2 is the most
raised_most : (i : ℕ) → raised 2 i ≡ 2
raised_most zero = refl
raised_most (suc i) = raised_most i

raised_none : (i : ℕ) → eqb (raised 0 i) 0 ≡ eqb i 0
raised_none zero = refl
raised_none (suc zero) = refl
raised_none (suc (suc i)) = rw (raised_most i) (sym (ne_eqb (suc (suc i)) 0 (λ e. omega arith)))

raised_twice : (i : ℕ) → eqb (raised 0 i) 2 ≡ ltb 1 i
raised_twice zero = refl
raised_twice (suc zero) = refl
raised_twice (suc (suc i)) = rw (raised_most i) (sym (lt-ltb 1 (suc (suc i)) (omega arith)))

-- a number that stands nowhere in the list
none_among : (p : ℕ) (qs : List ℕ) → eqb (length (those (eqb p) qs)) 0 ≡ not (among p qs)
none_among p [] = refl
none_among p (q ∷ qs) = at (eqb p q) refl (none_among p qs)
  where
    at : (b : Bool) → eqb p q ≡ b → eqb (length (those (eqb p) qs)) 0 ≡ not (among p qs) → eqb (length (those (eqb p) (q ∷ qs))) 0 ≡ not (among p (q ∷ qs))
    at true e ih = rw (those_yes (eqb p) q qs e, e) (ne_eqb (suc (length (those (eqb p) qs))) 0 (λ z. omega arith))
    at false e ih = rw (those_no (eqb p) q qs e, e) ih

-- what a mark tells that was 0
module _ (qs marks : List ℕ) (p : ℕ) (low : p < length marks) (clear : get_or marks p 0 ≡ 0) where
  pub counted_at : unmarked (count_all qs marks) p ≡ not (among p qs)
  counted_at = rw (count_at qs marks p low, clear) (raised_none (length (those (eqb p) qs)) ∙ none_among p qs)

  pub counted_twice : marked_twice (count_all qs marks) p ≡ twice qs p
  counted_twice = rw (count_at qs marks p low, clear) (raised_twice (length (those (eqb p) qs)))
