-- Marks set at each number of a list, one at a time: no other mark changes, and none is taken away.
use mathlib.Core.Bool.{true, false≢true}
use mathlib.Core.Logic.{◌⊎◌, inl, inr}
use mathlib.Core.Path.{◌≡◌, refl, sym, ap, ◌∙◌}
use mathlib.Core.List.{List, [], ◌∷◌}
use Prim.Native.Nat.{ℕ, suc, ◌+◌, ◌≤◌, ◌<◌}
use native.Mathlib.Decide.{ℕ_discrete, dec_lt}
use native.Mathlib.Numerals.{add-one}
use native.Mathlib.Omega.{arith}
use lib.ListN.{length, get_or, drop, set, length-set, drop_of_length-le}
use lib.Seq.{drop-cons, drop-set-lt, get_or-set_same, get_or-set_other, set_out}
use Rattle.lineage.specs.Lists.{among}
use Rattle.laws.proofs.Lists.{here, here_at, there, in_cons}
use Rattle.numbers.specs.Marks.{mark_all}

-- j of the list are passed
pub record Marking (qs first : List ℕ) (j : ℕ) (marks : List ℕ) : Type 0 where
  pub long : length marks ≡ length first
  pub ahead : mark_all (drop j qs) marks ≡ mark_all qs first

pub marking_none : (qs first : List ℕ) → Marking qs first 0 first
marking_none qs first = record { long = refl; ahead = refl }

module _ {qs first marks : List ℕ} {j : ℕ} (K : Marking qs first j marks) where
  pub marking_more : {q : ℕ} → j < length qs → q ≡ get_or qs j 0 → Marking qs first (j + 1) (set marks q 1)
  marking_more {q} h e =
      let next : drop j qs ≡ q ∷ drop (j + 1) qs =
      rw (add-one j) (drop-cons qs j 0 h ∙ ap (λ (x : ℕ). x ∷ drop (suc j) qs) (sym e)) in
      record { long = length-set marks q 1 ∙ K.long; ahead = rw next at K.ahead }

  pub marking_all : length qs ≤ j → marks ≡ mark_all qs first
  marking_all h = rw (drop_of_length-le qs h) at K.ahead

-- as many marks as before, and those from n on as they were where the list is below n
pub marks_long : (qs marks : List ℕ) → length (mark_all qs marks) ≡ length marks
marks_long [] marks = refl
marks_long (q ∷ qs) marks = marks_long qs (set marks q 1) ∙ length-set marks q 1

pub marks_past : (n : ℕ) (qs marks : List ℕ) → ((q : ℕ) → among q qs ≡ true → q < n) → drop n (mark_all qs marks) ≡ drop n marks
marks_past n [] marks low = refl
marks_past n (q ∷ qs) marks low =
    marks_past n qs (set marks q 1) (λ x i. low x (there x q qs i)) ∙ drop-set-lt n marks q 1 (low q (here q qs))

-- one mark
mark_kept : (marks : List ℕ) (i j : ℕ) → get_or marks j 0 ≡ 1 → get_or (set marks i 1) j 0 ≡ 1
mark_kept marks i j h =
    elim (ℕ_discrete j i) [
      | yes e ↦
          elim (dec_lt i (length marks)) [
            | yes l ↦ rw e (get_or-set_same marks i 1 0 l)
            | no l ↦ rw (set_out marks i 1 (omega arith)) h
          ]
      | no e ↦ rw (get_or-set_other marks i j 1 0 e) h
    ]

mark_from : (marks : List ℕ) (i j : ℕ) → get_or (set marks i 1) j 0 ≡ 1 → (get_or marks j 0 ≡ 1) ⊎ (j ≡ i)
mark_from marks i j h =
    elim (ℕ_discrete j i) [
      | yes e ↦ inr e
      | no e ↦ inl (rw (get_or-set_other marks i j 1 0 e) at h)
    ]

-- a mark stays, the list is marked, and a mark is from before or of the list
pub marks_keep : (qs marks : List ℕ) (j : ℕ) → get_or marks j 0 ≡ 1 → get_or (mark_all qs marks) j 0 ≡ 1
marks_keep [] marks j h = h
marks_keep (q ∷ qs) marks j h = marks_keep qs (set marks q 1) j (mark_kept marks q j h)

pub marks_give : (qs marks : List ℕ) (q : ℕ) → q < length marks → among q qs ≡ true → get_or (mark_all qs marks) q 0 ≡ 1
marks_give [] marks q l i = absurd (false≢true i)
marks_give (x ∷ qs) marks q l i =
    elim (in_cons q x qs i) [
      | inl e ↦ marks_keep qs (set marks x 1) q (rw e (get_or-set_same marks x 1 0 (rw e at l)))
      | inr j ↦ marks_give qs (set marks x 1) q (omega (arith, length-set marks x 1)) j
    ]

pub marks_from : (qs marks : List ℕ) (j : ℕ) → get_or (mark_all qs marks) j 0 ≡ 1 → (get_or marks j 0 ≡ 1) ⊎ (among j qs ≡ true)
marks_from [] marks j h = inl h
marks_from (x ∷ qs) marks j h = at (marks_from qs (set marks x 1) j h)
  where
    at : (get_or (set marks x 1) j 0 ≡ 1) ⊎ (among j qs ≡ true) → (get_or marks j 0 ≡ 1) ⊎ (among j (x ∷ qs) ≡ true)
    at (inl m) = elim (mark_from marks x j m) [ inl i ↦ inl i | inr e ↦ inr (here_at _ x qs e) ]
    at (inr i) = inr (there j x qs i)
