-- The number of a vertex: one more than its place on the stack, n where it has a group, and 0 where it is not seen. For the low, n is as good as any number
-- that no place of the stack has.
use mathlib.Core.Bool.{Bool, true, false, ◌||◌}
use mathlib.Core.Path.{◌≡◌, refl, sym, ap, ◌∙◌}
use mathlib.Core.List.{List, [], ◌∷◌, ◌++◌}
use Prim.Native.Nat.{ℕ, suc, min, ◌≤◌, ◌<◌}
use native.Mathlib.Omega.{arith}
use lib.ListN.{length}
use borrow.Author.Tests.{eq-eqb, ne_eqb}
use Rattle.lineage.specs.Lists.{among, position}
use Rattle.laws.specs.Rising.{Distinct}
use Rattle.laws.proofs.Lists.{among_append, here, in_left, in_right}
use Rattle.laws.proofs.Positions.{position_past, position_left, position_none}
use Rattle.laws.proofs.Rising.{distinct_apart, distinct_left}
use Rattle.laws.specs.OnePass.{Stage, opened}
use Rattle.laws.proofs.Stages.{gone}
use Rattle.build_names.proofs.Machine.{seen_by}

abbrev pub number_by : Bool → Bool → ℕ → ℕ → ℕ
number_by true g n p = suc p
number_by false true n p = n
number_by false false n p = 0

abbrev pub number_of : ℕ → Stage → ℕ → ℕ
number_of n s v = number_by (among v s.stack) (among v (gone s)) n (position v s.stack)

module _ (n v : ℕ) (s : Stage) where
  abbrev on : Bool
  on = among v s.stack

  abbrev in_gone : Bool
  in_gone = among v (gone s)

  pub number_new : 0 < n → number_of n s v ≡ 0 → among v (seen_by s) ≡ false
  number_new h e = among_append v s.stack (gone s) ∙ at on in_gone e
    where
      at : (a b : Bool) → number_by a b n (position v s.stack) ≡ 0 → (a || b) ≡ false
      at true b z = absurd (omega arith)
      at false true z = absurd (omega arith)
      at false false z = refl

  pub number_old : (number_of n s v ≡ 0 → ⊥) → among v (seen_by s) ≡ true
  number_old e = among_append v s.stack (gone s) ∙ at on in_gone e
    where
      at : (a b : Bool) → (number_by a b n (position v s.stack) ≡ 0 → ⊥) → (a || b) ≡ true
      at true b z = refl
      at false true z = refl
      at false false z = absurd (z refl)

  pub number_on : among v s.stack ≡ true → number_of n s v ≡ suc (position v s.stack)
  number_on e = rw (e, number_by)

  pub number_in : among v s.stack ≡ false → among v (gone s) ≡ true → number_of n s v ≡ n
  number_in e i = rw (e, i, number_by)

  pub number_least : (low : ℕ) → (number_of n s v ≡ 0 → ⊥) → low ≤ n → low ≤ suc (length s.stack) → min low (number_of n s v) ≡ min low (suc (position v s.stack))
  number_least low e h l = at on refl in_gone refl
    where
      at : (a : Bool) → on ≡ a → (b : Bool) → in_gone ≡ b → min low (number_of n s v) ≡ min low (suc (position v s.stack))
      at true z b y = ap (min low) (number_on z)
      at false z true y = omega (arith, number_in z y, position_none v s.stack z)
      at false z false y = absurd (e (rw (z, y, number_by)))

-- numbers that are the same
pub number_same : (n v : ℕ) (s t : Stage) → among v t.stack ≡ among v s.stack → among v (gone t) ≡ among v (gone s) → position v t.stack ≡ position v s.stack → number_of n t v ≡ number_of n s v
number_same n v s t e i p = ap (λ z. number_by z (among v (gone t)) n (position v t.stack)) e ∙ ap (λ z. number_by (among v s.stack) z n (position v t.stack)) i ∙ ap (number_by (among v s.stack) (among v (gone s)) n) p

-- one vertex more on the stack
module _ (n p : ℕ) (s : Stage) (new : among p s.stack ≡ false) where
  pub number_opened : number_of n (opened p s) p ≡ suc (length s.stack)
  number_opened =
      number_on n p (opened p s) (in_right p s.stack (p ∷ []) (here p []))
      ∙ ap suc (position_past p s.stack (p ∷ []) new ∙ rw (eq-eqb p p refl, position) (omega arith))

  pub number_others : (v : ℕ) → (v ≡ p → ⊥) → number_of n (opened p s) v ≡ number_of n s v
  number_others v ne = at (among v s.stack) refl
    where
      other : among v (p ∷ []) ≡ false
      other = rw (ne_eqb v p ne)

      at : (b : Bool) → among v s.stack ≡ b → number_of n (opened p s) v ≡ number_of n s v
      at true e = number_same n v s (opened p s) (in_left v s.stack (p ∷ []) e ∙ sym e) refl (position_left v s.stack (p ∷ []) e)
      at false e =
          let off : among v (s.stack ++ (p ∷ [])) ≡ false = rw (among_append, e) other in
          ap (λ z. number_by z (among v (gone s)) n (position v (s.stack ++ (p ∷ [])))) off
          ∙ alike (among v (gone s))
          ∙ ap (λ z. number_by z (among v (gone s)) n (position v s.stack)) (sym e)
        where
          alike : (b : Bool) → number_by false b n (position v (s.stack ++ (p ∷ []))) ≡ number_by false b n (position v s.stack)
          alike true = refl
          alike false = refl

-- the top of the stack becomes a group
module _ (n : ℕ) (s t : Stage) (G : List ℕ) (stack_is : s.stack ≡ t.stack ++ G) (gone-is : gone t ≡ G ++ gone s) (once : Distinct (s.stack ++ gone s)) where
  stack_once : Distinct (t.stack ++ G)
  stack_once = rw stack_is at (distinct_left s.stack (gone s) once)

  pub number_taken : (v : ℕ) → among v G ≡ true → number_of n t v ≡ n
  number_taken v i = number_in n v t (distinct_apart t.stack G stack_once v i) (rw gone-is (in_left v G (gone s) i))

  pub number_left : (v : ℕ) → among v G ≡ false → number_of n t v ≡ number_of n s v
  number_left v e = at (among v t.stack) refl
    where
      same_on : among v s.stack ≡ among v t.stack
      same_on = rw (stack_is, among_append v t.stack G, e) (right (among v t.stack))
        where
          right : (b : Bool) → (b || false) ≡ b
          right true = refl
          right false = refl

      same_gone : among v (gone t) ≡ among v (gone s)
      same_gone = rw (gone-is, among_append v G (gone s), e)

      at : (b : Bool) → among v t.stack ≡ b → number_of n t v ≡ number_of n s v
      at true z = number_same n v s t (sym same_on) same_gone (sym (ap (position v) stack_is ∙ position_left v t.stack G z))
      at false z =
          ap (λ x. number_by x (among v (gone t)) n (position v t.stack)) z
          ∙ ap (λ x. number_by false x n (position v t.stack)) same_gone
          ∙ alike (among v (gone s))
          ∙ ap (λ x. number_by x (among v (gone s)) n (position v s.stack)) (sym (same_on ∙ z))
        where
          alike : (b : Bool) → number_by false b n (position v t.stack) ≡ number_by false b n (position v s.stack)
          alike true = refl
          alike false = refl
