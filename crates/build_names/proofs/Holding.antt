-- What memory tells of a stage: the first sp words of the fifth region are the stack, the first region has the numbers, the sixth the names of those that have
-- a group. Each step of the machine is told so.
use mathlib.Core.Bool.{Bool, true, false, cond, false≢true}
use mathlib.Core.Logic.{◌⊎◌, inl, inr}
use mathlib.Core.Path.{◌≡◌, refl, sym, ap, ap₂, ◌∙◌, subst}
use mathlib.Core.List.{List, [], ◌∷◌, ◌++◌, append_assoc}
use Prim.Native.Nat.{ℕ, suc, ◌+◌, ◌-◌, ◌*◌, min, ◌≤◌, ◌<◌}
use native.Mathlib.Decide.{ℕ_discrete}
use native.Mathlib.Omega.{arith}
use lib.ListN.{length, get_or, set, take, drop, replicate, get_or-replicate, take-append-drop, length-drop, length-take, length-append}
use lib.Seq.{get_or-set_same, get_or-set_other, take_all}
use Rattle.lineage.specs.Lists.{among, position, part}
use Rattle.laws.specs.Rising.{Distinct}
use Rattle.laws.proofs.Tests.{clash}
use Rattle.laws.proofs.Lists.{in_one, in_left, in_append}
use Rattle.laws.proofs.Positions.{position_low}
use Rattle.laws.proofs.Rising.{distinct_between}
use Rattle.laws.proofs.Parts.{part_length, part_part}
use Rattle.laws.specs.OnePass.{least_of, name_in}
use Rattle.laws.proofs.OnePass.{name_here, name_there}
use Rattle.laws.specs.OnePass.{Stage, lowered, opened, at_first}
use Rattle.build_names.specs.Window.{pushed, group_at, Taken}
use Rattle.laws.proofs.Stages.{gone}
use Rattle.build_names.proofs.Machine.{seen_by, leave_by}
use Rattle.build_names.proofs.Numbered.{number_of, number_least, number_opened, number_others, number_taken, number_left}
use Rattle.build_names.proofs.Pushed.{pushed_numbers, pushed_stack, pushed_names}

pub record Holds (work : List ℕ) (base n sp low : ℕ) (s : Stage) : Type 0 where
  pub stack_is : part work (base + 4 * n) sp ≡ s.stack
  pub numbers : (v : ℕ) → v < n → get_or (part work base n) v 0 ≡ number_of n s v
  pub names : (v : ℕ) → v < n → among v (gone s) ≡ true → get_or (part work (base + 5 * n) n) v 0 ≡ name_in s.groups v
  pub vertices : (v : ℕ) → among v s.stack ≡ true → v < n
  pub once : Distinct (seen_by s)
  pub low_is : low ≡ s.low
  pub low_most : low ≤ n
  pub low_fits : low ≤ suc sp
  pub stack_long : length s.stack ≡ sp

pub holds_none : (work : List ℕ) (base n : ℕ) → part work base n ≡ replicate n 0 → Holds work base n 0 0 at_first
unfolding part
holds_none work base n clear = record {
  stack_is = refl;
  numbers = λ v h. ap (λ z. get_or z v 0) clear ∙ get_or-replicate {A = ℕ} n v 0 0 h;
  names = λ v h i. absurd (false≢true i);
  vertices = λ v i. absurd (false≢true i);
  once = tt;
  low_is = refl;
  low_most = omega arith;
  low_fits = omega arith;
  stack_long = refl;
}

module _ {work : List ℕ} {base n sp low : ℕ} {s : Stage} (h : Holds work base n sp low s) where
  -- another low
  pub holds_low : (low' : ℕ) → low' ≤ low → Holds work base n sp low' (record { stack = s.stack; groups = s.groups; low = low' })
  holds_low low' l = record {
    stack_is = h.stack_is;
    numbers = h.numbers;
    names = h.names;
    vertices = h.vertices;
    once = h.once;
    low_is = refl;
    low_most = omega (arith, h.low_most);
    low_fits = omega (arith, h.low_fits);
    stack_long = h.stack_long;
  }

  -- a seen vertex is come upon
  pub holds_past :
      (v number low' : ℕ) → number ≡ number_of n s v → (number ≡ 0 → ⊥) → low' ≡ min low number → Holds work base n sp low' (lowered v s)
  holds_past v number low' is old least =
      subst (λ z. Holds work base n sp low' (record { stack = s.stack; groups = s.groups; low = z })) same (holds_low low' (omega arith))
    where
      same : low' ≡ min s.low (suc (position v s.stack))
      same =
          least
          ∙ ap (min low) is
          ∙ number_least n v s low (λ z. old (is ∙ z)) h.low_most (omega (arith, h.low_fits, h.stack_long))
          ∙ ap (λ z. min z (suc (position v s.stack))) h.low_is

  -- an unseen vertex is entered
  module _
      {work' : List ℕ} (d v e number : ℕ) (room : base + 6 * n ≤ length work) (hv : v < n) (hd : d < n) (hs : sp < n) (number_is : number ≡ sp + 1)
      (off : among v s.stack ≡ false) (out : among v (gone s) ≡ false) (o : work' ≡ pushed work base n d sp v e low number)
    where
      numbers_now : part work' base n ≡ set (part work base n) v number
      numbers_now = ap (λ z. part z base n) o ∙ pushed_numbers work base n d sp v e low number room hv hd hs

      number_now : (u : ℕ) → u < n → Dec (u ≡ v) → get_or (part work' base n) u 0 ≡ number_of n (opened v s) u
      number_now u l (yes z) =
          rw (numbers_now, z, get_or-set_same (part work base n) v number 0 (omega (arith, part_length work base n (omega arith))))
          (sym (number_opened n v s off ∙ omega (arith, h.stack_long)))
      number_now u l (no z) = rw (numbers_now, get_or-set_other (part work base n) v u number 0 z) (h.numbers u l ∙ sym (number_others n v s off u z))

      pub holds_in : Holds work' base n (sp + 1) number (opened v s)
      holds_in = record {
        stack_is = ap (λ z. part z (base + 4 * n) (sp + 1)) o ∙ pushed_stack work base n d sp v e low number room hv hd hs ∙ ap (λ z. z ++ (v ∷ [])) h.stack_is;
        numbers = λ u l. number_now u l (ℕ_discrete u v);
        names = λ u l i. ap (λ z. get_or (part z (base + 5 * n) n) u 0) o ∙ ap (λ z. get_or z u 0) (pushed_names work base n d sp v e low number room hv hd hs) ∙ h.names u l i;
        vertices = λ u i. elim (in_append u s.stack (v ∷ []) i) [ inl j ↦ h.vertices u j | inr j ↦ rw (in_one u v j) hv ];
        once = rw append_assoc (distinct_between v s.stack (gone s) h.once off out);
        low_is = omega (arith, h.stack_long);
        low_most = omega arith;
        low_fits = omega arith;
        stack_long = simp length-append (omega (arith, h.stack_long));
      }

  -- the top of the stack becomes a group
  module _ {work' : List ℕ} (v saved r low' : ℕ) (on : among v s.stack ≡ true) (place : r ≡ position v s.stack) (own : low ≡ suc r) (least : low' ≡ min saved low) (t : Taken work work' base n r sp) where
    abbrev S' : List ℕ
    S' = take (position v s.stack) s.stack

    abbrev G : List ℕ
    G = drop (position v s.stack) s.stack

    abbrev then : Stage
    then = leave_by true v saved s

    r_low : r < sp
    r_low = omega (arith, position_low v s.stack on, h.stack_long)

    split : s.stack ≡ S' ++ G
    split = sym (take-append-drop (position v s.stack) s.stack)

    stack_now : part work' (base + 4 * n) r ≡ S'
    unfolding part
    stack_now =
        t.between (base + 4 * n) r (omega arith) (omega (arith, r_low, sp_most))
        ∙ subst (λ z. part work z r ≡ take r (part work (base + 4 * n) sp)) zero_more (sym (part_part work (base + 4 * n) sp 0 r (omega (arith, r_low))))
        ∙ ap₂ take place h.stack_is
      where
        zero_more : base + 4 * n + 0 ≡ base + 4 * n
        zero_more = omega arith

        sp_most : sp ≤ n
        sp_most = t.most

    group_now : group_at work base n r sp ≡ G
    unfolding part
    group_now =
        sym (part_part work (base + 4 * n) sp r (sp - r) (omega (arith, r_low)))
        ∙ ap (λ z. take (sp - r) (drop r z)) h.stack_is
        ∙ take_all (sp - r) (drop r s.stack) (omega (arith, length-drop r s.stack, h.stack_long))
        ∙ ap (λ z. drop z s.stack) place

    number_then : (u : ℕ) → u < n → (b : Bool) → among u G ≡ b → get_or (part work' base n) u 0 ≡ number_of n then u
    number_then u l b z = stamped ∙ at b z
      where
        stamped : get_or (part work' base n) u 0 ≡ cond (among u G) n (get_or (part work base n) u 0)
        stamped = rw group_now at (t.numbers.at u (omega (arith, part_length work base n t_room)))
          where
            t_room : base + n ≤ length work
            t_room = omega (arith, t.room)

        at : (b : Bool) → among u G ≡ b → cond (among u G) n (get_or (part work base n) u 0) ≡ number_of n then u
        at true y = ap (λ x. cond x n (get_or (part work base n) u 0)) y ∙ sym (number_taken n s then G split refl h.once u y)
        at false y = ap (λ x. cond x n (get_or (part work base n) u 0)) y ∙ h.numbers u l ∙ sym (number_left n s then G split refl h.once u y)

    name_then : (u : ℕ) → u < n → among u (G ++ gone s) ≡ true → (b : Bool) → among u G ≡ b → get_or (part work' (base + 5 * n) n) u 0 ≡ name_in (G ∷ s.groups) u
    name_then u l i b z = stamped ∙ at b z (in_append u G (gone s) i)
      where
        stamped : get_or (part work' (base + 5 * n) n) u 0 ≡ cond (among u G) (least_of G) (get_or (part work (base + 5 * n) n) u 0)
        stamped = rw group_now at (t.names.at u (omega (arith, part_length work (base + 5 * n) n t_room)))
          where
            t_room : base + 5 * n + n ≤ length work
            t_room = omega (arith, t.room)

        at : (b : Bool) → among u G ≡ b → (among u G ≡ true) ⊎ (among u (gone s) ≡ true) → cond (among u G) (least_of G) (get_or (part work (base + 5 * n) n) u 0) ≡ name_in (G ∷ s.groups) u
        at true y c = ap (λ x. cond x (least_of G) (get_or (part work (base + 5 * n) n) u 0)) y ∙ sym (name_here u G s.groups y)
        at false y (inl j) = clash j y
        at false y (inr j) = ap (λ x. cond x (least_of G) (get_or (part work (base + 5 * n) n) u 0)) y ∙ h.names u l j ∙ sym (name_there u G s.groups y)

    pub holds_taken : Holds work' base n r low' then
    holds_taken = record {
      stack_is = stack_now;
      numbers = λ u l. number_then u l (among u G) refl;
      names = λ u l i. name_then u l i (among u G) refl;
      vertices = λ u i. h.vertices u (rw split (in_left u S' G i));
      once = subst Distinct (ap (λ z. z ++ gone s) split ∙ append_assoc S' G (gone s)) h.once;
      low_is = least ∙ ap (min saved) h.low_is;
      low_most = omega (arith, h.low_most);
      low_fits = omega arith;
      stack_long = length-take (position v s.stack) s.stack ∙ omega (arith, r_low, h.stack_long);
    }

  pub holds_stays : (v saved low' : ℕ) → low' ≡ min saved low → Holds work base n sp low' (leave_by false v saved s)
  holds_stays v saved low' least =
      subst (λ z. Holds work base n sp low' (record { stack = s.stack; groups = s.groups; low = z })) (least ∙ ap (min saved) h.low_is) (holds_low low' (omega arith))
