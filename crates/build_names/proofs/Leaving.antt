-- A vertex is left, in memory: its number is told by its place on the stack, so memory takes a group where the machine does.
use mathlib.Core.Bool.{Bool, true, false, cond}
use mathlib.Core.Path.{◌≡◌, refl, sym, ap, ◌∙◌, subst}
use mathlib.Core.List.{List}
use Prim.Native.Nat.{ℕ, suc, ◌+◌, ◌*◌, ◌^◌, min, ◌≤◌, ◌<◌}
use native.Mathlib.Omega.{arith}
use lib.Dec.{eqb}
use lib.ListN.{length, get_or}
use borrow.Author.Tests.{eq-eqb, ne_eqb}
use Rattle.lineage.specs.Lists.{among, position, part}
use Rattle.laws.proofs.Positions.{position_low}
use Rattle.laws.proofs.Laid.{in_below}
use Rattle.laws.proofs.Parts.{part_length, part_at}
use Rattle.numbers.specs.Regions.{Kept}
use Rattle.numbers.proofs.Regions.{kept_same}
use Rattle.build_traversal.proofs.Fresh.{fresh, fresh_no_more}
use Rattle.laws.specs.OnePass.{Stage}
use Rattle.build_names.specs.Window.{group_at, top_of, own_of, SettleFit, Settled, stays, groups}
use Rattle.build_names.proofs.Machine.{leave_by, leave}
use Rattle.build_names.proofs.Numbered.{number_on}
use Rattle.build_names.proofs.Holding.{Holds, holds_taken, holds_stays}
use Rattle.build_names.proofs.Framed.{Framed, framed_fewer, framed_taken}

-- v is left, saved is the low of the vertex below, and r are on the stack then
pub record Left (work work' : List ℕ) (base n f sp r v saved low' : ℕ) (s : Stage) : Type 0 where
  pub kept : Kept work work' base (6 * n)
  pub between : (at count : ℕ) → base + n ≤ at → at + count ≤ base + 5 * n → part work' at count ≡ part work at count
  pub fewer : fresh (part work' base n) ≤ fresh (part work base n)
  pub lower : r ≤ sp
  pub holds : Holds work' base n r low' (leave v saved s)
  pub framed : Framed (part work (base + n) n) (leave v saved s).stack f

module _
    {work : List ℕ} {base n f sp low : ℕ} {s : Stage} (room : base + 6 * n ≤ length work) (f_low : f < n) (sp_most : sp ≤ n) (h : Holds work base n sp low s)
    (framed : Framed (part work (base + n) n) s.stack (suc f))
  where
    abbrev v : ℕ
    v = get_or (part work (base + n) n) f 0

    top_is : top_of work base n f ≡ v
    top_is = part_at work (base + n) n f f_low

    v_on : among v s.stack ≡ true
    v_on = framed.on f (omega arith)

    v_low : v < n
    v_low = h.vertices v v_on

    own_is : own_of work base n f ≡ suc (position v s.stack)
    own_is = ap (λ z. get_or work (base + z) 0) top_is ∙ part_at work base n v v_low ∙ h.numbers v v_low ∙ number_on n v s v_on

    pub settle_fit : n < 2 ^ 32 → SettleFit work base n f sp
    settle_fit few = record {
      room = room;
      frame = f_low;
      most = sp_most;
      vertex = omega (arith, top_is, v_low);
      some = omega (arith, own_is);
      on = omega (arith, own_is, position_low v s.stack v_on, h.stack_long);
      low = rw h.stack_is (in_below n s.stack h.vertices);
      few = few;
    }

    -- the machine tests what memory tests
    test_false : (own_of work base n f ≡ low → ⊥) → eqb s.low (suc (position v s.stack)) ≡ false
    test_false ne = ne_eqb s.low (suc (position v s.stack)) (λ z. ne (own_is ∙ sym z ∙ sym h.low_is))

    test_true : own_of work base n f ≡ low → eqb s.low (suc (position v s.stack)) ≡ true
    test_true e = eq-eqb s.low (suc (position v s.stack)) (sym h.low_is ∙ sym e ∙ own_is)

    module _ {work' : List ℕ} {r low' : ℕ} (saved : ℕ) (least : low' ≡ min saved low) where
      pub left_settled : Settled work work' base n f sp low r → Left work work' base n f sp r v saved low' s
      left_settled (stays ne same r-is) =
          record {
            kept = subst (λ z. Kept work z base (6 * n)) (sym same) (kept_same work base (6 * n));
            between = λ at count l m. ap (λ z. part z at count) same;
            fewer = omega (arith, ap (λ z. fresh (part z base n)) same);
            lower = omega arith;
            holds = subst (λ b. Holds work' base n r low' (leave_by b v saved s)) (sym (test_false ne)) (rw (same, r-is) (holds_stays h v saved low' least));
            framed = subst (λ b. Framed (part work (base + n) n) (leave_by b v saved s).stack f) (sym (test_false ne)) (framed_fewer framed);
          }
      left_settled (groups e t own) =
          let place : r ≡ position v s.stack = omega (arith, own_is) in
          record {
            kept = t.kept;
            between = t.between;
            fewer = fresh_no_more (part work base n) (part work' base n) (long' ∙ sym long) (λ u l z. zero_before u l z (among u (group_at work base n r sp)) refl);
            lower = omega (arith, own_is, position_low v s.stack v_on, h.stack_long);
            holds = subst (λ b. Holds work' base n r low' (leave_by b v saved s)) (sym (test_true e)) (holds_taken h v saved r low' v_on place (omega (arith, own_is)) least t);
            framed = subst (λ b. Framed (part work (base + n) n) (leave_by b v saved s).stack f) (sym (test_true e)) (framed_taken framed);
          }
        where
          long : length (part work base n) ≡ n
          long = part_length work base n (omega arith)

          long' : length (part work' base n) ≡ n
          long' = part_length work' base n (omega (arith, t.kept.long))

          zero_before : (u : ℕ) → u < length (part work base n) → get_or (part work' base n) u 0 ≡ 0 → (b : Bool) → among u (group_at work base n r sp) ≡ b → get_or (part work base n) u 0 ≡ 0
          zero_before u l z true i = absurd (omega (arith, long, sym (ap (λ x. cond x n (get_or (part work base n) u 0)) i) ∙ sym (t.numbers.at u l) ∙ z))
          zero_before u l z false i = sym (ap (λ x. cond x n (get_or (part work base n) u 0)) i) ∙ sym (t.numbers.at u l) ∙ z
