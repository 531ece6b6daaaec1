-- The pass on its way. Whatever the machine comes to from the tasks of the frames, at the stage that memory holds, it comes to from the roots: each turn is one
-- step of the machine. Neither frames nor stack nor what is unseen ever come to more than n together, so every region has room.
use mathlib.Core.Bool.{false}
use mathlib.Core.Path.{◌≡◌, refl, sym, ap, ◌∙◌, subst}
use mathlib.Core.List.{List, [], ◌∷◌, ◌++◌}
use Prim.Native.Nat.{ℕ, suc, ◌+◌, ◌*◌, ◌^◌, min, ◌≤◌, ◌<◌}
use native.Mathlib.Numerals.{add-one}
use native.Mathlib.Omega.{arith}
use lib.ListN.{length, get_or, set, replicate}
use Rattle.lineage.specs.Lists.{among, part}
use Rattle.laws.specs.OnePass.{Stage, lowered, opened, at_first}
use Rattle.laws.proofs.Tests.{or_false_left, or_false_right}
use Rattle.laws.proofs.Lists.{among_append}
use Rattle.laws.proofs.Parts.{part_length, part_at}
use Rattle.laws.proofs.Stages.{gone}
use Rattle.numbers.specs.Regions.{Kept}
use Rattle.build_rows.specs.Rows.{rows_in}
use Rattle.build_traversal.specs.Frames.{row_place, row_end}
use Rattle.build_traversal.specs.Fit.{TraverseFit}
use Rattle.build_traversal.proofs.Tasks.{tries, finish}
use Rattle.build_traversal.proofs.Fresh.{fresh, fresh_le, fresh_mark}
use Rattle.build_traversal.proofs.Frames.{Frames, tasks_in, frames_none, tasks_none, room_now, region_long, entry_low, tasks_try, frames_past, frames_in, tasks_in_lem, tasks_finish, frames_out, tasks_out}
use Rattle.build_names.specs.Window.{pushed, SettleFit, Settled}
use Rattle.build_names.proofs.Machine.{seen_by, leave, Runs, pass, go_in, go_out}
use Rattle.build_names.proofs.Numbered.{number_of, number_new, number_old}
use Rattle.build_names.proofs.Pushed.{pushed_kept, pushed_numbers, pushed_frames, pushed_back, pushed_lows}
use Rattle.build_names.proofs.Holding.{Holds, holds_none, holds_past, holds_in}
use Rattle.build_names.proofs.Framed.{Framed, framed_none, framed_more}
use Rattle.build_names.proofs.Leaving.{Left, settle_fit, left_settled}

-- sp vertices are on the stack
pub record Going (work₀ work : List ℕ) (starts values c roots q n base d sp low e at end : ℕ) : Type 0 where
  pub frames : Frames work₀ work starts values c roots q n base (6 * n) d e at end
  pub frames_room : d + fresh (part work base n) ≤ n
  pub stack_room : sp + fresh (part work base n) ≤ n
  pub stage : Stage
  pub holds : Holds work base n sp low stage
  pub framed : Framed (part work (base + n) n) stage.stack d
  pub goes :
      (fin : Stage) → Runs (rows_in work₀ starts values c n) (tasks_in work₀ work starts values c roots q n base d e) stage fin
      → Runs (rows_in work₀ starts values c n) (tries (part work₀ roots q)) at_first fin

module _ {work₀ : List ℕ} {starts values c roots q n base : ℕ} (fit : TraverseFit work₀ starts values c roots q n base (6 * n)) where
  abbrev next : ℕ → List ℕ
  next = rows_in work₀ starts values c n

  pub going_none : part work₀ base n ≡ replicate n 0 → Going work₀ work₀ starts values c roots q n base 0 0 0 0 roots q
  going_none clear = record {
    frames = frames_none fit;
    frames_room = omega (arith, fresh_le (part work₀ base n), part_length work₀ base n (omega (arith, fit.room)));
    stack_room = omega (arith, fresh_le (part work₀ base n), part_length work₀ base n (omega (arith, fit.room)));
    stage = at_first;
    holds = holds_none work₀ base n clear;
    framed = framed_none (part work₀ (base + n) n) [];
    goes = λ fin r. subst (λ ts. Runs next ts at_first fin) (tasks_none fit work₀) r;
  }

  module _ {work : List ℕ} {d sp low e at end : ℕ} (g : Going work₀ work starts values c roots q n base d sp low e at end) where
    abbrev F : Frames work₀ work starts values c roots q n base (6 * n) d e at end
    F = g.frames

    abbrev numbers : List ℕ
    numbers = part work base n

    room_here : base + 6 * n ≤ length work
    room_here = room_now fit F

    -- the next entry of the row
    abbrev v : ℕ
    v = get_or work (at + e) 0

    module _ (h : e < end) where
      v_low : v < n
      v_low = entry_low fit F h

      number_is : get_or work (base + v) 0 ≡ number_of n g.stage v
      number_is = part_at work base n v v_low ∙ g.holds.numbers v v_low

      -- it is seen, and passed over
      pub going_past : {low' : ℕ} → (get_or work (base + v) 0 ≡ 0 → ⊥) → low' ≡ min low (get_or work (base + v) 0) → Going work₀ work starts values c roots q n base d sp low' (e + 1) at end
      going_past {low'} old least = record {
        frames = frames_past fit F h;
        frames_room = g.frames_room;
        stack_room = g.stack_room;
        stage = lowered v g.stage;
        holds = holds_past g.holds v (get_or work (base + v) 0) low' number_is old least;
        framed = g.framed;
        goes = λ fin r. g.goes fin (subst (λ ts. Runs next ts g.stage fin) (sym (tasks_try fit F h)) (pass (number_old n v g.stage (λ z. old (number_is ∙ z))) r));
      }

      -- it is not
      module _ (new : get_or work (base + v) 0 ≡ 0) where
        fewer : (number : ℕ) → 0 < number → suc (fresh (set numbers v number)) ≡ fresh numbers
        fewer number p = fresh_mark numbers v number (omega (arith, v_low, region_long fit F base (omega arith))) (sym (part_at work base n v v_low) ∙ new) p

        pub space : (d < n) × (sp < n)
        space = (omega (arith, g.frames_room, fewer 1 (omega arith)), omega (arith, g.stack_room, fewer 1 (omega arith)))

        unseen : among v (seen_by g.stage) ≡ false
        unseen = number_new n v g.stage (omega (arith, v_low)) (sym number_is ∙ new)

        off : among v g.stage.stack ≡ false
        off = or_false_left (among v g.stage.stack) (among v (gone g.stage)) (sym (among_append v g.stage.stack (gone g.stage)) ∙ unseen)

        out : among v (gone g.stage) ≡ false
        out = or_false_right (among v g.stage.stack) (among v (gone g.stage)) (sym (among_append v g.stage.stack (gone g.stage)) ∙ unseen)

        -- v is entered
        module _ {work' : List ℕ} (o : work' ≡ pushed work base n d sp v (e + 1) low (sp + 1)) where
          d_low : d < n
          d_low = space.0

          sp_low : sp < n
          sp_low = space.1

          kept_in : Kept work work' base (6 * n)
          kept_in = subst (λ z. Kept work z base (6 * n)) (sym o) (pushed_kept work base n d sp v (e + 1) low (sp + 1) room_here v_low d_low sp_low)

          vertices_now : part work' (base + n) n ≡ set (part work (base + n) n) d v
          vertices_now = ap (λ z. part z (base + n) n) o ∙ pushed_frames work base n d sp v (e + 1) low (sp + 1) room_here v_low d_low sp_low

          back_now : part work' (base + 2 * n) n ≡ set (part work (base + 2 * n) n) d (e + 1)
          back_now = ap (λ z. part z (base + 2 * n) n) o ∙ pushed_back work base n d sp v (e + 1) low (sp + 1) room_here v_low d_low sp_low

          lows_now : part work' (base + 3 * n) n ≡ set (part work (base + 3 * n) n) d low
          lows_now = ap (λ z. part z (base + 3 * n) n) o ∙ pushed_lows work base n d sp v (e + 1) low (sp + 1) room_here v_low d_low sp_low

          pub fewer_now : suc (fresh (part work' base n)) ≡ fresh numbers
          fewer_now =
              ap (λ z. suc (fresh (part z base n))) o
              ∙ ap (λ z. suc (fresh z)) (pushed_numbers work base n d sp v (e + 1) low (sp + 1) room_here v_low d_low sp_low)
              ∙ fewer (sp + 1) (omega arith)

          pub going_in : Going work₀ work' starts values c roots q n base (d + 1) (sp + 1) (sp + 1) (get_or work' (starts + v) 0) values (get_or work' (starts + v + 1) 0)
          going_in = record {
            frames = frames_in fit F h low d_low kept_in vertices_now back_now lows_now;
            frames_room = omega (arith, g.frames_room, fewer_now);
            stack_room = omega (arith, g.stack_room, fewer_now);
            stage = opened v g.stage;
            holds = holds_in g.holds d v (e + 1) (sp + 1) room_here v_low d_low sp_low refl off out o;
            framed = rw (vertices_now, add-one d) (framed_more g.framed v off (omega (arith, d_low, region_long fit F (base + n) (omega arith))));
            goes = λ fin r.
                g.goes fin (subst (λ ts. Runs next ts g.stage fin) (sym (tasks_try fit F h))
                (go_in unseen (subst (λ z. Runs next (tries (next v) ++ (finish v z ∷ tasks_in work₀ work starts values c roots q n base d (e + 1))) (opened v g.stage) fin) g.holds.low_is
                (subst (λ ts. Runs next ts (opened v g.stage) fin) (tasks_in_lem fit F h low d_low kept_in vertices_now back_now lows_now) r))));
          }

    -- the row is over, and the vertex of the top frame is left
    module _ (h : end ≤ e) (f : ℕ) (d_is : d ≡ suc f) where
      f_low : f < n
      f_low = omega (arith, g.frames_room)

      sp_most : sp ≤ n
      sp_most = omega (arith, g.stack_room)

      framed_top : Framed (part work (base + n) n) g.stage.stack (suc f)
      framed_top = rw d_is at g.framed

      pub top_fit : SettleFit work base n f sp
      top_fit = settle_fit room_here f_low sp_most g.holds framed_top fit.few

      module _ {work' : List ℕ} {r : ℕ} (settled : Settled work work' base n f sp low r) where
        abbrev saved : ℕ
        saved = get_or (part work (base + 3 * n) n) f 0

        left : (low' : ℕ) → low' ≡ min saved low → Left work work' base n f sp r (get_or (part work (base + n) n) f 0) saved low' g.stage
        left low' least = left_settled room_here f_low sp_most g.holds framed_top saved least settled

        any_left : Left work work' base n f sp r (get_or (part work (base + n) n) f 0) saved (min saved low) g.stage
        any_left = left (min saved low) refl

        pub kept_out : Kept work work' base (6 * n)
        kept_out = any_left.kept

        pub no_more : fresh (part work' base n) ≤ fresh numbers
        no_more = any_left.fewer

        pub frames_same : (b : ℕ) → base + n ≤ b → b + n ≤ base + 5 * n → part work' b n ≡ part work b n
        frames_same b = any_left.between b n

        saved_is : get_or work' (base + 3 * n + f) 0 ≡ saved
        saved_is = part_at work' (base + 3 * n) n f f_low ∙ ap (λ z. get_or z f 0) (frames_same (base + 3 * n) (omega arith) (omega arith))

        pub going_out :
            {low' e' at' end' : ℕ} → low' ≡ min (get_or work' (base + 3 * n + f) 0) low → e' ≡ get_or work' (base + 2 * n + f) 0 → e' < 2 ^ 32 → at' ≡ row_place roots values f
            → end' ≡ row_end (part work' starts (n + 1)) q (part work' (base + n) n) f
            → Going work₀ work' starts values c roots q n base f r low' e' at' end'
        going_out {low'} {e'} {at'} {end'} least back_is small at_is end_is =
            let l = left low' (least ∙ ap (λ z. min z low) saved_is) in
            let d-most : d ≤ n = omega (arith, g.frames_room) in
            let vertices-same = frames_same (base + n) (omega arith) (omega arith) in
            let back-same = frames_same (base + 2 * n) (omega arith) (omega arith) in
            let lows-same = frames_same (base + 3 * n) (omega arith) (omega arith) in
            record {
              frames = frames_out fit F h f d_is d-most kept_out vertices-same back-same lows-same small at_is end_is;
              frames_room = omega (arith, g.frames_room, l.fewer);
              stack_room = omega (arith, g.stack_room, l.fewer, l.lower);
              stage = leave (get_or (part work (base + n) n) f 0) saved g.stage;
              holds = l.holds;
              framed = rw vertices-same l.framed;
              goes = λ fin r.
                  g.goes fin (subst (λ ts. Runs next ts g.stage fin) (sym (tasks_finish fit F h f d_is))
                  (go_out (subst (λ ts. Runs next ts (leave (get_or (part work (base + n) n) f 0) saved g.stage) fin)
                  (tasks_out fit F h f d_is d-most kept_out vertices-same back-same lows-same back_is) r)));
            }
