-- The traversal on its way. Whatever the machine comes to from the tasks of the frames, it comes to from the roots: each turn is one step of the machine.
-- Depth, what is out and what is unseen never come to more than n together, so every region has room.
use mathlib.Core.Path.{◌≡◌, sym, ap, ap₂, ◌∙◌, subst, subst₂}
use mathlib.Core.List.{List}
use Prim.Native.Nat.{ℕ, suc, ◌+◌, ◌*◌, ◌^◌, min, ◌≤◌, ◌<◌}
use native.Mathlib.Decide.{ℕ_discrete}
use native.Mathlib.Nat.{pos_of_ne-zero}
use native.Mathlib.Omega.{arith}
use lib.ListN.{length, get_or, set, length-set}
use lib.Seq.{get_or-set_same, get_or-set_other}
use Rattle.lineage.specs.Lists.{part}
use Rattle.laws.proofs.Parts.{part_length, part_at}
use Rattle.numbers.specs.Regions.{Kept}
use Rattle.build_rows.specs.Rows.{rows_in}
use Rattle.build_traversal.specs.Frames.{row_place, row_end}
use Rattle.build_traversal.specs.Traversed.{entered, finished_at}
use Rattle.build_traversal.specs.Fit.{TraverseFit}
use Rattle.build_traversal.proofs.Tasks.{tries}
use Rattle.build_traversal.proofs.Fresh.{fresh, fresh_le, fresh_mark, fresh_no_more}
use Rattle.build_traversal.proofs.Regions.{entered_kept, entered_marks, entered_vertices, entered_back, entered_numbers, entered_out, entered_m, entered_e, finished_kept, finished_marks, finished_frames, finished_out, finished_m, finished_e}
use Rattle.build_traversal.proofs.Frames.{Frames, tasks_in, frames_none, tasks_none, room_now, region_long, entry_low, tasks_try, frames_past, frames_in, tasks_in_lem, tasks_finish, top_vertex, frames_out, tasks_out}
use Rattle.build_traversal.proofs.Machine.{State, entered as entered_state, left, Runs, pass, go_in, go_out}

-- what memory tells of the machine's state: the marks, the first k that are out, and the tables
abbrev pub state_of : List ℕ → ℕ → ℕ → ℕ → ℕ → State
state_of work base n k s =
    record { marks = part work base n; out = part work (base + 4 * n) k; m = part work (base + 5 * n) n; e = part work (base + 6 * n) n; s = s }

-- k vertices are out; neither s nor what is kept in the frames is 0
pub record Going (work₀ work : List ℕ) (starts values c roots q n base d k s e at end : ℕ) : Type 0 where
  pub frames : Frames work₀ work starts values c roots q n base (7 * n) d e at end
  pub room : d + k + fresh (part work base n) ≤ n
  pub some : 0 < s
  pub numbers_some : (i : ℕ) → i < d → 0 < get_or (part work (base + 3 * n) n) i 0
  pub goes :
      (fin : State) → Runs n (rows_in work₀ starts values c n) (tasks_in work₀ work starts values c roots q n base d e) (state_of work base n k s) fin
      → Runs n (rows_in work₀ starts values c n) (tries (part work₀ roots q)) (state_of work₀ base n 0 1) fin

module _ {work₀ : List ℕ} {starts values c roots q n base : ℕ} (fit : TraverseFit work₀ starts values c roots q n base (7 * n)) where
  abbrev next : ℕ → List ℕ
  next = rows_in work₀ starts values c n

  pub going_none : Going work₀ work₀ starts values c roots q n base 0 0 1 0 roots q
  going_none = record {
    frames = frames_none fit;
    room = omega (arith, fresh_le (part work₀ base n), part_length work₀ base n (omega (arith, fit.room)));
    some = omega arith;
    numbers_some = λ i h. absurd (omega arith);
    goes = λ fin r. subst (λ ts. Runs n next ts (state_of work₀ base n 0 1) fin) (tasks_none fit work₀) r;
  }

  module _ {work : List ℕ} {d k s e at end : ℕ} (g : Going work₀ work starts values c roots q n base d k s e at end) where
    abbrev F : Frames work₀ work starts values c roots q n base (7 * n) d e at end
    F = g.frames

    abbrev marks : List ℕ
    marks = part work base n

    abbrev numbers : List ℕ
    numbers = part work (base + 3 * n) n

    room_here : base + 7 * n ≤ length work
    room_here = room_now fit F

    long : (b : ℕ) → b + n ≤ base + 7 * n → length (part work b n) ≡ n
    long = region_long fit F

    out_long : k ≤ n → length (part work (base + 4 * n) k) ≡ k
    out_long h = part_length work (base + 4 * n) k (omega (arith, room_here))

    -- the next entry of the row
    abbrev v : ℕ
    v = get_or work (at + e) 0

    module _ (h : e < end) where
      mark_is : get_or work (base + v) 0 ≡ get_or marks v 0
      mark_is = part_at work base n v (entry_low fit F h)

      -- it is seen, and passed over
      pub going_past : {s' : ℕ} → (get_or work (base + v) 0 ≡ 0 → ⊥) → s' ≡ min s (get_or work (base + v) 0) → Going work₀ work starts values c roots q n base d k s' (e + 1) at end
      going_past {s'} seen least = record {
        frames = frames_past fit F h;
        room = g.room;
        some = omega (arith, least, g.some, pos_of_ne-zero seen);
        numbers_some = g.numbers_some;
        goes = λ fin r.
            g.goes fin (subst (λ ts. Runs n next ts (state_of work base n k s) fin) (sym (tasks_try fit F h))
            (pass (λ z. seen (mark_is ∙ z)) (subst (λ z. Runs n next (tasks_in work₀ work starts values c roots q n base d (e + 1)) (state_of work base n k z) fin) (least ∙ ap (min s) mark_is) r)));
      }

      -- it is not
      module _ (new : get_or work (base + v) 0 ≡ 0) where
        v_low : v < n
        v_low = entry_low fit F h

        fewer : suc (fresh (set marks v 1)) ≡ fresh marks
        fewer = fresh_mark marks v 1 (omega (arith, v_low, long base (omega arith))) (sym mark_is ∙ new) (omega arith)

        pub space : d + k < n
        space = omega (arith, g.room, fewer)

        -- v is entered
        module _ {work' : List ℕ} (o : work' ≡ entered work base n d k v (e + 1) s) where
          d_low : d < n
          d_low = omega (arith, space)

          k_low : k < n
          k_low = omega (arith, space)

          kept_in : Kept work work' base (7 * n)
          kept_in = subst (λ z. Kept work z base (7 * n)) (sym o) (entered_kept work base n d k v (e + 1) s room_here v_low d_low k_low)

          marks_now : part work' base n ≡ set marks v 1
          marks_now = ap (λ z. part z base n) o ∙ entered_marks work base n d k v (e + 1) s room_here v_low d_low k_low

          vertices_now : part work' (base + n) n ≡ set (part work (base + n) n) d v
          vertices_now = ap (λ z. part z (base + n) n) o ∙ entered_vertices work base n d k v (e + 1) s room_here v_low d_low k_low

          back_now : part work' (base + 2 * n) n ≡ set (part work (base + 2 * n) n) d (e + 1)
          back_now = ap (λ z. part z (base + 2 * n) n) o ∙ entered_back work base n d k v (e + 1) s room_here v_low d_low k_low

          numbers_now : part work' (base + 3 * n) n ≡ set numbers d s
          numbers_now = ap (λ z. part z (base + 3 * n) n) o ∙ entered_numbers work base n d k v (e + 1) s room_here v_low d_low k_low

          state_now : state_of work' base n k n ≡ entered_state n v (state_of work base n k s)
          state_now =
              let more : k + 1 ≡ suc (length (part work (base + 4 * n) k)) = omega (arith, out_long (omega (arith, k_low))) in
              λ i. record {
                marks = marks_now i;
                out = (ap (λ z. part z (base + 4 * n) k) o ∙ entered_out work base n d k v (e + 1) s room_here v_low d_low k_low) i;
                m = (ap (λ z. part z (base + 5 * n) n) o ∙ entered_m work base n d k v (e + 1) s room_here v_low d_low k_low ∙ ap (set (part work (base + 5 * n) n) v) more) i;
                e = (ap (λ z. part z (base + 6 * n) n) o ∙ entered_e work base n d k v (e + 1) s room_here v_low d_low k_low) i;
                s = n;
              }

          number_now : (i : ℕ) → i < d + 1 → Dec (i ≡ d) → 0 < get_or (part work' (base + 3 * n) n) i 0
          number_now i l (yes z) = rw (numbers_now, z, get_or-set_same numbers d s 0 (omega (arith, d_low, long (base + 3 * n) (omega arith)))) g.some
          number_now i l (no z) = rw (numbers_now, get_or-set_other numbers d i s 0 z) (g.numbers_some i (omega arith))

          pub fewer_now : suc (fresh (part work' base n)) ≡ fresh marks
          fewer_now = ap (λ z. suc (fresh z)) marks_now ∙ fewer

          pub going_in : Going work₀ work' starts values c roots q n base (d + 1) k n (get_or work' (starts + v) 0) values (get_or work' (starts + v + 1) 0)
          going_in = record {
            frames = frames_in fit F h s d_low kept_in vertices_now back_now numbers_now;
            room = omega (arith, g.room, fewer_now);
            some = omega (arith, v_low);
            numbers_some = λ i l. number_now i l (ℕ_discrete i d);
            goes = λ fin r.
                g.goes fin (subst (λ ts. Runs n next ts (state_of work base n k s) fin) (sym (tasks_try fit F h))
                (go_in (sym mark_is ∙ new) (subst₂ (λ ts z. Runs n next ts z fin) (tasks_in_lem fit F h s d_low kept_in vertices_now back_now numbers_now) state_now r)));
          }

    -- the row is over, and the vertex of the top frame is left
    module _ (h : end ≤ e) (f : ℕ) (d_is : d ≡ suc f) where
      abbrev top : ℕ
      top = get_or (part work (base + n) n) f 0

      f_low : f < n
      f_low = omega (arith, g.room)

      pub leave_fits : (f + k < n) × (get_or work (base + n + f) 0 < n)
      leave_fits = (omega (arith, g.room), omega (arith, part_at work (base + n) n f f_low, top_vertex fit F h f d_is))

      top_is : get_or work (base + n + f) 0 ≡ top
      top_is = part_at work (base + n) n f f_low

      module _ {work' : List ℕ} {s₁ : ℕ} (least : s₁ ≡ min s (k + 1)) (o : work' ≡ finished_at work base n k (get_or work (base + n + f) 0) s₁) where
        k_room : k < n
        k_room = omega (arith, leave_fits)

        top_low : top < n
        top_low = top_vertex fit F h f d_is

        is : work' ≡ finished_at work base n k top s₁
        is = o ∙ ap (λ z. finished_at work base n k z s₁) top_is

        pub kept_out : Kept work work' base (7 * n)
        kept_out = subst (λ z. Kept work z base (7 * n)) (sym is) (finished_kept work base n k top s₁ room_here top_low k_room)

        pub frames_same : (b : ℕ) → base + n ≤ b → b + n ≤ base + 4 * n → part work' b n ≡ part work b n
        frames_same b l m = ap (λ z. part z b n) is ∙ finished_frames work base n k top s₁ room_here top_low k_room b l m

        marks_out : part work' base n ≡ set marks top s₁
        marks_out = ap (λ z. part z base n) is ∙ finished_marks work base n k top s₁ room_here top_low k_room

        pub no_more : fresh (part work' base n) ≤ fresh marks
        no_more =
            rw marks_out (fresh_no_more marks (set marks top s₁) (length-set marks top s₁) (λ u l z. zero_was u z (ℕ_discrete u top)))
          where
            zero_was : (u : ℕ) → get_or (set marks top s₁) u 0 ≡ 0 → Dec (u ≡ top) → get_or marks u 0 ≡ 0
            zero_was u z (yes x) = absurd (omega (arith, rw (x, get_or-set_same marks top s₁ 0 (omega (arith, top_low, long base (omega arith)))) at z, least, g.some))
            zero_was u z (no x) = rw (get_or-set_other marks top u s₁ 0 x) at z

        pub number_is : get_or work' (base + 3 * n + f) 0 ≡ get_or numbers f 0
        number_is = part_at work' (base + 3 * n) n f f_low ∙ ap (λ z. get_or z f 0) (frames_same (base + 3 * n) (omega arith) (omega arith))

        state_out : {s' : ℕ} → s' ≡ min (get_or work' (base + 3 * n + f) 0) s₁ → state_of work' base n (k + 1) s' ≡ left top (get_or numbers f 0) (state_of work base n k s)
        state_out {s'} lesser =
            let more : k + 1 ≡ suc (length (part work (base + 4 * n) k)) = omega (arith, out_long (omega (arith, k_room))) in
            let own : s₁ ≡ min s (suc (length (part work (base + 4 * n) k))) = least ∙ ap (min s) more in
            λ i. record {
              marks = (marks_out ∙ ap (set marks top) own) i;
              out = (ap (λ z. part z (base + 4 * n) (k + 1)) is ∙ finished_out work base n k top s₁ room_here top_low k_room) i;
              m = (ap (λ z. part z (base + 5 * n) n) is ∙ finished_m work base n k top s₁ room_here top_low k_room) i;
              e = (ap (λ z. part z (base + 6 * n) n) is ∙ finished_e work base n k top s₁ room_here top_low k_room ∙ ap (set (part work (base + 6 * n) n) top) more) i;
              s = (lesser ∙ ap₂ min number_is own) i;
            }

        pub going_out :
            {s' e' at' end' : ℕ} → s' ≡ min (get_or work' (base + 3 * n + f) 0) s₁ → e' ≡ get_or work' (base + 2 * n + f) 0 → e' < 2 ^ 32 → at' ≡ row_place roots values f
            → end' ≡ row_end (part work' starts (n + 1)) q (part work' (base + n) n) f
            → Going work₀ work' starts values c roots q n base f (k + 1) s' e' at' end'
        going_out {s'} {e'} {at'} {end'} lesser back_is small at_is end_is =
            let d-most : d ≤ n = omega (arith, g.room) in
            let vertices-same = frames_same (base + n) (omega arith) (omega arith) in
            let back-same = frames_same (base + 2 * n) (omega arith) (omega arith) in
            let numbers-same = frames_same (base + 3 * n) (omega arith) (omega arith) in
            record {
              frames = frames_out fit F h f d_is d-most kept_out vertices-same back-same numbers-same small at_is end_is;
              room = omega (arith, g.room, no_more);
              some = omega (arith, lesser, least, g.some, number_is, g.numbers_some f (omega arith));
              numbers_some = λ i l. rw numbers-same (g.numbers_some i (omega arith));
              goes = λ fin r.
                  g.goes fin (subst (λ ts. Runs n next ts (state_of work base n k s) fin) (sym (tasks_finish fit F h f d_is))
                  (go_out (subst₂ (λ ts z. Runs n next ts z fin) (tasks_out fit F h f d_is d-most kept_out vertices-same back-same numbers-same back_is) (state_out lesser) r)));
            }

    pub held : d + k ≤ n
    held = omega (arith, g.room)
