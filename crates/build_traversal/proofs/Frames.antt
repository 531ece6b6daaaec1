-- The frames of a traversal on its way, whatever else it does: the row at the top and what is left of it, the tasks that the frames stand for, and what is left
-- to do. Entering a vertex opens a frame, whose row is that vertex's; leaving one comes back to the row below.
use mathlib.Core.Path.{◌≡◌, refl, sym, ap, ◌∙◌}
use mathlib.Core.List.{List, [], ◌∷◌, ◌++◌}
use Prim.Native.Nat.{ℕ, suc, ◌+◌, ◌*◌, ◌-◌, ◌^◌, ◌≤◌, ◌<◌}
use native.Mathlib.Decide.{ℕ_discrete}
use native.Mathlib.Nat.{mul-le-mul_right}
use native.Mathlib.Numerals.{add-one}
use native.Mathlib.Omega.{arith}
use lib.ListN.{length, get_or, set, take, drop}
use lib.Seq.{get_or-set_same, get_or-set_other}
use Rattle.lineage.specs.Lists.{part}
use Rattle.lineage.specs.Stored.{row_at}
use Rattle.laws.proofs.Parts.{part_length, part_at}
use Rattle.laws.proofs.Laid.{start_low}
use Rattle.numbers.specs.Regions.{Kept}
use Rattle.numbers.proofs.Regions.{slice_part, kept_same, kept_then, kept_apart, read_at}
use Rattle.build_rows.specs.Rows.{rows_in}
use Rattle.build_traversal.specs.Frames.{row_place, row_end}
use Rattle.build_traversal.specs.Fit.{TraverseFit}
use Rattle.build_traversal.proofs.Fresh.{fresh}
use Rattle.build_traversal.proofs.Tasks.{Task, try, finish, tries, row_list, under, tasks, tasks_first, tasks_more, tasks_next, tasks_over}
use Rattle.build_traversal.proofs.Depth.{roots_long, entries_long, row_low, row_at_lem, row_inside, row_long, row_few, end_low}

-- d frames are open; of the row at the top, which lies at `at`, the entries from e to `end` are left
pub record Frames (work₀ work : List ℕ) (starts values c roots q n base size d e at end : ℕ) : Type 0 where
  pub kept : Kept work₀ work base size
  pub at_is : at ≡ row_place roots values d
  pub end_is : end ≡ row_end (part work₀ starts (n + 1)) q (part work (base + n) n) d
  pub vertices : (i : ℕ) → i < d → get_or (part work (base + n) n) i 0 < n
  pub fits : e < 2 ^ 32

-- the tasks of the frames, from place e of the row at the top
abbrev pub tasks_in : List ℕ → List ℕ → ℕ → ℕ → ℕ → ℕ → ℕ → ℕ → ℕ → ℕ → ℕ → List Task
tasks_in work₀ work starts values c roots q n base d e =
    tasks (part work₀ starts (n + 1)) (part work₀ values c) (part work₀ roots q) q (part work (base + n) n) (part work (base + 2 * n) n) (part work (base + 3 * n) n) d e

-- what is left to do: a turn enters a vertex, leaves one, or goes on in the row
abbrev pub to_go : List ℕ → ℕ → ℕ → ℕ → ℕ → ℕ → ℕ → ℕ
to_go work base n c q d e = (2 * fresh (part work base n) + d) * (c + q + 2) + (c + q + 1 - e)

lower : (a b x e y : ℕ) → a < b → a * (x + 2) + (x + 1 - e) < b * (x + 2) + y
lower a b x e y h = omega (arith, mul-le-mul_right (x + 2) h)

module _ (work work' : List ℕ) (base n c q d e : ℕ) where
  pub in_less : suc (fresh (part work' base n)) ≡ fresh (part work base n) → (e' : ℕ) → to_go work' base n c q (d + 1) e' < to_go work base n c q d e
  in_less fewer e' = lower (2 * fresh (part work' base n) + (d + 1)) (2 * fresh (part work base n) + d) (c + q) e' (c + q + 1 - e) (omega arith)

  pub out_less : (f : ℕ) → d ≡ suc f → fresh (part work' base n) ≤ fresh (part work base n) → (e' : ℕ) → to_go work' base n c q f e' < to_go work base n c q d e
  out_less f d_is fewer e' = lower (2 * fresh (part work' base n) + f) (2 * fresh (part work base n) + d) (c + q) e' (c + q + 1 - e) (omega arith)

module _ {work₀ : List ℕ} {starts values c roots q n base size : ℕ} (fit : TraverseFit work₀ starts values c roots q n base size) where
  abbrev S : List ℕ
  S = part work₀ starts (n + 1)

  abbrev entries : List ℕ
  entries = part work₀ values c

  abbrev R : List ℕ
  R = part work₀ roots q

  -- none is open
  pub frames_none : Frames work₀ work₀ starts values c roots q n base size 0 0 roots q
  frames_none = record { kept = kept_same work₀ base size; at_is = refl; end_is = refl; vertices = λ i h. absurd (omega arith); fits = omega arith }

  pub tasks_none : (work : List ℕ) → tasks_in work₀ work starts values c roots q n base 0 0 ≡ tries R
  tasks_none work = tasks_first S entries R q (part work (base + n) n) (part work (base + 2 * n) n) (part work (base + 3 * n) n) (roots_long fit)

  module _ {work : List ℕ} {d e at end : ℕ} (F : Frames work₀ work starts values c roots q n base size d e at end) where
    abbrev vertices : List ℕ
    vertices = part work (base + n) n

    abbrev back : List ℕ
    back = part work (base + 2 * n) n

    abbrev numbers : List ℕ
    numbers = part work (base + 3 * n) n

    pub room_now : base + size ≤ length work
    room_now = omega (arith, fit.room, F.kept.long)

    pub region_long : (b : ℕ) → b + n ≤ base + size → length (part work b n) ≡ n
    region_long b h = part_length work b n (omega (arith, room_now))

    frame_in : (b : ℕ) → d < n → b + n ≤ base + 4 * n → d < length (part work b n)
    frame_in b h l = omega (arith, region_long b (omega (arith, fit.frames_room)))

    -- the next entry of the row
    abbrev v : ℕ
    v = get_or work (at + e) 0

    module _ (h : e < end) where
      below_end : row_end S q vertices d ≤ length (row_list R entries d)
      below_end = end_low fit vertices d F.vertices

      there : e < length (row_list R entries d)
      there = omega (arith, below_end, F.end_is)

      pub entry_inside : at + e < length work
      entry_inside = row_inside fit F.kept d at e F.at_is there

      v_is : v ≡ get_or (row_list R entries d) e 0
      v_is = row_at_lem fit F.kept d at e F.at_is there

      pub entry_low : v < n
      entry_low = rw v_is (row_low fit d e there)

      pub next_fits : e + 1 < 2 ^ 32
      next_fits = omega (arith, there, row_few fit d)

      -- it is tried first
      pub tasks_try : tasks_in work₀ work starts values c roots q n base d e ≡ try v ∷ tasks_in work₀ work starts values c roots q n base d (e + 1)
      tasks_try =
          tasks_next S entries R q vertices back numbers d e (omega (arith, F.end_is)) below_end
          ∙ ap (λ v. try v ∷ tasks S entries R q vertices back numbers d (e + 1)) (sym v_is)

      -- and passed over
      pub frames_past : Frames work₀ work starts values c roots q n base size d (e + 1) at end
      frames_past = record { kept = F.kept; at_is = F.at_is; end_is = F.end_is; vertices = F.vertices; fits = next_fits }

      pub past_less : to_go work base n c q d (e + 1) < to_go work base n c q d e
      past_less = omega (arith, there, row_long fit d)

      -- or a frame is opened for it
      module _
          {work' : List ℕ} (number : ℕ) (d_low : d < n) (K : Kept work work' base size) (vertices_now : part work' (base + n) n ≡ set vertices d v)
          (back_now : part work' (base + 2 * n) n ≡ set back d (e + 1)) (numbers_now : part work' (base + 3 * n) n ≡ set numbers d number)
        where
          kept_now : Kept work₀ work' base size
          kept_now = kept_then F.kept K

          start_is : get_or work' (starts + v) 0 ≡ get_or S v 0
          start_is = read_at fit.starts_there kept_now v (omega (arith, entry_low))

          end_now : get_or work' (starts + v + 1) 0 ≡ get_or S (suc v) 0
          end_now =
              let z : starts + v + 1 ≡ starts + suc v = omega arith in
              rw z (read_at fit.starts_there kept_now (suc v) (omega (arith, entry_low)))

          top_now : get_or (part work' (base + n) n) d 0 ≡ v
          top_now = ap (λ z. get_or z d 0) vertices_now ∙ get_or-set_same vertices d v 0 (frame_in (base + n) d_low (omega arith))

          vertex_now : (i : ℕ) → i ≤ d → Dec (i ≡ d) → get_or (part work' (base + n) n) i 0 < n
          vertex_now i l (yes z) = rw (z, top_now) entry_low
          vertex_now i l (no z) = rw (vertices_now, get_or-set_other vertices d i v 0 z) (F.vertices i (omega arith))

          pub frames_in : Frames work₀ work' starts values c roots q n base size (d + 1) (get_or work' (starts + v) 0) values (get_or work' (starts + v + 1) 0)
          frames_in = record {
            kept = kept_now;
            at_is = rw (add-one d) refl;
            end_is = rw (add-one d) (end_now ∙ ap (λ z. get_or S (suc z) 0) (sym top_now));
            vertices = λ i l. vertex_now i (omega arith) (ℕ_discrete i d);
            fits = rw start_is (omega (arith, start_low fit.laid v (omega (arith, entry_low)), entries_long fit, fit.few_values));
          }

          pub tasks_in_lem :
              tasks_in work₀ work' starts values c roots q n base (d + 1) (get_or work' (starts + v) 0)
              ≡ tries (rows_in work₀ starts values c n v) ++ (finish v number ∷ tasks_in work₀ work starts values c roots q n base d (e + 1))
          unfolding row_at
          tasks_in_lem =
              rw (vertices_now, back_now, numbers_now, start_is, add-one d)
              (tasks_more S entries R q vertices back numbers d v (e + 1) number (get_or S v 0) (frame_in (base + n) d_low (omega arith)) (frame_in (base + 2 * n) d_low (omega arith))
              (frame_in (base + 3 * n) d_low (omega arith)))

    -- the row is over, and the vertex of the top frame is to finish
    module _ (h : end ≤ e) (f : ℕ) (d_is : d ≡ suc f) where
      pub tasks_finish :
          tasks_in work₀ work starts values c roots q n base d e
          ≡ finish (get_or vertices f 0) (get_or numbers f 0) ∷ tasks_in work₀ work starts values c roots q n base f (get_or back f 0)
      tasks_finish = tasks_over S entries R q vertices back numbers d e (omega (arith, F.end_is)) ∙ ap (under S entries R q vertices back numbers) d_is

      pub top_vertex : get_or vertices f 0 < n
      top_vertex = F.vertices f (omega arith)

      -- it is left, and the frames stay as they were
      module _
          {work' : List ℕ} (d_low : d ≤ n) (K : Kept work work' base size) (vertices-same : part work' (base + n) n ≡ vertices)
          (back-same : part work' (base + 2 * n) n ≡ back) (numbers-same : part work' (base + 3 * n) n ≡ numbers)
        where
          kept_left : Kept work₀ work' base size
          kept_left = kept_then F.kept K

          -- what the end of the row below asks of memory
          pub end_there : (starts + (n + 1) ≤ length work') × (base + n + n ≤ length work')
          end_there = (omega (arith, fit.starts_there.fits, kept_left.long), omega (arith, fit.room, fit.frames_room, kept_left.long))

          pub end_fits : {a b : ℕ} → a ≡ starts + (n + 1) → b ≡ base + n + n
              → (f ≤ length (take (b - (base + n)) (drop (base + n) work')))
              × ((i : ℕ) → i < f → get_or (take (b - (base + n)) (drop (base + n) work')) i 0 + 1 < length (take (a - starts) (drop starts work')))
          end_fits ea eb =
              let P = slice_part work' starts (n + 1) ea end_there.0 in
              let Q = slice_part work' (base + n) n eb end_there.1 in
              (omega (arith, Q.long), (λ i l. omega (arith, P.long, ap (λ z. get_or z i 0) (Q.is ∙ vertices-same), F.vertices i (omega arith))))

          pub frames_out :
              {e' at' end' : ℕ} → e' < 2 ^ 32 → at' ≡ row_place roots values f → end' ≡ row_end (part work' starts (n + 1)) q (part work' (base + n) n) f
              → Frames work₀ work' starts values c roots q n base size f e' at' end'
          frames_out small at_is end_is = record {
            kept = kept_left;
            at_is = at_is;
            end_is = end_is ∙ ap (λ z. row_end z q (part work' (base + n) n) f) (kept_apart kept_left fit.starts_there.apart);
            vertices = λ i l. rw vertices-same (F.vertices i (omega arith));
            fits = small;
          }

          pub tasks_out :
              {e' : ℕ} → e' ≡ get_or work' (base + 2 * n + f) 0
              → tasks_in work₀ work' starts values c roots q n base f e' ≡ tasks_in work₀ work starts values c roots q n base f (get_or back f 0)
          tasks_out is =
              rw (vertices-same, back-same, numbers-same)
              (ap (tasks S entries R q vertices back numbers f) (is ∙ part_at work' (base + 2 * n) n f (omega arith) ∙ ap (λ z. get_or z f 0) back-same))

    -- none is open, and no root is left
    pub tasks_end : end ≤ e → d ≡ 0 → tasks_in work₀ work starts values c roots q n base d e ≡ []
    tasks_end h z = tasks_over S entries R q vertices back numbers d e (omega (arith, F.end_is)) ∙ ap (under S entries R q vertices back numbers) z
