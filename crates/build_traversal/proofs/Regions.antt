-- Where the row at a depth lies and ends, and what opening a frame, entering a vertex and leaving one do to each region.
use mathlib.Core.Path.{◌≡◌, refl, ap, ap₂, ◌∙◌}
use mathlib.Core.List.{List, [], ◌∷◌, ◌++◌}
use Prim.Native.Nat.{ℕ, zero, suc, ◌+◌, ◌*◌, ◌-◌, ◌≤◌, ◌<◌}
use native.Mathlib.Omega.{arith}
use native.Mathlib.Numerals.{add-one}
use lib.ListN.{length, get_or, set, take, drop, length-set}
use Rattle.lineage.specs.Lists.{part}
use Rattle.numbers.specs.Regions.{Kept}
use Rattle.numbers.proofs.Regions.{part_set, part_over, part_under, part_longer, slice_is, kept_set, kept_then, kept_wider}
use Rattle.build_traversal.specs.Frames.{framed, row_end}
use Rattle.build_traversal.specs.Traversed.{entered, finished_at}

-- above the first frame the row is that of the vertex in the frame below
pub end_above : (starts vertices : List ℕ) (q d : ℕ) → (d ≡ 0 → ⊥) → get_or starts (get_or vertices (d - 1) 0 + 1) 0 ≡ row_end starts q vertices d
end_above starts vertices q zero h = absurd (h refl)
end_above starts vertices q (suc d) h = let below : suc d - 1 ≡ d = omega arith in rw (below, add-one) refl

-- the end of a row, read in two slices of work memory
module _ (work : List ℕ) (starts base n q d : ℕ) where
  pub end_sliced : {a b : ℕ} → a ≡ starts + (n + 1) → b ≡ base + n + n
      → row_end (take (a - starts) (drop starts work)) q (take (b - (base + n)) (drop (base + n) work)) d ≡ row_end (part work starts (n + 1)) q (part work (base + n) n) d
  end_sliced ea eb = ap₂ (λ z x. row_end z q x d) (slice_is work starts (n + 1) ea) (slice_is work (base + n) n eb)

module _ (work : List ℕ) (base n d v mark e number : ℕ) (hv : v < n) (hd : d < n) where
  pub framed_kept : Kept work (framed work base n d v mark e number) base (4 * n)
  framed_kept =
      kept_then (kept_set work base (4 * n) (base + v) mark (omega arith) (omega arith))
      (kept_then (kept_set _ base (4 * n) (base + n + d) v (omega arith) (omega arith))
      (kept_then (kept_set _ base (4 * n) (base + 2 * n + d) e (omega arith) (omega arith)) (kept_set _ base (4 * n) (base + 3 * n + d) number (omega arith) (omega arith))))

  pub framed_marks : part (framed work base n d v mark e number) base n ≡ set (part work base n) v mark
  framed_marks =
      part_over _ base n (base + 3 * n + d) number (omega arith)
      ∙ part_over _ base n (base + 2 * n + d) e (omega arith)
      ∙ part_over _ base n (base + n + d) v (omega arith)
      ∙ part_set work base n v mark hv

  pub framed_vertices : part (framed work base n d v mark e number) (base + n) n ≡ set (part work (base + n) n) d v
  framed_vertices =
      part_over _ (base + n) n (base + 3 * n + d) number (omega arith)
      ∙ part_over _ (base + n) n (base + 2 * n + d) e (omega arith)
      ∙ part_set _ (base + n) n d v hd
      ∙ ap (λ z. set z d v) (part_under work (base + n) n (base + v) mark (omega arith))

  pub framed_back : part (framed work base n d v mark e number) (base + 2 * n) n ≡ set (part work (base + 2 * n) n) d e
  framed_back =
      part_over _ (base + 2 * n) n (base + 3 * n + d) number (omega arith)
      ∙ part_set _ (base + 2 * n) n d e hd
      ∙ ap (λ z. set z d e) (part_under _ (base + 2 * n) n (base + n + d) v (omega arith) ∙ part_under work (base + 2 * n) n (base + v) mark (omega arith))

  pub framed_numbers : part (framed work base n d v mark e number) (base + 3 * n) n ≡ set (part work (base + 3 * n) n) d number
  framed_numbers =
      part_set _ (base + 3 * n) n d number hd
      ∙ ap (λ z. set z d number)
      (part_under _ (base + 3 * n) n (base + 2 * n + d) e (omega arith)
      ∙ part_under _ (base + 3 * n) n (base + n + d) v (omega arith)
      ∙ part_under work (base + 3 * n) n (base + v) mark (omega arith))

-- entering a vertex of a labelled traversal
module _ (work : List ℕ) (base n d k v e s : ℕ) (room : base + 7 * n ≤ length work) (hv : v < n) (hd : d < n) (hk : k < n) where
  abbrev opened : List ℕ
  opened = framed work base n d v 1 e s

  abbrev now : List ℕ
  now = entered work base n d k v e s

  beyond : (b c : ℕ) → base + 4 * n ≤ b → part opened b c ≡ part work b c
  beyond b c h = (framed_kept work base n d v 1 e s hv hd).above b c h

  before_m : (b : ℕ) → b + n ≤ base + 5 * n → part now b n ≡ part opened b n
  before_m b h = part_over opened b n (base + 5 * n + v) (k + 1) (omega arith)

  pub entered_kept : Kept work now base (7 * n)
  entered_kept =
      kept_then (kept_wider base (7 * n) (omega arith) (omega arith) (framed_kept work base n d v 1 e s hv hd))
      (kept_set opened base (7 * n) (base + 5 * n + v) (k + 1) (omega arith) (omega arith))

  pub entered_marks : part now base n ≡ set (part work base n) v 1
  entered_marks = before_m base (omega arith) ∙ framed_marks work base n d v 1 e s hv hd

  pub entered_vertices : part now (base + n) n ≡ set (part work (base + n) n) d v
  entered_vertices = before_m (base + n) (omega arith) ∙ framed_vertices work base n d v 1 e s hv hd

  pub entered_back : part now (base + 2 * n) n ≡ set (part work (base + 2 * n) n) d e
  entered_back = before_m (base + 2 * n) (omega arith) ∙ framed_back work base n d v 1 e s hv hd

  pub entered_numbers : part now (base + 3 * n) n ≡ set (part work (base + 3 * n) n) d s
  entered_numbers = before_m (base + 3 * n) (omega arith) ∙ framed_numbers work base n d v 1 e s hv hd

  pub entered_out : part now (base + 4 * n) k ≡ part work (base + 4 * n) k
  entered_out = part_over opened (base + 4 * n) k (base + 5 * n + v) (k + 1) (omega arith) ∙ beyond (base + 4 * n) k (omega arith)

  pub entered_m : part now (base + 5 * n) n ≡ set (part work (base + 5 * n) n) v (k + 1)
  entered_m = part_set opened (base + 5 * n) n v (k + 1) hv ∙ ap (λ z. set z v (k + 1)) (beyond (base + 5 * n) n (omega arith))

  pub entered_e : part now (base + 6 * n) n ≡ part work (base + 6 * n) n
  entered_e = part_under opened (base + 6 * n) n (base + 5 * n + v) (k + 1) (omega arith) ∙ beyond (base + 6 * n) n (omega arith)

-- and leaving one
module _ (work : List ℕ) (base n k v s : ℕ) (room : base + 7 * n ≤ length work) (hv : v < n) (hk : k < n) where
  abbrev then : List ℕ
  then = finished_at work base n k v s

  abbrev work₁ : List ℕ
  work₁ = set work (base + v) s

  abbrev work₂ : List ℕ
  work₂ = set work₁ (base + 4 * n + k) v

  pub finished_kept : Kept work then base (7 * n)
  finished_kept =
      kept_then (kept_set work base (7 * n) (base + v) s (omega arith) (omega arith))
      (kept_then (kept_set work₁ base (7 * n) (base + 4 * n + k) v (omega arith) (omega arith)) (kept_set work₂ base (7 * n) (base + 6 * n + v) (k + 1) (omega arith) (omega arith)))

  pub finished_marks : part then base n ≡ set (part work base n) v s
  finished_marks =
      part_over work₂ base n (base + 6 * n + v) (k + 1) (omega arith)
      ∙ part_over work₁ base n (base + 4 * n + k) v (omega arith)
      ∙ part_set work base n v s hv

  pub finished_frames : (b : ℕ) → base + n ≤ b → b + n ≤ base + 4 * n → part then b n ≡ part work b n
  finished_frames b l h =
      part_over work₂ b n (base + 6 * n + v) (k + 1) (omega arith)
      ∙ part_over work₁ b n (base + 4 * n + k) v (omega arith)
      ∙ part_under work b n (base + v) s (omega arith)

  pub finished_out : part then (base + 4 * n) (k + 1) ≡ part work (base + 4 * n) k ++ (v ∷ [])
  finished_out =
      part_over work₂ (base + 4 * n) (k + 1) (base + 6 * n + v) (k + 1) (omega arith)
      ∙ part_longer work₁ (base + 4 * n) k v (simp length-set (omega arith))
      ∙ ap (λ z. z ++ (v ∷ [])) (part_under work (base + 4 * n) k (base + v) s (omega arith))

  pub finished_m : part then (base + 5 * n) n ≡ part work (base + 5 * n) n
  finished_m =
      part_over work₂ (base + 5 * n) n (base + 6 * n + v) (k + 1) (omega arith)
      ∙ part_under work₁ (base + 5 * n) n (base + 4 * n + k) v (omega arith)
      ∙ part_under work (base + 5 * n) n (base + v) s (omega arith)

  pub finished_e : part then (base + 6 * n) n ≡ set (part work (base + 6 * n) n) v (k + 1)
  finished_e =
      part_set work₂ (base + 6 * n) n v (k + 1) hv
      ∙ ap (λ z. set z v (k + 1)) (part_under work₁ (base + 6 * n) n (base + 4 * n + k) v (omega arith) ∙ part_under work (base + 6 * n) n (base + v) s (omega arith))
