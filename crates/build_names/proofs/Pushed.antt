-- What entering a vertex does to each region: its frame is opened, and it is put on the stack.
use mathlib.Core.Path.{◌≡◌, ap, ◌∙◌}
use mathlib.Core.List.{List, [], ◌∷◌, ◌++◌}
use Prim.Native.Nat.{ℕ, ◌+◌, ◌*◌, ◌≤◌, ◌<◌}
use native.Mathlib.Omega.{arith}
use lib.ListN.{length, set, length-set}
use Rattle.lineage.specs.Lists.{part}
use Rattle.numbers.specs.Regions.{Kept}
use Rattle.numbers.proofs.Regions.{part_over, part_under, part_longer, kept_set, kept_then, kept_wider}
use Rattle.build_traversal.specs.Frames.{framed}
use Rattle.build_traversal.proofs.Regions.{framed_kept, framed_marks, framed_vertices, framed_back, framed_numbers}
use Rattle.build_names.specs.Window.{pushed}

module _ (work : List ℕ) (base n d sp v e low number : ℕ) (room : base + 6 * n ≤ length work) (hv : v < n) (hd : d < n) (hs : sp < n) where
  abbrev opened : List ℕ
  opened = framed work base n d v number e low

  abbrev now : List ℕ
  now = pushed work base n d sp v e low number

  opening : Kept work opened base (4 * n)
  opening = framed_kept work base n d v number e low hv hd

  before_stack : (b : ℕ) → b + n ≤ base + 4 * n → part now b n ≡ part opened b n
  before_stack b h = part_over opened b n (base + 4 * n + sp) v (omega arith)

  pub pushed_kept : Kept work now base (6 * n)
  pushed_kept = kept_then (kept_wider base (6 * n) (omega arith) (omega arith) opening) (kept_set opened base (6 * n) (base + 4 * n + sp) v (omega arith) (omega arith))

  pub pushed_numbers : part now base n ≡ set (part work base n) v number
  pushed_numbers = before_stack base (omega arith) ∙ framed_marks work base n d v number e low hv hd

  pub pushed_frames : part now (base + n) n ≡ set (part work (base + n) n) d v
  pushed_frames = before_stack (base + n) (omega arith) ∙ framed_vertices work base n d v number e low hv hd

  pub pushed_back : part now (base + 2 * n) n ≡ set (part work (base + 2 * n) n) d e
  pushed_back = before_stack (base + 2 * n) (omega arith) ∙ framed_back work base n d v number e low hv hd

  pub pushed_lows : part now (base + 3 * n) n ≡ set (part work (base + 3 * n) n) d low
  pushed_lows = before_stack (base + 3 * n) (omega arith) ∙ framed_numbers work base n d v number e low hv hd

  pub pushed_stack : part now (base + 4 * n) (sp + 1) ≡ part work (base + 4 * n) sp ++ (v ∷ [])
  pushed_stack =
      part_longer opened (base + 4 * n) sp v (simp length-set (omega arith))
      ∙ ap (λ z. z ++ (v ∷ [])) (opening.above (base + 4 * n) sp (omega arith))

  pub pushed_names : part now (base + 5 * n) n ≡ part work (base + 5 * n) n
  pushed_names = part_under opened (base + 5 * n) n (base + 4 * n + sp) v (omega arith) ∙ opening.above (base + 5 * n) n (omega arith)
