-- A group's children as numbers held: they rise, so a child is found among them by halves.
use mathlib.Core.List.{List, []}
use mathlib.Core.Bool.{false}
use mathlib.Core.Path.{◌≡◌, ap, ◌∙◌}
use Prim.Native.Nat.{ℕ, ◌≤◌, ◌<◌}
use native.Mathlib.Omega.{arith}
use lib.Dec.{eqb}
use lib.ListN.{length, get_or}
use Rattle.lineage.specs.Lists.{among}
use Rattle.lineage.specs.Sound.{child_of}
use Rattle.laws.specs.Rising.{Rises, count_below}
use Rattle.laws.proofs.Rising.{next_rises}
use Rattle.laws.proofs.Halving.{found_none, found_at}
use Rattle.stored.specs.Sections.{children_in}
use Rattle.stored.specs.Rows.{Places}
use Rattle.stored.proofs.Row.{row_up}

module _ {w k c p : ℕ} {starts children row : List ℕ} (P : Places w starts children k c) (low : p < k)
    (is : row ≡ get_or (children_in w starts children k c) p [])
  where
    pub row_rises : Rises row
    row_rises = rw is (next_rises (get_or (children_in w starts children k c) p []) (row_up P low))

    -- where q stands among them, or would stand
    module _ (q : ℕ) {at : ℕ} (stands : at ≡ count_below q row) where
      pub child_none : length row ≤ at → false ≡ child_of (children_in w starts children k c) p q
      child_none h = found_none q row row_rises (omega arith) ∙ ap (among q) is

      pub child_at : {x : ℕ} → at < length row → x ≡ get_or row at 0 → eqb x q ≡ child_of (children_in w starts children k c) p q
      child_at h e = found_at q row row_rises (omega arith) (e ∙ ap (λ (i : ℕ). get_or row i 0) stands) ∙ ap (among q) is
