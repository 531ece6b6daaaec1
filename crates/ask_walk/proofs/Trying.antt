-- Opening and trying, step by step. Opening a group is marking it, counting it and trying its children. In the midst of a row, what has been opened so far
-- and what trying the rest comes to make up what trying the whole row comes to; each step takes one child off the rest.
use mathlib.Core.Bool.{Bool, true, false, ◌||◌}
use mathlib.Core.Path.{◌≡◌, refl, sym, ap, ◌∙◌}
use mathlib.Core.List.{List, ◌∷◌}
use Prim.Native.Nat.{ℕ, ◌+◌, ◌≤◌, ◌<◌}
use native.Mathlib.Omega.{arith}
use native.Mathlib.Numerals.{add-one}
use native.Mathlib.Nat.{zero-add, add-zero, add_assoc}
use lib.ListN.{length, get_or, set, drop, drop_of_length-le}
use lib.Seq.{drop-cons}
use Rattle.lineage.specs.Lists.{ones}
use Rattle.lineage.specs.Walk.{Net, Walked, walked, added, marked, follow, try_with, open_at, try_at}
use Rattle.ask_walk.proofs.Counting.{Gains}

-- opening a group, whose name and whose row were read
pub open_is :
    (N : Net) (L g name : ℕ) (row m : List ℕ) (f : Bool) (l n : ℕ) (m' : List ℕ)
    → name ≡ N.spot g → row ≡ N.children g → walked f l n m' ≡ try_at N L row (set m name 1) → walked f l (1 + n) m' ≡ open_at N (L + 1) g m
unfolding open_at
open_is N L g name row m f l n m' at is e = rw add-one (ap (added 1) (rw (at, is) at e))

-- before child i of the row, n groups are opened and the marks are m
pub record Tried (N : Net) (L : ℕ) (row m₀ m : List ℕ) (i n : ℕ) : Type 0 where
  pub long : length m ≡ length m₀
  pub gain : ones m ≡ ones m₀ + n
  pub left : added n (try_at N L (drop i row) m) ≡ try_at N L row m₀

module _ (N : Net) (L : ℕ) (row m₀ : List ℕ) where
  pub tried_none : Tried N L row m₀ m₀ 0 0
  tried_none = record {
    long = refl;
    gain = omega arith;
    left = let a : Walked = try_at N L row m₀ in ap (λ (n : ℕ). walked a.found a.deciding n a.marks) (zero-add a.opened);
  }

  module _ (m : List ℕ) (i n : ℕ) (T : Tried N L row m₀ m i n) where
    -- nothing more is opened
    ends : (f : Bool) (l : ℕ) → try_at N L (drop i row) m ≡ walked f l 0 m → walked f l n m ≡ try_at N L row m₀
    ends f l e = ap (λ (k : ℕ). walked f l k m) (sym (add-zero n)) ∙ ap (added n) (sym e) ∙ T.left

    pub tried_all : length row ≤ i → walked false 0 n m ≡ try_at N L row m₀
    unfolding try_with
    tried_all h = ends false 0 (ap (λ (hs : List ℕ). try_at N L hs m) (drop_of_length-le row h))

    module _ (h : ℕ) (lt : i < length row) (child : h ≡ get_or row i 0) where
      rest : List ℕ → Walked
      rest m' = try_at N L (drop (i + 1) row) m'

      ahead : drop i row ≡ h ∷ drop (i + 1) row
      ahead = rw (add-one, child) (drop-cons row i 0 lt)

      -- rule 2 ends the walk
      pub tried_hit : (l : ℕ) → N.yes h ≡ true → l ≡ N.deciding h → walked true l n m ≡ try_at N L row m₀
      unfolding try_with
      tried_hit l y e = ends true l (rw (ahead, try_with, y, e) refl)

      -- the child is passed over
      module _ (y : N.yes h ≡ false) (p : (marked N m h || N.no h) ≡ true) where
        past : try_at N L (drop i row) m ≡ rest m
        unfolding try_with rest
        past = rw (ahead, try_with, y, p) refl

        pub tried_over : Tried N L row m₀ m (i + 1) n
        unfolding rest
        tried_over = record { long = T.long; gain = T.gain; left = ap (added n) (sym past) ∙ T.left }

      -- the child is opened
      module _ (f : Bool) (l a : ℕ) (m' : List ℕ) (y : N.yes h ≡ false) (p : (marked N m h || N.no h) ≡ false) (e : walked f l a m' ≡ open_at N L h m) where
        opened : try_at N L (drop i row) m ≡ follow f (walked f l a m') rest
        unfolding try_with rest
        opened = rw (ahead, try_with, y, p, ← e) refl

        pub tried_found : f ≡ true → walked true l (n + a) m' ≡ try_at N L row m₀
        tried_found t = ap (added n) (sym (rw t at opened)) ∙ T.left

        pub tried_next : f ≡ false → Gains m (open_at N L h m) → Tried N L row m₀ m' (i + 1) (n + a)
        unfolding rest
        tried_next t G =
            let A : Gains m (walked f l a m') = rw (← e) at G in
            let b : Walked = rest m' in
            record {
              long = A.long ∙ T.long;
              gain = omega (arith, T.gain, A.gain);
              left = ap (λ (k : ℕ). walked b.found b.deciding k b.marks) (add_assoc n a b.opened) ∙ ap (added n) (sym (rw t at opened)) ∙ T.left;
            }
