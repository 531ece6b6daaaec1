-- Numbers written one behind the other into lent bytes: two and three of them, blocks of one size, sections.
use mathlib.Core.Path.{◌≡◌, sym, ap, ap₂, ◌∙◌}
use mathlib.Core.List.{List, [], ◌∷◌, ◌++◌, map, append_assoc}
use Prim.Native.Nat.{ℕ, ◌+◌, ◌*◌, ◌≤◌, ◌<◌}
use native.Mathlib.Omega.{arith}
use native.Mathlib.Numerals.{add-one}
use lib.ListN.{length, take, drop, length-append}
use lib.Seq.{length-take-le, drop_at}
use Rattle.lineage.specs.Lists.{upto, joined}
use Rattle.lineage.specs.Numbers.{le_bytes, written}
use Rattle.laws.proofs.Joined.{joined_more, table_blocks_long}
use Rattle.numbers.specs.Put.{put}
use Rattle.numbers.proofs.Put.{put_none, put_start}
use Rattle.numbers.proofs.Written.{written_next, written_one}
use Rattle.stored.proofs.Offsets.{put_sections}

-- bytes, and then those that stand before them from the start on
pub put_before : (s bs cs : List ℕ) → length bs ≤ length s → put (put s (length bs) cs) 0 bs ≡ put s 0 (bs ++ cs)
unfolding put
put_before s bs cs h =
    let past : List ℕ = drop (length bs + length cs) s in
    put_start (put s (length bs) cs) bs
    ∙ ap (λ (z : List ℕ). bs ++ z) (drop_at (take (length bs) s) (cs ++ past) (length bs) (length-take-le (length bs) s h))
    ∙ sym (append_assoc bs cs past)
    ∙ ap (λ (n : ℕ). (bs ++ cs) ++ drop n s) (sym (length-append bs cs))
    ∙ sym (put_start s (bs ++ cs))

-- two numbers, and three, one by one
pub pair_put : (w at a b : ℕ) (s t u : List ℕ)
    → at + w ≤ length s
    → t ≡ put s at (le_bytes w a)
    → u ≡ put t (at + w) (le_bytes w b)
    → u ≡ put s at (written w (a ∷ b ∷ []))
pair_put w at a b s t u h et eu =
    let one : t ≡ put s at (written w (a ∷ [])) = et ∙ ap (put s at) (written_one w a) in
    eu ∙ ap₂ (λ (z x : List ℕ). put z (at + w) x) one (written_one w b) ∙ written_next w at s (a ∷ []) (b ∷ []) (at + w) (omega arith) (omega arith)

pub triple_put : (w at a b c : ℕ) (s t u v : List ℕ)
    → at + w * 2 ≤ length s
    → t ≡ put s at (le_bytes w a)
    → u ≡ put t (at + w) (le_bytes w b)
    → v ≡ put u (at + w + w) (le_bytes w c)
    → v ≡ put s at (written w (a ∷ b ∷ c ∷ []))
triple_put w at a b c s t u v h et eu ev =
    ev
    ∙ ap₂ (λ (z x : List ℕ). put z (at + w + w) x) (pair_put w at a b s t u (omega arith) et eu) (written_one w c)
    ∙ written_next w at s (a ∷ b ∷ []) (c ∷ []) (at + w + w) (omega arith) (omega arith)

-- Blocks of one size, one more at a time.
module _ (w at : ℕ) (block : ℕ → List ℕ) (s : List ℕ) where
  -- the first i of them written
  abbrev pub blocks_put : ℕ → List ℕ
  blocks_put i = put s at (written w (joined (map block (upto i))))

  pub blocks_none : s ≡ blocks_put 0
  blocks_none = sym (put_none s at)

  module _ (size : ℕ) where
    pub blocks_more : (t : List ℕ) (p i : ℕ)
        → ((j : ℕ) → j < i → length (block j) ≡ size)
        → t ≡ blocks_put i
        → p ≡ at + w * (size * i)
        → p ≤ length s
        → put t p (written w (block i)) ≡ blocks_put (i + 1)
    blocks_more t p i sized e here fits =
        let long : w * length (joined (map block (upto i))) ≡ w * (size * i) = ap (λ (n : ℕ). w * n) (table_blocks_long block size i sized) in
        let next : joined (map block (upto i)) ++ block i ≡ joined (map block (upto (i + 1))) =
        sym (ap (λ (n : ℕ). joined (map block (upto n))) (add-one i) ∙ joined_more block i) in
        ap (λ (z : List ℕ). put z p (written w (block i))) e
        ∙ written_next w at s (joined (map block (upto i))) (block i) p (omega arith) (omega arith)
        ∙ ap (λ (z : List ℕ). put s at (written w z)) next

-- a section at its offset, and then those behind it
pub section_put : (w : ℕ) (s t r x : List ℕ) (X : List (List ℕ)) (offset at next : ℕ)
    → t ≡ put s offset (written w x)
    → offset ≡ at
    → next ≡ at + w * length x
    → r ≡ put_sections w t next X
    → r ≡ put_sections w s at (x ∷ X)
section_put w s t r x X offset at next e f g h = h ∙ ap₂ (λ (z : List ℕ) (n : ℕ). put_sections w z n X) (e ∙ ap (λ (p : ℕ). put s p (written w x)) f) g
