-- The laws of bytes written into lent bytes: putting bytes behind others is putting both at once, and so is storing them one by one.
use mathlib.Core.Path.{◌≡◌, sym, ap, ◌∙◌}
use mathlib.Core.List.{List, [], ◌++◌, append_assoc}
use Prim.Native.Nat.{ℕ, ◌+◌, ◌≤◌}
use native.Mathlib.Omega.{arith}
use native.Mathlib.Nat.{add-zero, zero-add}
use lib.ListN.{length, take, drop, length-append, take-append-drop}
use lib.Seq.{length-take-le, take_at, drop_at, drop-drop, sets, sets-eq}
use Rattle.numbers.specs.Put.{put}

-- nothing is put
pub put_none : (s : List ℕ) (p : ℕ) → put s p [] ≡ s
unfolding put
put_none s p = rw add-zero (take-append-drop p s)

-- bytes at the very start
pub put_start : (s bs : List ℕ) → put s 0 bs ≡ bs ++ drop (length bs) s
unfolding put
put_start s bs = rw zero-add

module _ (s : List ℕ) (p : ℕ) (bs : List ℕ) where
  -- bytes behind others
  module _ (low : p ≤ length s) where
    front : length (take p s ++ bs) ≡ p + length bs
    front = omega (arith, length-append (take p s) bs, length-take-le p s low)

    put_front : take (p + length bs) (put s p bs) ≡ take p s ++ bs
    unfolding put
    put_front = rw (← append_assoc (take p s) bs (drop (p + length bs) s)) (take_at (take p s ++ bs) (drop (p + length bs) s) (p + length bs) front)

    put_past : (k : ℕ) → drop (p + length bs + k) (put s p bs) ≡ drop (p + length bs + k) s
    unfolding put
    put_past k =
        sym (drop-drop k (p + length bs) (put s p bs))
        ∙ ap (drop k)
        (ap (drop (p + length bs)) (sym (append_assoc (take p s) bs (drop (p + length bs) s))) ∙ drop_at (take p s ++ bs) (drop (p + length bs) s) (p + length bs) front)
        ∙ drop-drop k (p + length bs) s

    pub put_next : (cs : List ℕ) → put (put s p bs) (p + length bs) cs ≡ put s p (bs ++ cs)
    unfolding put
    put_next cs =
        let e : p + length bs + length cs ≡ p + length (bs ++ cs) = omega (arith, length-append bs cs) in
        rw (put_front, put_past (length cs), e) (simp append_assoc)

  -- store by store
  pub put_sets : p + length bs ≤ length s → sets s p bs ≡ put s p bs
  unfolding put
  put_sets fits = sets-eq bs s p fits ∙ append_assoc (take p s) bs (drop (p + length bs) s)
