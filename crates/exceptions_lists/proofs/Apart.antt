-- Bytes put at two places that lie apart: it does not matter which are put first. As many bytes are lent as before.
use mathlib.Core.Path.{◌≡◌, sym, ap, ap₂, ◌∙◌}
use mathlib.Core.List.{List, ◌++◌, append_assoc}
use Prim.Native.Nat.{ℕ, ◌+◌, ◌-◌, ◌≤◌}
use native.Mathlib.Omega.{arith}
use lib.ListN.{length, take, drop, length-append, length-drop}
use lib.Seq.{length-take-le, take-add, take-take, take-append-le, take-append-add, drop_at, drop-append-le, drop-drop}
use Rattle.numbers.specs.Put.{put}

module _ (s : List ℕ) (p : ℕ) (bs : List ℕ) where
  abbrev behind : ℕ
  behind = p + length bs

  pub put_long : behind ≤ length s → length (put s p bs) ≡ length s
  unfolding put
  put_long fits =
      omega (
        arith,
        length-append (take p s) (bs ++ drop behind s),
        length-append bs (drop behind s),
        length-take-le p s (omega arith),
        length-drop behind s,
      )

  module _ (q : ℕ) (cs : List ℕ) (apart : behind ≤ q) (low : q ≤ length s) where
    -- what was put, and what stands between
    front : length (take p s ++ bs) ≡ behind
    front = omega (arith, length-append (take p s) bs, length-take-le p s (omega arith))

    between : drop behind (take q s) ≡ take (q - behind) (drop behind s)
    between =
        let whole : q ≡ behind + (q - behind) = omega arith in
        ap (λ (n : ℕ). drop behind (take n s)) whole
        ∙ ap (drop behind) (take-add behind (q - behind) s)
        ∙ drop_at (take behind s) (take (q - behind) (drop behind s)) behind (length-take-le behind s (omega arith))

    front_kept : take p (put s q cs) ≡ take p s
    unfolding put
    front_kept = take-append-le p (take q s) (cs ++ drop (q + length cs) s) (omega (arith, length-take-le q s low)) ∙ take-take p q s (omega arith)

    rest_kept : drop behind (put s q cs) ≡ take (q - behind) (drop behind s) ++ (cs ++ drop (q + length cs) s)
    unfolding put
    rest_kept =
        drop-append-le behind (take q s) (cs ++ drop (q + length cs) s) (omega (arith, length-take-le q s low))
        ∙ ap (λ (z : List ℕ). z ++ (cs ++ drop (q + length cs) s)) between

    front_put : take q (put s p bs) ≡ (take p s ++ bs) ++ take (q - behind) (drop behind s)
    unfolding put
    front_put =
        let whole : q ≡ length (take p s ++ bs) + (q - behind) = omega (arith, front) in
        ap₂ take whole (sym (append_assoc (take p s) bs (drop behind s))) ∙ take-append-add (take p s ++ bs) (drop behind s) (q - behind)

    rest_put : drop (q + length cs) (put s p bs) ≡ drop (q + length cs) s
    unfolding put
    rest_put =
        let j : ℕ = q + length cs - behind in
        let whole : q + length cs ≡ behind + j = omega arith in
        ap (λ (n : ℕ). drop n (put s p bs)) whole
        ∙ sym (drop-drop j behind (put s p bs))
        ∙ ap (drop j) (ap (drop behind) (sym (append_assoc (take p s) bs (drop behind s))) ∙ drop_at (take p s ++ bs) (drop behind s) behind front)
        ∙ drop-drop j behind s
        ∙ ap (λ (n : ℕ). drop n s) (sym whole)

    pub put_apart : put (put s q cs) p bs ≡ put (put s p bs) q cs
    unfolding put
    put_apart = rw (front_kept, rest_kept, front_put, rest_put) (simp append_assoc)
