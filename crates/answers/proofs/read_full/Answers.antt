-- `answers::read_full` meets its contract, by the invariant beside this file.
use Rattle.std.proofs.Common.{◌≡◌, ℕ, ◌+◌, ◌≤◌, List, ◌++◌, Option, arith, rules, length, take, drop, refl, sym, ap, ap₂, ◌∙◌, subst, le_refl, drop_at, length-take-le}
use Rattle.std.proofs.lemmas.Slice.{take-put_mid_below}
use Rattle.std.proofs.KnownBytes.{Consumes-trans}
use Rattle.std.specs.Io.KnownBytes.{Consumes}
use borrow.Rule.Slice.PartMut.{put_mid, post_of}
use lib.Seq.{take-add, take-append-le}
use Rattle.answers.proofs.read_full.Goals as goal

-- behind the n bytes that stand there, the first `got` of those that were read
filled : (n k got : ℕ) (text read : List ℕ) → n ≤ length text → got ≤ length read → take (n + got) (put_mid n k text read) ≡ take n text ++ take got read
filled n k got text read within fits =
    let after : List ℕ = post_of n k text in
    let behind : take got (drop n (put_mid n k text read)) ≡ take got read =
    ap (take got) (drop_at (take n text) (read ++ after) n (length-take-le n text within)) ∙ take-append-le got read after fits in
    take-add n got (put_mid n k text read) ∙ ap₂ (λ (s t : List ℕ). s ++ t) (take-put_mid_below n k text read n (le_refl n) within) behind

-- so they are the bytes that the reader no longer has
more : (a b c : Option (List ℕ)) (n k got last : ℕ) (text read : List ℕ) → n ≤ length text → got ≤ length read → Consumes a b (take n text) → Consumes b c (take got read)
    → n + got ≡ last → Consumes a c (take last (put_mid n k text read))
more a b c n k got last text read within fits p q e =
    rw (← e) (subst (Consumes a c) (sym (filled n k got text read within fits)) (Consumes-trans a b c (take n text) (take got read) p q))

pub loop-n-preserved : goal.loop-n-preserved
loop-n-preserved g c =
    let e = c.in_ok-got.ensures in
    let i = c.loop-n.invariant in
    record { within = search rules; bytes = more _ _ _ _ _ _ _ _ _ i.within e.bound.0 i.bytes e.bytes.0 refl }

pub returns-then-got-eq0 : goal.returns-then-got-eq0
returns-then-got-eq0 g c =
    let e = c.in_ok-got.ensures in
    let i = c.loop-n.invariant in
    record {
      within = omega arith;
      bytes = more _ _ _ _ _ _ _ _ _ i.within e.bound.0 i.bytes e.bytes.0 (omega arith);
      all = λ low. e.bytes.1 c.if-got-eq0.true (omega arith);
    }
