-- The vertices of u's group, counted: a vertex is in it exactly where its name, as it was read, is u's.
use mathlib.Core.Bool.{Bool}
use mathlib.Core.Path.{◌≡◌, ap, ◌∙◌}
use mathlib.Core.List.{List}
use Prim.Native.Nat.{ℕ}
use native.Mathlib.Omega.{arith}
use lib.Dec.{eqb, ltb}
use lib.ListN.{length, get_or}
use Rattle.lineage.specs.Lists.{upto, those}
use Rattle.lineage.specs.Question.{in_own_list}
use Rattle.numbers.proofs.Numbers.{numbers_long}
use Rattle.stored.specs.declared.reading.Numbers.{Numbers}
use Rattle.stored.specs.Reading.{numbers_of}
use Rattle.list.specs.Listing.{names_alone}
use Rattle.list.proofs.Writing.{Counted}

-- v has u's name
abbrev pub named : List ℕ → ℕ → ℕ → Bool
named names u v = eqb (get_or names v 0) (get_or names u 0)

pub named_read : (names : List ℕ) (u v : ℕ) {x y : ℕ} → x ≡ get_or names u 0 → y ≡ get_or names v 0 → eqb y x ≡ named names u v
named_read names u v ex ey = rw (ex, ey)

-- all vertices gone through
pub own_counted : (s : Numbers) (u : ℕ) {v count : ℕ} → Counted (named (numbers_of s) u) v count → v ≡ s.len → ltb 1 count ≡ in_own_list (names_alone (numbers_of s)) u
unfolding in_own_list
own_counted s u {v} C h =
    let gone : v ≡ length (numbers_of s) = omega (arith, numbers_long s.width s.bytes.now s.len) in
    ap (ltb 1) (C.is ∙ ap (λ (k : ℕ). length (those (named (numbers_of s) u) (upto k))) gone)
