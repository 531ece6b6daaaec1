-- Stamping one number after another: a number of n or more has no word, and changes nothing.
use mathlib.Core.Bool.{cond, or-false}
use mathlib.Core.Path.{◌≡◌, refl, ◌∙◌}
use mathlib.Core.List.{List, [], ◌∷◌, ◌++◌}
use Prim.Native.Nat.{ℕ, ◌+◌, ◌≤◌, ◌<◌}
use native.Mathlib.Decide.{ℕ_discrete}
use native.Mathlib.Omega.{arith}
use lib.ListN.{length, get_or, set}
use lib.Seq.{get_or-set_same, get_or-set_other}
use borrow.Author.Tests.{ne_eqb}
use Rattle.lineage.specs.Lists.{among, part}
use Rattle.laws.proofs.Lists.{among_append, in_right, here}
use Rattle.laws.proofs.Parts.{part_length, part_more}
use Rattle.numbers.specs.Regions.{Kept}
use Rattle.numbers.proofs.Regions.{part_set, kept_same, kept_more}
use Rattle.numbers.specs.Stamped.{Stamped}

among_other : (v u : ℕ) (xs : List ℕ) → (v ≡ u → ⊥) → among v (xs ++ (u ∷ [])) ≡ among v xs
among_other v u xs ne = among_append v xs (u ∷ []) ∙ rw (ne_eqb v u ne) (or-false (among v xs))

-- the word of u is stamped
stamped_more : {stamp : ℕ} {numbers words words' : List ℕ} (u : ℕ) → u < length words' → Stamped stamp numbers words words' → Stamped stamp (numbers ++ (u ∷ [])) words (set words' u stamp)
stamped_more {stamp} {numbers} {words} {words'} u h s = record { at = λ v k. at v k (ℕ_discrete v u) }
  where
    at : (v : ℕ) → v < length words → Dec (v ≡ u) → get_or (set words' u stamp) v 0 ≡ cond (among v (numbers ++ (u ∷ []))) stamp (get_or words v 0)
    at v k (yes e) = rw (e, get_or-set_same words' u stamp 0 h, in_right u numbers (u ∷ []) (here u []))
    at v k (no ne) = rw (get_or-set_other words' u v stamp 0 ne, among_other v u numbers ne) (s.at v k)

-- u has no word
stamped_past : {stamp : ℕ} {numbers words words' : List ℕ} (u : ℕ) → length words ≤ u → Stamped stamp numbers words words' → Stamped stamp (numbers ++ (u ∷ [])) words words'
stamped_past {numbers = numbers} u h s = record { at = λ v k. rw (among_other v u numbers (λ e. omega arith)) (s.at v k) }

-- of s, from at on, j numbers are gone through: their words are stamped in the window, n words from base on
pub record Stamping (work₀ work s : List ℕ) (base n stamp at j : ℕ) : Type 0 where
  pub kept : Kept work₀ work base n
  pub stamped : Stamped stamp (part s at j) (part work₀ base n) (part work base n)

pub stamping_none : (work s : List ℕ) (base n stamp at : ℕ) → Stamping work work s base n stamp at 0
unfolding part
stamping_none work s base n stamp at = record { kept = kept_same work base n; stamped = record { at = λ v h. refl } }

module _
    {work₀ work s : List ℕ} {base n stamp at j : ℕ} (room : base + n ≤ length work₀) (inside : at + j < length s) (i : Stamping work₀ work s base n stamp at j)
  where
    pub stamping_more : {work' : List ℕ} → get_or s (at + j) 0 < n → work' ≡ set work (base + get_or s (at + j) 0) stamp → Stamping work₀ work' s base n stamp at (j + 1)
    stamping_more h e =
        let v : ℕ = get_or s (at + j) 0 in
        rw e (record {
          kept = kept_more v stamp h i.kept;
          stamped =
              rw (part_set work base n v stamp h, part_more s at j 0 inside)
              (stamped_more v (omega (arith, part_length work base n (omega (arith, i.kept.long)))) i.stamped);
        })

    pub stamping_past : {work' : List ℕ} → n ≤ get_or s (at + j) 0 → work' ≡ work → Stamping work₀ work' s base n stamp at (j + 1)
    stamping_past h e =
        rw e (record {
          kept = i.kept;
          stamped = rw (part_more s at j 0 inside) (stamped_past (get_or s (at + j) 0) (omega (arith, part_length work₀ base n room)) i.stamped);
        })

pub stamping_all :
    {work₀ work s : List ℕ} {base n stamp at j : ℕ} (m : ℕ) → j ≡ m → Stamping work₀ work s base n stamp at j
    → Kept work₀ work base n × Stamped stamp (part s at m) (part work₀ base n) (part work base n)
stamping_all m e i = (i.kept, rw e at i.stamped)
