-- Every rank is at least 1, so s, the least of ranks below, is at least 1 as well; and s(y) is not above e(y). So what x contains has its rank between
-- s(x) and e(x), in every labelling.
use mathlib.Core.Bool.{true}
use mathlib.Core.Path.{◌≡◌}
use mathlib.Core.List.{[]}
use Prim.Native.Nat.{ℕ, zero, suc, ◌<◌, ◌≤◌}
use native.Mathlib.Omega.{arith}
use lib.ListN.{length, get_or}
use Rattle.lineage.specs.Labels.{Labelling}
use Rattle.lineage.specs.Index.{Index}
use Rattle.laws.specs.Sound.{SoundLabelling, Sound}
use Rattle.laws.proofs.Positions.{least_below, least_above}
use Rattle.laws.proofs.Inverse.{e_some}
use Rattle.laws.proofs.Grouped.{child_in}
use Rattle.laws_answers.specs.Answers.{Member}
use Rattle.laws_answers.proofs.Members.{every_member}
use Rattle.laws_exceptions.specs.Exceptions.{contains}
use Rattle.laws_exceptions.proofs.Exceptions.{contains_each}

module _ (I : Index) (S : Sound I) {l : Labelling} (m : Member l I.labels) where
  abbrev L : SoundLabelling I.children l
  L = every_member (SoundLabelling I.children) S.labelled m

  abbrev s : ℕ → ℕ
  s p = get_or l.s p 0

  abbrev e : ℕ → ℕ
  e p = get_or l.e p 0

  some_below : (B p : ℕ) → p < length I.children → e p ≤ B → 1 ≤ s p
  some_below zero p b h = absurd (omega (arith, e_some L p b))
  some_below (suc B) p b h =
      rw (L.outer_is p b)
      (least_above s (e p) 1 (get_or I.children p []) (e_some L p b)
      (λ q i. some_below B q (child_in S.condensed p q b i) (omega (arith, L.falls p q b i))))

  -- s is a rank, not above e
  pub s_some : (p : ℕ) → p < length I.children → 1 ≤ s p
  s_some p b = some_below (e p) p b (omega arith)

  pub s_most : (p : ℕ) → p < length I.children → s p ≤ e p
  s_most p b = omega (arith, L.outer_is p b, least_below s (e p) (get_or I.children p []))

  -- what x contains has its rank in x's outer interval
  pub contained_ranks : (x y : ℕ) → y < length I.children → contains I x y ≡ true → (s x ≤ e y) × (e y ≤ e x)
  contained_ranks x y b c =
      let (low, high) = contains_each I x y c m in
      (omega (arith, low, s_most y b), high)
