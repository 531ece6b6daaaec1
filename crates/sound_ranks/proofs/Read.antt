-- What is read of a labelling: s, m and e of a place, and the place at a rank.
use mathlib.Core.Path.{◌≡◌, sym, ap, ◌∙◌}
use mathlib.Core.List.{List}
use Prim.Native.Nat.{ℕ, ◌+◌, ◌-◌, ◌*◌, ◌≤◌, ◌<◌}
use lib.ListN.{length, get_or}
use Rattle.lineage.specs.Labels.{Labelling}
use Rattle.lineage.specs.Numbers.{Width, num_at}
use Rattle.stored.specs.Sections.{labelling_in}
use Rattle.stored.proofs.Held.{number_low}
use Rattle.stored.proofs.Read.{can_read}
use Rattle.stored.proofs.Sections.{s_at, m_at, e_at, place_at}
use Rattle.sound_ranks.specs.Fit.{Tuples, LabellingHeld}
use Rattle.sound_ranks.specs.Tests.{tuples_alone}
use Rattle.sound_ranks.specs.Reading.{labelling_read}
use Rattle.sound_ranks.specs.declared.reading.OneLabelling.{OneLabelling}

module _ {w z k : ℕ} {tuples : List ℕ} (T : Tuples w z tuples k) (places : List ℕ) where
  pub s_was : {p x : ℕ} → p < k → x ≡ num_at w tuples (z * p) → x ≡ get_or (labelling_in w z tuples places k).s p 0
  s_was {p} h e = e ∙ sym (s_at w z tuples places k p h)

  pub m_was : {p x : ℕ} → p < k → x ≡ num_at w tuples (z * p + (z - 2)) → x ≡ get_or (labelling_in w z tuples places k).m p 0
  m_was {p} h e = e ∙ sym (m_at w z tuples places k p h)

  pub e_was : {p x : ℕ} → p < k → x ≡ num_at w tuples (z * p + (z - 1)) → x ≡ get_or (labelling_in w z tuples places k).e p 0
  e_was {p} h e = e ∙ sym (e_at w z tuples places k p h)

pub place_was : {w z k : ℕ} {tuples places : List ℕ} → LabellingHeld w z tuples places k → {r p : ℕ} → r < k → p ≡ num_at w places r
    → p ≡ get_or (labelling_in w z tuples places k).by_rank r 0
place_was {w} {z} {k} {tuples} {places} L {r} h e = e ∙ sym (place_at w z tuples places k r h)

-- told by the numbers by place alone, m and e are those of the labelling
module _ {z : ℕ} (l : OneLabelling z) {alone : Labelling} (is : alone ≡ tuples_alone l.width z l.tuples.now l.k) (p : ℕ) {x : ℕ} where
  pub m_told : x ≡ get_or alone.m p 0 → x ≡ get_or (labelling_read z l).m p 0
  unfolding labelling_in
  m_told e = e ∙ ap (λ (t : Labelling). get_or t.m p 0) is

  pub e_told : x ≡ get_or alone.e p 0 → x ≡ get_or (labelling_read z l).e p 0
  unfolding labelling_in
  e_told e = e ∙ ap (λ (t : Labelling). get_or t.e p 0) is

-- what is read stands within the stretch: number i of the z of group p
module _ {w z k : ℕ} {tuples : List ℕ} (T : Tuples w z tuples k) {p : ℕ} (low : p < k) where
  pub can_read_number : {i : ℕ} → i < z → record { width : Width w; w_in_bounds : w * (z * p + i) + w ≤ length tuples }
  can_read_number {i} h = can_read T.held (number_low z k p i low h)
