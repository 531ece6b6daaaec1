-- One labelling: the numbers of each group by place, and behind them its places by rank, make up its numbers.
use mathlib.Core.Path.{◌≡◌, refl, ap, subst, ◌∙◌}
use mathlib.Core.List.{List, map}
use Prim.Native.Nat.{ℕ, ◌+◌, ◌*◌, ◌≤◌, ◌<◌}
use native.Mathlib.Nat.{mul-le-mul_left}
use native.Mathlib.Omega.{arith}
use lib.ListN.{length}
use borrow.Author.Tests.{eq-eqb, ne_eqb}
use Rattle.lineage.specs.Lists.{upto, joined}
use Rattle.lineage.specs.Numbers.{le_bytes, written}
use Rattle.lineage.specs.Labels.{Labelling}
use Rattle.lineage.specs.Stored.{label_of, label_numbers}
use Rattle.laws.proofs.Joined.{table_blocks_long}
use Rattle.numbers.specs.Put.{put}
use Rattle.numbers.proofs.Written.{written_next}
use Rattle.stored_header.specs.Header.{Stride}
use Rattle.stored_header.proofs.Forms.{stride_each}
use Rattle.build_writing.specs.Words.{label_by}
use Rattle.build_writing.specs.Fit.{LabelsFit}
use Rattle.build_writing.proofs.Behind.{pair_put, triple_put}

-- a group's numbers are z
module _ {z : ℕ} (stride : Stride z) (s m e : ℕ) where
  pub label_long : length (label_by z s m e) ≡ z
  label_long = stride_each (λ y. length (label_by y s m e) ≡ y) refl refl stride

-- they are written one by one, each within the room of all
module _ (w at z s m e : ℕ) (out : List ℕ) (stride : Stride z) (room : at + w * z ≤ length out) where
  pub two_fit : at + w * 2 ≤ length out
  two_fit = omega (arith, mul-le-mul_left w stride.low)

  pub three_fit : (z ≡ 2 → ⊥) → at + w * 3 ≤ length out
  three_fit other = let three : z ≡ 3 = omega (arith, stride.low, stride.high, other) in subst (λ (y : ℕ). at + w * y ≤ length out) three room

  pub label_pair : (t u : List ℕ) → z ≡ 2
      → t ≡ put out at (le_bytes w s)
      → u ≡ put t (at + w) (le_bytes w e)
      → u ≡ put out at (written w (label_by z s m e))
  label_pair t u two et eu = rw (eq-eqb z 2 two) (pair_put w at s e out t u (omega (arith, two_fit)) et eu)

  pub label_triple : (t u v : List ℕ) → (z ≡ 2 → ⊥)
      → t ≡ put out at (le_bytes w s)
      → u ≡ put t (at + w) (le_bytes w m)
      → v ≡ put u (at + w + w) (le_bytes w e)
      → v ≡ put out at (written w (label_by z s m e))
  label_triple t u v other et eu ev = rw (ne_eqb z 2 other) (triple_put w at s m e out t u v two_fit et eu ev)

-- those of group i lie where those before it end
pub labels_room : {out : List ℕ} {at w z : ℕ} {l : Labelling} → LabelsFit out at w z l → (i : ℕ) → i < length l.s → at + w * (z * i) + w * z ≤ length out
labels_room {w = w} {z = z} {l = l} fit i h = omega (arith, mul-le-mul_left w (mul-le-mul_left z (let next : i + 1 ≤ length l.s = omega arith in next)), fit.room)

pub labelling_put : (w at z k places : ℕ) (l : Labelling) (out t u : List ℕ)
    → Stride z
    → at + w * ((z + 1) * k) ≤ length out
    → places ≡ at + w * (z * k)
    → t ≡ put out at (written w (joined (map (label_of z l) (upto k))))
    → u ≡ put t places (written w l.by_rank)
    → u ≡ put out at (written w (label_numbers z k l))
labelling_put w at z k places l out t u stride fits here et eu =
    let labels : List ℕ = joined (map (label_of z l) (upto k)) in
    let long : w * length labels ≡ w * (z * k) = ap (λ (n : ℕ). w * n) (table_blocks_long (label_of z l) z k (λ j h. label_long stride _ _ _)) in
    eu
    ∙ ap (λ (x : List ℕ). put x places (written w l.by_rank)) et
    ∙ written_next w at out labels l.by_rank places (omega arith) (omega arith)
