-- Labels written with another number of labels by place. Those of group p lie where those before it end; and what is written of each group, with the places by rank
-- behind, is the labelling's numbers.
use mathlib.Core.Path.{◌≡◌, refl, sym, ap, ap₂, ◌∙◌}
use mathlib.Core.List.{List, ◌++◌, map}
use Prim.Native.Nat.{ℕ, ◌+◌, ◌*◌, ◌-◌, ◌≤◌, ◌<◌}
use native.Mathlib.Nat.{mul-le-mul_left}
use native.Mathlib.Omega.{arith}
use lib.ListN.{length}
use Rattle.lineage.specs.Lists.{upto, joined}
use Rattle.lineage.specs.Numbers.{num_at, numbers, written}
use Rattle.lineage.specs.Stored.{label_of, label_numbers}
use Rattle.laws.proofs.Lists.{table_same}
use Rattle.laws.proofs.Joined.{table_blocks_long}
use Rattle.numbers.specs.Put.{put}
use Rattle.numbers.specs.Regions.{Part}
use Rattle.numbers.proofs.Written.{written_next}
use Rattle.stored_header.specs.Header.{Stride}
use Rattle.stored.specs.Sections.{labelling_in, tuples_of, places_of}
use Rattle.stored.proofs.Sections.{s_at, m_at, e_at}
use Rattle.sound_ranks.specs.declared.reading.TuplesByPlace.{TuplesByPlace}
use Rattle.build_writing.specs.Words.{label_by}
use Rattle.build_writing.proofs.Labellings.{label_long}
use Rattle.hierarchy_labels.specs.Turned.{label_from, labelling_of, ByPlace}

-- the labels of each group lie within what is lent
pub next_room :
    {out : List ℕ} {at : ℕ} {t : TuplesByPlace} {y : ℕ} → ByPlace out at t y → (p : ℕ) → p < t.k → at + t.width * (y * p) + t.width * y ≤ length out
next_room {t = t} {y = y} B p h = omega (arith, mul-le-mul_left t.width (mul-le-mul_left y (let next : p + 1 ≤ t.k = omega arith in next)), B.room)

-- what was read of group p
pub label_was : (w z y : ℕ) (tuples : List ℕ) (p : ℕ) {s m e : ℕ}
    → s ≡ num_at w tuples (z * p)
    → m ≡ num_at w tuples (z * p + (z - 2))
    → e ≡ num_at w tuples (z * p + (z - 1))
    → label_by y s m e ≡ label_from w z y tuples p
label_was w z y tuples p s m e = rw (s, m, e) refl

module _ (w z y : ℕ) (tuples places : List ℕ) (k : ℕ) where
  labels_are_lem : map (label_from w z y tuples) (upto k) ≡ map (label_of y (labelling_in w z tuples places k)) (upto k)
  labels_are_lem = table_same (label_from w z y tuples) (label_of y (labelling_in w z tuples places k)) k same
    where
      same : (p : ℕ) → p < k → label_from w z y tuples p ≡ label_of y (labelling_in w z tuples places k) p
      same p h = rw (s_at w z tuples places k p h, m_at w z tuples places k p h, e_at w z tuples places k p h)

  ranks_are : (labelling_in w z tuples places k).by_rank ≡ numbers w places k
  unfolding labelling_in
  ranks_are = refl

  -- the labels by place, and behind them the places by rank
  labelling_put : (at behind : ℕ) (out t u : List ℕ)
      → Stride y
      → at + w * ((y + 1) * k) ≤ length out
      → behind ≡ at + w * (y * k)
      → t ≡ put out at (written w (joined (map (label_from w z y tuples) (upto k))))
      → u ≡ put t behind (written w (numbers w places k))
      → u ≡ put out at (written w (label_numbers y k (labelling_in w z tuples places k)))
  labelling_put at behind out t u stride fits here et eu =
      let labels : List ℕ = joined (map (label_from w z y tuples) (upto k)) in
      let long : w * length labels ≡ w * (y * k) = ap (λ (n : ℕ). w * n) (table_blocks_long (label_from w z y tuples) y k (λ j h. label_long stride _ _ _)) in
      eu
      ∙ ap (λ (x : List ℕ). put x behind (written w (numbers w places k))) et
      ∙ written_next w at out labels (numbers w places k) behind (omega arith) (omega arith)
      ∙ ap₂ (λ (x : List (List ℕ)) (r : List ℕ). put out at (written w (joined x ++ r))) labels_are_lem (sym ranks_are)

-- as the code has both: parts of the labels
pub turned_put : (w z y k : ℕ) {labels tuples places : List ℕ}
    → Part labels (w * (0 * ((z + 1) * k))) (w * (z * k)) tuples
    → Part labels (w * (0 * ((z + 1) * k) + z * k)) (w * k) places
    → (at behind : ℕ) (out t u : List ℕ)
    → Stride y
    → at + w * ((y + 1) * k) ≤ length out
    → behind ≡ at + w * (y * k)
    → t ≡ put out at (written w (joined (map (label_from w z y tuples) (upto k))))
    → u ≡ put t behind (written w (numbers w places k))
    → u ≡ put out at (written w (label_numbers y k (labelling_of w z labels k)))
unfolding tuples_of places_of
turned_put w z y k {labels} {tuples} {places} T P at behind out t u stride fits here et eu =
    labelling_put w z y tuples places k at behind out t u stride fits here et eu
    ∙ ap₂ (λ (a b : List ℕ). put out at (written w (label_numbers y k (labelling_in w z a b k)))) T.is P.is
