-- After the sweep a group is marked exactly where it is reached from a group marked before. A mark is only ever handed to a child, so what is marked
-- is reached. The other way: once a group had its turn its own mark stays as it is, since later turns are of lower ranks and children have lower ranks
-- still; so every group that had its turn and is marked has all its children marked, and at the end this goes for all groups.
use mathlib.Core.Bool.{true}
use mathlib.Core.Logic.{◌⊎◌, inl, inr, ◌↔◌}
use mathlib.Core.Path.{◌≡◌, refl, sym, ◌∙◌}
use mathlib.Core.List.{List}
use Prim.Native.Nat.{ℕ, zero, suc, ◌≤◌, ◌<◌}
use native.Mathlib.Decide.{ℕ_discrete}
use native.Mathlib.Omega.{arith}
use lib.ListN.{length, get_or, drop}
use borrow.Author.Tests.{eqb-true, eq-eqb}
use Rattle.lineage.specs.Labels.{Labelling}
use Rattle.lineage.specs.Sound.{child_of}
use Rattle.laws.specs.Leads.{stay, step, Down}
use Rattle.laws.specs.Sound.{SoundLabelling, SoundGroups}
use Rattle.laws.proofs.Grouped.{child_in, group_name, place_one}
use Rattle.laws.proofs.Inverse.{e_some, at_e}
use Rattle.reach_sweep.specs.Sweep.{marked, turn, swept, Reached}
use Rattle.reach_sweep.proofs.Turn.{turn_long, turn_past, turn_keeps, turn_gives, turn_from}

-- the marks are as many as before
pub swept_long :
    (groups : List ℕ) (children : List (List ℕ)) (places : List ℕ) (r : ℕ) (marks : List ℕ) → length (swept groups children places r marks) ≡ length marks
unfolding swept
swept_long groups children places zero marks = refl
swept_long groups children places (suc r) marks =
    swept_long groups children places r (turn groups children (get_or places r 0) marks) ∙ turn_long groups children (get_or places r 0) marks

module _
    {names groups levels : List ℕ} {children : List (List ℕ)} (S : SoundGroups names groups levels children)
    {l : Labelling} (L : SoundLabelling children l)
  where
    abbrev Marked : List ℕ → ℕ → Type 0
    Marked marks p = marked groups marks p ≡ true

    abbrev at : ℕ → ℕ
    at r = get_or l.by_rank r 0

    abbrev rank : ℕ → ℕ
    rank p = get_or l.e p 0

    -- a mark of a group comes from before, or the group is a child of the one whose turn it is
    mark_from :
        (p : ℕ) (marks : List ℕ) (q : ℕ) → p < length children → q < length children → Marked (turn groups children p marks) q
        → Marked marks q ⊎ (Marked marks p × (child_of children p q ≡ true))
    mark_from p marks q hp hq h =
        elim (turn_from groups children p marks (get_or groups q 0) (eqb-true _ 1 h)) [
          | inl m ↦ inl (eq-eqb _ 1 m)
          | inr (x, m, i, e) ↦ inr (m, rw (sym (place_one S q x hq (child_in S p x hp i) e)) at i)
        ]

    -- what is marked is reached
    swept_from :
        (r : ℕ) (marks : List ℕ) (q : ℕ) → r ≤ length children → q < length children → Marked (swept groups children l.by_rank r marks) q
        → Reached groups children marks q
    unfolding swept
    swept_from zero marks q hr hq h = record { from = q; low = hq; was = h; path = stay }
    swept_from (suc r) marks q hr hq h = on (swept_from r (turn groups children (at r) marks) q (omega arith) hq h)
      where
        on : Reached groups children (turn groups children (at r) marks) q → Reached groups children marks q
        on R =
            elim (mark_from (at r) marks R.from (L.at_low r hr) R.low R.was) [
              | inl m ↦ record { from = R.from; low = R.low; was = m; path = R.path }
              | inr (m, i) ↦ record { from = at r; low = L.at_low r hr; was = m; path = step i R.path }
            ]

    -- every marked group of a rank above r has its children marked
    abbrev Closed : ℕ → List ℕ → Type 0
    Closed r marks = (p q : ℕ) → p < length children → r < rank p → Marked marks p → child_of children p q ≡ true → Marked marks q

    module _ (marks : List ℕ) (room : length names ≤ length marks) where
      spot : (q : ℕ) → q < length children → get_or groups q 0 < length marks
      spot q h = omega (arith, group_name S q h)

      -- a group of the rank at hand or above keeps its mark
      mark_stays : (r p : ℕ) → r < length children → p < length children → r < rank p → Marked (turn groups children (at r) marks) p → Marked marks p
      mark_stays r p hr hp above h =
          elim (mark_from (at r) marks p (L.at_low r hr) hp h) [
            | inl m ↦ m
            | inr (m, i) ↦ absurd (omega (arith, L.falls (at r) p (L.at_low r hr) i, L.e_at r hr))
          ]

      turn_closed : (r : ℕ) → r < length children → Closed (suc r) marks → Closed r (turn groups children (at r) marks)
      turn_closed r hr closed p q hp above h i =
          let m : Marked marks p = mark_stays r p hr hp above h in
          elim (ℕ_discrete (rank p) (suc r)) [
            | yes e ↦
                let here : p ≡ at r = sym (at_e L p r hp e) in
                turn_gives groups children (at r) marks q (spot q (child_in S p q hp i)) (rw here at m) (rw here at i)
            | no e ↦ turn_keeps groups children (at r) marks q (closed p q hp (omega arith) m i)
          ]

    -- where no rank is left, what is reached is marked
    closed_down : (marks : List ℕ) → Closed 0 marks → {p q : ℕ} → p < length children → Marked marks p → Down children p q → Marked marks q
    closed_down marks closed hp m stay = m
    closed_down marks closed hp m (step {p = p} {q = x} i d) = closed_down marks closed (child_in S p x hp i) (closed p x hp (e_some L p hp) m i) d

    swept_reaches :
        (r : ℕ) (marks : List ℕ) → length names ≤ length marks → r ≤ length children → Closed r marks
        → {p q : ℕ} → p < length children → Marked marks p → Down children p q → Marked (swept groups children l.by_rank r marks) q
    unfolding swept
    swept_reaches zero marks room hr closed hp m d = closed_down marks closed hp m d
    swept_reaches (suc r) marks room hr closed {p} hp m d =
        swept_reaches r (turn groups children (at r) marks) (omega (arith, turn_long groups children (at r) marks)) (omega arith)
        (turn_closed marks room r hr closed) hp (turn_keeps groups children (at r) marks p m) d

    -- the two together, where no group of a rank above `top` is marked before
    pub swept_exactly :
        (top : ℕ) (marks : List ℕ) → length names ≤ length marks → top ≤ length children
        → ((p : ℕ) → p < length children → marked groups marks p ≡ true → rank p ≤ top)
        → (q : ℕ) → q < length children
        → (marked groups (swept groups children l.by_rank top marks) q ≡ true) ↔ Reached groups children marks q
    swept_exactly top marks room hr under q hq = (
      swept_from top marks q hr hq,
      λ R. swept_reaches top marks room hr (λ p x hp above m i. absurd (omega (arith, under p hp m))) R.low R.was R.path,
    )

    -- the marks from n on are kept
    pub swept_past :
        (r : ℕ) (marks : List ℕ) → r ≤ length children → drop (length names) (swept groups children l.by_rank r marks) ≡ drop (length names) marks
    unfolding swept
    swept_past zero marks hr = refl
    swept_past (suc r) marks hr =
        swept_past r (turn groups children (at r) marks) (omega arith)
        ∙ turn_past groups children (at r) marks (length names) (λ q i. (group_name S q (child_in S (at r) q (L.at_low r hr) i)).0)
