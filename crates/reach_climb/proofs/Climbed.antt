-- After the climb a group is marked exactly where it reaches a group marked before. A mark is only ever handed to a parent, so what is marked reaches.
-- The other way: children have lower ranks, so when a group has its turn all its children have had theirs.
use mathlib.Core.Bool.{true}
use mathlib.Core.Logic.{inl, inr, ◌↔◌}
use mathlib.Core.Path.{◌≡◌, refl, subst, ◌∙◌}
use mathlib.Core.List.{List, []}
use Prim.Native.Nat.{ℕ, zero, suc, ◌≤◌, ◌<◌}
use native.Mathlib.Decide.{ℕ_discrete}
use native.Mathlib.Omega.{arith}
use lib.ListN.{length, get_or, drop}
use Rattle.lineage.specs.Lists.{among}
use Rattle.lineage.specs.Labels.{Labelling}
use Rattle.laws.specs.Leads.{stay, step, Down}
use Rattle.laws.specs.Sound.{SoundLabelling, SoundGroups}
use Rattle.laws.proofs.Lists.{in_any, any_in}
use Rattle.laws.proofs.Grouped.{child_in, group_name, place_one}
use Rattle.laws.proofs.Inverse.{e_some, e_most, at_e}
use Rattle.reach_sweep.specs.Sweep.{marked}
use Rattle.reach_climb.specs.Climb.{lifted, climbed, Reaching}
use Rattle.reach_climb.proofs.Lifted.{lifted_long, lifted_past, lifted_keeps, lifted_gives, lifted_from}

-- the marks are as many as before
pub climbed_long :
    (groups : List ℕ) (children : List (List ℕ)) (places : List ℕ) (r : ℕ) (marks : List ℕ) → length (climbed groups children places r marks) ≡ length marks
unfolding climbed
climbed_long groups children places zero marks = refl
climbed_long groups children places (suc r) marks =
    lifted_long groups children (get_or places r 0) (climbed groups children places r marks) ∙ climbed_long groups children places r marks

module _
    {names groups levels : List ℕ} {children : List (List ℕ)} (S : SoundGroups names groups levels children)
    {l : Labelling} (L : SoundLabelling children l) (marks : List ℕ)
  where
    abbrev Marked : List ℕ → ℕ → Type 0
    Marked m p = marked groups m p ≡ true

    abbrev after : ℕ → List ℕ
    after r = climbed groups children l.by_rank r marks

    abbrev at : ℕ → ℕ
    at r = get_or l.by_rank r 0

    abbrev rank : ℕ → ℕ
    rank p = get_or l.e p 0

    -- what is marked reaches a group marked before
    climbed_from : (r : ℕ) (p : ℕ) → r ≤ length children → p < length children → Marked (after r) p → Reaching groups children marks p
    unfolding climbed
    climbed_from zero p hr hp h = record { to = p; low = hp; was = h; path = stay }
    climbed_from (suc r) p hr hp h =
        elim (lifted_from groups children (at r) (after r) p h) [
          | inl m ↦ climbed_from r p (omega arith) hp m
          | inr (e, some) ↦
              let here : p ≡ at r = place_one S p (at r) hp (L.at_low r hr) e in
              up p (at r) here (in_any (marked groups (after r)) (get_or children (at r) []) some)
              (λ q i m. climbed_from r q (omega arith) (child_in S (at r) q (L.at_low r hr) i) m)
        ]
      where
        -- a parent of one that reaches
        up :
            (p a : ℕ) → p ≡ a → ((q : ℕ) × (among q (get_or children a []) ≡ true) × Marked (after r) q)
            → ((q : ℕ) → among q (get_or children a []) ≡ true → Marked (after r) q → Reaching groups children marks q) → Reaching groups children marks p
        up p a here (q, i, m) ih = let R = ih q i m in record { to = R.to; low = R.low; was = R.was; path = rw here (step i R.path) }

    module _ (room : length names ≤ length marks) where
      -- no mark is taken away
      climbed_keeps : (r p : ℕ) → Marked marks p → Marked (after r) p
      unfolding climbed
      climbed_keeps zero p m = m
      climbed_keeps (suc r) p m = lifted_keeps groups children (at r) (after r) p (climbed_keeps r p m)

      -- a group that has had its turn is marked where it reaches
      climbed_reaches : (r p t : ℕ) → r ≤ length children → p < length children → rank p ≤ r → Marked marks t → Down children p t → Marked (after r) p
      unfolding climbed
      climbed_reaches zero p t hr hp low m d = absurd (omega (arith, e_some L p hp))
      climbed_reaches (suc r) p t hr hp low m d =
          elim (ℕ_discrete (rank p) (suc r)) [
            | yes e ↦ turn p t (at_e L p r hp e) hp m (λ q i d'. climbed_reaches r q t (omega arith) (child_in S p q hp i) (omega (arith, L.falls p q hp i)) m d') d
            | no ne ↦ lifted_keeps groups children (at r) (after r) p (climbed_reaches r p t (omega arith) hp (omega arith) m d)
          ]
        where
          turn :
              (p t : ℕ) → at r ≡ p → p < length children → Marked marks t
              → ((q : ℕ) → among q (get_or children p []) ≡ true → Down children q t → Marked (after r) q)
              → Down children p t → Marked (lifted groups children (at r) (after r)) p
          turn p t here hp m ih stay = lifted_keeps groups children (at r) (after r) p (climbed_keeps r p m)
          turn p t here hp m ih (step {q = q} i d) =
              rw here
              (lifted_gives groups children p (after r) (omega (arith, group_name S p hp, climbed_long groups children l.by_rank r marks))
              (any_in (marked groups (after r)) q (get_or children p []) i (ih q i d)))

      -- the two together
      pub climbed_reaching : (p : ℕ) → p < length children → Marked (after (length children)) p ↔ Reaching groups children marks p
      climbed_reaching p hp = (
        climbed_from (length children) p (omega arith) hp,
        λ R. climbed_reaches (length children) p R.to (omega arith) hp (e_most L p hp) R.was R.path,
      )

      -- where t alone was marked
      pub climbed_exactly :
          (t : ℕ) → t < length children → Marked marks t → ((q : ℕ) → q < length children → Marked marks q → q ≡ t)
          → (p : ℕ) → p < length children → (marked groups (climbed groups children l.by_rank (length children) marks) p ≡ true) ↔ Down children p t
      climbed_exactly t ht m alone p hp = (
        λ h. let R = climbed_from (length children) p (omega arith) hp h in subst (λ (x : ℕ). Down children p x) (alone R.to R.low R.was) R.path,
        climbed_reaches (length children) p t (omega arith) hp (e_most L p hp) m,
      )

    -- the marks from n on are kept
    pub climbed_past : (r : ℕ) → r ≤ length children → drop (length names) (climbed groups children l.by_rank r marks) ≡ drop (length names) marks
    unfolding climbed
    climbed_past zero hr = refl
    climbed_past (suc r) hr = lifted_past groups children (at r) (after r) (length names) (group_name S (at r) (L.at_low r hr)).0 ∙ climbed_past r (omega arith)
