-- Steps one by one: what follows from a place, what is left to write after one name and after a run, and how many steps are passed. The height of a place on the
-- trail bounds its steps, so as long as the target is not reached a level is left.
use mathlib.Core.Bool.{Bool, true, false}
use mathlib.Core.Path.{◌≡◌, refl, sym, ap, ◌∙◌}
use mathlib.Core.List.{List, [], ◌∷◌}
use Prim.Native.Nat.{ℕ, zero, suc, ◌+◌, ◌-◌, ◌≤◌, ◌<◌}
use native.Mathlib.Omega.{arith}
use lib.Dec.{eqb}
use lib.ListN.{length, get_or, set, length-set}
use borrow.Author.Tests.{eq-eqb, ne_eqb}
use Rattle.std.specs.List.{find}
use Rattle.std.specs.Option.{unwrap_or}
use Rattle.std.specs.Prelude.{Option, Some, None, is_some}
use Rattle.numbers.specs.Put.{put}
use Rattle.numbers.proofs.Put.{put_none, put_next, put_sets}
use Rattle.chain_steps.specs.Chain.{onward, steps_by}
use Rattle.reach_sweep.specs.declared.groups.Groups.{Groups}
use Rattle.reach_sweep.specs.Fit.{names_of, children_of}
use Rattle.reach_sweep.specs.Sweep.{marked}
use Rattle.reach_climb.proofs.Lowest.{first_found}
use Rattle.chain_steps.specs.Steps.{Trail, TrailIn, next_in, Left, Stopped}

module _ {before : List ℕ} {from : ℕ} {all out : List ℕ} {at : ℕ} {rest : List ℕ} (L : Left before from all out at rest) where
  -- nothing is left: all is written
  pub left_none : rest ≡ [] → out ≡ put before from all
  left_none e = sym (put_none out at) ∙ ap (put out at) (sym e) ∙ L.comes

  pub left_as : {these : List ℕ} → rest ≡ these → Left before from all out at these
  left_as e = rw (← e) L

  -- what is left of what is left
  pub left_on : {out' : List ℕ} {at' : ℕ} {rest' : List ℕ} → Left out at rest out' at' rest' → Left before from all out' at' rest'
  left_on M = record { long = M.long ∙ L.long; comes = M.comes ∙ L.comes; ends = M.ends ∙ L.ends }

module _ (names : List ℕ) (next : ℕ → ℕ) (t : ℕ) where
  abbrev steps : ℕ → ℕ → List ℕ
  steps f p = steps_by names next t f p

  -- what follows from p
  abbrev pub rest : ℕ → ℕ → List ℕ
  rest f p = onward (eqb p t) (steps_by names next t f) (next p)

  pub rest_none : (f p : ℕ) → p ≡ t → rest f p ≡ []
  rest_none f p e = rw (eq-eqb p t e) refl

  pub rest_next : (f g p : ℕ) {q : ℕ} → (p ≡ t → ⊥) → q ≡ next p → f ≡ suc g → rest f p ≡ steps (suc g) q
  rest_next f g p ne chosen e = rw (ne_eqb p t ne, e, chosen) refl

  -- no more names than are allowed
  pub steps_most : (f p : ℕ) → length (steps f p) ≤ f
  unfolding steps_by
  steps_most zero p = omega arith
  steps_most (suc f) p = at (eqb p t) (steps_most f (next p))
    where
      at : (b : Bool) → length (steps f (next p)) ≤ f → suc (length (onward b (steps_by names next t f) (next p))) ≤ suc f
      at true h = omega arith
      at false h = omega arith

  -- there is room for one name
  pub room_one : (f p at l : ℕ) → at + length (steps (suc f) p) ≤ l → at < l
  unfolding steps_by
  room_one f p at l h = let one : length (steps (suc f) p) ≡ suc (length (rest f p)) = refl in omega arith

  -- one name is written
  pub left_one :
      (f p at : ℕ) (before : List ℕ) {v : ℕ} → v ≡ get_or names p 0 → at + length (steps (suc f) p) ≤ length before
      → Left before at (steps (suc f) p) (set before at v) (at + 1) (rest f p)
  unfolding steps_by
  left_one f p at before {v} is room = record {
    long = length-set before at v;
    comes =
        ap (λ s. put s (at + 1) (rest f p)) (put_sets before at (v ∷ []) (omega (arith, room_one f p at (length before) room)))
        ∙ put_next before at (v ∷ []) (omega (arith, room_one f p at (length before) room)) (rest f p)
        ∙ ap (λ x. put before at (x ∷ rest f p)) is;
    ends = let one : length (steps (suc f) p) ≡ suc (length (rest f p)) = refl in omega arith;
  }

-- a place on the trail
module _ {k : ℕ} {good : ℕ → Bool} {next : ℕ → ℕ} {t p lev : ℕ} (T : Trail k good next t p lev) where
  module _ (ne : p ≡ t → ⊥) where
    -- a level is left
    pub level_left : 1 ≤ lev
    level_left = omega (arith, (T.on p T.low T.here ne).1.1, T.within)

    -- the next place is on it, one level lower
    pub trail_on : {q l : ℕ} → q ≡ next p → lev ≡ suc l → Trail k good next t q l
    trail_on chosen e =
        let (low, (here, lower)) = T.on p T.low T.here ne in rw chosen (record {
          low = low;
          here = here;
          height = T.height;
          within = omega (arith, lower, T.within);
          on = T.on;
        })

  -- its name is written: a run stops there, or goes on from the next place
  module _
      (names : List ℕ) (floor at : ℕ) (before : List ℕ) {v : ℕ} (named : v ≡ get_or names p 0) (room : at + length (steps_by names next t (suc lev) p) ≤ length before)
    where
      pub stopped_here : Stopped k good names next t p lev floor at before (set before at v) p lev (at + 1)
      stopped_here = record { left = left_one names next t lev p at before named room; trail = T; fewer = omega arith; above = λ h. h }

      module _ (ne : p ≡ t → ⊥) {q l : ℕ} (chosen : q ≡ next p) (e : lev ≡ suc l) where
        pub room_on : at + 1 + length (steps_by names next t (suc l) q) ≤ length (set before at v)
        room_on =
            omega (
              arith,
              (left_one names next t lev p at before named room).ends,
              ap length (rest_next names next t lev l p ne chosen e),
              length-set before at v,
              room,
            )

        pub stopped_on :
            {after : List ℕ} {place level behind : ℕ} → floor ≤ l → Stopped k good names next t q l floor (at + 1) (set before at v) after place level behind
            → Stopped k good names next t p lev floor at before after place level behind
        stopped_on high S = record {
          left = left_on (left_as (left_one names next t lev p at before named room) (rest_next names next t lev l p ne chosen e)) S.left;
          trail = S.trail;
          fewer = omega (arith, S.fewer);
          above = λ h. S.above high;
        }

-- of a group on the trail, other than the target, a marked child is found: the next place
module _
    (g : Groups) (marks : List ℕ) {t p lev : ℕ} (T : TrailIn g marks t p lev) (ne : p ≡ t → ⊥) {found : Option ℕ}
    (lowest : found ≡ find (marked (names_of g) marks) (get_or (children_of g) p []))
  where
    -- the first of them, or k
    first : next_in g marks p ≡ unwrap_or found g.rows.k
    unfolding next_in
    first = first_found (marked (names_of g) marks) (get_or (children_of g) p []) g.rows.k ∙ ap (λ o. unwrap_or o g.rows.k) (sym lowest)

    pub child_found : is_some found ≡ true
    child_found = at found (rw first at (T.on p T.low T.here ne).0)
      where
        at : (o : Option ℕ) → unwrap_or o g.rows.k < g.rows.k → is_some o ≡ true
        at None low = absurd (omega arith)
        at (Some q) low = refl

    pub child_next : {q : ℕ} → found ≡ Some q → q ≡ next_in g marks p
    child_next e = sym (first ∙ ap (λ o. unwrap_or o g.rows.k) e)

-- a run has stopped: at the target all is written, otherwise the names from the next place on are left
module _
    {k : ℕ} {good : ℕ → Bool} {names : List ℕ} {next : ℕ → ℕ} {t p lev floor at : ℕ} {first all out out' : List ℕ} {place level behind : ℕ}
    (L : Left first 0 all out at (steps_by names next t (suc lev) p)) (S : Stopped k good names next t p lev floor at out out' place level behind)
  where
    pub run_done : place ≡ t → out' ≡ put first 0 all
    run_done e = left_none (left_on L S.left) (rest_none names next t level place e)

    pub run_next : (place ≡ t → ⊥) → {q l : ℕ} → q ≡ next place → level ≡ suc l → Left first 0 all out' behind (steps_by names next t (suc l) q)
    run_next ne {q} {l} chosen e = left_as (left_on L S.left) (rest_next names next t level l place ne chosen e)

-- of `all` names, from one at most `lev` high on, those from p on are still to be counted: so many levels as were gone down are passed
pub record Counting (k : ℕ) (good : ℕ → Bool) (names : List ℕ) (next : ℕ → ℕ) (t all lev p level : ℕ) : Type 0 where
  pub trail : Trail k good next t p level
  pub fewer : level ≤ lev
  pub passed : lev + length (steps_by names next t (suc level) p) ≡ level + all

module _ {k : ℕ} {good : ℕ → Bool} {names : List ℕ} {next : ℕ → ℕ} {t all lev p level : ℕ} (C : Counting k good names next t all lev p level) where
  -- the target is passed last
  pub counting_all : p ≡ t → lev - level + 1 ≡ all
  unfolding steps_by
  counting_all e = omega (arith, C.passed, C.fewer, ap length (rest_none names next t level p e))

  pub counting_next : (p ≡ t → ⊥) → {q l : ℕ} → q ≡ next p → level ≡ suc l → Counting k good names next t all lev q l
  unfolding steps_by
  counting_next ne {q} {l} chosen e = record {
    trail = trail_on C.trail ne chosen e;
    fewer = omega (arith, C.fewer);
    passed = omega (arith, C.passed, ap length (rest_next names next t level l p ne chosen e));
  }
