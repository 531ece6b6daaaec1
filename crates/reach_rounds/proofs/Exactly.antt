-- The rounds decide: where u's group alone is marked before, v's group is marked afterwards exactly where children and added edges lead from the one to the other.
-- A mark is handed on along these alone, so what is marked is led to. The other way: every round that goes on leaves fewer targets of added edges unmarked, so as many
-- rounds as there are added edges end with the target marked, or with marked groups that no child and no added edge leads out of.
use mathlib.Core.Bool.{Bool, true, false, not}
use mathlib.Core.Logic.{◌⊎◌, inl, inr, ◌↔◌}
use mathlib.Core.Path.{◌≡◌, refl, sym, subst, ◌∙◌}
use mathlib.Core.List.{List, [], ◌∷◌, map}
use Prim.Native.Nat.{ℕ, zero, suc, ◌≤◌, ◌<◌}
use native.Mathlib.Omega.{arith}
use lib.ListN.{length, get_or, set}
use borrow.Author.Tests.{eqb-true, eq-eqb}
use Rattle.lineage.specs.Graph.{Graph, Edge, first, later, Reaches, stay, step}
use Rattle.lineage.specs.Index.{Index}
use Rattle.lineage.specs.Question.{place_in}
use Rattle.lineage.specs.Sound.{child_of}
use Rattle.laws.specs.Leads as leads
use Rattle.laws.specs.Sound.{SoundGroups, Sound}
use Rattle.laws.proofs.Tests.{and_left}
use Rattle.laws.proofs.Closed.{leads_on}
use Rattle.laws.proofs.Lists.{in_one, those_split}
use Rattle.laws.proofs.Reaches.{reaches_on}
use Rattle.laws.proofs.Grouped.{child_in, name_in, place_low, name_of_place, place_one}
use Rattle.laws.proofs.Inverse.{e_most}
use Rattle.numbers.proofs.Marks.{marks_keep, marks_from}
use Rattle.reach_sweep.specs.Sweep.{marked, row_marked, turn, swept, Reached}
use Rattle.reach_sweep.proofs.Turn.{turn_marked, turn_passed}
use Rattle.reach_sweep.proofs.Swept.{swept_long}
use Rattle.reach.specs.Marks.{first_labels, swept_in}
use Rattle.reach.proofs.Marked.{first_sound, sweep_exactly}
use Rattle.reach_rounds.specs.Over.{groups_with}
use Rattle.reach_rounds.specs.Rounds.{is_marked, leads_out, crossed, spread_over, one_led_out, go_on, rounds, swept_all, rounds_in}
use Rattle.reach_rounds.proofs.Groups.{Step, child, added, edge_step, step_edge, step_low}
use Rattle.reach_rounds.proofs.Kept.{rounds_keep}
use Rattle.reach_rounds.proofs.Closes.{either, spread_long, bare, Keeps, spread_keeps, bare_less, bare_falls, still_closed}

-- a sweep takes no mark away
module _ (groups : List ℕ) (children : List (List ℕ)) (places : List ℕ) where
  turn_at : (p : ℕ) (marks : List ℕ) (j : ℕ) → get_or marks j 0 ≡ 1 → get_or (turn groups children p marks) j 0 ≡ 1
  unfolding row_marked
  turn_at p marks j h = at (marked groups marks p) refl
    where
      at : (b : Bool) → marked groups marks p ≡ b → get_or (turn groups children p marks) j 0 ≡ 1
      at true e = rw (turn_marked groups children p marks e) (marks_keep (map (λ q. get_or groups q 0) (get_or children p [])) marks j h)
      at false e = rw (turn_passed groups children p marks e) h

  swept_at : (r : ℕ) (marks : List ℕ) (j : ℕ) → get_or marks j 0 ≡ 1 → get_or (swept groups children places r marks) j 0 ≡ 1
  unfolding swept
  swept_at zero marks j h = h
  swept_at (suc r) marks j h = swept_at r (turn groups children (get_or places r 0) marks) j (turn_at (get_or places r 0) marks j h)

module _
    {I : Index} (Z : Sound I) (some : 0 < length I.labels) {S T : List ℕ} (paired : length S ≡ length T)
    (low : (a b : ℕ) → Edge S T a b → (a < length I.names) × (b < length I.names))
  where
    abbrev D : Graph
    D = groups_with I S T

    G : SoundGroups I.names I.groups I.levels I.children
    G = Z.condensed

    abbrev k : ℕ
    k = length I.children

    abbrev Marked : List ℕ → ℕ → Type 0
    Marked m p = marked I.groups m p ≡ true

    -- a vertex's group is marked where its name is
    name_marked : (m : List ℕ) (x : ℕ) → x < length I.names → is_marked I.names m x ≡ true → Marked m (place_in I x)
    name_marked m x h e = rw (name_of_place G x h) e

    marked_name : (m : List ℕ) (x : ℕ) → x < length I.names → Marked m (place_in I x) → is_marked I.names m x ≡ true
    marked_name m x h e = rw (name_of_place G x h) at e

    -- the sweep through all ranks marks what is below marked groups
    sweep_long : (m : List ℕ) → length (swept_all I m) ≡ length m
    unfolding swept_in
    sweep_long m = swept_long I.groups I.children (first_labels I.labels).by_rank k m

    sweep_all : (m : List ℕ) → length I.names ≤ length m → (q : ℕ) → q < k → Marked (swept_all I m) q ↔ Reached I.groups I.children m q
    sweep_all m room = sweep_exactly Z some k m room (omega arith) (λ p h x. e_most (first_sound I.children I.labels Z.labelled some) p h)

    -- all that is marked is led to from x
    module _ (x : ℕ) where
      record All (m : List ℕ) : Type 0 where
        each : (q : ℕ) → q < k → Marked m q → Reaches D x q

      on_step : {p q : ℕ} → Reaches D x p → Step I S T p q → Reaches D x q
      on_step r s = reaches_on r (step (step_edge I S T s) stay)

      along : {p q : ℕ} → p < k → Reaches D x p → leads.Down I.children p q → Reaches D x q
      along h r leads.stay = r
      along h r (leads.step {p = p} {q = q} i d) = along (child_in G p q h i) (on_step r (child h i)) d

      swept_led : (m : List ℕ) → length I.names ≤ length m → All m → All (swept_all I m)
      swept_led m room A = record {
        each = λ q h e.
            let R = (sweep_all m room q h).0 e in
            along R.low (A.each R.from R.low R.was) R.path;
      }

      crossed_led : (a b : ℕ) → Edge S T a b → (m : List ℕ) → All m → All (crossed I.names a b m)
      unfolding leads_out
      crossed_led a b e m A = either I.names a b m All with_mark A
        where
          l : (a < length I.names) × (b < length I.names)
          l = low a b e

          with_mark : leads_out I.names m a b ≡ true → All (set m (get_or I.names b 0) 1)
          with_mark out = record {
            each = λ q h c.
                elim (marks_from (get_or I.names b 0 ∷ []) m (get_or I.groups q 0) (eqb-true _ 1 c)) [
                  | inl before ↦ A.each q h (eq-eqb _ 1 before)
                  | inr i ↦
                      let here : q ≡ place_in I b =
                      place_one G q (place_in I b) h (place_low G b l.1) (in_one (get_or I.groups q 0) (get_or I.names b 0) i ∙ sym (name_of_place G b l.1)) in
                      subst (Reaches D x) (sym here)
                      (on_step (A.each (place_in I a) (place_low G a l.0) (name_marked m a l.0 (and_left _ _ out))) (added e))
                ];
          }

      -- some of the added edges, and a pass over them
      spread_led : (S' T' m : List ℕ) → ((a b : ℕ) → Edge S' T' a b → Edge S T a b) → All m → All (spread_over I.names S' T' m)
      unfolding spread_over
      spread_led [] T' m in_all A = A
      spread_led (s ∷ S') [] m in_all A = A
      spread_led (s ∷ S') (t ∷ T') m in_all A =
          spread_led S' T' (crossed I.names s t m) (λ a b e. in_all a b (later e)) (crossed_led s t (in_all s t first) m A)

      rounds_led : (v f : ℕ) (m : List ℕ) → length I.names ≤ length m → All m → All (rounds I.names S T v (swept_all I) f m)
      rounds_led v f m room A =
          (rounds_keep I.names S T v (swept_all I) (λ y. (length I.names ≤ length y) × All y)
          (λ y h. (omega (arith, sweep_long y, h.0), swept_led y h.0 h.1))
          (λ y h. (omega (arith, spread_long I.names S T y, h.0), spread_led S T y (λ a b e. e) h.1)) f m (room, A)).1

    -- every marked group has its children marked, after a sweep; and no mark is taken away
    record Shut (m : List ℕ) : Type 0 where
      each : (p q : ℕ) → p < k → Marked m p → child_of I.children p q ≡ true → Marked m q

    sweep_shut : (m : List ℕ) → length I.names ≤ length m → Shut (swept_all I m)
    sweep_shut m room = record {
      each = λ p q h e i.
          let R = (sweep_all m room p h).0 e in
          (sweep_all m room q (child_in G p q h i)).1
          (record { from = R.from; low = R.low; was = R.was; path = leads_on R.path (leads.step i leads.stay) });
    }

    sweep_keeps : (m : List ℕ) → Keeps I.names m (swept_all I m)
    unfolding swept_in
    sweep_keeps m =
        record { each = λ x h. eq-eqb _ 1 (swept_at I.groups I.children (first_labels I.labels).by_rank k m (get_or I.names x 0) (eqb-true _ 1 h)) }

    -- the rounds end with the target marked, or with no added edge that leads out of the marked groups
    module _ (v : ℕ) where
      record Settled (first m : List ℕ) : Type 0 where
        shut : Shut m
        kept : Keeps I.names first m
        over : (is_marked I.names m v ≡ true) ⊎ (one_led_out I.names S T m ≡ false)

      edge_low : (m : List ℕ) → length I.names ≤ length m → (a b : ℕ) → Edge S T a b → get_or I.names b 0 < length m
      edge_low m room a b e = omega (arith, name_in G b (low a b e).1)

      settle : (f : ℕ) (m : List ℕ) → length I.names ≤ length m → bare I.names T (swept_all I m) ≤ f → Settled m (rounds I.names S T v (swept_all I) f m)
      unfolding rounds
      settle zero m room few = record { shut = sweep_shut m room; kept = sweep_keeps m; over = inr (at (one_led_out I.names S T (swept_all I m)) refl) }
        where
          at : (b : Bool) → one_led_out I.names S T (swept_all I m) ≡ b → one_led_out I.names S T (swept_all I m) ≡ false
          at true e = absurd (omega (arith, bare_falls I.names S T (swept_all I m) (edge_low (swept_all I m) (omega (arith, sweep_long m))) e))
          at false e = e
      settle (suc f) m room few =
          let s : List ℕ = swept_all I m in
          let more : List ℕ = spread_over I.names S T s in
          at (is_marked I.names s v) refl (one_led_out I.names S T s) refl
          (λ out.
          settle f more (omega (arith, sweep_long m, spread_long I.names S T s))
          (omega (arith, bare_less I.names T (sweep_keeps more), bare_falls I.names S T s (edge_low s (omega (arith, sweep_long m))) out)))
        where
          at :
              (a : Bool) → is_marked I.names (swept_all I m) v ≡ a → (b : Bool) → one_led_out I.names S T (swept_all I m) ≡ b
              → (one_led_out I.names S T (swept_all I m) ≡ true
              → Settled (spread_over I.names S T (swept_all I m)) (rounds I.names S T v (swept_all I) f (spread_over I.names S T (swept_all I m))))
              → Settled m
              (go_on (is_marked I.names (swept_all I m) v) (one_led_out I.names S T (swept_all I m)) (λ x. rounds I.names S T v (swept_all I) f x) (swept_all I m)
              (spread_over I.names S T (swept_all I m)))
          at true ea b eb ih = rw ea (record { shut = sweep_shut m room; kept = sweep_keeps m; over = inl ea })
          at false ea false eb ih = rw (ea, eb) (record { shut = sweep_shut m room; kept = sweep_keeps m; over = inr eb })
          at false ea true eb ih =
              let R = ih eb in
              rw (ea, eb) (record {
                shut = R.shut;
                kept = record { each = λ x h. R.kept.each x ((spread_keeps I.names S T (swept_all I m)).each x ((sweep_keeps m).each x h)) };
                over = R.over;
              })

      few : (m : List ℕ) → bare I.names T m ≤ length S
      few m = omega (arith, those_split (λ t. not (is_marked I.names m t)) T)

    -- u's group alone is marked
    module _
        (marks : List ℕ) (room : length I.names ≤ length marks) (u v : ℕ) (hu : u < length I.names) (hv : v < length I.names)
        (was : is_marked I.names marks u ≡ true) (alone : (q : ℕ) → q < k → Marked marks q → q ≡ place_in I u)
      where
        abbrev after : List ℕ
        after = rounds_in I S T v marks

        settled : Settled v marks after
        settled = settle v (length S) marks room (few v (swept_all I marks))

        -- where no added edge leads out, what is led to from a marked group is marked
        led_marked : one_led_out I.names S T after ≡ false → {p q : ℕ} → p < k → Marked after p → Reaches D p q → Marked after q
        led_marked still h m stay = m
        led_marked still h m (step {u = p} {w = x} e r) = let s = edge_step I S T p x e in led_marked still (step_low Z low s).1 (one h m s) r
          where
            one : {p q : ℕ} → p < k → Marked after p → Step I S T p q → Marked after q
            one h m (child {p} {q} l i) = settled.shut.each p q h m i
            one h m (added {a} {b} e) =
                name_marked after b (low a b e).1 (still_closed I.names S T after still a b e (marked_name after a (low a b e).0 m))

        pub rounds_exactly : (is_marked I.names after v ≡ true) ↔ Reaches D (place_in I u) (place_in I v)
        rounds_exactly = (
          λ h.
              (rounds_led (place_in I u) v (length S) marks room (record { each = λ q l m. subst (Reaches D (place_in I u)) (sym (alone q l m)) stay })).each
              (place_in I v) (place_low G v hv) (name_marked after v hv h),
          λ r.
              elim settled.over [
                | inl h ↦ h
                | inr still ↦ marked_name after v hv (led_marked still (place_low G u hu) (name_marked after u hu (settled.kept.each u was)) r)
              ],
        )
