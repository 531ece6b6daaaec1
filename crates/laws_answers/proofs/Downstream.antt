-- The downstream list of u rises and holds exactly what is downstream of u, in every graph that yields the index: it is those of 0, 1, .. that pass a test.
-- Of another vertex the test finds every path down children, since none is longer than the level of u's group. Of u itself it counts the vertices of u's
-- name: they are u's group, and there are more than one of them exactly where one is not u.
use mathlib.Core.Bool.{Bool, true, false≢true}
use mathlib.Core.Logic.Iff
use mathlib.Core.Logic.{◌↔◌}
use mathlib.Core.Path.{◌≡◌, refl, sym, ◌∙◌}
use mathlib.Core.List.{List, [], ◌∷◌}
use Prim.Native.Nat.{ℕ, ◌<◌}
use native.Mathlib.Decide.{ℕ_discrete}
use native.Mathlib.Omega.{arith}
use lib.Dec.{eqb, ltb}
use lib.ListN.{length, get_or}
use borrow.Author.Tests.{eqb-true, eq-eqb, ne_eqb, ltb-true, lt-ltb}
use Rattle.lineage.specs.Lists.{among, upto}
use Rattle.lineage.specs.Graph.{Graph, Reaches, stay, step, first, later}
use Rattle.lineage.specs.Index.{Index, Made}
use Rattle.lineage.specs.Question.{place_in, group_of, in_own_list, is_downstream, downstream}
use Rattle.laws.specs.Leads.{OneGroup}
use Rattle.laws.specs.Sound.{Sound}
use Rattle.laws.specs.Rising.{Rises}
use Rattle.laws.proofs.Lists.{those_pass, those_keep, in_upto, upto_low, in_one}
use Rattle.laws.proofs.Positions.{in_get_d}
use Rattle.laws.proofs.Rising.{rises_upto, rises_those, rises_next}
use Rattle.laws.proofs.Grouped.{place_low, leads_exactly}
use Rattle.laws.proofs.Sound.{sound_exactly, made_long, made_groups, made_paths}
use Rattle.laws_answers.specs.Answers.{Downstream, other, itself, looped}
use Rattle.laws_answers.proofs.Built.{reached_low}

-- a rising list that holds u has more than one number exactly where it holds another
more_than_one :
    (u : ℕ) (xs : List ℕ) → Rises xs → among u xs ≡ true → (ltb 1 (length xs) ≡ true) ↔ ((w : ℕ) × (w ≡ u → ⊥) × (among w xs ≡ true))
more_than_one u xs r i = (λ t. another (ltb-true 1 (length xs) t), λ d. lt-ltb 1 (length xs) (two xs i d.1 d.2))
  where
    another : 1 < length xs → (w : ℕ) × (w ≡ u → ⊥) × (among w xs ≡ true)
    another h =
        elim (ℕ_discrete (get_or xs 0 0) u) [
          | yes e ↦ (get_or xs 1 0, (λ f. absurd (omega (arith, rises_next xs r 0 h))), in_get_d xs 1 h)
          | no e ↦ (get_or xs 0 0, e, in_get_d xs 0 (omega arith))
        ]

    two : (ys : List ℕ) → among u ys ≡ true → {w : ℕ} → (w ≡ u → ⊥) → among w ys ≡ true → 1 < length ys
    two [] i apart j = absurd (false≢true i)
    two (y ∷ []) i {w} apart j = absurd (apart (in_one w y j ∙ sym (in_one u y i)))
    two (y ∷ z ∷ ys) i apart j = omega arith

module _ (I : Index) where
  -- the list rises
  pub list_rises : (u : ℕ) → Rises (downstream I u)
  unfolding downstream
  list_rises u = rises_those (is_downstream I u) (upto (length I.names)) (rises_upto (length I.names))

  -- it holds the vertices below n that pass the test
  in_list : (u v : ℕ) → (among v (downstream I u) ≡ true) ↔ ((v < length I.names) × (is_downstream I u v ≡ true))
  unfolding downstream
  in_list u v = (
    λ i. let (p, j) = those_pass (is_downstream I u) v (upto (length I.names)) i in (upto_low (length I.names) v j, p),
    λ d. those_keep (is_downstream I u) v (upto (length I.names)) d.1 (in_upto (length I.names) v d.0),
  )

-- in whatever graph yields the index
module _ {I : Index} (M : Made I) (u : ℕ) (bu : u < length I.names) where
  abbrev named : ℕ → Bool
  named v = eqb (get_or I.names v 0) (get_or I.names u 0)

  -- what u reaches is a vertex
  low : {v : ℕ} → Reaches M.graph u v → v < length I.names
  low r = omega (arith, made_long M, reached_low M.ends (omega (arith, made_long M)) r)

  -- the vertices of u's name are its group
  group_exactly : (w : ℕ) → (among w (group_of I u) ≡ true) ↔ OneGroup M.graph u w
  group_exactly w = (
    λ i. let (p, j) = those_pass named w (upto (length I.names)) i in (made_groups M u w bu (upto_low (length I.names) w j)).0 (sym (eqb-true _ _ p)),
    λ g. those_keep named w (upto (length I.names)) (eq-eqb _ _ (sym ((made_groups M u w bu (low g.0)).1 g))) (in_upto (length I.names) w (low g.0)),
  )

  -- u passes the test exactly where another vertex is in its group
  own_exactly : (is_downstream I u u ≡ true) ↔ ((w : ℕ) × (w ≡ u → ⊥) × OneGroup M.graph u w)
  unfolding is_downstream in_own_list
  own_exactly =
      let rises : Rises (group_of I u) = rises_those named (upto (length I.names)) (rises_upto (length I.names)) in
      let (to, from) = more_than_one u (group_of I u) rises ((group_exactly u).1 (stay, stay)) in
      rw (eq-eqb u u refl) (
        (λ h. let (w, apart, i) = to h in (w, apart, (group_exactly w).0 i)),
        λ d. let (w, apart, g) = d in from (w, apart, (group_exactly w).1 g),
      )

  -- another vertex exactly where u reaches it
  other_exactly : (v : ℕ) → v < length I.names → (v ≡ u → ⊥) → (is_downstream I u v ≡ true) ↔ Reaches M.graph u v
  unfolding is_downstream
  other_exactly v bv apart =
      let S : Sound I = (sound_exactly I).1 M in
      rw (ne_eqb u v (λ e. apart (sym e)))
      (Iff.trans (leads_exactly S.condensed (place_in I u) (place_in I v) (place_low S.condensed u bu)) (Iff.symm (made_paths M u v bu bv)))

  -- so the list holds exactly what is downstream of u
  pub list_exactly : (v : ℕ) → (among v (downstream I u) ≡ true) ↔ Downstream M.graph u v
  list_exactly v = (λ i. let (bv, p) = (in_list I u v).0 i in to (ℕ_discrete v u) bv p, λ d. (in_list I u v).1 (from d))
    where
      to : Dec (v ≡ u) → v < length I.names → is_downstream I u v ≡ true → Downstream M.graph u v
      to (yes e) bv p = rw e (let (w, apart, g) = own_exactly.0 (rw e at p) in itself (λ same. absurd (apart same)) g)
      to (no apart) bv p = other apart ((other_exactly v bv apart).0 p)

      from : {v : ℕ} → Downstream M.graph u v → (v < length I.names) × (is_downstream I u v ≡ true)
      from {v} (other apart r) = (low r, (other_exactly v (low r) apart).1 r)
      from (itself {w} apart g) = (bu, own_exactly.1 (w, apart, g))

-- a self-loop changes nothing: as a step of a path it can be left out
module _ (G : Graph) (x : ℕ) where
  path_looped : {u v : ℕ} → Reaches G u v → Reaches (looped G x) u v
  path_looped stay = stay
  path_looped (step e r) = step (later e) (path_looped r)

  looped_path : {u v : ℕ} → Reaches (looped G x) u v → Reaches G u v
  looped_path stay = stay
  looped_path (step first r) = looped_path r
  looped_path (step (later e) r) = step e (looped_path r)

  pub loop_nothing : {u v : ℕ} → Downstream (looped G x) u v ↔ Downstream G u v
  loop_nothing = (to, from)
    where
      to : {u v : ℕ} → Downstream (looped G x) u v → Downstream G u v
      to (other apart r) = other apart (looped_path r)
      to (itself apart g) = itself apart (looped_path g.0, looped_path g.1)

      from : {u v : ℕ} → Downstream G u v → Downstream (looped G x) u v
      from (other apart r) = other apart (path_looped r)
      from (itself apart g) = itself apart (path_looped g.0, path_looped g.1)
