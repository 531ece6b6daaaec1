-- What an edge list comes to passes the tests of names, group list, children and levels. A group reaches its children and none of them reaches it,
-- so the number of groups that a group reaches falls along children, and that number bounds how deep the level has to look.
use mathlib.Core.Bool.{Bool, true}
use mathlib.Core.Path.{◌≡◌, refl, sym, ◌∙◌}
use mathlib.Core.List.{List, []}
use Prim.Native.Nat.{ℕ, ◌<◌, ◌≤◌}
use native.Mathlib.Omega.{arith}
use lib.ListN.{length, get_or, length-map}
use Rattle.lineage.specs.Lists.{upto, those}
use Rattle.lineage.specs.Graph.{Graph, Ends, Reaches, stay, step, reaches, name_of, names_of, group_list, is_child, children_of, levels_of}
use Rattle.lineage.specs.Sound.{child_of}
use Rattle.laws.specs.Leads.{OneGroup}
use Rattle.laws.specs.Sound.{SoundGroups}
use Rattle.laws.proofs.Tests.{is_false}
use Rattle.laws.proofs.Lists.{those_pass, those_keep, in_upto, upto_low, length_upto, get_d_mapped}
use Rattle.laws.proofs.Positions.{position_low, in_get_d}
use Rattle.laws.specs.Rising.{Rises}
use Rattle.laws.proofs.Rising.{rises_upto, rises_those, rises_next, those_lt, those_short}
use Rattle.laws.proofs.Edges.{child_to}
use Rattle.laws.proofs.Reaches.{reaches_on, reaches_exactly}
use Rattle.laws.proofs.Names
use Rattle.laws.proofs.Levels.{levels_meet, levels_long}
use Rattle.laws.proofs.Grouped.{listed_name}

module _ (G : Graph) (ends : Ends G) where
  abbrev names : List ℕ
  names = names_of G

  abbrev groups : List ℕ
  groups = group_list names

  abbrev children : List (List ℕ)
  children = children_of G names groups

  -- the name at a place
  abbrev name_at : ℕ → ℕ
  name_at p = get_or groups p 0

  name_at_lem : (v : ℕ) → v < G.n → get_or names v 0 ≡ name_of G v
  name_at_lem = Names.name_at_lem G ends

  group_name : (p : ℕ) → p < length groups → (name_at p < G.n) × (name_of G (name_at p) ≡ name_at p)
  group_name p h =
      let (l, own) = listed_name names (name_at p) (in_get_d groups p h) in
      let low : name_at p < G.n = omega (arith, Names.names_long G ends) in
      (low, sym (name_at_lem (name_at p) low) ∙ own)

  -- a row for each place: those places whose group is a child
  pub children_long : length children ≡ length groups
  unfolding children_of
  children_long = length-map groups (λ a. those (λ q. is_child G names a (name_at q)) (upto (length groups)))

  pub children_at_lem : (p : ℕ) → p < length groups → get_or children p [] ≡ those (λ q. is_child G names (name_at p) (name_at q)) (upto (length groups))
  unfolding children_of
  children_at_lem p h = get_d_mapped (λ a. those (λ q. is_child G names a (name_at q)) (upto (length groups))) groups p 0 [] h

  child_is : (p q : ℕ) → p < length groups → child_of children p q ≡ true → (is_child G names (name_at p) (name_at q) ≡ true) × (q < length groups)
  child_is p q h i =
      let t = those_pass (λ x. is_child G names (name_at p) (name_at x)) q (upto (length groups)) (rw (children_at_lem p h) at i) in
      (t.0, upto_low (length groups) q t.1)

  -- a group reaches its children
  pub child_path : (p q : ℕ) → p < length groups → child_of children p q ≡ true → Reaches G (name_at p) (name_at q)
  child_path p q h i =
      let (apart, s, t, e, es, et) = child_to G names (name_at p) (name_at q) (child_is p q h i).0 in
      let ls : s < G.n = ends.sources_low s t e in
      let lt : t < G.n = ends.targets_low s t e in
      let ns : name_of G s ≡ name_at p = sym (name_at_lem s ls) ∙ es in
      let nt : name_of G t ≡ name_at q = sym (name_at_lem t lt) ∙ et in
      let to : OneGroup G s (name_at p) = rw ns at (Names.name_group G ends s ls) in
      let on : OneGroup G t (name_at q) = rw nt at (Names.name_group G ends t lt) in
      reaches_on to.1 (step e on.0)

  -- and none of them reaches it
  child_apart : (p q : ℕ) → p < length groups → child_of children p q ≡ true → Reaches G (name_at q) (name_at p) → ⊥
  child_apart p q h i r =
      let (c, j) = child_is p q h i in
      let (lp, np) = group_name p h in
      let (lq, nq) = group_name q j in
      (child_to G names (name_at p) (name_at q) c).0 (sym np ∙ (Names.name_one G ends (name_at p) (name_at q) lp lq).1 (child_path p q h i, r) ∙ nq)

  -- how many groups a group reaches
  abbrev reached : ℕ → ℕ
  reached p = length (those (λ q. reaches G (name_at p) (name_at q)) (upto (length groups)))

  reach : {u v : ℕ} → Reaches G u v → reaches G u v ≡ true
  reach {u} {v} = (reaches_exactly G ends u v).1

  reached_some : (p : ℕ) → p < length groups → 1 ≤ reached p
  reached_some p h =
      let test : ℕ → Bool = λ q. reaches G (name_at p) (name_at q) in
      omega (arith, position_low p (those test (upto (length groups))) (those_keep test p (upto (length groups)) (reach stay) (in_upto (length groups) p h)))

  reached_most : (p : ℕ) → reached p ≤ length groups
  reached_most p = omega (arith, those_short (λ q. reaches G (name_at p) (name_at q)) (upto (length groups)), length_upto (length groups))

  reached_falls : (p q : ℕ) → p < length groups → child_of children p q ≡ true → reached q < reached p
  reached_falls p q h i =
      those_lt (λ x. reaches G (name_at q) (name_at x)) (λ x. reaches G (name_at p) (name_at x)) (upto (length groups)) p
      (λ x t. reach (reaches_on (child_path p q h i) ((reaches_exactly G ends (name_at q) (name_at x)).0 t)))
      (in_upto (length groups) p h) (reach stay)
      (is_false (reaches G (name_at q) (name_at p)) (λ t. child_apart p q h i ((reaches_exactly G ends (name_at q) (name_at p)).0 t)))

  children_rise : (p : ℕ) → p < length groups → Rises (get_or children p [])
  children_rise p h = rw (children_at_lem p h) (rises_those (λ q. is_child G names (name_at p) (name_at q)) (upto (length groups)) (rises_upto (length groups)))

  -- the same with the number of rows as the bound
  listed : {p : ℕ} → p < length children → p < length groups
  listed h = omega (arith, children_long)

  child_in : (p q : ℕ) → p < length children → child_of children p q ≡ true → q < length children
  child_in p q h i = omega (arith, children_long, (child_is p q (listed h) i).1)

  -- so names, group list, levels and children of an edge list pass the tests
  pub groups_sound : SoundGroups names groups (levels_of children) children
  groups_sound =
      record {
        name_low = low;
        name_own = own;
        groups_are_lem = refl;
        children_long = children_long;
        child_low = λ p i h j. child_in p (get_or (get_or children p []) i 0) h (in_get_d (get_or children p []) i j);
        child_rises = λ p i h j. rises_next (get_or children p []) (children_rise p (listed h)) i j;
        levels_long = levels_long children;
        level_is =
            levels_meet children child_in reached (λ p q h i. reached_falls p q (listed h) i) (λ p h. reached_some p (listed h))
            (λ p h. omega (arith, children_long, reached_most p));
      }
    where
      low : (v : ℕ) → v < length names → get_or names v 0 ≤ v
      low v h =
          let l : v < G.n = omega (arith, Names.names_long G ends) in
          omega (arith, name_at_lem v l, Names.name_smallest G ends v v l (stay, stay))

      own : (v : ℕ) → v < length names → get_or names (get_or names v 0) 0 ≡ get_or names v 0
      own v h =
          let l : v < G.n = omega (arith, Names.names_long G ends) in
          rw (name_at_lem v l) (name_at_lem (name_of G v) (Names.name_low G ends v l) ∙ Names.name_own G ends v l)
