-- A group's name is in its group and is its smallest vertex, so two vertices have one name exactly when they are in one group, and a name is its
-- own name: the name is the first of 0, 1, .. that is in the vertex's group, and the vertex itself is one such.
use mathlib.Core.Bool.{true}
use mathlib.Core.Logic.{◌↔◌}
use mathlib.Core.Path.{◌≡◌, sym, subst}
use Prim.Native.Nat.{ℕ, ◌<◌, ◌≤◌}
use native.Mathlib.Omega.{arith}
use lib.ListN.{length, get_or}
use Rattle.lineage.specs.Lists.{upto}
use Rattle.lineage.specs.Graph.{Graph, Ends, stay, reaches, same_group, name_of, names_of}
use Rattle.laws.specs.Leads.{OneGroup}
use Rattle.laws.proofs.Tests.{and_both, and_left, and_right}
use Rattle.laws.proofs.Lists.{in_upto, table_at, table_long}
use Rattle.laws.proofs.Rising.{rises_upto, first_of_lem}
use Rattle.laws.proofs.Reaches.{reaches_on, reaches_exactly}

module _ (G : Graph) (ends : Ends G) where
  pub same_group_lem : (u v : ℕ) → (same_group G u v ≡ true) ↔ OneGroup G u v
  unfolding same_group
  same_group_lem u v = (
    λ h. ((reaches_exactly G ends u v).0 (and_left (reaches G u v) _ h), (reaches_exactly G ends v u).0 (and_right (reaches G u v) _ h)),
    λ m. and_both ((reaches_exactly G ends u v).1 m.0) ((reaches_exactly G ends v u).1 m.1),
  )

  -- being in one group, turned and joined
  pub group_turn : {u v : ℕ} → OneGroup G u v → OneGroup G v u
  group_turn m = (m.1, m.0)

  pub group_on : {u w v : ℕ} → OneGroup G u w → OneGroup G w v → OneGroup G u v
  group_on a b = (reaches_on a.0 b.0, reaches_on b.1 a.1)

  -- no vertex of the group is below the name
  pub name_smallest : (u v : ℕ) → v < G.n → OneGroup G u v → name_of G u ≤ v
  unfolding name_of
  name_smallest u v h m = (first_of_lem (same_group G u) (upto G.n) u v (rises_upto G.n) (in_upto G.n v h) ((same_group_lem u v).1 m)).2

  -- the name is a vertex, and in the group
  pub name_low : (u : ℕ) → u < G.n → name_of G u < G.n
  name_low u h = omega (arith, name_smallest u u h (stay, stay))

  pub name_group : (u : ℕ) → u < G.n → OneGroup G u (name_of G u)
  unfolding name_of
  name_group u h =
      (same_group_lem u (name_of G u)).0 (first_of_lem (same_group G u) (upto G.n) u u (rises_upto G.n) (in_upto G.n u h) ((same_group_lem u u).1 (stay, stay))).0

  -- two vertices have one name exactly where they are in one group
  pub name_one : (u v : ℕ) → u < G.n → v < G.n → (name_of G u ≡ name_of G v) ↔ OneGroup G u v
  name_one u v h k = (
    λ e. group_on (name_group u h) (group_turn (subst (OneGroup G v) (sym e) (name_group v k))),
    λ m. omega (
      arith,
      name_smallest u (name_of G v) (name_low v k) (group_on m (name_group v k)),
      name_smallest v (name_of G u) (name_low u h) (group_on (group_turn m) (name_group u h)),
    ),
  )

  -- a name is its own name
  pub name_own : (u : ℕ) → u < G.n → name_of G (name_of G u) ≡ name_of G u
  name_own u h = sym ((name_one u (name_of G u) h (name_low u h)).1 (name_group u h))

  -- the names as a list
  pub names_long : length (names_of G) ≡ G.n
  unfolding names_of
  names_long = table_long (name_of G) G.n

  pub name_at_lem : (v : ℕ) → v < G.n → get_or (names_of G) v 0 ≡ name_of G v
  unfolding names_of
  name_at_lem v h = table_at (name_of G) G.n v 0 h
