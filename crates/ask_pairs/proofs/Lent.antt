-- What the sections of sound bytes give the pairs: the group list and the names are as the table of places asks, and the table then holds the place of every vertex's
-- group.
use mathlib.Core.Path.{◌≡◌, refl, sym, ap, ◌∙◌}
use mathlib.Core.List.{List}
use Prim.Native.Nat.{ℕ, ◌<◌}
use native.Mathlib.Omega.{arith}
use lib.ListN.{length, get_or, replicate}
use Rattle.lineage.specs.Numbers.{num_at, numbers}
use Rattle.lineage.specs.Graph.{place_of}
use Rattle.lineage.specs.Question.{place_in, answer}
use Rattle.laws.proofs.Grouped.{name_in, group_name, place_low, name_of_place, place_one}
use Rattle.numbers.proofs.Numbers.{numbers_long, numbers_at}
use Rattle.stored_header.specs.declared.Layout.{Layout}
use Rattle.stored.specs.Sections.{children_in, index_from, index_at}
use Rattle.stored.proofs.Sections.{children_long}
use Rattle.sound_places.specs.Lent.{Lent, InTriples}
use Rattle.sound_places.proofs.Vertices.{lent_sound}
use Rattle.ask.proofs.Soundness.{fit, question_is}
use Rattle.ask_pairs.specs.Places.{Listed, Named, Placed, Ready, by_place}

module _ {l : Layout} {names groups levels starts children labels : List ℕ} (S : Lent l names groups levels starts children labels) where
  abbrev w : ℕ
  w = l.width

  abbrev n : ℕ
  n = l.n

  abbrev k : ℕ
  k = l.k

  in_children : (p : ℕ) → p < k → p < length (children_in w starts children k l.c)
  in_children p h = omega (arith, children_long w starts children k l.c)

  in_names : (v : ℕ) → v < n → v < length (numbers w names n)
  in_names v h = omega (arith, numbers_long w names n)

  pub listed : Listed w n k groups
  listed = record {
    width = S.width;
    few = omega (arith, S.vertices_few, S.groups_few);
    long = omega (arith, S.groups_long);
    low = λ p b. omega (arith, numbers_at w groups k p b, numbers_long w names n, (group_name (lent_sound S) p (in_children p b)).0);
    once = λ p q b b' e. place_one (lent_sound S) p q (in_children p b) (in_children q b') (numbers_at w groups k p b ∙ e ∙ sym (numbers_at w groups k q b'));
  }

  name_low : (v : ℕ) → v < n → num_at w names v < n
  name_low v b = omega (arith, numbers_at w names n v b, numbers_long w names n, name_in (lent_sound S) v (in_names v b))

  pub named : Named w n names
  named = record {
    width = S.width;
    long = omega (arith, S.names_long);
    low = name_low;
    own = λ v b.
        sym (numbers_at w names n (num_at w names v) (name_low v b))
        ∙ ap (λ (z : ℕ). get_or (numbers w names n) z 0) (sym (numbers_at w names n v b))
        ∙ (lent_sound S).name_own v (in_names v b)
        ∙ numbers_at w names n v b;
  }

  -- the table holds the place of every vertex's group
  module _ {places : List ℕ} (P : Placed w n k names groups places) where
    pub placed : (v : ℕ) → v < n → get_or places v 0 ≡ place_in (index_at l names groups levels starts children labels) v
    unfolding index_from
    placed v h =
        let q : ℕ = place_of (numbers w groups k) (get_or (numbers w names n) v 0) in
        let low : q < k = omega (arith, children_long w starts children k l.c, place_low (lent_sound S) v (in_names v h)) in
        P.at v q h low (sym (numbers_at w groups k q low) ∙ name_of_place (lent_sound S) v (in_names v h) ∙ numbers_at w names n v h)

    pub placed_low : (v : ℕ) → v < n → get_or places v 0 < k
    unfolding index_from
    placed_low v h = omega (arith, placed v h, children_long w starts children k l.c, place_low (lent_sound S) v (in_names v h))

-- so it answers as the index does
module _
    {l : Layout} {names groups levels starts children labels : List ℕ} (Q : InTriples l names groups levels starts children labels)
    {places : List ℕ} (P : Placed l.width l.n l.k names groups places)
  where
    pub ready : Ready l.width l.n l.k l.d groups levels starts children labels places
    ready = record { few = Q.lent.vertices_few; low = placed_low Q.lent P; fit = fit Q }

    pub answers_same :
        (u v : ℕ) → u < l.n → v < l.n
        → by_place l.width l.n l.k l.d groups levels starts children labels places u v ≡ answer (index_at l names groups levels starts children labels) u v
    answers_same u v a b =
        question_is Q u v (get_or places u 0) (get_or places v 0) (replicate l.n 0) (placed Q.lent P u a) (placed Q.lent P v b) refl
