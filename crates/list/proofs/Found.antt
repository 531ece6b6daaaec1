-- The list of bytes whose contents are sound, from what the code has at its end: the marks after the sweep, the count, and the written list.
use mathlib.Core.Bool.{Bool}
use mathlib.Core.Path.{◌≡◌, refl, sym, ap, ◌∙◌}
use mathlib.Core.List.{List, ◌++◌}
use Prim.Native.Nat.{ℕ, ◌≤◌, ◌<◌}
use native.Mathlib.Omega.{arith}
use lib.ListN.{length, get_or, drop}
use borrow.Author.Tests.{lt-ltb, le-ltb}
use Rattle.std.specs.Prelude.{Ok, Err}
use Rattle.lineage.specs.Lists.{upto, cleared}
use Rattle.lineage.specs.Numbers.{numbers}
use Rattle.lineage.specs.Index.{Index}
use Rattle.lineage.specs.Question.{in_own_list, downstream}
use Rattle.lineage.specs.Calls.{index_in}
use Rattle.laws.proofs.Lists.{length_upto}
use Rattle.laws.proofs.Rising.{those_short}
use Rattle.numbers.specs.Bounds.{vertex_bound}
use Rattle.numbers.proofs.Numbers.{numbers_long, numbers_at}
use Rattle.refusals.specs.declared.Refusal.TheVariants.{ListShort}
use Rattle.stored_header.specs.declared.Layout.{Layout}
use Rattle.stored.specs.Sections.{Section, Six}
use Rattle.stored.proofs.Contents.{stretch_of, names_only}
use Rattle.sound_places.specs.Lent.{SoundBytes}
use Rattle.reach.specs.Marks.{reach_marks}
use Rattle.reach.proofs.Marked.{reach_long, reach_cleared}
use Rattle.reach.proofs.Fitted.{index_sound, labels_some, names_are, names_count, names_fit}
use Rattle.list.specs.Listing.{is_listed, listed, names_alone}
use Rattle.list.specs.Listed.{Fills}
use Rattle.list.proofs.Downstream.{listed_downstream}

-- whether a vertex is in its own list depends on the names alone
own_by_names : (I : Index) (u : ℕ) → in_own_list (names_alone I.names) u ≡ in_own_list I u
unfolding in_own_list
own_by_names I u = refl

module _
    {b : List ℕ} {l : Layout} {names : List ℕ} (O : SoundBytes b l) (N : Section b l 0 names)
    {u : ℕ} (low : u < l.n) (before : List ℕ) (room : l.n ≤ length before)
    {marks : List ℕ} (reached : marks ≡ reach_marks (index_in b) u before)
  where
    abbrev P : let L = O.laid in Six b l names (stretch_of L 1) (stretch_of L 2) (stretch_of L 3) (stretch_of L 4) (stretch_of L 5)
    P = names_only O.laid N

    vertex : u < length (index_in b).names
    vertex = omega (arith, names_count O)

    there : length (index_in b).names ≤ length before
    there = omega (arith, names_count O)

    marks_long : length marks ≡ length before
    marks_long = ap length reached ∙ reach_long (index_sound O) (labels_some O) u vertex before there

    -- the names each have their mark
    pub names_spots : (v : ℕ) → v < l.n → get_or (numbers l.width names l.n) v 0 < length marks
    names_spots v h = omega (arith, numbers_at l.width names l.n v h, (names_fit O P (length marks) (omega (arith, marks_long))).name_low v h)

    -- marks that were cleared before, cleared again, are as they were
    pub marks_again : before ≡ cleared l.n before → {after : List ℕ} → after ≡ cleared l.n marks → after ≡ before
    marks_again clear e =
        e
        ∙ ap (cleared l.n) reached
        ∙ (rw (names_count O) at (reach_cleared (index_sound O) (labels_some O) u vertex before there))
        ∙ sym clear

    -- what is listed is downstream
    module _ {own : Bool} (rule : own ≡ in_own_list (names_alone (numbers l.width names l.n)) u) where
      found_is : listed (numbers l.width names l.n) marks u own ≡ downstream (index_in b) u
      found_is = rw (rule, names_are O P, own_by_names (index_in b) u, reached) (listed_downstream (index_sound O) (labels_some O) u vertex before there)

      module _ {count : ℕ} (counted : count ≡ length (listed (numbers l.width names l.n) marks u own)) where
        pub count_few : count ≤ vertex_bound
        unfolding listed
        count_few =
            let all : List ℕ = upto (length (numbers l.width names l.n)) in
            omega (
              arith,
              counted,
              those_short (is_listed (numbers l.width names l.n) marks u own) all,
              length_upto (length (numbers l.width names l.n)),
              numbers_long l.width names l.n,
              O.laid.vertices,
            )

        count_is : count ≡ length (downstream (index_in b) u)
        count_is = counted ∙ ap length found_is

        -- too short an out list, or room for all
        module _ (out : List ℕ) where
          pub list_short : length out < count → Fills (downstream (index_in b) u) out (Err (ListShort count)) out
          list_short h =
              let short = lt-ltb (length out) (length (downstream (index_in b) u)) (omega (arith, count_is)) in
              record { answers = rw (count_is, short); writes = rw short }

          pub list_found : {written : List ℕ} → count ≤ length out
              → written ≡ listed (numbers l.width names l.n) marks u own ++ drop (length (listed (numbers l.width names l.n) marks u own)) out
              → Fills (downstream (index_in b) u) out (Ok count) written
          list_found h f =
              let room = le-ltb (length out) (length (downstream (index_in b) u)) (omega (arith, count_is)) in
              record { answers = rw (count_is, room); writes = f ∙ ap (λ (xs : List ℕ). xs ++ drop (length xs) out) found_is ∙ rw room }
