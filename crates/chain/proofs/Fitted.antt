-- What the sections of sound contents give the climb and the steps: they are fit for them, and what is read of them is what the index has.
use mathlib.Core.Path.{◌≡◌, sym, ap, subst, ◌∙◌}
use mathlib.Core.List.{List, []}
use Prim.Native.Nat.{ℕ, suc, ◌≤◌, ◌<◌}
use native.Mathlib.Omega.{arith}
use lib.Dec.{eqb}
use lib.ListN.{length, get_or}
use borrow.Author.Tests.{eq-eqb}
use Rattle.lineage.specs.Lists.{first_of, cleared}
use Rattle.lineage.specs.Numbers.{numbers}
use Rattle.lineage.specs.Index.{Index}
use Rattle.lineage.specs.Question.{place_in, answer}
use Rattle.lineage.specs.Calls.{index_in}
use Rattle.laws.proofs.Grouped.{name_of_place}
use Rattle.numbers.specs.Bounds.{vertex_bound}
use Rattle.numbers.proofs.Numbers.{numbers_at, numbers_long}
use Rattle.stored_header.specs.declared.Layout.{Layout}
use Rattle.stored_header.specs.Header.{Laid}
use Rattle.stored_header.proofs.Laid.{k_is}
use Rattle.stored.specs.Sections.{Section, Six, children_in, index_from, index_at}
use Rattle.stored.proofs.Sections.{children_long}
use Rattle.stored.specs.Reading.{numbers_of}
use Rattle.stored.proofs.Contents.{children_many, stretch_of, names_only}
use Rattle.sound_places.specs.Lent.{SoundBytes, Lent}
use Rattle.sound_places.proofs.Lent.{lent}
use Rattle.sound_places.proofs.Vertices.{lent_sound}
use Rattle.reach_sweep.specs.declared.groups.Ranks.{Ranks}
use Rattle.reach_sweep.specs.Fit.{names_of, children_of}
use Rattle.reach_sweep.specs.Sweep.{marked}
use Rattle.reach_climb.specs.Climb.{climbed}
use Rattle.reach.specs.Fit.{RanksOf}
use Rattle.reach.specs.Marks.{mark_in}
use Rattle.reach.proofs.Fitted.{index_sound, labels_some, names_count, index_is, names_are, names_fit}
use Rattle.chain_steps.specs.Chain.{steps_by, chain_of, chain_from}
use Rattle.chain_steps.specs.Steps.{Trail}
use Rattle.chain.specs.Marks.{climbed_in, Exact}
use Rattle.chain.proofs.Marked.{climb_exactly, climb_cleared}
use Rattle.chain.proofs.Traced.{steps_chain, trail, level_low, marked_says}

-- the target's group marked, on marks that are 0 below n, and the climb from there
module _
    {b : List ℕ} {l : Layout} (O : SoundBytes b l) {v : ℕ} (low : v < l.n) (before : List ℕ) (room : l.n ≤ length before) (clear : before ≡ cleared l.n before)
    {start after : List ℕ} (marks : start ≡ mark_in (index_in b) v before) (climbs : after ≡ climbed_in (index_in b) start)
  where
    target : v < length (index_in b).names
    target = omega (arith, names_count O)

    there : length (index_in b).names ≤ length before
    there = omega (arith, names_count O)

    abbrev sized : List ℕ
    sized = climbed_in (index_in b) (mark_in (index_in b) v (cleared (length (index_in b).names) before))

    after_is : after ≡ sized
    after_is = climbs ∙ ap (climbed_in (index_in b)) (marks ∙ ap (mark_in (index_in b) v) (clear ∙ ap (λ (n : ℕ). cleared n before) (sym (names_count O))))

    pub reaching_exactly : Exact (index_in b) (place_in (index_in b) v) after
    reaching_exactly = rw after_is (climb_exactly (index_sound O) (labels_some O) v target before there)

    -- marks that were cleared before, cleared again, are as they were
    pub marks_again : {m : List ℕ} → m ≡ cleared l.n after → m ≡ before
    marks_again e =
        e
        ∙ ap (cleared l.n) after_is
        ∙ subst (λ (n : ℕ). cleared n sized ≡ cleared n before) (names_count O) (climb_cleared (index_sound O) (labels_some O) v target before there)
        ∙ sym clear

-- what the climb over the groups of sound bytes leaves is what it leaves over the index
pub climbed_is :
    {b : List ℕ} {l : Layout} (O : SoundBytes b l) {ranks : Ranks} (R : RanksOf (index_in b) l.k ranks) (before : List ℕ) {after : List ℕ}
    → after ≡ climbed (names_of ranks.groups) (children_of ranks.groups) (numbers_of ranks.places) ranks.groups.rows.k before → after ≡ climbed_in (index_in b) before
unfolding climbed_in
climbed_is {b} O {ranks} R before e =
    let many : length (index_in b).children ≡ ranks.groups.rows.k = omega (arith, R.many, children_many b, k_is O.laid) in
    rw (many, ← R.names, ← R.rows, ← R.by_rank) e

-- what is read of source and target: the source's name, their places, and the source's level
pub record Ways (I : Index) (w n k : ℕ) (names levels : List ℕ) (u v name x t lev : ℕ) : Type 0 where
  pub named : name ≡ get_or (numbers w names n) u 0
  pub source : x ≡ place_in I u
  pub low : x < k
  pub target : t ≡ place_in I v
  pub high : lev ≡ get_or (numbers w levels k) x 0

-- all sections but the labels, which are not read
pub but_labels :
    {b : List ℕ} {l : Layout} (L : Laid b l) {names groups levels starts children : List ℕ} → Section b l 0 names → Section b l 1 groups → Section b l 2 levels
    → Section b l 3 starts → Section b l 4 children → Six b l names groups levels starts children (stretch_of L 5)
but_labels L N G H S C = record {
  names_in = N;
  groups_in_lem = G;
  levels_in = H;
  starts_in = S;
  children_in_lem = C;
  labels_in = (names_only L N).labels_in;
}

-- the sections that were read
module _
    {b : List ℕ} {l : Layout} {names groups levels starts children labels : List ℕ}
    (O : SoundBytes b l) (P : Six b l names groups levels starts children labels)
  where
    abbrev w : ℕ
    w = l.width

    abbrev k : ℕ
    k = l.k

    abbrev c : ℕ
    c = l.c

    abbrev I : Index
    I = index_at l names groups levels starts children labels

    S : Lent l names groups levels starts children labels
    S = lent O.laid P O.contents

    rows_long : length (children_in w starts children k c) ≡ k
    rows_long = children_long w starts children k c

    -- where the mark of a group stands whose name is read
    pub name_marked : {u name : ℕ} → u < l.n → name ≡ get_or (numbers w names l.n) u 0 → (marks : ℕ) → l.n ≤ marks → name < marks
    name_marked {u} h named marks room = omega (arith, named, numbers_at w names l.n u h, (names_fit O P marks room).name_low u h)

    -- the target's group is reached from exactly the marked groups
    module _ {u v : ℕ} (hu : u < l.n) (hv : v < l.n) {marks : List ℕ} (E : Exact (index_in b) (place_in (index_in b) v) marks) where
      -- the mark at the source's name says what a question says
      pub mark_says : {name : ℕ} → name ≡ get_or (numbers w names l.n) u 0 → eqb (get_or marks name 0) 1 ≡ (answer (index_in b) u v).says
      mark_says named =
          ap (λ (x : ℕ). eqb (get_or marks x 0) 1) (named ∙ ap (λ (s : List ℕ). get_or s u 0) (names_are O P))
          ∙ marked_says (index_sound O) (labels_some O) (omega (arith, names_count O)) (omega (arith, names_count O)) E

      -- on a yes, with what was read
      module _ {name x t lev : ℕ} (R : Ways (index_in b) w l.n k names levels u v name x t lev) (yes : get_or marks name 0 ≡ 1) where
        x_is : x ≡ place_in I u
        x_is = R.source ∙ ap (λ (J : Index). place_in J u) (index_is O P)

        t_is : t ≡ place_in I v
        t_is = R.target ∙ ap (λ (J : Index). place_in J v) (index_is O P)

        exact : Exact I t marks
        exact = rw t_is (rw (index_is O P) at E)

        named_at : get_or (numbers w groups k) x 0 ≡ name
        unfolding index_from
        named_at = rw (x_is, R.named) (name_of_place (lent_sound S) u (omega (arith, numbers_long w names l.n)))

        abbrev next : ℕ → ℕ
        next p = first_of (marked (numbers w groups k) marks) (get_or (children_in w starts children k c) p []) k

        pub trail_in : Trail k (marked (numbers w groups k) marks) next t x lev
        unfolding index_from
        trail_in = rw R.high (trail {I = I} (lent_sound S) exact rows_long x (omega (arith, R.low, rows_long)) (rw named_at (eq-eqb _ 1 yes)))

        pub level_few : lev ≤ vertex_bound
        level_few = omega (arith, R.high, level_low (lent_sound S) x (omega (arith, R.low, rows_long)), rows_long, O.laid)

        pub steps_are : steps_by (numbers w groups k) next t (suc lev) x ≡ chain_of (index_in b) u v
        unfolding index_from chain_of
        steps_are =
            steps_chain {I = I} (lent_sound S) exact rows_long (suc lev) x
            ∙ subst (λ (J : Index). chain_from I t (suc lev) x ≡ chain_of J u v) (sym (index_is O P))
            (ap (λ (p : ℕ). chain_from I p (suc lev) x) t_is
            ∙ ap (λ (f : ℕ). chain_from I (place_in I v) (suc f) x) R.high
            ∙ ap (λ (p : ℕ). chain_from I (place_in I v) (suc (get_or (numbers w levels k) p 0)) p) x_is)
