-- What the rounds say and leave, over an index and over sound bytes: where u's group alone is marked, v's group is marked afterwards exactly where a path leads there
-- over children and added edges; and cleared again the marks are as they were.
use mathlib.Core.Bool.{Bool, true}
use mathlib.Core.Logic.Iff
use mathlib.Core.Path.{◌≡◌, sym, ap, subst, ◌∙◌}
use mathlib.Core.List.{List, ◌++◌}
use Prim.Native.Nat.{ℕ, ◌≤◌, ◌<◌}
use native.Mathlib.Omega.{arith}
use lib.ListN.{length, get_or, replicate}
use lib.Seq.{get_or-set_same}
use borrow.Author.Tests.{eq-eqb}
use Rattle.lineage.specs.Lists.{cleared}
use Rattle.lineage.specs.Graph.{Edge}
use Rattle.lineage.specs.Index.{Index}
use Rattle.lineage.specs.Question.{place_in}
use Rattle.lineage.specs.Calls.{index_in}
use Rattle.laws.specs.Sound.{Sound}
use Rattle.laws.proofs.Edges.{edge_position}
use Rattle.laws.proofs.Grouped.{name_in}
use Rattle.laws.proofs.Reaches.{reaches_exactly}
use Rattle.laws_same.proofs.Lineage.{tests_same}
use Rattle.numbers.proofs.Cleared.{cleared_long, cleared_past}
use Rattle.stored_header.specs.declared.Layout.{Layout}
use Rattle.sound_places.specs.Lent.{SoundBytes}
use Rattle.reach.specs.Marks.{mark_in}
use Rattle.reach.proofs.Marked.{mark_long, mark_past, start_only}
use Rattle.reach.proofs.Fitted.{index_sound, labels_some, names_count}
use Rattle.reach_rounds.specs.Over.{groups_with, added_says}
use Rattle.reach_rounds.specs.Rounds.{Low, is_marked, rounds_in}
use Rattle.reach_rounds.proofs.Groups.{groups_ends}
use Rattle.reach_rounds.proofs.Exactly.{rounds_exactly}
use Rattle.reach_rounds.proofs.Kept.{rounds_past}

-- ends below n, as edges
pub edges_low : {n : ℕ} {S T : List ℕ} → length S ≡ length T → Low n S → Low n T → (a b : ℕ) → Edge S T a b → (a < n) × (b < n)
edges_low paired s t a b e =
    let (i, h, ea, eb) = edge_position e in
    (omega (arith, s.each i h), omega (arith, t.each i (omega arith)))

module _
    {I : Index} (Z : Sound I) (some : 0 < length I.labels) {S T : List ℕ} (paired : length S ≡ length T)
    (lowS : Low (length I.names) S) (lowT : Low (length I.names) T)
    (u v : ℕ) (hu : u < length I.names) (hv : v < length I.names) (marks : List ℕ) (room : length I.names ≤ length marks)
  where
    abbrev clear : List ℕ
    clear = cleared (length I.names) marks

    abbrev start : List ℕ
    start = mark_in I u clear

    low : (a b : ℕ) → Edge S T a b → (a < length I.names) × (b < length I.names)
    low = edges_low paired lowS lowT

    there : length I.names ≤ length clear
    there = omega (arith, cleared_long (length I.names) marks room)

    own : is_marked I.names start u ≡ true
    unfolding mark_in
    own = eq-eqb _ 1 (get_or-set_same clear (get_or I.names u 0) 1 0 (omega (arith, name_in Z.condensed u hu, there)))

    rounds_says : is_marked I.names (rounds_in I S T v start) v ≡ added_says I S T u v
    unfolding added_says
    rounds_says =
        tests_same _ _
        (Iff.trans
        (rounds_exactly Z some paired low start (omega (arith, mark_long Z u hu clear, there)) u v hu hv own (start_only Z some u hu marks room))
        (Iff.symm (reaches_exactly (groups_with I S T) (groups_ends Z low paired) (place_in I u) (place_in I v))))

    rounds_cleared : cleared (length I.names) (rounds_in I S T v start) ≡ clear
    unfolding cleared
    rounds_cleared =
        ap (replicate (length I.names) 0 ++◌)
        (rounds_past Z some (λ a b e. (low a b e).1) v start ∙ mark_past Z u hu clear ∙ cleared_past (length I.names) marks)

-- the same of bytes: u's group marked, on marks that are 0 below n, and the rounds from there
module _
    {b : List ℕ} {l : Layout} (O : SoundBytes b l) {S T : List ℕ} (paired : length S ≡ length T) (lowS : Low l.n S) (lowT : Low l.n T)
    {u v : ℕ} (hu : u < l.n) (hv : v < l.n) (before : List ℕ) (room : l.n ≤ length before) (clear : before ≡ cleared l.n before)
    {start after : List ℕ} (marks : start ≡ mark_in (index_in b) u before) (rounds : after ≡ rounds_in (index_in b) S T v start)
  where
    abbrev I : Index
    I = index_in b

    sized : {xs : List ℕ} → Low l.n xs → Low (length I.names) xs
    sized {xs} = subst (λ (n : ℕ). Low n xs) (sym (names_count O))

    source : u < length I.names
    source = omega (arith, names_count O)

    target : v < length I.names
    target = omega (arith, names_count O)

    held : length I.names ≤ length before
    held = omega (arith, names_count O)

    after_is : after ≡ rounds_in I S T v (mark_in I u (cleared (length I.names) before))
    after_is = rounds ∙ ap (rounds_in I S T v) (marks ∙ ap (mark_in I u) (clear ∙ ap (λ (n : ℕ). cleared n before) (sym (names_count O))))

    pub says_are_lem : {r : Bool} → r ≡ is_marked I.names after v → r ≡ added_says I S T u v
    says_are_lem e =
        e
        ∙ ap (λ (m : List ℕ). is_marked I.names m v) after_is
        ∙ rounds_says (index_sound O) (labels_some O) paired (sized lowS) (sized lowT) u v source target before held

    -- cleared again, the marks are as they were
    pub marks_again : {m : List ℕ} → m ≡ cleared l.n after → m ≡ before
    marks_again e =
        e
        ∙ ap (cleared l.n) after_is
        ∙ subst (λ (n : ℕ). cleared n (rounds_in I S T v (mark_in I u (cleared (length I.names) before))) ≡ cleared n before) (names_count O)
        (rounds_cleared (index_sound O) (labels_some O) paired (sized lowS) (sized lowT) u v source target before held)
        ∙ sym clear
