-- Over a sound index: after the groups of the changed vertices are marked, on marks that are 0 below n, and swept from the highest rank down, a group is marked
-- exactly where one of them reaches it. So its vertices are marked exactly then, and the state told from a vertex's mark is the state afterwards.
use mathlib.Core.Bool.{Bool, true, false, cond}
use mathlib.Core.Logic.{◌⊎◌, inl, inr, ◌↔◌}
use mathlib.Core.Path.{◌≡◌, refl, sym, ap, ◌∙◌}
use mathlib.Core.List.{List, [], ◌∷◌, ◌++◌, map}
use Prim.Native.Nat.{ℕ, ◌≤◌, ◌<◌}
use native.Mathlib.Omega.{arith}
use lib.Dec.{leb, eqb}
use lib.ListN.{length, get_or, drop, replicate}
use borrow.Author.Tests.{eqb-true, leb-false}
use Rattle.lineage.specs.Lists.{upto, among, cleared}
use Rattle.lineage.specs.Numbers.{numbers}
use Rattle.lineage.specs.Index.{Index}
use Rattle.lineage.specs.Question.{place_in}
use Rattle.lineage.specs.Calls.{index_in}
use Rattle.laws.specs.Leads.{Down}
use Rattle.laws.specs.Sound.{Sound}
use Rattle.laws.proofs.Tests.{clash}
use Rattle.laws.proofs.Lists.{here, there, in_cons, any_in, in_any}
use Rattle.laws.proofs.Grouped.{group_name, place_low, name_of_place, leads_exactly}
use Rattle.laws.proofs.Inverse.{e_most}
use Rattle.laws_same.proofs.Lineage.{tests_same}
use Rattle.numbers.proofs.Cleared.{cleared_long, cleared_at, cleared_past}
use Rattle.stored_header.specs.declared.Layout.{Layout}
use Rattle.stored_header.proofs.Laid.{k_is}
use Rattle.stored.specs.Sections.{Section, Six}
use Rattle.stored.proofs.Contents.{children_many, stretch_of, names_only}
use Rattle.sound_places.specs.Lent.{SoundBytes}
use Rattle.reach_sweep.specs.Sweep.{marked, Reached}
use Rattle.reach_sweep.proofs.Swept.{swept_past}
use Rattle.reach.specs.Marks.{mark_in, swept_in}
use Rattle.reach.proofs.Marked.{mark_long, mark_exactly, mark_past, first_sound, sweep_exactly}
use Rattle.reach.proofs.Fitted.{index_sound, labels_some, names_are, names_count}
use Rattle.rules_states.specs.Rules.{suspect, unknown, reaches_in, affected, state_after}
use Rattle.rules_states.specs.Marks.{InRange, Named, mark_each, marks_of, vertex_marks, affected_marks, state_by}
use Rattle.rules_states.proofs.Vertices.{marks_at, marks_long, marks_behind, marks_same, bit_back}

-- the group at place p is that of one of the vertices
record OfOne (I : Index) (changed : List ℕ) (p : ℕ) : Type 0 where
  vertex : ℕ
  one : among vertex changed ≡ true
  own : p ≡ place_in I vertex

module _ {I : Index} (S : Sound I) where
  abbrev n : ℕ
  n = length I.names

  later : (u : ℕ) (us : List ℕ) → InRange n (u ∷ us) → InRange n us
  later u us R = record { low = λ v i. R.low v (there v u us i) }

  -- the groups of the vertices are marked one after the other
  each_marked : (changed marks : List ℕ) → InRange n changed → n ≤ length marks → (p : ℕ) → p < length I.children
      → (marked I.groups (mark_each I changed marks) p ≡ true) ↔ (OfOne I changed p ⊎ (marked I.groups marks p ≡ true))
  unfolding mark_each
  each_marked [] marks R room p h = (inr, λ w. elim w [ inl o ↦ absurd (clash o.one refl) | inr m ↦ m ])
  each_marked (u ∷ us) marks R room p h =
      let (before, after) = each_marked us (mark_in I u marks) (later u us R) (omega (arith, mark_long S u low marks)) p h in
      (λ m. to (before m), λ w. after (from w))
    where
      low : u < n
      low = R.low u (here u us)

      own : (marked I.groups (mark_in I u marks) p ≡ true) ↔ ((p ≡ place_in I u) ⊎ (marked I.groups marks p ≡ true))
      own = mark_exactly S u low marks room p h

      to : OfOne I us p ⊎ (marked I.groups (mark_in I u marks) p ≡ true) → OfOne I (u ∷ us) p ⊎ (marked I.groups marks p ≡ true)
      to (inl o) = inl (record { vertex = o.vertex; one = there o.vertex u us o.one; own = o.own })
      to (inr m) = elim (own.0 m) [ inl e ↦ inl (record { vertex = u; one = here u us; own = e }) | inr was ↦ inr was ]

      from : OfOne I (u ∷ us) p ⊎ (marked I.groups marks p ≡ true) → OfOne I us p ⊎ (marked I.groups (mark_in I u marks) p ≡ true)
      from (inl o) =
          elim (in_cons o.vertex u us o.one) [
            | inl e ↦ inr (own.1 (inl (o.own ∙ ap (place_in I) e)))
            | inr i ↦ inl (record { vertex = o.vertex; one = i; own = o.own })
          ]
      from (inr m) = inr (own.1 (inr m))

  each_long : (changed marks : List ℕ) → InRange n changed → length (mark_each I changed marks) ≡ length marks
  unfolding mark_each
  each_long [] marks R = refl
  each_long (u ∷ us) marks R = each_long us (mark_in I u marks) (later u us R) ∙ mark_long S u (R.low u (here u us)) marks

  each_past : (changed marks : List ℕ) → InRange n changed → drop n (mark_each I changed marks) ≡ drop n marks
  unfolding mark_each
  each_past [] marks R = refl
  each_past (u ∷ us) marks R = each_past us (mark_in I u marks) (later u us R) ∙ mark_past S u (R.low u (here u us)) marks

module _
    {I : Index} (S : Sound I) (some : 0 < length I.labels)
    (changed : List ℕ) (R : InRange (length I.names) changed) (marks : List ℕ) (room : length I.names ≤ length marks)
  where
    abbrev clear : List ℕ
    clear = cleared (length I.names) marks

    there_too : length I.names ≤ length clear
    there_too = omega (arith, cleared_long (length I.names) marks room)

    -- on marks that are 0 below n
    each_only : (p : ℕ) → p < length I.children → (marked I.groups (mark_each I changed clear) p ≡ true) ↔ OfOne I changed p
    each_only p h =
        let (to, from) = each_marked S changed clear R there_too p h in (
          (λ m. elim (to m) [
            | inl o ↦ o
            | inr was ↦
                absurd (omega (
                  arith,
                  eqb-true (get_or clear (get_or I.groups p 0) 0) 1 was,
                  cleared_at (length I.names) marks (get_or I.groups p 0) (group_name S.condensed p h).0,
                ))
          ]),
          λ o. from (inl o),
        )

    abbrev start : List ℕ
    start = mark_each I changed clear

    -- after the sweep a vertex's group is marked exactly where a changed vertex reaches the vertex
    affected_marked : (v : ℕ) → v < length I.names → (marked I.groups (swept_in I (length I.children) start) (place_in I v) ≡ true) ↔ (affected I changed v ≡ true)
    unfolding affected reaches_in
    affected_marked v hv = (λ m. to (swept.0 m), λ a. swept.1 (from a))
      where
        swept : (marked I.groups (swept_in I (length I.children) start) (place_in I v) ≡ true) ↔ Reached I.groups I.children start (place_in I v)
        swept =
            sweep_exactly S some (length I.children) start (omega (arith, each_long S changed clear R, there_too)) (omega arith)
            (λ p h m. e_most (first_sound I.children I.labels S.labelled some) p h) (place_in I v) (place_low S.condensed v hv)

        down : (u : ℕ) → u < length I.names → (reaches_in I u v ≡ true) ↔ Down I.children (place_in I u) (place_in I v)
        down u hu = leads_exactly S.condensed (place_in I u) (place_in I v) (place_low S.condensed u hu)

        to : Reached I.groups I.children start (place_in I v) → affected I changed v ≡ true
        to Q =
            let o : OfOne I changed Q.from = (each_only Q.from Q.low).0 Q.was in
            any_in (λ u. reaches_in I u v) o.vertex changed o.one ((down o.vertex (R.low o.vertex o.one)).1 (rw o.own at Q.path))

        from : affected I changed v ≡ true → Reached I.groups I.children start (place_in I v)
        from a =
            let (u, i, r) = in_any (λ u. reaches_in I u v) changed a in
            let hu : u < length I.names = R.low u i in
            let own : place_in I u < length I.children = place_low S.condensed u hu in
            record { from = place_in I u; low = own; was = (each_only (place_in I u) own).1 (record { vertex = u; one = i; own = refl }); path = (down u hu).0 r }

    -- so the marks of the vertices are theirs
    pub vertices_affected : vertex_marks I.names (swept_in I (length I.children) start) ≡ affected_marks I changed marks
    unfolding vertex_marks affected_marks marks_of swept_in
    vertices_affected =
        marks_same (length I.names) _ _ _ (λ v hv. ap (λ (t : Bool). cond t 1 0) (tests_same _ _ (rw (name_of_place S.condensed v hv) at (affected_marked v hv))))
        ∙ ap (map (λ v. cond (affected I changed v) 1 0) (upto (length I.names)) ++◌)
        (swept_past S.condensed (first_sound I.children I.labels S.labelled some) (length I.children) start (omega arith)
        ∙ each_past S changed clear R
        ∙ cleared_past (length I.names) marks)

-- they are the same over marks that are the same from n on
pub marks_behind_same : (I : Index) (changed m m' : List ℕ) → drop (length I.names) m ≡ drop (length I.names) m' → affected_marks I changed m ≡ affected_marks I changed m'
unfolding affected_marks marks_of
marks_behind_same I changed m m' e = ap (map (λ v. cond (affected I changed v) 1 0) (upto (length I.names)) ++◌) e

-- a state told from them is the state afterwards
module _ (I : Index) (changed marks : List ℕ) where
  pub state_same : (v s : ℕ) → state_by (affected_marks I changed marks) (length I.names) v s ≡ state_after I changed v s
  unfolding state_by affected_marks state_after
  state_same v s = at (leb (length I.names) v) refl
    where
      at : (t : Bool) → leb (length I.names) v ≡ t
          → cond t unknown (cond (eqb (get_or (marks_of (length I.names) (λ u. cond (affected I changed u) 1 0) marks) v 0) 1) suspect s)
          ≡ cond t unknown (cond (affected I changed v) suspect s)
      at true e = refl
      at false e =
          ap (λ (t : Bool). cond t suspect s)
          (ap (λ (x : ℕ). eqb x 1) (marks_at (λ u. cond (affected I changed u) 1 0) marks (length I.names) v (leb-false (length I.names) v e))
          ∙ bit_back (affected I changed v))

  -- the marks are as many as before, and cleared again they are as if cleared before
  pub affected_long : length I.names ≤ length marks → length (affected_marks I changed marks) ≡ length marks
  unfolding affected_marks
  affected_long h = marks_long (λ u. cond (affected I changed u) 1 0) marks (length I.names) h

  pub affected_cleared : cleared (length I.names) (affected_marks I changed marks) ≡ cleared (length I.names) marks
  unfolding affected_marks cleared
  affected_cleared = ap (replicate (length I.names) 0 ++◌) (marks_behind (λ u. cond (affected I changed u) 1 0) marks (length I.names))

-- In sound bytes. The marks that were lent are 0 below n, and the highest rank is the number of groups.
module _ {b : List ℕ} {l : Layout} (O : SoundBytes b l) {names : List ℕ} (N : Section b l 0 names) where
  P : let L = O.laid in Six b l names (stretch_of L 1) (stretch_of L 2) (stretch_of L 3) (stretch_of L 4) (stretch_of L 5)
  P = names_only O.laid N

  many : length (index_in b).names ≡ l.n
  many = names_count O

  pub names_named : (marks : ℕ) → l.n ≤ marks → Named (numbers l.width names l.n) marks
  names_named marks room =
      rw (names_are O P)
      (record { room = omega (arith, many); name_low = (index_sound O).condensed.name_low; name_own = (index_sound O).condensed.name_own })

  pub affected_are : (changed : List ℕ) → InRange l.n changed → (before : List ℕ) → l.n ≤ length before → before ≡ cleared l.n before
      → {start swept after : List ℕ} → start ≡ mark_each (index_in b) changed before → swept ≡ swept_in (index_in b) l.k start
      → after ≡ vertex_marks (numbers l.width names l.n) swept → after ≡ affected_marks (index_in b) changed before
  affected_are changed R before room clear es ew e =
      e
      ∙ rw (names_are O P, ew, es, k_is O.laid, ← children_many b)
      (ap (λ (m : List ℕ). vertex_marks (index_in b).names (swept_in (index_in b) (length (index_in b).children) (mark_each (index_in b) changed m)))
      (clear ∙ ap (λ (n : ℕ). cleared n before) (sym many))
      ∙ vertices_affected (index_sound O) (labels_some O) changed (rw many R) before (omega (arith, many)))
