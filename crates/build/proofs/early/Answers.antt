-- `build::early` meets its contract: each return is where the checks stop, by the tests that led there.
use mathlib.Core.Bool.{not}
use mathlib.Core.List.{List}
use mathlib.Core.Path.{◌≡◌, sym, ap, ◌∙◌}
use Prim.Native.Nat.{ℕ, zero, suc, ◌*◌, ◌≤◌}
use lib.Dec.{eqb}
use lib.ListN.{length, drop}
use borrow.Author.Tests.{lt-ltb, le-ltb, eq-eqb, ne_eqb}
use Rattle.lineage.specs.Calls.{Check, refused, outcome, Input, bad_edge, work_needed, build_early}
use Rattle.laws.proofs.Tests.{or_left, or_right}
use Rattle.laws.specs.Checks.{Stops, stopped}
use Rattle.laws.proofs.Checks.{stops_outcome}
use Rattle.build.specs.Input.{input_of, form_by}
use Rattle.build.proofs.Checks.{any_some, first_some, any_none_found}
use Rattle.build.proofs.early.Goals as goal
use Rattle.build.proofs.early.Goals.{Start, then-d-eq0-via-then-d-eq0, then-d-eq0-via-else-d-eq0+then-most_labellings-d}

-- what is lent, and the checks of it
abbrev input : (s : Start) → Input
input s = input_of s.args.n s.args.sources.now s.args.targets.now s.args.d s.args.orders.now

abbrev checks : (s : Start) → List Check
checks s = build_early (form_by 0 s.args.row) (input s) s.args.work

abbrev needed : (s : Start) → ℕ
needed s = work_needed (input s).graph

-- past check i, all stop i further on than those behind it
abbrev onward : ℕ → ℕ → ℕ
onward zero j = j
onward (suc i) j = suc (onward i j)

abbrev Past : Start → ℕ → Type 0
Past s i = (j : ℕ) → Stops (drop i (checks s)) j → Stops (checks s) (onward i j)

-- what they come to where they stop
stop : (s : Start) (i : ℕ) → Stops (checks s) i → stopped (checks s) i (needed s) ≡ outcome (checks s) (needed s)
stop s i h = sym (stops_outcome (needed s) (checks s) i h)

past₁ : (s : Start) → s.args.n ≤ s.args.row.vertices → Past s 1
past₁ s low j h = (le-ltb _ _ low, h)

past₂ : (s : Start) → Past s 1 → length s.args.sources.now ≡ length s.args.targets.now → Past s 2
past₂ s past same j h = past (suc j) (ap not (eq-eqb _ _ same), h)

past₃ : (s : Start) → Past s 2 → length s.args.sources.now ≤ s.args.row.edges → Past s 3
past₃ s past few j h = past (suc j) (le-ltb _ _ few, h)

past₄ : (s : Start) → Past s 3 → (s.args.d ≡ 0 → ⊥) → s.args.d ≤ s.args.row.labellings → Past s 4
past₄ s past some few j h = past (suc j) (rw (ne_eqb _ _ some) (le-ltb _ _ few), h)

past₅ : (s : Start) → Past s 4 → length s.args.orders.now ≡ s.args.d * s.args.n → Past s 5
past₅ s past long j h = past (suc j) (ap not (eq-eqb _ _ long), h)

past₆ : (s : Start) → Past s 5 → needed s ≤ s.args.work → Past s 6
past₆ s past room j h = past (suc j) (le-ltb _ _ room, h)

pub returns-then-most_vertices-n : goal.returns-then-most_vertices-n
returns-then-most_vertices-n c =
    let s = (goal.at.returns-then-most_vertices-n c).Start in
    stop s 0 (lt-ltb _ _ c.if-most_vertices-n.true)

pub returns-then-edges-targets : goal.returns-then-edges-targets
returns-then-edges-targets c =
    let s = (goal.at.returns-then-edges-targets c).Start in
    let p₁ = past₁ s c.if-most_vertices-n.false in
    stop s 1 (p₁ 0 (ap not (ne_eqb _ _ c.if-edges-targets.true)))

pub returns-then-most_edges-edges : goal.returns-then-most_edges-edges
returns-then-most_edges-edges c =
    let s = (goal.at.returns-then-most_edges-edges c).Start in
    let p₁ = past₁ s c.if-most_vertices-n.false in
    let p₂ = past₂ s p₁ c.if-edges-targets.false in
    stop s 2 (p₂ 0 (lt-ltb _ _ c.if-most_edges-edges.true))

pub returns-then-d-eq0 : goal.returns-then-d-eq0
returns-then-d-eq0 c =
    let s = (goal.at.returns-then-d-eq0 c).Start in
    let p₁ = past₁ s c.if-most_vertices-n.false in
    let p₂ = past₂ s p₁ c.if-edges-targets.false in
    let p₃ = past₃ s p₂ c.if-most_edges-edges.false in
    stop s 3
    (p₃ 0 (elim c.then-d-eq0.branch [
      | then-d-eq0-via-then-d-eq0 w ↦ or_left _ (eq-eqb _ _ w.if-d-eq0.true)
      | then-d-eq0-via-else-d-eq0+then-most_labellings-d w ↦ or_right (eqb c.args.d 0) (lt-ltb _ _ w.if-most_labellings-d.true)
    ]))

pub returns-then-orders-d : goal.returns-then-orders-d
returns-then-orders-d c =
    let s = (goal.at.returns-then-orders-d c).Start in
    let p₁ = past₁ s c.if-most_vertices-n.false in
    let p₂ = past₂ s p₁ c.if-edges-targets.false in
    let p₃ = past₃ s p₂ c.if-most_edges-edges.false in
    let p₄ = past₄ s p₃ c.if-d-eq0.false c.if-most_labellings-d.false in
    stop s 4 (p₄ 0 (ap not (ne_eqb _ _ c.if-orders-d.true)))

pub returns-then-work-needed : goal.returns-then-work-needed
returns-then-work-needed c =
    let s = (goal.at.returns-then-work-needed c).Start in
    let p₁ = past₁ s c.if-most_vertices-n.false in
    let p₂ = past₂ s p₁ c.if-edges-targets.false in
    let p₃ = past₃ s p₂ c.if-most_edges-edges.false in
    let p₄ = past₄ s p₃ c.if-d-eq0.false c.if-most_labellings-d.false in
    let p₅ = past₅ s p₄ c.if-orders-d.false in
    stop s 5 (p₅ 0 (lt-ltb _ _ c.if-work-needed.true))

pub returns-in-Some : goal.returns-in-Some
returns-in-Some c =
    let s = (goal.at.returns-in-Some c).Start in
    let p₁ = past₁ s c.if-most_vertices-n.false in
    let p₂ = past₂ s p₁ c.if-edges-targets.false in
    let p₃ = past₃ s p₂ c.if-most_edges-edges.false in
    let p₄ = past₄ s p₃ c.if-d-eq0.false c.if-most_labellings-d.false in
    let p₅ = past₅ s p₄ c.if-orders-d.false in
    let p₆ = past₆ s p₅ c.if-work-needed.false in
    let G = (input s).graph in
    let found = c.bad_edge.ensures in
    ap (refused 7) (first_some (bad_edge G) (length G.sources) found c.in-Some.is)
    ∙ stop s 6 (p₆ 0 (any_some (bad_edge G) (length G.sources) found c.in-Some.is))

pub returns : goal.returns
returns c =
    let s = (goal.at.returns c).Start in
    let p₁ = past₁ s c.if-most_vertices-n.false in
    let p₂ = past₂ s p₁ c.if-edges-targets.false in
    let p₃ = past₃ s p₂ c.if-most_edges-edges.false in
    let p₄ = past₄ s p₃ c.if-d-eq0.false c.if-most_labellings-d.false in
    let p₅ = past₅ s p₄ c.if-orders-d.false in
    let p₆ = past₆ s p₅ c.if-work-needed.false in
    let G = (input s).graph in
    stop s 7
    (p₆ 1 (any_none_found (bad_edge G) (length G.sources) c.bad_edge.ensures c.in_default.is, tt))
