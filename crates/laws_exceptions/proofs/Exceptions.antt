-- What x reaches it contains, since rule 4 rules out no group that a path leads to; so of the groups that x contains, its exceptions are those to which no path
-- leads. Containment is told labelling by labelling.
use mathlib.Core.Bool.{Bool, true, false, not, ◌&&◌}
use mathlib.Core.Logic.{◌↔◌}
use mathlib.Core.Path.{◌≡◌, refl, ap}
use Prim.Native.Nat.{ℕ, ◌<◌, ◌≤◌}
use native.Mathlib.Decide.{ℕ_discrete}
use native.Mathlib.Omega.{arith}
use lib.Dec.{leb}
use lib.ListN.{length, get_or}
use borrow.Author.Tests.{leb-true, le-leb, not-true}
use Rattle.lineage.specs.Lists.{upto, among}
use Rattle.lineage.specs.Graph.{leads}
use Rattle.lineage.specs.Labels.{Labelling}
use Rattle.lineage.specs.Index.{Index}
use Rattle.lineage.specs.Question.{outside, rule3, rule4}
use Rattle.laws.specs.Leads.{Down, stay, step}
use Rattle.laws.specs.Rising.{Rises}
use Rattle.laws.specs.Sound.{Sound}
use Rattle.laws.proofs.Tests.{and_both, and_left, and_right, clash, is_false, or_false_right}
use Rattle.laws.proofs.Lists.{those_pass, those_keep, in_upto, upto_low}
use Rattle.laws.proofs.Rising.{rises_upto, rises_those}
use Rattle.laws.proofs.Grouped.{child_in, leads_exactly}
use Rattle.laws_answers.specs.Answers.{Member}
use Rattle.laws_answers.proofs.Members.{member_long}
use Rattle.laws_answers.proofs.Labellings.{some_is, is_some}
use Rattle.laws_answers.proofs.Intervals.{judged}
use Rattle.laws_exceptions.specs.Exceptions.{contains, is_exception, exceptions_of}

-- a test that is not outside
within : (a b : Bool) → not (a && b) ≡ false → (a ≡ true) × (b ≡ true)
within true true h = (refl, refl)
within true false h = clash refl h
within false b h = clash refl h

module _ (I : Index) where
  -- containment in each labelling
  pub contains_each :
      (x y : ℕ) → contains I x y ≡ true → {l : Labelling} → Member l I.labels
      → (get_or l.s x 0 ≤ get_or l.s y 0) × (get_or l.e y 0 ≤ get_or l.e x 0)
  contains_each x y c {l} m =
      let (a, b) = within (leb (get_or l.s x 0) (get_or l.s y 0)) (leb (get_or l.e y 0) (get_or l.e x 0))
      (is_false (outside x y l) (λ o. clash (is_some (outside x y) m o) (not-true (rule4 I x y) c))) in
      (leb-true (get_or l.s x 0) (get_or l.s y 0) a, leb-true (get_or l.e y 0) (get_or l.e x 0) b)

  -- the exceptions of x rise
  pub exceptions_rise : (x : ℕ) → Rises (exceptions_of I x)
  unfolding exceptions_of
  exceptions_rise x = rises_those (is_exception I x) (upto (length I.groups)) (rises_upto (length I.groups))

  -- and are the places that are exceptions
  pub listed_exactly : (x y : ℕ) → (among y (exceptions_of I x) ≡ true) ↔ ((y < length I.groups) × (is_exception I x y ≡ true))
  unfolding exceptions_of
  listed_exactly x y = (
    λ i. let (e, j) = those_pass (is_exception I x) y (upto (length I.groups)) i in (upto_low (length I.groups) y j, e),
    λ h. those_keep (is_exception I x) y (upto (length I.groups)) h.1 (in_upto (length I.groups) y h.0),
  )

  module _ (S : Sound I) where
    -- a path down children leads to places
    down_low : {x y : ℕ} → x < length I.children → Down I.children x y → y < length I.children
    down_low b stay = b
    down_low {x} b (step {q = q} i w) = down_low (child_in S.condensed x q b i) w

    -- x contains what it leads to: itself, and what rule 4 lets through in any labelling that there is
    pub contains_down : (x y : ℕ) → x < length I.children → Down I.children x y → contains I x y ≡ true
    contains_down x y b w = ap not (is_false (rule4 I x y) (λ t. let (l, m, o) = some_is (outside x y) I.labels t in at t m o (ℕ_discrete x y)))
      where
        own : (l : Labelling) → outside y y l ≡ false
        own l = rw (le-leb (get_or l.s y 0) (get_or l.s y 0) (omega arith), le-leb (get_or l.e y 0) (get_or l.e y 0) (omega arith))

        at : rule4 I x y ≡ true → {l : Labelling} → Member l I.labels → outside x y l ≡ true → Dec (x ≡ y) → ⊥
        at t {l} m o (yes e) = clash (rw e at o) (own l)
        at t m o (no n) = clash t (or_false_right (rule3 I x y) (rule4 I x y) ((judged I S (member_long m) y (down_low b w)).lets x b w n))

    -- an exception is contained, and no path leads to it
    pub exception_exactly :
        (x y : ℕ) → x < length I.children → (is_exception I x y ≡ true) ↔ ((contains I x y ≡ true) × (Down I.children x y → ⊥))
    unfolding is_exception
    exception_exactly x y b =
        let led : Bool = leads I.children (get_or I.levels x 0) x y in
        let L = leads_exactly S.condensed x y b in (
          λ e. (and_left (contains I x y) (not led) e, λ w. clash (L.1 w) (not-true led (and_right (contains I x y) (not led) e))),
          λ h. and_both h.0 (ap not (is_false led (λ t. h.1 (L.0 t)))),
        )

    -- y stands in x's list exactly where x contains it and no path leads to it
    pub exceptions_are :
        (x y : ℕ) → x < length I.children
        → (among y (exceptions_of I x) ≡ true) ↔ ((y < length I.groups) × (contains I x y ≡ true) × (Down I.children x y → ⊥))
    exceptions_are x y b =
        let L = listed_exactly x y in
        let E = exception_exactly x y b in
        (λ i. let (c, n) = E.0 (L.0 i).1 in ((L.0 i).0, c, n), λ h. L.1 (h.0, E.1 (h.1, h.2)))

    -- so x is no exception of its own
    pub exception_other : (x : ℕ) → x < length I.children → is_exception I x x ≡ false
    exception_other x b = is_false (is_exception I x x) (λ e. ((exception_exactly x x b).0 e).1 stay)
