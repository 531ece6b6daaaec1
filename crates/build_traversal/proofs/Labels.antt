-- The labels that a traversal comes to. A vertex's m is noted as it is entered and its e as it is left, and nothing writes them again. Its s is the least of
-- its e and of what it came upon in its row; where the rows go downhill none of these is open still, so their s stay as they were.
use mathlib.Core.Bool.{true, false, false≢true}
use mathlib.Core.Logic.{inl, inr}
use mathlib.Core.Path.{◌≡◌, refl, sym, ap, ap₂, ◌∙◌}
use mathlib.Core.List.{List, [], ◌∷◌, ◌++◌, map, append_assoc, append-nil}
use Prim.Native.Nat.{ℕ, suc, ◌+◌, min, ◌≤◌, ◌<◌}
use native.Mathlib.Omega.{arith}
use lib.ListN.{length, get_or, length-append, length-set}
use lib.Seq.{get_or-set_same, get_or-set_other}
use borrow.Author.Tests.{eq-eqb, ne_eqb}
use Rattle.lineage.specs.Lists.{among, position, least}
use Rattle.lineage.specs.Labels.{Forest, visit, after, finished}
use Rattle.laws.specs.Leads.{Leads, stay, step}
use Rattle.laws.specs.Visits.{Visits, over, skip, enter, before}
use Rattle.laws.proofs.Tests.{clash, is_false}
use Rattle.laws.proofs.Lists.{here, here_at, there, in_left, in_right, map_same}
use Rattle.laws.proofs.Positions.{position_past, position_left}
use Rattle.laws.proofs.Traversal.{kept}
use Rattle.laws.proofs.Visited.{parts, visited_seen, listed, followed, fresh, from_todo}
use Rattle.build_traversal.specs.Traversed.{Downhill}
use Rattle.build_traversal.proofs.Machine.{State, passed, entered, left, state_after}

-- a word for each of n vertices in every table
pub record Sized (n : ℕ) (t : State) : Type 0 where
  pub marks : length t.marks ≡ n
  pub m : length t.m ≡ n
  pub e : length t.e ≡ n

-- the tables have the same at v
record Same (v : ℕ) (t u : State) : Type 0 where
  marks : get_or u.marks v 0 ≡ get_or t.marks v 0
  m : get_or u.m v 0 ≡ get_or t.m v 0
  e : get_or u.e v 0 ≡ get_or t.e v 0

-- the labels of a vertex that was visited; c were finished before
pub record Told (n : ℕ) (next : ℕ → List ℕ) (f : Forest) (c v : ℕ) (u : State) : Type 0 where
  pub m : get_or u.m v 0 ≡ suc (c + length (before v f))
  pub e : get_or u.e v 0 ≡ suc (c + position v (finished f))
  pub s : Downhill next n → get_or u.marks v 0 ≡ min (least n (map (λ q. get_or u.marks q 0) (next v))) (get_or u.e v 0)

module _ (n : ℕ) where
  sized_entered : (p : ℕ) (t : State) → Sized n t → Sized n (entered n p t)
  sized_entered p t z = record { marks = length-set t.marks p 1 ∙ z.marks; m = length-set t.m p (suc (length t.out)) ∙ z.m; e = z.e }

  sized_left : (p saved : ℕ) (t : State) → Sized n t → Sized n (left p saved t)
  sized_left p saved t z = record {
    marks = length-set t.marks p (min t.s (suc (length t.out))) ∙ z.marks;
    m = z.m;
    e = length-set t.e p (suc (length t.out)) ∙ z.e;
  }

module _ (n : ℕ) {next : ℕ → List ℕ} where
  pub sized_after : {todo seen : List ℕ} {f : Forest} (visits : Visits next todo seen f) (t : State) → Sized n t → Sized n (state_after n visits t)
  sized_after over t z = z
  sized_after (skip {p = p} a r) t z = sized_after r (passed p t) (record { marks = z.marks; m = z.m; e = z.e })
  sized_after (enter {p = p} a r rest) t z =
      let b = state_after n r (entered n p t) in
      sized_after rest (left p t.s b) (sized_left n p t.s b (sized_after r (entered n p t) (sized_entered n p t z)))

  -- the vertices as they are finished
  pub out_after : {todo seen : List ℕ} {f : Forest} (visits : Visits next todo seen f) (t : State) → (state_after n visits t).out ≡ t.out ++ finished f
  out_after over t = sym (append-nil t.out)
  out_after (skip {p = p} a r) t = out_after r (passed p t)
  out_after (enter {p = p} {below = below} {rest = later} a r rest) t =
      let b = state_after n r (entered n p t) in
      out_after rest (left p t.s b)
      ∙ ap (λ z. (z ++ (p ∷ [])) ++ finished later) (out_after r (entered n p t))
      ∙ simp append_assoc

  -- what is not visited has what it had
  same_after : {todo seen : List ℕ} {f : Forest} (visits : Visits next todo seen f) (t : State) (v : ℕ) → among v (finished f) ≡ false → Same v t (state_after n visits t)
  same_after over t v o = record { marks = refl; m = refl; e = refl }
  same_after (skip {p = p} a r) t v o = let h = same_after r (passed p t) v o in record { marks = h.marks; m = h.m; e = h.e }
  same_after (enter {p = p} {below = below} {rest = later} a r rest) t v o =
      let b = state_after n r (entered n p t) in
      let other : v ≡ p → ⊥ = λ z. clash (in_right v (finished below) (p ∷ finished later) (here_at _ p (finished later) z)) o in
      let off : among v (finished below) ≡ false = is_false _ (λ i. clash (in_left v (finished below) (p ∷ finished later) i) o) in
      let out : among v (finished later) ≡ false = is_false _ (λ i. clash (in_right v (finished below) (p ∷ finished later) (there v p (finished later) i)) o) in
      let h = same_after r (entered n p t) v off in
      let l = same_after rest (left p t.s b) v out in
      record {
        marks = l.marks ∙ get_or-set_other b.marks p v _ 0 other ∙ h.marks ∙ get_or-set_other t.marks p v 1 0 other;
        m = l.m ∙ h.m ∙ get_or-set_other t.m p v _ 0 other;
        e = l.e ∙ get_or-set_other b.e p v _ 0 other ∙ h.e;
      }

  module _ (next_low : (p q : ℕ) → among q (next p) ≡ true → q < n) where
    -- at the end s is the least of what it was and of the s of all that was tried
    s_after :
        {todo seen : List ℕ} {f : Forest} (visits : Visits next todo seen f) (t : State) → Sized n t → ((q : ℕ) → among q todo ≡ true → q < n)
        → (state_after n visits t).s ≡ least t.s (map (λ q. get_or (state_after n visits t).marks q 0) todo)
    s_after over t z low = refl
    s_after (skip {p = p} {todo = todo} {seen = seen} {f = f} a r) t z low =
        let fin = state_after n r (passed p t) in
        let old : among p (finished f) ≡ false = is_false _ (λ i. clash a (fresh r p i)) in
        s_after r (passed p t) (record { marks = z.marks; m = z.m; e = z.e }) (λ q i. low q (there q p todo i))
        ∙ ap (λ x. least (min t.s x) (map (λ q. get_or fin.marks q 0) todo)) (sym (same_after r (passed p t) p old).marks)
    s_after (enter {p = p} {todo = todo} {seen = seen} {below = below} {rest = later} a r rest) t z low =
        let b = state_after n r (entered n p t) in
        let B : Sized n b = sized_after r (entered n p t) (sized_entered n p t z) in
        let fin = state_after n rest (left p t.s b) in
        let old : among p (finished later) ≡ false = is_false _ (λ i. clash (kept below (p ∷ seen) p (here p seen)) (fresh rest p i)) in
        let is : get_or fin.marks p 0 ≡ min b.s (suc (length b.out)) =
        (same_after rest (left p t.s b) p old).marks ∙ get_or-set_same b.marks p _ 0 (omega (arith, B.marks, low p (here p todo))) in
        s_after rest (left p t.s b) (sized_left n p t.s b B) (λ q i. low q (there q p todo i))
        ∙ ap (λ x. least (min t.s x) (map (λ q. get_or fin.marks q 0) todo)) (sym is)

    -- a path goes downhill
    leads_down : (D : Downhill next n) {p q : ℕ} → p < n → Leads next p q → D.height q ≤ D.height p
    leads_down D h stay = omega arith
    leads_down D h (step {p = p} {q = q} i l) = omega (arith, D.falls p q h i, leads_down D (next_low p q i) l)

    -- p was entered from t, its row gone through to b, and it was left; then the rest was gone through to u
    module _
        (p : ℕ) (p-low : p < n) {todo seen : List ℕ} {below later : Forest} (new : among p seen ≡ false) (r : Visits next (next p) (p ∷ seen) below)
        (rest : Visits next todo (after below (p ∷ seen)) later) (t : State) (z : Sized n t)
      where
        abbrev b : State
        b = state_after n r (entered n p t)

        abbrev u : State
        u = state_after n rest (left p t.s b)

        abbrev f : Forest
        f = visit p below later

        B : Sized n b
        B = sized_after r (entered n p t) (sized_entered n p t z)

        count : length b.out ≡ length t.out + length (finished below)
        count = ap length (out_after r (entered n p t)) ∙ length-append t.out (finished below)

        -- what was seen by then is not visited later
        gone : (q : ℕ) → among q (after below (p ∷ seen)) ≡ true → among q (finished later) ≡ false
        gone q i = is_false _ (λ j. clash i (fresh rest q j))

        p_below : among p (finished below) ≡ false
        p_below = is_false _ (λ i. clash (here p seen) (fresh r p i))

        p_later : among p (finished later) ≡ false
        p_later = gone p (kept below (p ∷ seen) p (here p seen))

        -- so marks but p's stay
        marks_stay : (q : ℕ) → (q ≡ p → ⊥) → among q (after below (p ∷ seen)) ≡ true → get_or u.marks q 0 ≡ get_or b.marks q 0
        marks_stay q other i = (same_after rest (left p t.s b) q (gone q i)).marks ∙ get_or-set_other b.marks p q _ 0 other

        told_first : Told n next f (length t.out) p u
        told_first = record {
          m =
              (same_after rest (left p t.s b) p p_later).m
              ∙ (same_after r (entered n p t) p p_below).m
              ∙ get_or-set_same t.m p _ 0 (omega (arith, z.m))
              ∙ rw (eq-eqb p p refl, before) (omega arith);
          e =
              e_is
              ∙ ap suc count
              ∙ sym (ap (λ x. suc (length t.out + x)) (position_past p (finished below) (p ∷ finished later) p_below ∙ rw (eq-eqb p p refl, position) (omega arith)));
          s = λ D.
              (same_after rest (left p t.s b) p p_later).marks
              ∙ get_or-set_same b.marks p _ 0 (omega (arith, B.marks))
              ∙ ap₂ min
              (s_after r (entered n p t) (sized_entered n p t z) (next_low p)
              ∙ ap (least n) (map_same (λ q. get_or b.marks q 0) (λ q. get_or u.marks q 0) (next p)
              (λ q i. sym (marks_stay q (λ x. absurd (omega (arith, D.falls p q p-low i, ap D.height x))) (listed r q i)))))
              (sym e_is);
        }
          where
            e_is : get_or u.e p 0 ≡ suc (length b.out)
            e_is = (same_after rest (left p t.s b) p p_later).e ∙ get_or-set_same b.e p _ 0 (omega (arith, B.e))

        told_below : (v : ℕ) → among v (finished below) ≡ true → Told n next below (length t.out) v b → Told n next f (length t.out) v u
        told_below v i w =
            let other : v ≡ p → ⊥ = λ x. clash (rw x at i) p_below in
            let out = gone v (visited_seen below (p ∷ seen) v i) in
            let same = same_after rest (left p t.s b) v out in
            let e_is : get_or u.e v 0 ≡ get_or b.e v 0 = same.e ∙ get_or-set_other b.e p v _ 0 other in
            record {
              m = same.m ∙ w.m ∙ rw (ne_eqb v p other, i, before);
              e = e_is ∙ w.e ∙ ap (λ x. suc (length t.out + x)) (sym (position_left v (finished below) (p ∷ finished later) i));
              s = λ D.
                  let (q₀, j, l) = from_todo r v i in
                  let under : D.height v < D.height p = omega (arith, D.falls p q₀ p-low j, leads_down D (next_low p q₀ j) l) in
                  let v_low : v < n = leads_low (next_low p q₀ j) l in
                  same.marks
                  ∙ get_or-set_other b.marks p v _ 0 other
                  ∙ w.s D
                  ∙ ap₂ min
                  (ap (least n) (map_same (λ q. get_or b.marks q 0) (λ q. get_or u.marks q 0) (next v)
                  (λ q k. sym (marks_stay q (λ x. absurd (omega (arith, D.falls v q v_low k, ap D.height x))) (followed r v q i k)))))
                  (sym e_is);
            }
          where
            leads_low : {p q : ℕ} → p < n → Leads next p q → q < n
            leads_low h stay = h
            leads_low h (step {p = p} {q = q} i l) = leads_low (next_low p q i) l

        told_later : (v : ℕ) → among v (finished later) ≡ true → Told n next later (length (left p t.s b).out) v u → Told n next f (length t.out) v u
        told_later v i w =
            let other : v ≡ p → ⊥ = λ x. clash (rw x at i) p_later in
            let off : among v (finished below) ≡ false = is_false _ (λ j. clash i (gone v (visited_seen below (p ∷ seen) v j))) in
            let more : length (left p t.s b).out ≡ suc (length t.out + length (finished below)) = omega (arith, length-append b.out (p ∷ []), count) in
            record {
              m = w.m ∙ rw (ne_eqb v p other, off, before) (omega (arith, more, length-append (finished below) (p ∷ before v later)));
              e = w.e ∙ omega (arith, more, position_past v (finished below) (p ∷ finished later) off, one v other);
              s = w.s;
            }
          where
            one : (v : ℕ) → (v ≡ p → ⊥) → position v (p ∷ finished later) ≡ suc (position v (finished later))
            one v other = rw (ne_eqb v p other, position)

    pub told :
        {todo seen : List ℕ} {f : Forest} (visits : Visits next todo seen f) (t : State) → Sized n t → ((q : ℕ) → among q todo ≡ true → q < n)
        → (v : ℕ) → among v (finished f) ≡ true → Told n next f (length t.out) v (state_after n visits t)
    told over t z low v i = absurd (false≢true i)
    told (skip {p = p} {todo = todo} a r) t z low v i = told r (passed p t) (record { marks = z.marks; m = z.m; e = z.e }) (λ q j. low q (there q p todo j)) v i
    told (enter {p = p} {todo = todo} {below = below} {rest = later} a r rest) t z low v i =
        let l = low p (here p todo) in
        let b = state_after n r (entered n p t) in
        elim (parts v p below later i) [
          | inl j ↦ told_below p l a r rest t z v j (told r (entered n p t) (sized_entered n p t z) (next_low p) v j)
          | inr j ↦ elim j [
            | inl x ↦ rw x (told_first p l a r rest t z)
            | inr k ↦
                told_later p l a r rest t z v k
                (told rest (left p t.s b) (sized_left n p t.s b (sized_after r (entered n p t) (sized_entered n p t z))) (λ q m. low q (there q p todo m)) v k)
          ]
        ]
