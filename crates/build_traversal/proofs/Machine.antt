-- The traversal as a machine: a list of tasks, to try a vertex or to finish one. To try a seen vertex lowers s, the least that was come upon, to the vertex's
-- own; to try an unseen one marks it, and its row is tried and it is finished before what else is to do. What a traversal folds to, the machine comes to, and
-- it comes to one end only.
use mathlib.Core.Bool.{true, false, not}
use mathlib.Core.Path.{◌≡◌, refl, ap, ◌∙◌}
use mathlib.Core.List.{List, [], ◌∷◌, ◌++◌, append-nil}
use Prim.Native.Nat.{ℕ, suc, min, ◌<◌}
use native.Mathlib.Decide.{ℕ_discrete}
use native.Mathlib.Nat.{pos_of_ne-zero}
use native.Mathlib.Omega.{arith}
use lib.Dec.{eqb}
use lib.ListN.{length, get_or, set, replicate, length-set, length-replicate, get_or-replicate}
use lib.Seq.{get_or-set_same, get_or-set_other}
use borrow.Author.Tests.{eqb-true, eq-eqb, ne_eqb}
use Rattle.lineage.specs.Lists.{among}
use Rattle.lineage.specs.Labels.{Forest, after}
use Rattle.laws.specs.Visits.{Visits, over, skip, enter}
use Rattle.laws.proofs.Tests.{clash}
use Rattle.laws.proofs.Lists.{here, there}
use Rattle.laws.proofs.Traversal.{kept}
use Rattle.build_traversal.proofs.Tasks.{Task, try, finish, tries}

-- of each vertex a mark, its m and its e; the vertices as they were finished; and of the vertex that is open last the least that it has come upon
pub record State : Type 0 where
  pub marks : List ℕ
  pub out : List ℕ
  pub m : List ℕ
  pub e : List ℕ
  pub s : ℕ

abbrev pub New : State → ℕ → Type 0
New t v = get_or t.marks v 0 ≡ 0

-- a seen vertex is come upon
abbrev pub passed : ℕ → State → State
passed v t = record { marks = t.marks; out = t.out; m = t.m; e = t.e; s = min t.s (get_or t.marks v 0) }

-- an unseen one, of n, is entered
abbrev pub entered : ℕ → ℕ → State → State
entered n v t = record { marks = set t.marks v 1; out = t.out; m = set t.m v (suc (length t.out)); e = t.e; s = n }

-- it is left; saved is what the vertex below has come upon
abbrev pub left : ℕ → ℕ → State → State
left v saved t =
    record {
      marks = set t.marks v (min t.s (suc (length t.out)));
      out = t.out ++ (v ∷ []);
      m = t.m;
      e = set t.e v (suc (length t.out));
      s = min saved (min t.s (suc (length t.out)));
    }

-- the tasks run through from one state to another
pub data Runs (n : ℕ) (next : ℕ → List ℕ) : List Task → State → State → Type 0 where
  nothing : {t : State} → Runs n next [] t t
  pass : {v : ℕ} {ts : List Task} {t fin : State} → (New t v → ⊥) → Runs n next ts (passed v t) fin → Runs n next (try v ∷ ts) t fin
  go_in : {v : ℕ} {ts : List Task} {t fin : State} → New t v → Runs n next (tries (next v) ++ (finish v t.s ∷ ts)) (entered n v t) fin → Runs n next (try v ∷ ts) t fin
  go_out : {v saved : ℕ} {ts : List Task} {t fin : State} → Runs n next ts (left v saved t) fin → Runs n next (finish v saved ∷ ts) t fin

-- it comes to one end only
pub one_end : {n : ℕ} {next : ℕ → List ℕ} {ts : List Task} {t a b : State} → Runs n next ts t a → Runs n next ts t b → a ≡ b
one_end nothing nothing = refl
one_end (pass n r) (pass n' r') = one_end r r'
one_end (pass n r) (go_in y r') = absurd (n y)
one_end (go_in y r) (pass n r') = absurd (n y)
one_end (go_in y r) (go_in y' r') = one_end r r'
one_end (go_out r) (go_out r') = one_end r r'

-- what a traversal of n vertices folds to
abbrev pub state_after : (n : ℕ) {next : ℕ → List ℕ} {todo seen : List ℕ} {f : Forest} → Visits next todo seen f → State → State
state_after n over t = t
state_after n (skip {p = p} a r) t = state_after n r (passed p t)
state_after n (enter {p = p} a r rest) t = state_after n rest (left p t.s (state_after n r (entered n p t)))

-- the marks say what is seen, and s is not 0, so that no mark becomes 0 again
pub record Marked (n : ℕ) (t : State) (seen : List ℕ) : Type 0 where
  pub long : length t.marks ≡ n
  pub is : (v : ℕ) → v < n → eqb (get_or t.marks v 0) 0 ≡ not (among v seen)
  pub some : 0 < t.s

module _ {n : ℕ} {t : State} {seen : List ℕ} (M : Marked n t seen) (p : ℕ) (low : p < n) where
  pub seen_mark : among p seen ≡ true → New t p → ⊥
  seen_mark a z = clash (eq-eqb (get_or t.marks p 0) 0 z) (M.is p low ∙ ap not a)

  pub unseen_mark : among p seen ≡ false → New t p
  unseen_mark a = eqb-true (get_or t.marks p 0) 0 (M.is p low ∙ ap not a)

  marked_passed : among p seen ≡ true → Marked n (passed p t) seen
  marked_passed a = record { long = M.long; is = M.is; some = omega (arith, M.some, pos_of_ne-zero (seen_mark a)) }

  -- a mark that is not 0 is set
  set_is : (mark : ℕ) → 0 < mark → (v : ℕ) → v < n → Dec (v ≡ p) → eqb (get_or (set t.marks p mark) v 0) 0 ≡ not (among v (p ∷ seen))
  set_is mark h v l (yes z) = rw (z, get_or-set_same t.marks p mark 0 (omega (arith, M.long)), eq-eqb p p refl) (ne_eqb mark 0 (λ y. omega arith))
  set_is mark h v l (no z) = rw (get_or-set_other t.marks p v mark 0 z, ne_eqb v p z) (M.is v l)

  marked_entered : Marked n (entered n p t) (p ∷ seen)
  marked_entered = record { long = length-set t.marks p 1 ∙ M.long; is = λ v l. set_is 1 (omega arith) v l (ℕ_discrete v p); some = omega (arith, low) }

  marked_left : (saved : ℕ) → 0 < saved → among p seen ≡ true → Marked n (left p saved t) seen
  marked_left saved h a = record {
    long = length-set t.marks p (min t.s (suc (length t.out))) ∙ M.long;
    is = λ v l. set_is (min t.s (suc (length t.out))) (omega (arith, M.some)) v l (ℕ_discrete v p) ∙ ap not (same v (ℕ_discrete v p));
    some = omega (arith, M.some);
  }
    where
      same : (v : ℕ) → Dec (v ≡ p) → among v (p ∷ seen) ≡ among v seen
      same v (yes z) = rw (z, eq-eqb p p refl, a)
      same v (no z) = rw (ne_eqb v p z)

module _ {next : ℕ → List ℕ} {n : ℕ} (next_low : (p q : ℕ) → among q (next p) ≡ true → q < n) where
  -- the marks after a traversal say what is seen then
  marked_after :
      {todo seen : List ℕ} {f : Forest} (visits : Visits next todo seen f) (t : State) → ((q : ℕ) → among q todo ≡ true → q < n) → Marked n t seen
      → Marked n (state_after n visits t) (after f seen)
  marked_after over t low M = M
  marked_after (skip {p = p} {todo = todo} a r) t low M = marked_after r (passed p t) (λ q i. low q (there q p todo i)) (marked_passed M p (low p (here p todo)) a)
  marked_after (enter {p = p} {todo = todo} {seen = seen} {below = below} a r rest) t low M =
      let l = low p (here p todo) in
      let B = marked_after r (entered n p t) (next_low p) (marked_entered M p l) in
      marked_after rest (left p t.s (state_after n r (entered n p t))) (λ q i. low q (there q p todo i))
      (marked_left B p l t.s M.some (kept below (p ∷ seen) p (here p seen)))

  pub visits_run :
      {todo seen : List ℕ} {f : Forest} (visits : Visits next todo seen f) (t : State) → ((q : ℕ) → among q todo ≡ true → q < n) → Marked n t seen
      → {ts : List Task} {fin : State} → Runs n next ts (state_after n visits t) fin → Runs n next (tries todo ++ ts) t fin
  visits_run over t low M r = r
  visits_run (skip {p = p} {todo = todo} a v) t low M r =
      let l = low p (here p todo) in
      pass (seen_mark M p l a) (visits_run v (passed p t) (λ q i. low q (there q p todo i)) (marked_passed M p l a) r)
  visits_run (enter {p = p} {todo = todo} {seen = seen} {below = below} a v rest) t low M r =
      let l = low p (here p todo) in
      let M' = marked_entered M p l in
      let b = state_after n v (entered n p t) in
      let B = marked_left (marked_after v (entered n p t) (next_low p) M') p l t.s M.some (kept below (p ∷ seen) p (here p seen)) in
      go_in (unseen_mark M p l a) (visits_run v (entered n p t) (next_low p) M' (go_out (visits_run rest (left p t.s b) (λ q i. low q (there q p todo i)) B r)))

  -- from no marks and nothing out, the machine comes to what the traversal folds to
  pub run_end :
      {roots : List ℕ} {f : Forest} (visits : Visits next roots [] f) → ((q : ℕ) → among q roots ≡ true → q < n) → (t : State) → t.marks ≡ replicate n 0 → 0 < t.s
      → {fin : State} → Runs n next (tries roots) t fin → fin ≡ state_after n visits t
  run_end {roots} visits low t clear some r = one_end r (rw (append-nil (tries roots)) at (visits_run visits t low none nothing))
    where
      none : Marked n t []
      none = record { long = ap length clear ∙ length-replicate n 0; is = λ v h. rw (clear, get_or-replicate {A = ℕ} n v 0 0 h); some = some }
