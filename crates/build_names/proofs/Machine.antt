-- The fold as a machine: a list of tasks, to try a vertex or to finish one, as in `build_traversal`, with the fold's stage for its state. What a traversal
-- folds to, the machine comes to, and it comes to one end only.
use mathlib.Core.Bool.{Bool, true, false, ◌||◌}
use mathlib.Core.Path.{◌≡◌, refl, sym, ap, ap₂, ◌∙◌, subst}
use mathlib.Core.List.{List, [], ◌∷◌, ◌++◌, append_assoc, append-nil}
use Prim.Native.Nat.{ℕ, suc, min}
use native.Mathlib.Omega.{arith}
use lib.Dec.{eqb}
use lib.ListN.{length, take, drop}
use lib.Seq.{take-append_seam, drop-append_seam}
use borrow.Author.Tests.{eq-eqb}
use Rattle.lineage.specs.Lists.{among, position}
use Rattle.lineage.specs.Labels.{Forest, after}
use Rattle.laws.specs.Visits.{Visits, over, skip, enter}
use Rattle.laws.proofs.Tests.{clash, or_false_left}
use Rattle.laws.proofs.Lists.{among_append}
use Rattle.laws.proofs.Positions.{position_past}
use Rattle.build_traversal.proofs.Tasks.{Task, try, finish, tries}
use Rattle.laws.specs.OnePass.{Stage, lowered, opened, left_by, left, stage_after, at_first}
use Rattle.laws.proofs.Stages.{gone}

-- what is seen
abbrev pub seen_by : Stage → List ℕ
seen_by s = s.stack ++ gone s

-- v is left; low is that of the vertex below
abbrev pub leave_by : Bool → ℕ → ℕ → Stage → Stage
leave_by true v low t = record { stack = take (position v t.stack) t.stack; groups = drop (position v t.stack) t.stack ∷ t.groups; low = min low t.low }
leave_by false v low t = record { stack = t.stack; groups = t.groups; low = min low t.low }

abbrev pub leave : ℕ → ℕ → Stage → Stage
leave v low t = leave_by (eqb t.low (suc (position v t.stack))) v low t

pub data Runs (next : ℕ → List ℕ) : List Task → Stage → Stage → Type 0 where
  nothing : {s : Stage} → Runs next [] s s
  pass : {v : ℕ} {ts : List Task} {s fin : Stage} → among v (seen_by s) ≡ true → Runs next ts (lowered v s) fin → Runs next (try v ∷ ts) s fin
  go_in : {v : ℕ} {ts : List Task} {s fin : Stage} → among v (seen_by s) ≡ false → Runs next (tries (next v) ++ (finish v s.low ∷ ts)) (opened v s) fin → Runs next (try v ∷ ts) s fin
  go_out : {v low : ℕ} {ts : List Task} {s fin : Stage} → Runs next ts (leave v low s) fin → Runs next (finish v low ∷ ts) s fin

-- it comes to one end only
pub one_end : {next : ℕ → List ℕ} {ts : List Task} {s a b : Stage} → Runs next ts s a → Runs next ts s b → a ≡ b
one_end nothing nothing = refl
one_end (pass o r) (pass o' r') = one_end r r'
one_end (pass o r) (go_in n r') = clash o n
one_end (go_in n r) (pass o r') = clash o n
one_end (go_in n r) (go_in n' r') = one_end r r'
one_end (go_out r) (go_out r') = one_end r r'

-- the stack only grows
pub record Atop (s t : Stage) : Type 0 where
  pub added : List ℕ
  pub stack_is : t.stack ≡ s.stack ++ added

atop_then : {s t r : Stage} → Atop s t → Atop t r → Atop s r
atop_then {s} a b = record { added = a.added ++ b.added; stack_is = b.stack_is ∙ ap (λ z. z ++ b.added) a.stack_is ∙ append_assoc s.stack a.added b.added }

atop_same : {s t : Stage} → t.stack ≡ s.stack → Atop s t
atop_same {s} e = record { added = []; stack_is = e ∙ sym (append-nil s.stack) }

atop_left : (s t : Stage) → Atop s t → Atop s (left s t)
atop_left s t a = at (eqb t.low (suc (length s.stack)))
  where
    at : (b : Bool) → Atop s (left_by b s t)
    at true = atop_same refl
    at false = record { added = a.added; stack_is = a.stack_is }

pub atop : {next : ℕ → List ℕ} {todo seen : List ℕ} {f : Forest} (visits : Visits next todo seen f) (s : Stage) → Atop s (stage_after visits s)
atop over s = atop_same refl
atop (skip {p = p} a r) s = atop_then (atop_same refl) (atop r (lowered p s))
atop (enter {p = p} a r t) s =
    let below = stage_after r (opened p s) in
    atop_then (atop_left s below (atop_then (record { added = p ∷ []; stack_is = refl }) (atop r (opened p s)))) (atop t (left s below))

-- the stage knows what is seen
pub record Knows (seen : List ℕ) (s : Stage) : Type 0 where
  pub same : (q : ℕ) → among q (seen_by s) ≡ among q seen

module _ (p : ℕ) (s t : Stage) (new : among p s.stack ≡ false) (a : Atop (opened p s) t) where
  abbrev own : List ℕ
  own = p ∷ a.added

  stack_is : t.stack ≡ s.stack ++ own
  stack_is = a.stack_is ∙ append_assoc s.stack (p ∷ []) a.added

  knows_left : {seen : List ℕ} → Knows seen t → Knows seen (left s t)
  knows_left {seen} k = at (eqb t.low (suc (length s.stack)))
    where
      at : (b : Bool) → Knows seen (left_by b s t)
      at true = record { same = λ q. ap (among q) moved ∙ k.same q }
        where
          moved : s.stack ++ (drop (length s.stack) t.stack ++ gone t) ≡ t.stack ++ gone t
          moved =
              ap (λ z. s.stack ++ (z ++ gone t)) (ap (drop (length s.stack)) stack_is ∙ drop-append_seam s.stack own)
              ∙ sym (append_assoc s.stack own (gone t))
              ∙ ap (λ z. z ++ gone t) (sym stack_is)
      at false = record { same = k.same }

  -- p's place is where the stack ended, so that what the machine leaves is what the fold leaves
  place_is : position p t.stack ≡ length s.stack
  place_is = ap (position p) stack_is ∙ position_past p s.stack own new ∙ rw (eq-eqb p p refl, position) (omega arith)

  leave_is : leave p s.low t ≡ left s t
  leave_is =
      ap (λ z. leave_by (eqb t.low (suc z)) p s.low t) place_is ∙ at (eqb t.low (suc (length s.stack)))
    where
      at : (b : Bool) → leave_by b p s.low t ≡ left_by b s t
      at true = λ i. record {
        stack = (ap₂ take place_is stack_is ∙ take-append_seam s.stack own) i;
        groups = drop (place_is i) t.stack ∷ t.groups;
        low = min s.low t.low;
      }
      at false = refl

knows_opened : (p : ℕ) {seen : List ℕ} (s : Stage) → Knows seen s → Knows (p ∷ seen) (opened p s)
knows_opened p {seen} s k = record { same = λ q. at q }
  where
    at : (q : ℕ) → among q ((s.stack ++ (p ∷ [])) ++ gone s) ≡ (eqb q p || among q seen)
    at q = rw (← k.same q, append_assoc, among_append q s.stack (p ∷ gone s), among_append q s.stack (gone s)) (swap (among q s.stack) (eqb q p) (among q (gone s)))
      where
        swap : (a b c : Bool) → (a || (b || c)) ≡ (b || (a || c))
        swap true true c = refl
        swap true false c = refl
        swap false b c = refl

new_stack : (p : ℕ) {seen : List ℕ} (s : Stage) → Knows seen s → among p seen ≡ false → among p s.stack ≡ false
new_stack p s k a = or_false_left (among p s.stack) (among p (gone s)) (sym (among_append p s.stack (gone s)) ∙ k.same p ∙ a)

module _ {next : ℕ → List ℕ} where
  pub knows_after : {todo seen : List ℕ} {f : Forest} (visits : Visits next todo seen f) (s : Stage) → Knows seen s → Knows (after f seen) (stage_after visits s)
  knows_after over s k = k
  knows_after (skip {p = p} a r) s k = knows_after r (lowered p s) (record { same = k.same })
  knows_after (enter {p = p} a r t) s k =
      let below = stage_after r (opened p s) in
      knows_after t (left s below) (knows_left p s below (new_stack p s k a) (atop r (opened p s)) (knows_after r (opened p s) (knows_opened p s k)))

  pub visits_run :
      {todo seen : List ℕ} {f : Forest} (visits : Visits next todo seen f) (s : Stage) → Knows seen s → {ts : List Task} {fin : Stage} → Runs next ts (stage_after visits s) fin
      → Runs next (tries todo ++ ts) s fin
  visits_run over s k r = r
  visits_run (skip {p = p} a v) s k r = pass (k.same p ∙ a) (visits_run v (lowered p s) (record { same = k.same }) r)
  visits_run (enter {p = p} {todo = todo} a v t) s k {ts} {fin} r =
      let below = stage_after v (opened p s) in
      let k' = knows_opened p s k in
      let on = atop v (opened p s) in
      let new = new_stack p s k a in
      go_in (k.same p ∙ a)
      (visits_run v (opened p s) k' {ts = finish p s.low ∷ (tries todo ++ ts)}
      (go_out (subst (λ z. Runs next (tries todo ++ ts) z fin) (sym (leave_is p s below new on)) (visits_run t (left s below) (knows_left p s below new on (knows_after v (opened p s) k')) r))))

  -- from the roots, and nothing seen, it comes to what the fold comes to
  pub run_end :
      {roots : List ℕ} {f : Forest} (visits : Visits next roots [] f) {fin : Stage} → Runs next (tries roots) at_first fin → fin ≡ stage_after visits at_first
  run_end {roots} visits r = one_end r (rw (append-nil (tries roots)) at (visits_run visits at_first (record { same = λ q. refl }) nothing))
