-- What `prepare` answers and leaves is what the two later calls may be called with, and what they leave then is what the contract promises: by whether the checks
-- refused. A refusal turns no record and clears no mark; otherwise all records follow their marks, as the states of parallel lists do.
use mathlib.Core.Path.{◌≡◌, refl, ap, ◌∙◌}
use mathlib.Core.List.{List, [], ◌∷◌, map}
use Prim.Native.Nat.{ℕ, ◌≤◌}
use lib.ListN.{length}
use Rattle.lineage.specs.Lists.{cleared}
use Rattle.lineage.specs.Calls.{Outcome, refused, answered, ordinary, index_in}
use Rattle.rules_states.specs.Rules.{rules_work}
use Rattle.rules.specs.Settled.{prepared_answer, prepared_marks}
use Rattle.rules.proofs.Refusals.{refused_any, settles_refused, reached_none, reached_room, state_reached, settles_done}
use Rattle.rules_table.specs.declared.Rule.{Rule}
use Rattle.rules_table.specs.Table.{with_state, rule_after, rule_table, desk_settled, rule_by, Allowed}

-- two functions that agree turn a table alike
pub table_same : (f g : Rule → Rule) → ((r : Rule) → f r ≡ g r) → (ys : List Rule) → map f ys ≡ map g ys
table_same f g e [] = refl
table_same f g e (y ∷ ys) = rw (e y, table_same f g e ys)

module _
    (b changed ms ws : List ℕ) (ys : List Rule) {left w : List ℕ}
    (leaves : left ≡ prepared_marks ordinary b changed ms (length ws)) (clears : w ≡ rules_work ordinary b changed (length ms) ws)
  where
    pub desk_refused : {x y : ℕ} → refused x y ≡ prepared_answer ordinary b changed (length ms) (length ws)
        → Allowed ordinary b changed ms ws ys (record { refusal = x; extra = y }) left w ys
    unfolding rule_table
    desk_refused is =
        let (o, (m, rest)) = settles_refused ordinary b changed ms ws is [] [] leaves clears in record {
          answers = ap desk_settled o;
          leaves = m;
          clears = clears;
          turns = rw (refused_any ordinary b changed ms ws is) refl;
        }

    pub desk_done : {n : ℕ} → answered n ≡ prepared_answer ordinary b changed (length ms) (length ws)
        → {m : List ℕ} → m ≡ cleared n left → {t : List Rule} → t ≡ map (rule_by left n) ys
        → Allowed ordinary b changed ms ws ys (record { refusal = 0; extra = 0 }) m w t
    unfolding rule_table rule_after rule_by
    desk_done {n} is clear turns =
        let (o, (m, rest)) = settles_done ordinary b changed ms ws is leaves [] [] refl clear clears in record {
          answers = ap desk_settled o;
          leaves = m;
          clears = clears;
          turns =
              turns
              ∙ rw (reached_none ordinary b changed ms ws is leaves)
              (table_same (rule_by left n) (rule_after (index_in b) changed) (λ r. ap (with_state r) (state_reached ordinary b changed ms ws is leaves r.vertex r.state)) ys);
        }

    -- what an outcome of `prepare` calls for: a refusal handed on; or, on marks that have room for them, n marks cleared and all records turned
    abbrev pub Settles : Outcome ℕ → Type 0
    Settles (refused x y) = Allowed ordinary b changed ms ws ys (record { refusal = x; extra = y }) left w ys
    Settles (answered n) =
        (n ≤ length left)
        × ((m : List ℕ) (t : List Rule) → m ≡ cleared n left → t ≡ map (rule_by left n) ys → Allowed ordinary b changed ms ws ys (record { refusal = 0; extra = 0 }) m w t)

    settles_at : (o : Outcome ℕ) → o ≡ prepared_answer ordinary b changed (length ms) (length ws) → Settles o
    settles_at (refused x y) is = desk_refused is
    settles_at (answered n) is = (reached_room ordinary b changed ms ws is leaves, λ m t clear turns. desk_done is clear turns)

    pub settles : Settles (prepared_answer ordinary b changed (length ms) (length ws))
    settles = settles_at (prepared_answer ordinary b changed (length ms) (length ws)) refl
