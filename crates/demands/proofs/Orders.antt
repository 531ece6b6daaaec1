-- Two stored indexes of one graph, the orders of the first among those of the second; and the groups opened on a no. A stored index answers every question, so the
-- laws of answered questions apply.
use mathlib.Core.Bool.{false}
use mathlib.Core.Path.{◌≡◌, sym, ◌∙◌}
use mathlib.Core.List.{List}
use Prim.Native.Nat.{ℕ}
use native.Mathlib.Omega.{arith}
use lib.ListN.{length}
use Rattle.std.specs.Prelude.{Result}
use Rattle.refusals.specs.declared.Refusal.{Refusal}
use Rattle.lineage.specs.Graph.{Graph}
use Rattle.lineage.specs.Index.{index_of}
use Rattle.lineage.specs.Question.{answer}
use Rattle.lineage.specs.Calls.{answered, FormsTaken, Said, said_of}
use Rattle.ask.specs.declared.Asked.{Asked}
use Rattle.ask.specs.Asked.{asked_of}
use Rattle.ask.proofs.Theorems.{Allowed, asked_no, asked_fewer}
use Rattle.demands.specs.Stored.{Stored}
use Rattle.demands.specs.Orders.{NeverMore, OpenedThrough}

pub fewer : NeverMore Stored
fewer G orders₁ orders₂ b₁ b₂ S₁ S₂ up T taken₁ taken₂ u v marks₁ marks₂ work₁ work₂ r₁ r₂ m₁ m₂ w₁ w₂ source target room₁ room₂ words₁ words₂ X₁ X₂ =
    let said₁ = (S₁.asks T u v marks₁ work₁ r₁ m₁ w₁ taken₁ source target room₁ words₁ X₁).said in
    let said₂ = (S₂.asks T u v marks₂ work₂ r₂ m₂ w₂ taken₂ source target room₂ words₂ X₂).said in
    let (says, (count, marks)) =
    asked_fewer G S₁.ends orders₁ orders₂ up S₂.permuted T b₁ b₂ S₁.holds S₂.holds u v marks₁ marks₂ (length work₁) (length work₂) _ _
    (sym X₁.answers ∙ said₁) (sym X₂.answers ∙ said₂) in
    record {
      first = said_of (answer (index_of G orders₁) u v);
      second = said_of (answer (index_of G orders₂) u v);
      first_answers = said₁;
      second_answers = said₂;
      says = says;
      marks = λ i h one. rw X₁.leaves (marks i h (rw X₂.leaves at one));
      count = count;
    }

pub on_a_no : {G : Graph} {orders : List (List ℕ)} {b : List ℕ} → Stored G orders b
    → {T : FormsTaken} {u v : ℕ} {marks work : List ℕ} {r : Result Asked Refusal} {m w : List ℕ} {s : Said} → Allowed T b u v marks work r m w → asked_of r ≡ answered s
    → s.says ≡ false
    → OpenedThrough (index_of G orders) u v m
on_a_no {G} {orders} {b} S {T} {u} {v} {marks} {work} {s = s} X e says =
    rw (S.holds, X.leaves) (λ p h. asked_no T b u v marks (length work) s (sym X.answers ∙ e) says p (omega (arith, S.grail.groups.children_long)))
