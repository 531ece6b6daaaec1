-- The demands on answers as theorems. A question goes from the vertex u to the vertex v, whose groups stand at the places `place_in I u` and
-- `place_in I v`. What is said of a sound index holds of every index that opens and of every one that is built (`sound_exactly` of laws).
use mathlib.Core.Bool.{true, false, ◌||◌}
use mathlib.Core.Logic.Iff
use mathlib.Core.Logic.{◌↔◌}
use mathlib.Core.Path.{◌≡◌}
use mathlib.Core.List.{List}
use Prim.Native.Nat.{ℕ, ◌<◌, ◌≤◌}
use native.Mathlib.Omega.{arith}
use lib.Dec.{eqb}
use lib.ListN.{length, get_or}
use Rattle.lineage.specs.Lists.{among, Every}
use Rattle.lineage.specs.Graph.{Graph, Ends, Reaches}
use Rattle.lineage.specs.Labels.{Order}
use Rattle.lineage.specs.Index.{Index, index_of, Made}
use Rattle.lineage.specs.Question.{net_of, place_in, answer, downstream}
use Rattle.laws.specs.Leads.{Down}
use Rattle.laws.specs.Sound.{Sound}
use Rattle.laws.specs.Rising.{Rises}
use Rattle.laws.proofs.Grouped.{place_low}
use Rattle.laws_answers.specs.Walks.{Through}
use Rattle.laws.proofs.Every.{every_from}
use Rattle.laws_answers.specs.Answers.{Member, no_marks, Holds, Deciding, Opened, Marked, NoMore, Downstream, looped}
use Rattle.laws_answers.proofs.Members.{every_member, first_member, member_long}
use Rattle.laws_answers.proofs.Rules.{answer_rule, rule_says, rule_unopened, rule_reason}
use Rattle.laws_answers.proofs.Answers.{rule_opened, rule_deciding, rule_down, rule_no}
use Rattle.laws_answers.proofs.Downstream.{list_rises, list_exactly, loop_nothing}
use Rattle.laws_answers.proofs.MoreOrders.{rules_no_more}
use Rattle.laws_answers.proofs.Built.{built, built_sound, built_long, built_paths, built_some, built_more}

-- Of any index.
module _ (I : Index) where
  -- the reason is the number of the first rule that holds
  pub reason_first :
      (u v r : ℕ) → ((answer I u v).reason ≡ r) ↔ (Holds I (place_in I u) (place_in I v) r × ((q : ℕ) → q < r → Holds I (place_in I u) (place_in I v) q → ⊥))
  reason_first u v = rule_reason I (place_in I u) (place_in I v) (answer_rule I u v)

  -- the answer is yes under reasons 1, 2 and 5, and no under 3, 4 and 6
  pub reason_says : (u v : ℕ) → (answer I u v).says ≡ (eqb (answer I u v).reason 1 || eqb (answer I u v).reason 2 || eqb (answer I u v).reason 5)
  reason_says u v = rule_says (answer_rule I u v)

  -- under reasons 1 to 4 no group is opened and no mark is left
  pub reason_unopened : (u v : ℕ) → (answer I u v).reason ≤ 4 → ((answer I u v).opened ≡ 0) × ((answer I u v).marks ≡ no_marks I)
  reason_unopened u v = rule_unopened (answer_rule I u v)

  -- the downstream list rises
  pub downstream_rises : (u : ℕ) → Rises (downstream I u)
  downstream_rises = list_rises I

-- Of a sound index, and vertices below n.
module _ (I : Index) (S : Sound I) where
  abbrev place : {u : ℕ} → u < length I.names → place_in I u < length I.children
  place {u} b = place_low S.condensed u b

  -- the deciding number is that of the first labelling whose test holds
  pub deciding_first : (u v : ℕ) → u < length I.names → Deciding I (place_in I u) (place_in I v) (answer I u v).reason (answer I u v).deciding
  deciding_first u v bu = rule_deciding I S (place_in I u) (place_in I v) (place bu) (answer_rule I u v)

  -- the count is that of the groups opened and of the marks left, and a byte is 1 if it names a group opened and 0 otherwise
  pub marks_are_opened :
      (u v : ℕ) → u < length I.names → (o : List ℕ) × Opened I (place_in I u) (place_in I v) (answer I u v).reason o × Marked I o (answer I u v)
  marks_are_opened u v bu = rule_opened I S (place_in I u) (place_in I v) (place bu) (answer_rule I u v)

  -- with at least one labelling
  module _ (some : 0 < length I.labels) where
    -- the answer is yes exactly where a path down children leads from u's group to v's
    pub answer_down : (u v : ℕ) → u < length I.names → v < length I.names → ((answer I u v).says ≡ true) ↔ Down I.children (place_in I u) (place_in I v)
    answer_down u v bu bv = rule_down I S (place_in I u) (place_in I v) (place bu) (place bv) some (answer_rule I u v)

    -- on a no the groups opened are exactly those reached from u's child by child, where every group on the way, both ends included, passes rules 3 and 4
    pub opened_on_a_no :
        (u v : ℕ) → u < length I.names → v < length I.names → (answer I u v).says ≡ false → (p : ℕ) → p < length I.children
        → (get_or (answer I u v).marks (get_or I.groups p 0) 0 ≡ 1) ↔ Through (net_of I (place_in I v)).children (net_of I (place_in I v)).no (place_in I u) p
    opened_on_a_no u v bu bv = rule_no I S (place_in I u) (place_in I v) (place bu) (place bv) some (answer_rule I u v)

-- Of an index and whatever graph yields it, and a vertex u below n: its downstream list holds exactly what is downstream of u
pub downstream_made : {I : Index} (M : Made I) (u v : ℕ) → u < length I.names → (among v (downstream I u) ≡ true) ↔ Downstream M.graph u v
downstream_made M u v bu = list_exactly M u bu v

-- a self-loop changes nothing in it
pub downstream_loop : (G : Graph) (x u v : ℕ) → Downstream (looped G x) u v ↔ Downstream G u v
downstream_loop G x u v = loop_nothing G x

-- Of a graph and orders, and vertices below n.
module _ (G : Graph) (ends : Ends G) where
  module _ (orders : List (List ℕ)) (permuted : Every (Order G.n) orders) where
    abbrev S : Sound (index_of G orders)
    S = built_sound G ends orders permuted

    abbrev vertex : {u : ℕ} → u < G.n → u < length (index_of G orders).names
    vertex b = omega (arith, built_long G ends orders permuted)

    -- with at least one order the answer is yes exactly where u reaches v
    pub answer_right : 0 < length orders → (u v : ℕ) → u < G.n → v < G.n → ((answer (index_of G orders) u v).says ≡ true) ↔ Reaches G u v
    answer_right some u v bu bv =
        Iff.trans (answer_down (index_of G orders) S (built_some G orders some) u v (vertex bu) (vertex bv)) (Iff.symm (built_paths G ends orders permuted u v bu bv))

    -- the downstream list of u holds exactly what is downstream of u
    pub downstream_right : (u v : ℕ) → u < G.n → (among v (downstream (index_of G orders) u) ≡ true) ↔ Downstream G u v
    downstream_right u v bu = downstream_made (built G ends orders permuted) u v (vertex bu)

  -- with each order of the first index among the second's, the second says the same, opens no group that the first does not open, and counts no more
  pub more_orders :
      (orders₁ orders₂ : List (List ℕ)) → Every (λ o. Member o orders₂) orders₁ → Every (Order G.n) orders₂ → 0 < length orders₁
      → (u v : ℕ) → u < G.n → v < G.n → NoMore (answer (index_of G orders₁) u v) (answer (index_of G orders₂) u v)
  unfolding index_of
  more_orders orders₁ orders₂ up permuted some₁ u v bu bv =
      let I = index_of G orders₁ in
      let permuted₁ = every_from (λ o. Member o orders₂) (Order G.n) (λ o m. every_member (Order G.n) permuted m) orders₁ up in
      let some₂ = member_long (every_member (λ o. Member o orders₂) up (first_member orders₁ some₁).1) in
      let S₁ = built_sound G ends orders₁ permuted₁ in
      rules_no_more I I.labels (index_of G orders₂).labels (built_more G orders₁ orders₂ up) (place_in I u) (place_in I v)
      S₁ (built_sound G ends orders₂ permuted) (built_some G orders₁ some₁) (built_some G orders₂ some₂)
      (place I S₁ (vertex orders₁ permuted₁ bu)) (place I S₁ (vertex orders₁ permuted₁ bv)) (answer_rule I u v) (answer_rule (index_of G orders₂) u v)
