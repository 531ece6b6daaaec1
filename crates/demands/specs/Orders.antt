-- Demand 3: more orders never open more. Of two indexes of one edge list, each order of the first also an order of the second: the same yes or no for any two
-- vertices, and every group that the second opens the first opens too. On a no the opened groups are exactly those reached from the source, child by child, where
-- every group on the way, both ends included, passes that index's level and outer-interval tests. The two indexes may be of two forms that a call takes.
use Rattle.refusals.specs.declared.Refusal.{Refusal}
use Rattle.std.specs.Prelude.{Result, true, false, ◌||◌, ◌↔◌, ◌≡◌, List, [], ℕ, ◌<◌, ◌≤◌, length, get_or}
use Rattle.lineage.specs.Lists.{Every}
use Rattle.lineage.specs.Graph.{Graph}
use Rattle.lineage.specs.Index.{Index, index_of}
use Rattle.lineage.specs.Stored.{header_at}
use Rattle.lineage.specs.Question.{rule3, rule4, place_in}
use Rattle.lineage.specs.Calls.{answered, FormsTaken, takes, words_in, Said}
use Rattle.laws_answers.specs.Answers.{Member}
use Rattle.laws_answers.specs.Walks.{Through}
use Rattle.ask.specs.declared.Asked.{Asked}
use Rattle.ask.specs.Asked.{asked_of}
use Rattle.ask.proofs.Theorems as ask
use Rattle.demands.specs.Stored.{Builds, Stored}

-- two answers with the marks left: the second says what the first says, opens no group that the first does not open, and counts no more
pub record Fewer (n : ℕ) (r₁ : Result Asked Refusal) (m₁ : List ℕ) (r₂ : Result Asked Refusal) (m₂ : List ℕ) : Type 0 where
  pub first : Said
  pub second : Said
  pub first_answers : asked_of r₁ ≡ answered first
  pub second_answers : asked_of r₂ ≡ answered second
  pub says : second.says ≡ first.says
  pub marks : (i : ℕ) → i < n → get_or m₂ i 0 ≡ 1 → get_or m₁ i 0 ≡ 1
  pub count : second.opened ≤ first.opened

-- any question between vertices, on two indexes of one graph, the orders of the first among those of the second
abbrev pub NeverMore : (Graph → List (List ℕ) → List ℕ → Type 0) → Type 0
NeverMore IndexOf = (G : Graph) (orders₁ orders₂ : List (List ℕ)) (b₁ b₂ : List ℕ) → IndexOf G orders₁ b₁ → IndexOf G orders₂ b₂
    → Every (λ o. Member o orders₂) orders₁
    → (T : FormsTaken) → takes T (header_at b₁ 0) ≡ true → takes T (header_at b₂ 0) ≡ true
    → (u v : ℕ) (marks₁ marks₂ work₁ work₂ : List ℕ) (r₁ r₂ : Result Asked Refusal) (m₁ m₂ w₁ w₂ : List ℕ) → u < G.n → v < G.n
    → G.n ≤ length marks₁
    → G.n ≤ length marks₂
    → words_in b₁ ≤ length work₁
    → words_in b₂ ≤ length work₂
    → ask.Allowed T b₁ u v marks₁ work₁ r₁ m₁ w₁
    → ask.Allowed T b₂ u v marks₂ work₂ r₂ m₂ w₂
    → Fewer G.n r₁ m₁ r₂ m₂

-- the marks left are those of the groups that are reached from u's, child by child, through groups that pass the tests towards v's, both ends included
abbrev pub OpenedThrough : Index → (u v : ℕ) → List ℕ → Type 0
OpenedThrough I u v m = (p : ℕ) → p < length I.groups
    → (get_or m (get_or I.groups p 0) 0 ≡ 1)
    ↔ Through (λ q. get_or I.children q []) (λ q. rule3 I q (place_in I v) || rule4 I q (place_in I v)) (place_in I u) p

pub record MoreOrders : Type 0 where
  -- of stored indexes, and of what two finished builds left
  pub fewer : NeverMore Stored
  pub built : NeverMore Builds
  -- on a no
  pub on_a_no : {G : Graph} {orders : List (List ℕ)} {b : List ℕ} → Stored G orders b
      → {T : FormsTaken} {u v : ℕ} {marks work : List ℕ} {r : Result Asked Refusal} {m w : List ℕ} {s : Said} → ask.Allowed T b u v marks work r m w → asked_of r ≡ answered s
      → s.says ≡ false
      → OpenedThrough (index_of G orders) u v m
