-- What a question over added edges says, wherever it is answered, and whatever edge list and orders yield the bytes: yes exactly where a path leads over the indexed
-- edges together with the added ones; so it says what a question says of any index built of all these edges, under whatever orders. Without added edges it says what a
-- question says, and a question's refusal is its own. The contracts of the two calls allow one result.
use mathlib.Core.Bool.{Bool, true}
use mathlib.Core.Logic.Iff
use mathlib.Core.Logic.{◌↔◌}
use mathlib.Core.Path.{◌≡◌, refl, sym, ap, subst, ◌∙◌}
use mathlib.Core.List.{List, [], ◌∷◌, ◌++◌, append-nil, append_assoc}
use Prim.Native.Nat.{ℕ, ◌≤◌, ◌<◌}
use native.Mathlib.Omega.{arith}
use lib.Dec.{leb}
use lib.ListN.{length, take, length-take}
use borrow.Author.Tests.{leb-false, ltb-false}
use Rattle.std.specs.Prelude.{Result}
use Rattle.refusals.specs.declared.Refusal.{Refusal}
use Rattle.refusals.proofs.Told.{outcome_once}
use Rattle.lineage.specs.Lists.{Every}
use Rattle.lineage.specs.Graph.{Graph, Edge, Ends, Reaches}
use Rattle.lineage.specs.Labels.{Order}
use Rattle.lineage.specs.Index.{Index, index_of, Made}
use Rattle.lineage.specs.Stored.{Form, counts_in}
use Rattle.lineage.specs.Question.{place_in, answer}
use Rattle.lineage.specs.Calls.{Check, check, refused, answered, outcome, FormsTaken, Input, orders_of, form_checks, contents_check, index_in, Said, said_of, ask_early, ask_answer}
use Rattle.laws.specs.Checks.{Pass}
use Rattle.laws.specs.Leads.{Down}
use Rattle.laws.specs.Sound.{Sound}
use Rattle.laws.proofs.Checks.{pass_behind, answered_pass, answered_is, refused_comes, rest_comes}
use Rattle.laws.proofs.Sound.{sound_exactly, made_long, made_paths}
use Rattle.laws_answers.proofs.Demands.{answer_down, answer_right}
use Rattle.laws_same.specs.Same.{SameEdges}
use Rattle.laws_same.proofs.Lineage.{tests_same, lineage_same}
use Rattle.laws_same.proofs.Edges.{edges_lineage}
use Rattle.stored.proofs.Contents.{names_many, labels_many}
use Rattle.build.proofs.Theorems.{Finished, input_right, orders_right, stored_index}
use Rattle.ask.proofs.Answered.{answered_only}
use Rattle.ask.proofs.Theorems.{asked_right}
use Rattle.reach_rounds.specs.Over.{added_says}
use Rattle.reach_rounds.specs.Rounds.{Low}
use Rattle.added.specs.declared.Added.{Added}
use Rattle.added.specs.declared.Adding.{Adding}
use Rattle.added.specs.Adding.{most_added}
use Rattle.added.specs.Asked.{sources_of, targets_of, added_checks, added_late, added_answer}
use Rattle.added.specs.Allowed.{Adds, Allowed}
use Rattle.added.specs.Right.{with_edges, Pairs}
use Rattle.added.proofs.Says.{edges_low}
use Rattle.added.proofs.Refusals.{none_bad}
use Rattle.added.proofs.Right.{all_ends, says_right}

-- two results that a contract allows are equal
adding_one :
    {answer answer' : Result (Unit {0}) Refusal} {state state' : Added} → answer ≡ answer' → state ≡ state'
    → ◌≡◌ {A = Adding} (record { answer = answer; state = state }) (record { answer = answer'; state = state' })
adding_one a s = cc

pub add_once : {state : Added} {n from to : ℕ} {r r' : Adding} → Adds state n from to r → Adds state n from to r' → r ≡ r'
add_once A B = adding_one (outcome_once (λ (done : Unit {0}). done) (λ a a' e. e) _ _ (A.answers ∙ sym B.answers)) (A.changes ∙ sym B.changes)

pub added_once :
    {T : FormsTaken} {b : List ℕ} {a : Added} {u v : ℕ} {marks work : List ℕ} {r r' : Result Bool Refusal} {ms ms' ws ws' : List ℕ}
    → Allowed T b a u v marks work r ms ws → Allowed T b a u v marks work r' ms' ws' → (r ≡ r') × ((ms ≡ ms') × (ws ≡ ws'))
added_once A B = (outcome_once (λ (says : Bool). says) (λ s s' e. e) _ _ (A.answers ∙ sym B.answers), (A.leaves ∙ sym B.leaves, A.clears ∙ sym B.clears))

-- A question over added edges that is answered.
module _ (T : FormsTaken) (b : List ℕ) (a : Added) (P : Pairs a) (u v marks work : ℕ) (s : Bool) (e : added_answer T b a u v marks work ≡ answered s) where
  abbrev I : Index
  I = index_in b

  abbrev S : List ℕ
  S = sources_of a

  abbrev R : List ℕ
  R = targets_of a

  abbrev forms : List Check
  forms = form_checks T b marks work

  -- those behind 6
  abbrev own : List Check
  own = check (leb (counts_in b).n u) 14 0 ∷ check (leb (counts_in b).n v) 14 1 ∷ added_late b a

  behind : Pass own
  unfolding added_answer
  behind = pass_behind forms own (answered_pass (added_says I S R u v) (forms ++ own) s e)

  told : s ≡ added_says I S R u v
  unfolding added_answer
  told = answered_is (added_says I S R u v) (forms ++ own) s e

  source : u < length I.names
  source = omega (arith, leb-false (counts_in b).n u behind.0, names_many b)

  target : v < length I.names
  target = omega (arith, leb-false (counts_in b).n v behind.1.0, names_many b)

  -- the added edges are pairs, and lead from vertices to vertices
  few : a.count ≤ most_added
  few = ltb-false most_added a.count behind.1.1.1.0

  paired : length S ≡ length R
  paired = omega (arith, length-take a.count a.sources, length-take a.count a.targets, P.sources_long, P.targets_long, few)

  low : (x y : ℕ) → Edge S R x y → (x < length I.names) × (y < length I.names)
  low = let (l, m) = none_bad (counts_in b).n S R paired behind.1.1.1.1.0 in subst (λ (n : ℕ). (x y : ℕ) → Edge S R x y → (x < n) × (y < n)) (sym (names_many b)) (edges_low paired l m)

  -- yes exactly when a path exists over the indexed edges together with the added ones, in whatever graph yields the bytes
  module _ (M : Made (index_in b)) where
    abbrev all : Graph
    all = with_edges M.graph S R

    ends : Ends all
    ends = all_ends M paired low

    pub added_right : (s ≡ true) ↔ Reaches (with_edges M.graph (sources_of a) (targets_of a)) u v
    added_right = rw told (says_right M paired low u v source target)

    -- so it is the answer of an index over them all, under any orders
    pub added_index : (orders : List (List ℕ)) → Every (Order M.graph.n) orders → 0 < length orders → s ≡ (answer (index_of all orders) u v).says
    added_index orders permuted some =
        tests_same _ _ (Iff.trans added_right (Iff.symm (answer_right all ends orders permuted some u v (omega (arith, source, made_long M)) (omega (arith, target, made_long M)))))

    -- and what a question says of any bytes that all these edges yield, each any number of times and in any order
    module _ (T' : FormsTaken) (b' : List ℕ) (marks' : List ℕ) (work' : ℕ) (s' : Said) (e' : ask_answer T' b' u v (length marks') work' ≡ answered s') where
      pub added_fresh : (M' : Made (index_in b')) → M'.graph.n ≡ M.graph.n → SameEdges M'.graph (with_edges M.graph (sources_of a) (targets_of a)) → s ≡ s'.says
      added_fresh M' size same =
          let fresh : Made (index_in b') =
          record {
            graph = all;
            ends = ends;
            orders = M'.orders;
            permuted = subst (λ (n : ℕ). Every (Order n) M'.orders) size M'.permuted;
            yields = sym (lineage_same M'.graph all M'.ends ends size (edges_lineage same) M'.orders) ∙ M'.yields;
          } in
          tests_same _ _ (Iff.trans added_right (Iff.symm (asked_right T' b' u v marks' work' s' e' fresh)))

    -- so of what a finished build of all these edges stored
    pub added_built :
        {F : Form} {B : Input} (D : Finished F B) → B.graph.n ≡ M.graph.n → SameEdges B.graph (with_edges M.graph (sources_of a) (targets_of a))
        → (T' : FormsTaken) (marks' : List ℕ) (work' : ℕ) (s' : Said) → ask_answer T' (take D.total D.out') u v (length marks') work' ≡ answered s' → s ≡ s'.says
    added_built {F} {B} D size same T' marks' work' s' e' =
        added_fresh T' (take D.total D.out') marks' work' s' e'
        (record { graph = B.graph; ends = (input_right D).ends; orders = orders_of B; permuted = orders_right D; yields = sym (stored_index D) }) size same

-- no added edges: their checks pass, and the paths are the graph's own
none_checks : (n : ℕ) (a : Added) (s : Bool) → a.count ≡ 0 → outcome (added_checks n a) s ≡ answered s
none_checks n a s e = rw e refl

none_more : (G : Graph) → with_edges G [] [] ≡ G
none_more G = rw (append-nil G.sources, append-nil G.targets) refl

none_says : (I : Index) → Sound I → 0 < length I.labels → (u v : ℕ) → u < length I.names → v < length I.names → added_says I [] [] u v ≡ (answer I u v).says
none_says I Z some u v hu hv =
    let M : Made I = (sound_exactly I).0 Z in
    let none : Low (length I.names) [] = record { each = λ i h. absurd (omega arith) } in
    tests_same _ _
    (Iff.trans (says_right M refl (edges_low refl none none) u v hu hv)
    (Iff.trans (subst (λ (H : Graph). Reaches H u v ↔ Down I.children (place_in I u) (place_in I v)) (sym (none_more M.graph)) (made_paths M u v hu hv))
    (Iff.symm (answer_down I Z some u v hu hv))))

-- A question asked with the same memory.
module _ (T : FormsTaken) (b : List ℕ) (a : Added) (u v marks work : ℕ) where
  abbrev early : List Check
  early = ask_early T b u v marks work

  abbrev says : Bool
  says = added_says (index_in b) (sources_of a) (targets_of a) u v

  -- its refusal is this call's
  pub added_refused : (x y : ℕ) → ask_answer T b u v marks work ≡ refused x y → added_answer T b a u v marks work ≡ refused x y
  unfolding ask_answer added_answer
  added_refused x y e =
      let I : Index = index_in b in
      let rest : List Check = added_checks (counts_in b).n a in
      ap (λ (cs : List Check). outcome cs says) (sym (append_assoc early (contents_check b ∷ []) rest) ∙ ap (λ (cs : List Check). cs ++ rest) (sym (append-nil (early ++ (contents_check b ∷ [])))))
      ∙ (refused_comes says (said_of (answer I u v)) (early ++ (contents_check b ∷ [])) [] rest x y e).says

  -- where it is answered, the added edges decide
  asked_rest : (s : Said) → ask_answer T b u v marks work ≡ answered s → added_answer T b a u v marks work ≡ outcome (added_checks (counts_in b).n a) says
  unfolding ask_answer added_answer
  asked_rest s e =
      let I : Index = index_in b in
      (rest_comes says early (contents_check b ∷ []) (added_checks (counts_in b).n a) (answered_pass (said_of (answer I u v)) (early ++ (contents_check b ∷ [])) s e) refl).says

  -- without added edges it says what a question says
  pub added_none : a.count ≡ 0 → (s : Said) → ask_answer T b u v marks work ≡ answered s → added_answer T b a u v marks work ≡ answered s.says
  added_none none s e =
      let A = answered_only T b u v marks work s e in
      asked_rest s e
      ∙ none_checks (counts_in b).n a says none
      ∙ ap answered
      (ap (λ (k : ℕ). added_says (index_in b) (take k a.sources) (take k a.targets) u v) none
      ∙ none_says (index_in b) A.sound (omega (arith, labels_many b, A.some)) u v (omega (arith, names_many b, A.source_low)) (omega (arith, names_many b, A.target_low))
      ∙ ap (λ (z : Said). z.says) A.said)
