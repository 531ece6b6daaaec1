-- What the calls on a turned index promise. A turned build is a finished build of the turned edge list at form 3, so what is proved of any build and of any index holds
-- of it; an ordinary and a turned index of one edge list agree, since a path read backwards is a path of the turned graph, and names are told by groups alone.
use mathlib.Core.Bool.{true}
use mathlib.Core.Logic.Iff
use mathlib.Core.Logic.{◌↔◌}
use mathlib.Core.Path.{◌≡◌, refl, sym, ap, subst, ◌∙◌}
use mathlib.Core.List.{List}
use Prim.Native.Nat.{ℕ, ◌≤◌}
use lib.ListN.{length, take}
use Rattle.std.specs.Prelude.{Result}
use Rattle.lineage.specs.Lists.{among, Every}
use Rattle.lineage.specs.Graph.{Graph, turned_graph, Ends, Reaches}
use Rattle.lineage.specs.Labels.{Order}
use Rattle.lineage.specs.Index.{Index, index_of, Made}
use Rattle.lineage.specs.Stored.{Form, form3}
use Rattle.lineage.specs.Calls.{answered, outcome, FormsTaken, turned, Input, turned_input, orders_of, built, work_needed, length_of, build_early, build_answer, build_work, build_output, index_in, Said, ask_answer, list_answer, list_output}
use Rattle.laws.proofs.Tests.{clash}
use Rattle.open.proofs.Fits.{form_wide}
use Rattle.refusals.specs.declared.Refusal.{Refusal}
use Rattle.build.specs.Admitted.{Admitted}
use Rattle.build.specs.Answers.{built_of}
use Rattle.build.proofs.Theorems.{Finished, built_one, answers_finish, build_made}
use Rattle.ask.proofs.Theorems.{asked_right}
use Rattle.list.proofs.Theorems.{listed_right}
use Rattle.laws_answers.specs.Answers.{Downstream}
use Rattle.laws_turned.specs.Upstream.{Upstream}
use Rattle.laws_turned.proofs.Turned.{reaches_turned, names_turned}
use Rattle.laws_turned.proofs.Refused.{early_turned}
use Rattle.laws_turned.proofs.Answers.{downstream_turned}

-- What `build_turned` may answer and leave, by its contract.
pub record Allowed (B : Input) (work out : List ℕ) (r : Result ℕ Refusal) (work' out' : List ℕ) : Type 0 where
  pub answers : built_of r ≡ build_answer form3 (turned_input B) (length work) (length out)
  pub leaves : work' ≡ build_work form3 (turned_input B) work
  pub writes : out' ≡ build_output form3 (turned_input B) (length work) out

-- two results are equal
pub turned_once : {B : Input} {work out : List ℕ} {r r' : Result ℕ Refusal} {w w' o o' : List ℕ} → Allowed B work out r w o → Allowed B work out r' w' o' → (r ≡ r') × ((w ≡ w') × (o ≡ o'))
turned_once X Y = (built_one _ _ (X.answers ∙ sym Y.answers), (X.leaves ∙ sym Y.leaves, X.writes ∙ sym Y.writes))

-- checks 1 to 7 come to the same as those of a build of the edge list as given, at form 3's bounds: 7 names the same edge
pub turned_refused : (B : Input) (work : ℕ) → outcome (build_early form3 (turned_input B) work) (work_needed B.graph) ≡ outcome (build_early form3 B work) (work_needed B.graph)
turned_refused B work = early_turned form3 B work (work_needed B.graph)

-- turned edges and orders within form 3's bounds, with room for work and output, are built
pub turned_finishes : {B : Input} {work out : List ℕ} {r : Result ℕ Refusal} {work' out' : List ℕ} → Allowed B work out r work' out'
    → Admitted form3 (turned_input B) (length work)
    → Every (Order B.graph.n) (orders_of B)
    → length_of form3 (built (turned_input B)) ≤ length out
    → built_of r ≡ answered (length_of form3 (built (turned_input B)))
turned_finishes {B} {work} {out} X A permuted = answers_finish form3 (turned_input B) work out (X.answers, (X.leaves, X.writes)) A permuted (λ t. clash t refl)

-- a turned build that finishes is a finished build of the turned edge list
abbrev pub finished_turned : {B : Input} {work out : List ℕ} {r : Result ℕ Refusal} {work' out' : List ℕ} {total : ℕ} → Allowed B work out r work' out' → built_of r ≡ answered total → Finished form3 (turned_input B)
finished_turned {B} {work} {out} {r} {work'} {out'} {total} X done = record {
  wide = form_wide 3;
  work = work;
  out = out;
  total = total;
  work' = work';
  out' = out';
  allowed = (sym done ∙ X.answers, (X.leaves, X.writes));
}

-- Of one edge list G: bytes b hold an index of it, bytes b' one of its turned edges, each under orders of its own.
module _ (G : Graph) (b b' : List ℕ) (M : Made (index_in b)) (given : M.graph ≡ G) (M' : Made (index_in b')) (back : M'.graph ≡ turned_graph G) where
  -- u feeds v by the one exactly where v is fed by u through the other
  pub fed_exactly :
      (T : FormsTaken) (u v : ℕ) (marks marks' : List ℕ) (work work' : ℕ) (s s' : Said)
      → ask_answer T b u v (length marks) work ≡ answered s → ask_answer turned b' v u (length marks') work' ≡ answered s'
      → (s.says ≡ true) ↔ (s'.says ≡ true)
  fed_exactly T u v marks marks' work work' s s' e e' =
      Iff.trans (subst (λ (H : Graph). (s.says ≡ true) ↔ Reaches H u v) given (asked_right T b u v marks work s e M))
      (Iff.trans (reaches_turned G u v)
      (Iff.symm (subst (λ (H : Graph). (s'.says ≡ true) ↔ Reaches H v u) back (asked_right turned b' v u marks' work' s' e' M'))))

  -- names agree between the two
  pub names_agree : (index_in b).names ≡ (index_in b').names
  names_agree =
      ap (λ (I : Index). I.names) (sym M.yields)
      ∙ ap (λ (H : Graph). (index_of H M.orders).names) given
      ∙ names_turned G (subst Ends given M.ends) M.orders M'.orders
      ∙ ap (λ (H : Graph). (index_of H M'.orders).names) (sym back)
      ∙ ap (λ (I : Index). I.names) M'.yields

  -- a turned list of u holds exactly what is upstream of u
  pub listed_upstream :
      (u : ℕ) (marks work out : List ℕ) (count : ℕ) → list_answer turned b' u (length marks) (length work) (length out) ≡ answered count → (v : ℕ)
      → (among v (take count (list_output turned b' u (length marks) (length work) out)) ≡ true) ↔ Upstream G u v
  listed_upstream u marks work out count e v =
      Iff.trans
      (subst (λ (H : Graph). (among v (take count (list_output turned b' u (length marks) (length work) out)) ≡ true) ↔ Downstream H u v) back
      (listed_right turned b' u marks work out count e M' v))
      (downstream_turned G u v)

-- so of two finished builds from one edge list, ordinary and turned, whatever the two sets of orders
pub built_fed : {F : Form} {B B' : Input} (D : Finished F B) (D' : Finished form3 (turned_input B')) → B'.graph ≡ B.graph
    → (T : FormsTaken) (u v : ℕ) (marks marks' : List ℕ) (work work' : ℕ) (s s' : Said)
    → ask_answer T (take D.total D.out') u v (length marks) work ≡ answered s
    → ask_answer turned (take D'.total D'.out') v u (length marks') work' ≡ answered s'
    → (s.says ≡ true) ↔ (s'.says ≡ true)
built_fed {B = B} D D' same = fed_exactly B.graph _ _ (build_made D) refl (build_made D') (ap turned_graph same)

pub built_names : {F : Form} {B B' : Input} (D : Finished F B) (D' : Finished form3 (turned_input B')) → B'.graph ≡ B.graph
    → (index_in (take D.total D.out')).names ≡ (index_in (take D'.total D'.out')).names
built_names {B = B} D D' same = names_agree B.graph _ _ (build_made D) refl (build_made D') (ap turned_graph same)
