-- What a build promises, by its contract alone, at any form of the table. Two results that it allows are equal. A finished build was lent edges between vertices and d
-- orders, and its output begins with the stored form of their index: that opens, and every question on it is answered as the edge list says; and it holds d labellings,
-- each the one under its own order.
use mathlib.Core.Bool.{true, false}
use mathlib.Core.Logic.{◌↔◌}
use mathlib.Core.Path.{◌≡◌, refl, sym, ap, ◌∙◌}
use mathlib.Core.List.{List, [], ◌∷◌, ◌++◌, map, map-map}
use Prim.Native.Nat.{ℕ, ◌≤◌, ◌<◌}
use native.Mathlib.Omega.{arith}
use lib.Dec.{leb}
use lib.ListN.{length, take, drop}
use lib.Seq.{take_at, drop_at}
use borrow.Author.Tests.{lt-leb}
use Rattle.std.specs.Prelude.{Result}
use Rattle.lineage.specs.Lists.{upto, Every}
use Rattle.lineage.specs.Graph.{Graph, Reaches, condense}
use Rattle.lineage.specs.Labels.{Order, labelling}
use Rattle.lineage.specs.Index.{Index, index_by, index_of, Made}
use Rattle.lineage.specs.Question.{answer}
use Rattle.lineage.specs.Stored.{Form, Counts, counts_of, encode, header_at, counts_in, form_of}
use Rattle.lineage.specs.Sound.{is_tree}
use Rattle.lineage.specs.Calls.{Check, check, Outcome, refused, answered, outcome, FormsTaken, takes, ordinary, Input, order_at, orders_of, built, length_of, build_early, build_late, build_answer, build_output, build_call, build_call_output, build_call_work, words_for, index_in, form_checks, contents_check, open_answer, ask_early, said_of, ask_answer}
use Rattle.laws.proofs.Tests.{clash}
use Rattle.laws.proofs.Sound.{made_sound, made_long}
use Rattle.laws.proofs.Decides.{sound_decides}
use Rattle.laws.proofs.Lists.{table_long}
use Rattle.laws_answers.proofs.Demands.{answer_right}
use Rattle.build_orders.proofs.Permutations.{orders_of_lem}
use Rattle.stored.specs.Fits.{Fits}
use Rattle.laws.specs.Checks.{Pass}
use Rattle.laws.proofs.Checks.{stops_early, pass_front, pass_behind, pass_both, stops_outcome, answered_pass, answered_is}
use Rattle.stored.proofs.Encoded.{header_read, counts_read, encode_long, index_encode}
use Rattle.open.proofs.Fits.{Wide, form_wide, bounds_kept, yielded_fits, fits_opens}
use Rattle.refusals.specs.declared.Refusal.{Refusal}
use Rattle.refusals.proofs.Told.{outcome_once}
use Rattle.build.specs.Admitted.{Admitted}
use Rattle.build.specs.Answers.{built_of}
use Rattle.build.proofs.Checks.{admitted}
use Rattle.build.proofs.Answered.{Answers}
use Rattle.build.proofs.Tree.{plain_passed}
use Rattle.build.proofs.Accepted.{accepted}
use Rattle.build.proofs.Call.{ordinary_plain, call_refused, call_at, call_taken}

-- a finished build at a form of the table: the work memory and the output that it was lent, the total length that it answered, and what it left
pub record Finished (F : Form) (B : Input) : Type 0 where
  pub wide : Wide F
  pub work : List ℕ
  pub out : List ℕ
  pub total : ℕ
  pub work' : List ℕ
  pub out' : List ℕ
  pub allowed : Answers F B work out (answered total) work' out'

-- at any form: input that is right, with an output that is long enough, is built; at a form of plain hierarchies the graph has to be one
pub answers_finish : (F : Form) (B : Input) (work out : List ℕ) {said : Outcome ℕ} {work' out' : List ℕ}
    → Answers F B work out said work' out'
    → Admitted F B (length work)
    → Every (Order B.graph.n) (orders_of B)
    → (F.tree ≡ true → is_tree (built B).children ≡ true)
    → length_of F (built B) ≤ length out
    → said ≡ answered (length_of F (built B))
unfolding build_answer
answers_finish F B work out X A permuted plain room =
    X.0
    ∙ stops_outcome (length_of F (built B)) (build_early F B (length work) ++ build_late F B (length out)) 10 (accepted F B (length work) (length out) A permuted plain room)

-- What `build` may answer and leave, by its contract.
pub record Allowed (form : ℕ) (B : Input) (work out : List ℕ) (r : Result ℕ Refusal) (work' out' : List ℕ) : Type 0 where
  pub answers : built_of r ≡ build_call form B (length work) (length out)
  pub leaves : work' ≡ build_call_work form B work
  pub writes : out' ≡ build_call_output form B (length work) out

pub built_one : (r r' : Result ℕ Refusal) → built_of r ≡ built_of r' → r ≡ r'
built_one = outcome_once (λ total. total) (λ t t' e. e)

-- two results are equal
pub built_once : {form : ℕ} {B : Input} {work out : List ℕ} {r r' : Result ℕ Refusal} {w w' o o' : List ℕ} → Allowed form B work out r w o → Allowed form B work out r' w' o' → (r ≡ r') × ((w ≡ w') × (o ≡ o'))
built_once X Y = (built_one _ _ (X.answers ∙ sym Y.answers), (X.leaves ∙ sym Y.leaves, X.writes ∙ sym Y.writes))

module _ {form : ℕ} {B : Input} {work out : List ℕ} {r : Result ℕ Refusal} {work' out' : List ℕ} (X : Allowed form B work out r work' out') where
  abbrev own : Form
  own = form_of form

  -- a form that is not taken is refused, whatever else is lent, and nothing is altered
  pub build_other : takes ordinary form ≡ false → (built_of r ≡ refused 11 form) × ((work' ≡ work) × (out' ≡ out))
  build_other other = let (a, (w, o)) = call_refused form B work out other in (X.answers ∙ sym a, (X.leaves ∙ sym w, X.writes ∙ sym o))

  -- at a form that is taken, input that is right, with an output that is long enough, is built: no build that refuses it is allowed
  pub build_finishes : takes ordinary form ≡ true
      → Admitted own B (length work)
      → Every (Order B.graph.n) (orders_of B)
      → length_of own (built B) ≤ length out
      → built_of r ≡ answered (length_of own (built B))
  build_finishes taken A permuted room =
      answers_finish own B work out (call_at form B work out taken (X.answers, (X.leaves, X.writes))) A permuted (λ t. clash t (ordinary_plain form taken)) room

  -- a build that finishes was told a form that is taken, and is a finished build at that form
  module _ {total : ℕ} (done : built_of r ≡ answered total) where
    pub build_takes : takes ordinary form ≡ true
    build_takes = call_taken form B work out (sym X.answers ∙ done)

    abbrev pub finished : Finished own B
    finished = record {
      wide = form_wide form;
      work = work;
      out = out;
      total = total;
      work' = work';
      out' = out';
      allowed = call_at form B work out build_takes (sym done ∙ X.answers, (X.leaves, X.writes));
    }

-- A finished build.
module _ {F : Form} {B : Input} (D : Finished F B) where
  abbrev G : Graph
  G = B.graph

  abbrev total : ℕ
  total = D.total

  abbrev early : List Check
  early = build_early F B (length D.work)

  abbrev late : List Check
  late = build_late F B (length D.out)

  said : outcome (early ++ late) (length_of F (built B)) ≡ answered total
  unfolding build_answer
  said = sym D.allowed.0

  passes : Pass (early ++ late)
  passes = answered_pass (length_of F (built B)) (early ++ late) total said

  total_is : total ≡ length_of F (built B)
  total_is = answered_is (length_of F (built B)) (early ++ late) total said

  -- what it was lent
  pub input_right : Admitted F B (length D.work)
  input_right = admitted F B (length D.work) (pass_front early late passes)

  pub orders_right : Every (Order G.n) (orders_of B)
  orders_right = orders_of_lem G.n B.d B.orders input_right.whole (pass_behind early late passes).0

  orders_many : length (orders_of B) ≡ B.d
  orders_many = table_long (order_at G.n B.orders) B.d

  -- at a form of plain hierarchies the graph is one
  pub graph_plain : F.tree ≡ true → is_tree (built B).children ≡ true
  graph_plain = plain_passed F.tree (is_tree (built B).children) (pass_behind early late passes).1.0

  fits : Fits F (built B)
  fits =
      yielded_fits D.wide G input_right.ends (orders_of B) orders_right graph_plain
      (bounds_kept D.wide G input_right.ends (orders_of B) orders_right input_right.vertices input_right.edges
      (omega (arith, orders_many, input_right.least))
      (omega (arith, orders_many, input_right.most)))

  -- the total length is that of the stored form
  pub total_right : length (encode F (built B)) ≡ total
  total_right = encode_long fits ∙ sym total_is

  output_is : D.out' ≡ encode F (built B) ++ drop total D.out
  unfolding build_output
  output_is =
      D.allowed.1.1
      ∙ rw (stops_early (early ++ late) [] 10 passes)
      (ap (λ (n : ℕ). encode F (built B) ++ drop n D.out) (sym total_is))

  -- the output begins with it, and goes on as it was
  pub build_stores : take total D.out' ≡ encode F (built B)
  build_stores = ap (λ (o : List ℕ). take total o) output_is ∙ take_at (encode F (built B)) (drop total D.out) total total_right

  pub build_keeps : drop total D.out' ≡ drop total D.out
  build_keeps = ap (λ (o : List ℕ). drop total o) output_is ∙ drop_at (encode F (built B)) (drop total D.out) total total_right

  pub names_many : length (built B).names ≡ G.n
  names_many = made_long (record { graph = G; ends = input_right.ends; orders = orders_of B; permuted = orders_right; yields = refl })

  -- that names the form,
  pub stored_form : form_of (header_at (take total D.out') 0) ≡ F
  stored_form = ap (λ (b : List ℕ). form_of (header_at b 0)) build_stores ∙ ap form_of (header_read fits 0 (omega arith)) ∙ D.wide.known

  -- and is the index that was built
  pub stored_index : index_in (take total D.out') ≡ built B
  stored_index = ap index_in build_stores ∙ index_encode fits

  -- of this edge list
  abbrev pub build_made : Made (index_in (take total D.out'))
  build_made = record { graph = G; ends = input_right.ends; orders = orders_of B; permuted = orders_right; yields = sym stored_index }

  pub stored_counts : counts_in (take total D.out') ≡ counts_of (built B)
  stored_counts = ap counts_in build_stores ∙ counts_read fits

  vertices_many : (counts_in (take total D.out')).n ≡ G.n
  vertices_many = ap (λ (a : Counts). a.n) stored_counts ∙ names_many

  -- Calls that take the form, with marks and words that suffice.
  module _ (T : FormsTaken) (marks work : ℕ) (taken : takes T F.number ≡ true) (room : G.n ≤ marks) (words : words_for F.width (counts_of (built B)) ≤ work) where
    -- what is stored opens
    pub build_opens : open_answer T (take total D.out') marks work ≡ answered (counts_of (built B))
    build_opens =
        ap (λ (b : List ℕ). open_answer T b marks work) build_stores
        ∙ sym
        (fits_opens fits ((sound_decides (built B)).1 (made_sound G input_right.ends (orders_of B) orders_right)) graph_plain T marks work taken (omega (arith, names_many)) words)

    -- and every question on it is answered
    pub build_asks : (u v : ℕ) → u < G.n → v < G.n → ask_answer T (take total D.out') u v marks work ≡ answered (said_of (answer (built B) u v))
    unfolding ask_answer open_answer
    build_asks u v source target =
        let b : List ℕ = take total D.out' in
        let form : List Check = form_checks T b marks work in
        let p = answered_pass (counts_in b) (form ++ (contents_check b ∷ [])) (counts_of (built B)) build_opens in
        let low-source = lt-leb (counts_in b).n u (omega (arith, vertices_many)) in
        let low-target = lt-leb (counts_in b).n v (omega (arith, vertices_many)) in
        stops_outcome (said_of (answer (index_in b) u v)) (ask_early T b u v marks work ++ (contents_check b ∷ [])) 8
        (pass_both form (check (leb (counts_in b).n u) 14 0 ∷ check (leb (counts_in b).n v) 14 1 ∷ contents_check b ∷ [])
        (pass_front form (contents_check b ∷ []) p) (low-source, (low-target, pass_behind form (contents_check b ∷ []) p)))
        ∙ ap (λ (I : Index). answered (said_of (answer I u v))) stored_index

  -- with yes exactly where the edge list has a path
  pub build_asks_right : (u v : ℕ) → u < G.n → v < G.n → ((answer (built B) u v).says ≡ true) ↔ Reaches G u v
  build_asks_right u v source target =
      answer_right G input_right.ends (orders_of B) orders_right (omega (arith, orders_many, input_right.least)) u v source target

  -- it holds d labellings, and each is the labelling under its own order
  pub build_labellings : (index_in (take total D.out')).labels ≡ map (λ j. labelling (condense G).groups (condense G).children (order_at G.n B.orders j)) (upto B.d)
  unfolding index_of index_by
  build_labellings =
      ap (λ (I : Index). I.labels) stored_index
      ∙ map-map (labelling (condense G).groups (condense G).children) (order_at G.n B.orders) (upto B.d)
