-- What a build of a plain hierarchy promises, by its contract. It is a build at form 4, so what is proved of any finished build holds of it. Its bytes are exactly those
-- that open: what opens is yielded by some graph and one order, and as no child entry of a plain hierarchy is shared, a graph of at most three edges a vertex yields
-- it too, which is within the form's bounds. In such bytes outer containment is a path.
use mathlib.Core.Bool.{Bool, true, not, ◌&&◌}
use mathlib.Core.Logic.{◌↔◌}
use mathlib.Core.Path.{◌≡◌, refl, sym, ap, ap₂, subst, subst⁻¹, ◌∙◌}
use mathlib.Core.List.{List, [], ◌∷◌, ◌++◌, map}
use Prim.Native.Nat.{ℕ, ◌≤◌, ◌<◌}
use native.Mathlib.Nat.{mul_comm}
use native.Mathlib.Omega.{arith}
use lib.Dec.{leb, ltb}
use lib.ListN.{length, get_or, take, replicate, length-replicate}
use borrow.Author.Tests.{leb-true}
use Rattle.std.specs.Prelude.{Result}
use Rattle.lineage.specs.Lists.{upto, any, first_of, joined, part, Every}
use Rattle.lineage.specs.Graph.{Reaches}
use Rattle.lineage.specs.Labels.{Order, Labelling}
use Rattle.lineage.specs.Index.{Index, index_of, Made}
use Rattle.lineage.specs.Question.{place_in}
use Rattle.lineage.specs.Stored.{Form, form4, Counts, counts_of, counts_fit, encode, header_at, counts_in, form_of, is_form}
use Rattle.lineage.specs.Sound.{shared, is_tree}
use Rattle.lineage.specs.Calls.{Check, check, refused, answered, takes, hierarchy, Input, order_at, orders_of, bad_order, built, work_needed, length_of, tree_check, build_early, build_late, build_answer, build_work, build_output, words_for, words_in, index_in, open_answer}
use Rattle.laws.proofs.Tests.{both}
use Rattle.laws.proofs.Every.{every_from}
use Rattle.laws.proofs.Joined.{Sized, blocks_long, block_at}
use Rattle.laws.proofs.Lists.{any_in, in_upto, table_is}
use Rattle.laws.proofs.Sound.{made_sound, made_long}
use Rattle.laws.proofs.Checks.{pass_both, stops_outcome, rest_comes}
use Rattle.laws_answers.specs.Answers.{Member}
use Rattle.laws_hierarchy.specs.Hierarchy.{Contained}
use Rattle.laws_hierarchy.proofs.Contained.{contained_reaches}
use Rattle.laws_hierarchy.proofs.Shared.{first_shared}
use Rattle.laws_hierarchy.proofs.Entries.{tree_made, made_orders}
use Rattle.numbers.proofs.Written.{Bytes}
use Rattle.open.specs.Yields.{Yields}
use Rattle.open.proofs.Fits.{form_wide}
use Rattle.open.proofs.Checks.{opened_right}
use Rattle.open.proofs.Theorem.{opened_made, opened_plain, opens_within}
use Rattle.refusals.specs.declared.Refusal.{Refusal}
use Rattle.build.specs.Admitted.{Admitted}
use Rattle.build.specs.Answers.{built_of}
use Rattle.build.proofs.Accepted.{orders_good, early_accepted, accepted}
use Rattle.build.proofs.Theorems.{Finished, built_one, answers_finish, names_many, build_stores, stored_form, stored_counts, build_opens}

-- What `build_hierarchy` may answer and leave.
pub record Allowed (B : Input) (work out : List ℕ) (r : Result ℕ Refusal) (work' out' : List ℕ) : Type 0 where
  pub answers : built_of r ≡ build_answer form4 B (length work) (length out)
  pub leaves : work' ≡ build_work form4 B work
  pub writes : out' ≡ build_output form4 B (length work) out

-- two results are equal
pub hierarchy_once : {B : Input} {work out : List ℕ} {r r' : Result ℕ Refusal} {w w' o o' : List ℕ} → Allowed B work out r w o → Allowed B work out r' w' o' → (r ≡ r') × ((w ≡ w') × (o ≡ o'))
hierarchy_once X Y = (built_one _ _ (X.answers ∙ sym Y.answers), (X.leaves ∙ sym Y.leaves, X.writes ∙ sym Y.writes))

module _ {B : Input} {work out : List ℕ} {r : Result ℕ Refusal} {work' out' : List ℕ} (X : Allowed B work out r work' out') where
  -- a plain hierarchy under one order, within the bounds, is built
  pub hierarchy_finishes : Admitted form4 B (length work) → Every (Order B.graph.n) (orders_of B) → is_tree (built B).children ≡ true
      → length_of form4 (built B) ≤ length out
      → built_of r ≡ answered (length_of form4 (built B))
  hierarchy_finishes A permuted tree = answers_finish form4 B work out (X.answers, (X.leaves, X.writes)) A permuted (λ t. tree)

  -- where a group is a child of two others the build is refused with 22, whatever the output: extra number the smallest name of such a group
  pub hierarchy_shared : Admitted form4 B (length work) → Every (Order B.graph.n) (orders_of B)
      → (x : ℕ) → x < length (built B).children → shared (built B).children x ≡ true
      → (p : ℕ) × (built_of r ≡ refused 22 (get_or (built B).groups p 0))
      × (shared (built B).children p ≡ true)
      × (p < length (built B).children)
      × (get_or (built B).groups p 0 ≤ get_or (built B).groups x 0)
  unfolding build_answer is_tree
  hierarchy_shared A permuted x h t =
      let children : List (List ℕ) = (built B).children in
      let bad : Check = check (any (bad_order B.graph.n B.orders) (upto B.d)) 8 (first_of (bad_order B.graph.n B.orders) (upto B.d) 0) in
      let short : Check = check (ltb (length out) (length_of form4 (built B))) 9 (length_of form4 (built B)) in
      let early : List Check = build_early form4 B (length work) in
      let applies : (tree_check form4 (built B)).applies ≡ true = ap (λ (z : Bool). not (not z)) (any_in (shared children) x (upto (length children)) (in_upto (length children) x h) t) in
      let stops =
      rest_comes (length_of form4 (built B)) early (bad ∷ []) (tree_check form4 (built B) ∷ short ∷ [])
      (pass_both early (bad ∷ []) (early_accepted form4 B (length work) A) (orders_good B.graph.n B.d B.orders permuted, tt))
      (stops_outcome (length_of form4 (built B)) (tree_check form4 (built B) ∷ short ∷ []) 0 applies) in
      let first = first_shared (made_sound B.graph A.ends (orders_of B) permuted).condensed 0 x h t in
      (first_of (shared children) (upto (length children)) 0, X.answers ∙ stops.says, first.0, first.1, first.2)

  -- a build that finishes is a finished build at form 4
  abbrev pub finished_hierarchy : {total : ℕ} → built_of r ≡ answered total → Finished form4 B
  finished_hierarchy {total} done = record {
    wide = form_wide 4;
    work = work;
    out = out;
    total = total;
    work' = work';
    out' = out';
    allowed = (sym done ∙ X.answers, (X.leaves, X.writes));
  }

-- some accepted build of a plain hierarchy writes these bytes
pub record Written (b : List ℕ) : Type 0 where
  pub input : Input
  pub build : Finished form4 input
  pub bytes : take build.total build.out' ≡ b

-- orders one behind the other are cut into them again
orders_sized : (n : ℕ) (orders : List (List ℕ)) → Every (Order n) orders → Sized n orders
orders_sized n orders permuted = every_from (Order n) (λ o. length o ≡ n) (λ o p. p.long) orders permuted

orders_again : (n : ℕ) (orders : List (List ℕ)) → Every (Order n) orders → map (order_at n (joined orders)) (upto (length orders)) ≡ orders
orders_again n orders permuted =
    table_is (order_at n (joined orders)) orders (length orders) [] refl
    (λ j h. ap (λ (at : ℕ). part (joined orders) at n) (mul_comm j n) ∙ block_at n orders j (orders_sized n orders permuted) h)

-- a graph and one order within the bounds are lent to a build in memory that suffices
module _
    {I : Index} (M : Made I) (tree : is_tree I.children ≡ true)
    (vertices : length I.names ≤ form4.vertices) (edges : length M.graph.sources ≤ form4.edges) (one : length M.orders ≡ 1)
  where
    abbrev B : Input
    B = record { graph = M.graph; d = length M.orders; orders = joined M.orders }

    abbrev work : List ℕ
    work = replicate (work_needed M.graph) 0

    abbrev out : List ℕ
    out = replicate (length_of form4 (built B)) 0

    orders_are : orders_of B ≡ M.orders
    orders_are = orders_again M.graph.n M.orders M.permuted

    built_is : built B ≡ I
    built_is = ap (index_of M.graph) orders_are ∙ M.yields

    admitted_made : Admitted form4 B (length work)
    admitted_made = record {
      vertices = omega (arith, made_long M);
      edges = edges;
      ends = M.ends;
      least = omega arith;
      most = omega arith;
      whole = blocks_long M.graph.n M.orders (orders_sized M.graph.n M.orders M.permuted) ∙ mul_comm M.graph.n (length M.orders);
      room = omega (arith, length-replicate {A = ℕ} (work_needed M.graph) 0);
    }

    build_it : Finished form4 B
    unfolding build_answer
    build_it = record {
      wide = form_wide 4;
      work = work;
      out = out;
      total = length_of form4 (built B);
      work' = build_work form4 B work;
      out' = build_output form4 B (length work) out;
      allowed = (
        sym
            (stops_outcome (length_of form4 (built B)) (build_early form4 B (length work) ++ build_late form4 B (length out)) 10
            (accepted form4 B (length work) (length out) admitted_made
            (subst (Every (Order M.graph.n)) (sym orders_are) M.permuted)
            (λ t. ap (λ (J : Index). is_tree J.children) built_is ∙ tree)
            (omega (arith, length-replicate {A = ℕ} (length_of form4 (built B)) 0)))),
        (refl, refl),
      );
    }

    written_made : Written (encode form4 I)
    written_made = record { input = B; build = build_it; bytes = build_stores build_it ∙ ap (encode form4) built_is }

-- a call that takes hierarchies takes form 4
taken_4 : (number : ℕ) → takes hierarchy number ≡ true → form_of number ≡ form4
taken_4 number taken =
    let within = both (leb 4 number) (leb number 4) (both (leb 4 number && leb number 4) (is_form number) taken).0 in
    let same : number ≡ 4 = omega (arith, leb-true 4 number within.0, leb-true number 4 within.1) in
    ap form_of same

module _ {b : List ℕ} where
  -- what is yielded within the bounds is written: of the graphs that yield it one has at most three edges a vertex
  yields_written : (Y : Yields form4 b) → counts_fit form4 (counts_of (index_of Y.graph Y.orders)) ≡ true → Written b
  yields_written Y fits =
      let I : Index = index_of Y.graph Y.orders in
      let a : Counts = counts_of I in
      let (M, few) = tree_made I (made_sound Y.graph Y.ends Y.orders Y.permuted) (Y.plain refl) in
      let n = both (leb a.n 200000) _ fits in
      let k = both (leb a.k a.n) _ n.1 in
      let c = both (leb a.c 1000000) _ k.1 in
      let d = both (leb 1 a.d) (leb a.d 1) c.1 in
      let low : a.n ≤ 200000 = leb-true a.n 200000 n.0 in
      subst Written Y.bytes
      (written_made M (Y.plain refl) low (omega arith) (omega (arith, made_orders M, leb-true 1 a.d d.0, leb-true a.d 1 d.1)))

  -- what a finished build writes opens
  written_opens : (marks work : ℕ) → Written b → (counts_in b).n ≤ marks → words_in b ≤ work → open_answer hierarchy b marks work ≡ answered (counts_in b)
  written_opens marks work W =
      let D = W.build in
      subst (λ (x : List ℕ). (counts_in x).n ≤ marks → words_in x ≤ work → open_answer hierarchy x marks work ≡ answered (counts_in x)) W.bytes
      (λ room words.
      build_opens D hierarchy marks work refl (omega (arith, ap (λ (a : Counts). a.n) (stored_counts D), names_many D))
      (subst (λ (x : ℕ). x ≤ work) (ap₂ (λ (F : Form) (a : Counts). words_for F.width a) (stored_form D) (stored_counts D)) words)
      ∙ ap answered (sym (stored_counts D)))

-- the opener of hierarchies accepts exactly what some accepted build of a plain hierarchy writes
pub opens_written : (b : List ℕ) (marks work : ℕ) → Bytes b → (counts_in b).n ≤ marks → words_in b ≤ work
    → (open_answer hierarchy b marks work ≡ answered (counts_in b)) ↔ Written b
opens_written b marks work small room words = (
  (λ e.
      let (taken, (Y, fits)) = (opens_within hierarchy b marks work small room words).0 e in
      subst⁻¹ (λ (F : Form). (Z : Yields F b) → counts_fit F (counts_of (index_of Z.graph Z.orders)) ≡ true → Written b) (taken_4 (header_at b 0) taken) yields_written Y fits),
  λ W. written_opens marks work W room words,
)

-- Bytes that open as a hierarchy.
module _ (b : List ℕ) (marks work : ℕ) {a : Counts} (e : answered a ≡ open_answer hierarchy b marks work) where
  -- their children are a plain hierarchy
  pub opened_tree : is_tree (index_in b).children ≡ true
  opened_tree =
      let form : form_of (header_at b 0) ≡ form4 = taken_4 (header_at b 0) (opened_right hierarchy b marks work e).taken in
      ap (λ (I : Index). is_tree I.children) (sym (opened_made hierarchy b marks work e).yields)
      ∙ opened_plain hierarchy b marks work e (ap (λ (F : Form). F.tree) form)

  -- outer containment of two vertices' groups holds exactly where the one reaches the other, in every graph that yields the bytes
  pub contained_opened : (M : Made (index_in b)) (l : Labelling) → Member l (index_in b).labels → (u v : ℕ) → u < length (index_in b).names → v < length (index_in b).names
      → Contained l (place_in (index_in b) u) (place_in (index_in b) v) ↔ Reaches M.graph u v
  contained_opened M = contained_reaches M opened_tree
