-- Which refusals a text can meet. What a text says is within the program's bounds, and memory is lent for these, so of the build's checks 4, 7 and 8 are left; and what a
-- finished build has stored opens, so of a question's checks 14 is left.
use mathlib.Core.Bool.{Bool, true, false, not, ◌||◌}
use mathlib.Core.List.{List, [], ◌∷◌, ◌++◌}
use mathlib.Core.Logic.{◌↔◌}
use mathlib.Core.Path.{◌≡◌, refl, sym, ap, ◌∙◌}
use Prim.Native.Nat.{ℕ, ◌*◌, ◌≤◌, ◌<◌}
use native.Mathlib.Omega.{arith}
use lib.Dec.{eqb, leb}
use lib.ListN.{length, replicate, length-map}
use borrow.Author.Tests.{le-ltb, eq-eqb, leb-false}
use Rattle.lineage.specs.Lists.{upto, any, first_of, Every}
use Rattle.lineage.specs.Graph.{Graph, Reaches, names_of, condense}
use Rattle.lineage.specs.Labels.{Order, labelling}
use Rattle.lineage.specs.Index.{index_by, index_of}
use Rattle.lineage.specs.Question.{answer}
use Rattle.lineage.specs.Stored.{form1, most_labellings, Counts, counts_of, encode, counts_in}
use Rattle.lineage.specs.Calls.{Check, check, Outcome, answered, refuse, outcome, host, Input, order_at, orders_of, bad_edge, bad_order, work_needed, built, length_of, build_answer, build_output, build_work, index_in, form_checks, contents_check, open_answer, Said, said_of, ask_answer}
use Rattle.laws.proofs.Names.{names_long}
use Rattle.laws.proofs.Sound.{made_sound}
use Rattle.laws.proofs.Lists.{table_long}
use Rattle.build_orders.proofs.Permutations.{orders_of_lem}
use Rattle.laws.proofs.Checks.{pass_front, answered_pass, answered_is, rest_comes}
use Rattle.stored.proofs.Offsets.{total_at_2}
use Rattle.open.proofs.Small.{groups_few}
use Rattle.open.proofs.Entries.{entries_few}
use Rattle.open.proofs.Fits.{form_wide}
use Rattle.build.specs.Admitted.{Admitted}
use Rattle.build.proofs.Checks.{admitted}
use Rattle.build.proofs.Theorems.{Finished, build_stores, input_right, build_opens, build_asks, build_asks_right}
use Rattle.text.specs.Text.{most_vertices, most_edges, Text, says, reading}
use Rattle.text.specs.Output.{answer_to, work_lent, index_lent, input_of}
use Rattle.text.proofs.Bounded.{Bounded, says_bounded}
use Rattle.text_run.proofs.Whole.{orders_within}

-- of the build's checks: no order, the first bad edge, the first bad order
abbrev pub build_checks : Input → List Check
build_checks B =
    let G : Graph = B.graph in
    check (eqb B.d 0) 4 0
    ∷ check (any (bad_edge G) (upto (length G.sources))) 7 (first_of (bad_edge G) (upto (length G.sources)) 0)
    ∷ check (any (bad_order G.n B.orders) (upto B.d)) 8 (first_of (bad_order G.n B.orders) (upto B.d) 0)
    ∷ []

-- the check behind these three does not apply where they do not
three_left : (x4 x7 x8 x9 : Bool) (e7 e8 e9 a : ℕ) → (x4 ≡ false → x7 ≡ false → x8 ≡ false → x9 ≡ false)
    → refuse (x4 || false) 4 0 (refuse x7 7 e7 (refuse x8 8 e8 (refuse x9 9 e9 (answered a)))) ≡ refuse x4 4 0 (refuse x7 7 e7 (refuse x8 8 e8 (answered a)))
three_left true x7 x8 x9 e7 e8 e9 a h = refl
three_left false true x8 x9 e7 e8 e9 a h = refl
three_left false false true x9 e7 e8 e9 a h = refl
three_left false false false x9 e7 e8 e9 a h = rw (h refl refl refl)

-- what is built within the program's bounds has at most so many bytes
built_short : (B : Input) → B.graph.n ≤ most_vertices → length B.graph.sources ≤ most_edges → Admitted form1 B work_lent → Every (Order B.graph.n) (orders_of B)
    → length_of form1 (built B) ≤ index_lent
unfolding index_of index_by condense
built_short B vertices edges A permuted =
    let G : Graph = B.graph in
    let a : Counts = counts_of (built B) in
    let n : a.n ≡ G.n = names_long G A.ends in
    let k : a.k ≤ a.n = groups_few (made_sound G A.ends (orders_of B) permuted) in
    let c : a.c ≤ length G.sources = entries_few G (names_of G) in
    let d : a.d ≡ B.d = length-map (orders_of B) (labelling (built B).groups (built B).children) ∙ table_long (order_at G.n B.orders) B.d in
    let dk : a.d * a.k ≤ most_labellings * most_vertices = orders_within a.d a.k (omega (arith, A.most)) (omega arith) in
    omega (arith, total_at_2 a.n a.k a.c a.d)

module _ (text : List ℕ) (t : Text) (good : reading text ≡ says t) where
  bounded : Bounded text t
  bounded = says_bounded text t good

  -- where the three do not apply, none of 1 to 7 does
  enough : eqb t.d 0 ≡ false → any (bad_edge (input_of t).graph) (upto (length t.sources)) ≡ false → Admitted form1 (input_of t) work_lent
  enough x4 x7 =
      admitted form1 (input_of t) work_lent (
        le-ltb form1.vertices t.n (omega (arith, bounded.n)),
        (
          ap not (eq-eqb (length t.sources) (length t.targets) bounded.paired),
          (
            le-ltb form1.edges (length t.sources) (omega (arith, bounded.edges)),
            (
              rw (x4, le-ltb most_labellings t.d bounded.d),
              (
                ap not (eq-eqb (length t.orders) (t.d * t.n) bounded.orders),
                (le-ltb work_lent (work_needed (input_of t).graph) (omega (arith, bounded.n, bounded.edges)), (x7, tt)),
              ),
            ),
          ),
        ),
      )

  -- a build is refused by 4, 7 and 8 alone
  pub build_refuses : build_answer form1 (input_of t) work_lent index_lent ≡ outcome (build_checks (input_of t)) (length_of form1 (built (input_of t)))
  unfolding build_answer
  build_refuses =
      rw (
        le-ltb form1.vertices t.n (omega (arith, bounded.n)),
        eq-eqb (length t.sources) (length t.targets) bounded.paired,
        le-ltb form1.edges (length t.sources) (omega (arith, bounded.edges)),
        le-ltb most_labellings t.d bounded.d,
        eq-eqb (length t.orders) (t.d * t.n) bounded.orders,
        le-ltb work_lent (work_needed (input_of t).graph) (omega (arith, bounded.n, bounded.edges)),
      )
      (three_left (eqb t.d 0) _ _ _ _ _ _ _
      (λ x4 x7 x8.
      let A : Admitted form1 (input_of t) work_lent = enough x4 x7 in
      le-ltb index_lent (length_of form1 (built (input_of t)))
      (built_short (input_of t) bounded.n bounded.edges A (orders_of_lem t.n t.d t.orders A.whole x8))))

  -- A finished build, in memory that holds 0 before it.
  module _ (total : ℕ) (finished : build_answer form1 (input_of t) work_lent index_lent ≡ answered total) where
    abbrev work : List ℕ
    work = replicate work_lent 0

    abbrev index : List ℕ
    index = replicate index_lent 0

    -- what it answers and leaves
    D : Finished form1 (input_of t)
    D = record {
      wide = form_wide 1;
      work = work;
      out = index;
      total = total;
      work' = build_work form1 (input_of t) work;
      out' = build_output form1 (input_of t) work_lent index;
      allowed = (sym finished, (refl, refl));
    }

    abbrev stored : List ℕ
    stored = encode form1 (built (input_of t))

    opens : open_answer host stored most_vertices 0 ≡ answered (counts_of (built (input_of t)))
    opens = ap (λ (b : List ℕ). open_answer host b most_vertices 0) (sym (build_stores D)) ∙ build_opens D host most_vertices 0 refl bounded.n (omega arith)

    -- a question within n is answered, and with yes exactly where the edge list has a path
    pub question_answered : (u v : ℕ) → u < t.n → v < t.n → answer_to stored u v ≡ answered (said_of (answer (built (input_of t)) u v))
    question_answered u v source target =
        ap (λ (b : List ℕ). answer_to b u v) (sym (build_stores D)) ∙ build_asks D host most_vertices 0 refl bounded.n (omega arith) u v source target

    pub answer_is_path : (u v : ℕ) → u < t.n → v < t.n → ((answer (built (input_of t)) u v).says ≡ true) ↔ Reaches (input_of t).graph u v
    answer_is_path = build_asks_right D

    -- the header gives n
    counted : (counts_in stored).n ≡ t.n
    unfolding open_answer index_of index_by condense
    counted =
        let passed = answered_is (counts_in stored) (form_checks host stored most_vertices 0 ++ (contents_check stored ∷ [])) (counts_of (built (input_of t))) opens in
        ap (λ (a : Counts). a.n) (sym passed) ∙ names_long (input_of t).graph (input_right D).ends

    -- 10 to 13 and 6 pass, so the checks behind them decide
    behind_form : (u v : ℕ) → let said : Said = said_of (answer (index_in stored) u v) in
        answer_to stored u v ≡ refuse (leb t.n u) 14 0 (refuse (leb t.n v) 14 1 (outcome (contents_check stored ∷ []) said))
    unfolding ask_answer open_answer
    behind_form u v =
        let said : Said = said_of (answer (index_in stored) u v) in
        let n : ℕ = (counts_in stored).n in
        let form : List Check = form_checks host stored most_vertices 0 in
        let p = answered_pass (counts_in stored) (form ++ (contents_check stored ∷ [])) (counts_of (built (input_of t))) opens in
        (rest_comes said [] form (check (leb n u) 14 0 ∷ check (leb n v) 14 1 ∷ contents_check stored ∷ []) (pass_front form (contents_check stored ∷ []) p) refl).says
        ∙ ap (λ (k : ℕ). refuse (leb k u) 14 0 (refuse (leb k v) 14 1 (outcome (contents_check stored ∷ []) said))) counted

    -- a question is refused by 14 alone
    pub question_refuses : (u v : ℕ)
        → answer_to stored u v ≡ outcome (check (leb t.n u) 14 0 ∷ check (leb t.n v) 14 1 ∷ []) (said_of (answer (built (input_of t)) u v))
    question_refuses u v = go (leb t.n u) (leb t.n v) refl refl (outcome (contents_check stored ∷ []) (said_of (answer (index_in stored) u v))) (behind_form u v)
      where
        go : (x y : Bool) → leb t.n u ≡ x → leb t.n v ≡ y → (rest : Outcome Said) → answer_to stored u v ≡ refuse x 14 0 (refuse y 14 1 rest)
            → answer_to stored u v ≡ refuse x 14 0 (refuse y 14 1 (answered (said_of (answer (built (input_of t)) u v))))
        go true y e f rest h = h
        go false true e f rest h = h
        go false false e f rest h = question_answered u v (leb-false t.n u e) (leb-false t.n v f)
