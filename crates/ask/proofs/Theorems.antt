-- What an answer to a question on stored bytes says, wherever one is given, whatever forms are taken, and whatever edge list and orders yield the bytes: it is yes exactly where
-- a path of zero or more edges leads from source to target; the count is that of the walk's openings and of the marks left; on a no the groups
-- opened are those reached through passing groups; the deciding labelling is the first whose interval settled it; and more orders open no more groups.
-- `ask` gives these answers, by its contract.
use mathlib.Core.Bool.{Bool, true, false}
use mathlib.Core.Logic.Iff
use mathlib.Core.Logic.{◌↔◌}
use mathlib.Core.Path.{◌≡◌, refl, sym, ap, subst, ◌∙◌}
use mathlib.Core.List.{List, ◌++◌}
use Prim.Native.Nat.{ℕ, ◌≤◌, ◌<◌}
use native.Mathlib.Omega.{arith}
use lib.ListN.{length, get_or, take, drop, length-map, get_or-append}
use lib.Seq.{take_at, drop_at}
use Rattle.std.specs.Prelude.{Result, Ok}
use Rattle.lineage.specs.Lists.{Every, ones, cleared}
use Rattle.lineage.specs.Graph.{Graph, Ends, Reaches}
use Rattle.lineage.specs.Labels.{Order}
use Rattle.lineage.specs.Index.{Index, index_of, Made}
use Rattle.lineage.specs.Stored.{counts_in}
use Rattle.lineage.specs.Question.{place_in, net_of, answer}
use Rattle.lineage.specs.Calls.{answered, FormsTaken, words_in, index_in, Said, ask_answer, ask_marks, ask_work}
use Rattle.laws.specs.Rising.{Distinct}
use Rattle.laws.proofs.Grouped.{group_name}
use Rattle.laws.proofs.Sound.{made_long}
use Rattle.laws.proofs.Lists.{table_long}
use Rattle.laws_answers.specs.Answers.{Member, Deciding, Opened, marks_of, NoMore}
use Rattle.laws_answers.specs.Walks.{Through}
use Rattle.laws_answers.proofs.Demands.{answer_right, deciding_first, marks_are_opened, opened_on_a_no, more_orders}
use Rattle.stored.proofs.Contents.{names_many, labels_many}
use Rattle.refusals.specs.declared.Refusal.{Refusal}
use Rattle.refusals.proofs.Told.{outcome_once}
use Rattle.ask.specs.declared.Asked.{Asked}
use Rattle.ask.specs.Asked.{said_by, asked_of}
use Rattle.ask.proofs.Answered.{Answered, answered_only, none_applies, none_early}

pub orders_long : (G : Graph) (orders : List (List ℕ)) → length (index_of G orders).labels ≡ length orders
unfolding index_of
orders_long G orders = length-map orders _

-- the groups that an answered question opened, each once: they are counted, and of the marks below n theirs are 1 and all others 0; later ones are as they were
pub record Left (T : FormsTaken) (b : List ℕ) (u v : ℕ) (s : Said) (marks : List ℕ) (w : ℕ) (groups : List ℕ) : Type 0 where
  pub opened : Opened (index_in b) (place_in (index_in b) u) (place_in (index_in b) v) s.reason groups
  pub once : Distinct groups
  pub count : s.opened ≡ length groups
  pub left : s.opened ≡ ones (take (counts_in b).n (ask_marks T b u v marks w))
  pub names : take (counts_in b).n (ask_marks T b u v marks w) ≡ marks_of (index_in b) groups
  pub later : drop (counts_in b).n (ask_marks T b u v marks w) ≡ drop (counts_in b).n marks

names_same : (G : Graph) (orders orders' : List (List ℕ)) → length (index_of G orders).names ≡ length (index_of G orders').names
unfolding index_of
names_same G orders orders' = refl

module _ (T : FormsTaken) (b : List ℕ) (u v : ℕ) (marks : List ℕ) (w : ℕ) (s : Said) (e : ask_answer T b u v (length marks) w ≡ answered s) where
  A : Answered b u v s
  A = answered_only T b u v (length marks) w s e

  abbrev I : Index
  I = index_in b

  source : u < length I.names
  source = omega (arith, names_many b, A.source_low)

  target : v < length I.names
  target = omega (arith, names_many b, A.target_low)

  some : 0 < length I.labels
  some = omega (arith, labels_many b, A.some)

  -- the answer is yes exactly where u reaches v, in whatever graph yields the bytes
  pub asked_right : (M : Made (index_in b)) → (s.says ≡ true) ↔ Reaches M.graph u v
  asked_right M =
      let G : Graph = M.graph in
      let ordered : 0 < length M.orders = omega (arith, orders_long G M.orders, ap (λ (J : Index). length J.labels) M.yields, some) in
      let same : (answer (index_of G M.orders) u v).says ≡ s.says = ap (λ (J : Index). (answer J u v).says) M.yields ∙ ap (λ (z : Said). z.says) A.said in
      subst (λ (z : Bool). (z ≡ true) ↔ Reaches G u v) same
      (answer_right G M.ends M.orders M.permuted ordered u v (omega (arith, made_long M, source)) (omega (arith, made_long M, target)))

  -- so all those graphs have the same paths between the vertices asked about
  pub asked_same : (M M' : Made (index_in b)) → Reaches M.graph u v ↔ Reaches M'.graph u v
  asked_same M M' = Iff.trans (Iff.symm (asked_right M)) (asked_right M')

  -- the marks after it: the answer's, and behind them those from n on as they were
  pub marks_are : ask_marks T b u v marks w ≡ (answer I u v).marks ++ drop (counts_in b).n marks
  unfolding ask_marks
  marks_are = rw (none_applies T b u v (length marks) w s e) refl

  pub answer_long : length (answer I u v).marks ≡ (counts_in b).n
  answer_long = let (o, O, K) = marks_are_opened I A.sound u v source in ap length K.marks ∙ table_long _ (length I.names) ∙ names_many b

  own : take (counts_in b).n (ask_marks T b u v marks w) ≡ (answer I u v).marks
  own = rw marks_are (take_at (answer I u v).marks (drop (counts_in b).n marks) (counts_in b).n answer_long)

  mark_at : (i : ℕ) → i < (counts_in b).n → get_or (ask_marks T b u v marks w) i 0 ≡ get_or (answer I u v).marks i 0
  mark_at i h = rw marks_are (get_or-append (answer I u v).marks (drop (counts_in b).n marks) 0 i (omega (arith, answer_long)))

  -- the count is that of the groups that the walk opened, and of the marks left; the marks are theirs
  pub asked_marks : (groups : List ℕ) × Left T b u v s marks w groups
  asked_marks =
      let (o, O, K) = marks_are_opened I A.sound u v source in
      let counted : s.opened ≡ (answer I u v).opened = sym (ap (λ (z : Said). z.opened) A.said) in (
        o,
        record {
          opened = subst (λ (r : ℕ). Opened I (place_in I u) (place_in I v) r o) (ap (λ (z : Said). z.reason) A.said) O;
          once = K.once;
          count = counted ∙ K.count;
          left = counted ∙ K.left ∙ ap ones (sym own);
          names = own ∙ K.marks;
          later = rw marks_are (drop_at (answer I u v).marks (drop (counts_in b).n marks) (counts_in b).n answer_long);
        },
      )

  -- on a no the groups opened are exactly those reached from u's child by child, where every group on the way, both ends included, passes rules 3 and 4
  pub asked_no :
      s.says ≡ false → (p : ℕ) → p < length I.children
      → (get_or (ask_marks T b u v marks w) (get_or I.groups p 0) 0 ≡ 1) ↔ Through (net_of I (place_in I v)).children (net_of I (place_in I v)).no (place_in I u) p
  asked_no says p h =
      let named : get_or I.groups p 0 < (counts_in b).n = omega (arith, (group_name A.sound.condensed p h).0, names_many b) in
      subst
      (λ (z : ℕ). (z ≡ 1) ↔ Through (net_of I (place_in I v)).children (net_of I (place_in I v)).no (place_in I u) p)
      (sym (mark_at (get_or I.groups p 0) named))
      (opened_on_a_no I A.sound some u v source target (ap (λ (z : Said). z.says) A.said ∙ says) p h)

  -- the deciding number is that of the first labelling, from 1, whose interval settled the answer: under reasons 2 and 4 at the question, under 5 at the
  -- child whose inner interval ended the walk; under 1, 3 and 6 it is 0
  pub asked_deciding : Deciding I (place_in I u) (place_in I v) s.reason s.deciding
  asked_deciding = subst (λ (z : Said). Deciding I (place_in I u) (place_in I v) z.reason z.deciding) A.said (deciding_first I A.sound u v source)

-- the words after it: those needed are 0, and later ones as they were
pub asked_words :
    (T : FormsTaken) (b : List ℕ) (u v m : ℕ) (work : List ℕ) (s : Said) → ask_answer T b u v m (length work) ≡ answered s
    → ask_work T b u v m work ≡ cleared (words_in b) work
unfolding ask_work
asked_words T b u v m work s e = rw (none_early T b u v m (length work) s e) refl

-- Demand 3: of two stored indexes of one edge list, each of any form that is taken, the orders of the first among those of the second, the second says the same, opens no group that the first
-- does not open, and counts no more.
module _ (G : Graph) (ends : Ends G) (orders₁ orders₂ : List (List ℕ)) (up : Every (λ o. Member o orders₂) orders₁) (permuted : Every (Order G.n) orders₂) where
  pub asked_fewer :
      (T : FormsTaken) (b₁ b₂ : List ℕ) → index_of G orders₁ ≡ index_in b₁ → index_of G orders₂ ≡ index_in b₂
      → (u v : ℕ) (marks₁ marks₂ : List ℕ) (w₁ w₂ : ℕ) (s₁ s₂ : Said)
      → ask_answer T b₁ u v (length marks₁) w₁ ≡ answered s₁ → ask_answer T b₂ u v (length marks₂) w₂ ≡ answered s₂
      → (s₂.says ≡ s₁.says)
      × ((s₂.opened ≤ s₁.opened) × ((i : ℕ) → i < G.n → get_or (ask_marks T b₂ u v marks₂ w₂) i 0 ≡ 1 → get_or (ask_marks T b₁ u v marks₁ w₁) i 0 ≡ 1))
  asked_fewer T b₁ b₂ y₁ y₂ u v marks₁ marks₂ w₁ w₂ s₁ s₂ e₁ e₂ =
      let A₁ : Answered b₁ u v s₁ = answered_only T b₁ u v (length marks₁) w₁ s₁ e₁ in
      let A₂ : Answered b₂ u v s₂ = answered_only T b₂ u v (length marks₂) w₂ s₂ e₂ in
      let sized₂ : (counts_in b₂).n ≡ G.n =
      sym (names_many b₂) ∙ made_long (record { graph = G; ends = ends; orders = orders₂; permuted = permuted; yields = y₂ }) in
      let sized₁ : (counts_in b₁).n ≡ G.n =
      sym (names_many b₁) ∙ ap (λ (J : Index). length J.names) (sym y₁) ∙ names_same G orders₁ orders₂
      ∙ ap (λ (J : Index). length J.names) y₂ ∙ names_many b₂ ∙ sized₂ in
      let ordered : 0 < length orders₁ = omega (arith, orders_long G orders₁, ap (λ (J : Index). length J.labels) y₁, labels_many b₁, A₁.some) in
      let D : NoMore (answer (index_in b₁) u v) (answer (index_in b₂) u v) =
      rw (y₁, y₂) at
      (more_orders G ends orders₁ orders₂ up permuted ordered u v (omega (arith, sized₁, A₁.source_low)) (omega (arith, sized₁, A₁.target_low))) in (
        sym (ap (λ (z : Said). z.says) A₂.said) ∙ D.says ∙ ap (λ (z : Said). z.says) A₁.said,
        (
          omega (arith, D.count, ap (λ (z : Said). z.opened) A₁.said, ap (λ (z : Said). z.opened) A₂.said),
          λ i h one.
              mark_at T b₁ u v marks₁ w₁ s₁ e₁ i (omega (arith, sized₁)) ∙ D.marks i (sym (mark_at T b₂ u v marks₂ w₂ s₂ e₂ i (omega (arith, sized₂))) ∙ one),
        ),
      )

-- What `ask` may answer and leave, by its contract: two results are equal.
pub record Allowed (T : FormsTaken) (b : List ℕ) (u v : ℕ) (marks work : List ℕ) (r : Result Asked Refusal) (m w : List ℕ) : Type 0 where
  pub answers : asked_of r ≡ ask_answer T b u v (length marks) (length work)
  pub leaves : m ≡ ask_marks T b u v marks (length work)
  pub clears : w ≡ ask_work T b u v (length marks) work

said_once : (a a' : Asked) → said_by a ≡ said_by a' → a ≡ a'
said_once a a' e = λ i. record { says = (e i).says; reason = (e i).reason; opened = (e i).opened; deciding = (e i).deciding }

-- an answer is determined by its four fields, and a result by the outcome that it tells
pub answer_one :
    {says says' : Bool} {reason reason' opened opened' deciding deciding' : ℕ}
    → says ≡ says' → reason ≡ reason' → opened ≡ opened' → deciding ≡ deciding'
    → ◌≡◌ {A = Result Asked Refusal}
    (Ok (record { says = says; reason = reason; opened = opened; deciding = deciding }))
    (Ok (record { says = says'; reason = reason'; opened = opened'; deciding = deciding' }))
answer_one a b c d = λ i. Ok (record { says = a i; reason = b i; opened = c i; deciding = d i })

pub asked_one : (r r' : Result Asked Refusal) → asked_of r ≡ asked_of r' → r ≡ r'
asked_one r r' e = outcome_once said_by said_once r r' e

pub asked_once :
    {T : FormsTaken} {b : List ℕ} {u v : ℕ} {marks work : List ℕ} {r r' : Result Asked Refusal} {m m' w w' : List ℕ}
    → Allowed T b u v marks work r m w → Allowed T b u v marks work r' m' w' → (r ≡ r') × ((m ≡ m') × (w ≡ w'))
asked_once A B = (asked_one _ _ (A.answers ∙ sym B.answers), (A.leaves ∙ sym B.leaves, A.clears ∙ sym B.clears))
