-- Bytes that a graph and orders yield within the form's bounds are a stored index of theirs. They are read again as the index, which passes the tests, so they open
-- and every question is asked of that index; and of it the laws say what an answer is.
use mathlib.Core.Bool.{true, ◌&&◌}
use mathlib.Core.Logic.{◌↔◌}
use mathlib.Core.Path.{◌≡◌, refl, sym, ap, ap₂, subst, subst⁻¹, ◌∙◌}
use mathlib.Core.List.{List, ◌++◌}
use Prim.Native.Nat.{ℕ, ◌≤◌, ◌<◌}
use native.Mathlib.Omega.{arith}
use lib.Dec.{leb}
use lib.ListN.{length, take, drop}
use borrow.Author.Tests.{leb-true}
use Rattle.std.specs.Prelude.{Result}
use Rattle.refusals.specs.declared.Refusal.{Refusal}
use Rattle.lineage.specs.Graph.{Graph, Reaches}
use Rattle.lineage.specs.Index.{Index, index_of, Made}
use Rattle.lineage.specs.Stored.{Form, Counts, counts_of, counts_fit, header_at, counts_in, form_of, is_form}
use Rattle.lineage.specs.Question.{place_in, answer}
use Rattle.lineage.specs.Calls.{answered, FormsTaken, host, takes, words_for, words_in, Input, order_at, orders_of, open_answer, index_in, said_of, ask_answer, ask_marks}
use Rattle.laws.specs.Sound.{Sound}
use Rattle.laws.proofs.Tests.{both}
use Rattle.laws.proofs.Lists.{table_long}
use Rattle.laws.proofs.Decides.{sound_decides}
use Rattle.laws_answers.specs.Answers.{Holds}
use Rattle.laws_answers.proofs.Built.{built_sound, built_long}
use Rattle.laws_answers.proofs.Demands.{reason_first, marks_are_opened}
use Rattle.stored.specs.Fits.{Fits}
use Rattle.stored.proofs.Encoded.{counts_read, index_encode}
use Rattle.build.specs.Admitted.{Admitted}
use Rattle.build.proofs.Theorems as build
use Rattle.open.specs.Yields.{Yields}
use Rattle.open.proofs.Fits.{form_wide, bounds_kept, yielded_fits, encoded_opens}
use Rattle.ask.specs.declared.Asked.{Asked}
use Rattle.ask.specs.Asked.{asked_of}
use Rattle.ask.proofs.Theorems as ask
use Rattle.face.specs.declared.DrobistenAsked.{DrobistenAsked}
use Rattle.face.specs.Host.{host_asked}
use Rattle.face.proofs.Theorems as face
use Rattle.demands.specs.Stored.{form_in, Builds, Right, Stored}
use Rattle.demands.proofs.Grail.{grail}
use Rattle.demands.proofs.Asked.{opened_asks, opened_marks}

-- form 1 needs no words
host_words : (b : List ℕ) → takes host (header_at b 0) ≡ true → words_in b ≤ 0
host_words b taken =
    let range = both (leb 1 (header_at b 0)) (leb (header_at b 0) 1) (both (leb 1 (header_at b 0) && leb (header_at b 0) 1) (is_form (header_at b 0)) taken).0 in
    let first : header_at b 0 ≡ 1 = omega (arith, leb-true 1 (header_at b 0) range.0, leb-true (header_at b 0) 1 range.1) in
    subst⁻¹ (λ (number : ℕ). words_for (form_of number).width (counts_in b) ≤ 0) first (omega arith)

module _ {b : List ℕ} (Y : Yields (form_in b) b) (bounds : counts_fit (form_in b) (counts_of (index_of Y.graph Y.orders)) ≡ true) where
  abbrev G : Graph
  G = Y.graph

  abbrev I : Index
  I = index_of G Y.orders

  S : Sound I
  S = built_sound G Y.ends Y.orders Y.permuted

  fits : Fits (form_in b) I
  fits = yielded_fits (form_wide (header_at b 0)) G Y.ends Y.orders Y.permuted Y.plain bounds

  holds : I ≡ index_in b
  holds = sym (index_encode fits) ∙ ap index_in Y.bytes

  vertices : (counts_in b).n ≡ G.n
  vertices =
      ap (λ (z : List ℕ). (counts_in z).n) (sym Y.bytes) ∙ ap (λ (a : Counts). a.n) (counts_read fits) ∙ built_long G Y.ends Y.orders Y.permuted

  counts : counts_in b ≡ counts_of I
  counts = ap counts_in (sym Y.bytes) ∙ counts_read fits

  -- Calls that take the form, with marks and words that suffice.
  opens : (T : FormsTaken) (marks work : ℕ) → takes T (header_at b 0) ≡ true → G.n ≤ marks → words_in b ≤ work → open_answer T b marks work ≡ answered (counts_of I)
  opens T marks work taken room words =
      sym
      (subst (λ (z : List ℕ). takes T (header_at z 0) ≡ true → (counts_in z).n ≤ marks → words_in z ≤ work → answered (counts_in z) ≡ open_answer T z marks work) Y.bytes
      (encoded_opens fits ((sound_decides I).1 S) Y.plain T marks work) taken (omega (arith, vertices)) words)
      ∙ ap answered counts

  -- the graph and the orders make the index that the bytes hold
  abbrev made : Made (index_in b)
  made = record { graph = G; ends = Y.ends; orders = Y.orders; permuted = Y.permuted; yields = holds }

  -- A question between vertices.
  module _
      (T : FormsTaken) (u v : ℕ) (marks : List ℕ) (work : ℕ) (taken : takes T (header_at b 0) ≡ true) (source : u < G.n) (target : v < G.n) (room : G.n ≤ length marks)
      (words : words_in b ≤ work)
    where
      asks : ask_answer T b u v (length marks) work ≡ answered (said_of (answer I u v))
      asks =
          opened_asks T b (length marks) work (opens T (length marks) work taken room words) u v (omega (arith, vertices)) (omega (arith, vertices)) (length marks) work
          (omega (arith, vertices)) words
          ∙ ap (λ (J : Index). answered (said_of (answer J u v))) (sym holds)

      marked : ask_marks T b u v marks work ≡ (answer I u v).marks ++ drop G.n marks
      marked =
          opened_marks T b (length marks) work (opens T (length marks) work taken room words) u v (omega (arith, vertices)) (omega (arith, vertices)) marks work
          (omega (arith, vertices)) words
          ∙ ap₂ (λ (J : Index) (n : ℕ). (answer J u v).marks ++ drop n marks) (sym holds) vertices

      right : {r : Result Asked Refusal} {m : List ℕ} → asked_of r ≡ ask_answer T b u v (length marks) work → m ≡ ask_marks T b u v marks work → Right G I u v marks r m
      right answers leaves = record {
        said = answers ∙ asks;
        marked = leaves ∙ marked;
        path = ask.asked_right T b u v marks work (said_of (answer I u v)) asks made;
        rule = first.0;
        none_before = first.1;
        walk = marks_are_opened I S u v (omega (arith, built_long G Y.ends Y.orders Y.permuted));
      }
        where
          first : Holds I (place_in I u) (place_in I v) (answer I u v).reason × ((q : ℕ) → q < (answer I u v).reason → Holds I (place_in I u) (place_in I v) q → ⊥)
          first = (reason_first I u v (answer I u v).reason).0 refl

  -- the host's: form 1 needs no words
  host_right : (u v : ℕ) (marks : List ℕ) {r : DrobistenAsked} {m : List ℕ} → takes host (header_at b 0) ≡ true → u < G.n → v < G.n → G.n ≤ length marks
      → face.Asks b u v marks r m
      → (r.refusal ≡ 0) × ((r.yes ≡ 1) ↔ Reaches G u v)
  host_right u v marks taken source target room X =
      let asked = asks host u v marks 0 taken source target room (host_words b taken) in
      let none = ap (λ (z : DrobistenAsked). z.refusal) (X.returns ∙ ap host_asked asked) in
      (none, face.host_right X none made)

  pub stored : Stored G Y.orders b
  stored = record {
    ends = Y.ends;
    permuted = Y.permuted;
    bytes = Y.bytes;
    holds = holds;
    grail = rw (← holds) (grail G Y.ends Y.orders Y.permuted);
    opens = λ T marks work r m w taken room words X. X.answers ∙ opens T (length marks) (length work) taken room words;
    asks = λ T u v marks work r m w taken source target room words X. right T u v marks (length work) taken source target room words X.answers X.leaves;
    host_asks = λ u v marks r m taken source target room. host_right u v marks taken source target room;
  }

-- bytes that name a form, yielded at that form
stored_at : {F : Form} {b : List ℕ} → form_in b ≡ F → (Y : Yields F b) → counts_fit F (counts_of (index_of Y.graph Y.orders)) ≡ true → Stored Y.graph Y.orders b
stored_at {b = b} e = subst (λ (F : Form). (Y : Yields F b) → counts_fit F (counts_of (index_of Y.graph Y.orders)) ≡ true → Stored Y.graph Y.orders b) e stored

-- what a finished build leaves
pub finished_stored : {F : Form} {B : Input} (E : build.Finished F B) → Stored B.graph (orders_of B) (take E.total E.out')
finished_stored {F} {B} E =
    let A : Admitted F B (length E.work) = build.input_right E in
    let permuted = build.orders_right E in
    let many = table_long (order_at B.graph.n B.orders) B.d in
    stored_at (build.stored_form E)
    (record { graph = B.graph; ends = A.ends; orders = orders_of B; permuted = permuted; plain = build.graph_plain E; bytes = sym (build.build_stores E) })
    (bounds_kept E.wide B.graph A.ends (orders_of B) permuted A.vertices A.edges (omega (arith, A.least)) (omega (arith, A.most)))

pub build_stored : {G : Graph} {orders : List (List ℕ)} {b : List ℕ} → Builds G orders b → Stored G orders b
build_stored D = rw (← D.from_graph, ← D.from_orders, ← D.left) (finished_stored (build.finished D.allowed D.finished))
