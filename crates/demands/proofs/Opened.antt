-- Bytes that open are a stored index, of some graph and orders, and of whatever graph and d orders yield them. Where a question is answered there is a vertex, so
-- whatever graph and orders yield the bytes have d orders, and the answer is yes exactly when a path exists in that graph.
use mathlib.Core.Bool.{true}
use mathlib.Core.Logic.{◌↔◌}
use mathlib.Core.Path.{◌≡◌, refl, sym, ap, ◌∙◌}
use mathlib.Core.List.{List, ◌++◌}
use Prim.Native.Nat.{ℕ, ◌≤◌, ◌<◌}
use native.Mathlib.Omega.{arith}
use lib.ListN.{length, drop}
use borrow.Author.Tests.{eq-eqb}
use Rattle.lineage.specs.Graph.{Reaches}
use Rattle.lineage.specs.Index.{index_of, Made}
use Rattle.lineage.specs.Stored.{Counts, counts_of, counts_fit, header_at, counts_in}
use Rattle.lineage.specs.Question.{answer}
use Rattle.lineage.specs.Calls.{Outcome, refused, answered, FormsTaken, host, hierarchy, takes, words_in, index_in, Said, said_of, ask_answer}
use Rattle.numbers.proofs.Written.{Bytes}
use Rattle.std.specs.Prelude.{Result}
use Rattle.refusals.specs.declared.Refusal.{Refusal}
use Rattle.open.specs.declared.Opened.{Opened}
use Rattle.open.specs.Opened.{opened_of}
use Rattle.open.specs.Yields.{Yields, HeaderRight}
use Rattle.open.proofs.Checks.{opened_right}
use Rattle.open.proofs.Theorem.{Allowed, opens_within}
use Rattle.build.proofs.Hierarchy.{Written, opens_written}
use Rattle.ask.specs.declared.Asked.{Asked}
use Rattle.ask.specs.Asked.{asked_of}
use Rattle.ask.proofs.Answered.{answered_only}
use Rattle.ask.proofs.Theorems as ask
use Rattle.face.specs.declared.DrobistenAsked.{DrobistenAsked}
use Rattle.face.specs.Host.{host_asked, asked_by}
use Rattle.face.proofs.Theorems as face
use Rattle.demands.specs.Stored.{form_in, Stored}
use Rattle.demands.proofs.Yielded.{orders_are, bounds_are}
use Rattle.demands.proofs.Asked.{opened_counts, opened_asks, opened_marks, asked_opens}
use Rattle.demands.proofs.Stored.{stored}

-- bytes open exactly when their form is taken and a graph and orders yield them
pub opened_yields : {T : FormsTaken} {b marks work : List ℕ} {r : Result Opened Refusal} {m w : List ℕ} → Bytes b → (counts_in b).n ≤ length marks → words_in b ≤ length work
    → Allowed T b marks work r m w
    → ((a : Counts) × (opened_of r ≡ answered a))
    ↔ ((takes T (header_at b 0) ≡ true) × ((Y : Yields (form_in b) b) × (counts_fit (form_in b) (counts_of (index_of Y.graph Y.orders)) ≡ true)))
opened_yields {T} {b} {marks} {work} small room words X =
    let (to, from) = opens_within T b (length marks) (length work) small room words in (
      (λ (a, e). let opens = sym X.answers ∙ e in to (opens ∙ ap answered (opened_counts T b (length marks) (length work) opens))),
      λ y. (counts_in b, X.answers ∙ from y),
    )

-- and as a plain hierarchy exactly when some accepted build of one writes them
pub opened_written : {b marks work : List ℕ} {r : Result Opened Refusal} {m w : List ℕ} → Bytes b → (counts_in b).n ≤ length marks → words_in b ≤ length work
    → Allowed hierarchy b marks work r m w
    → ((a : Counts) × (opened_of r ≡ answered a)) ↔ Written b
opened_written {b} {marks} {work} small room words X =
    let (to, from) = opens_written b (length marks) (length work) small room words in (
      (λ (a, e). let opens = sym X.answers ∙ e in to (opens ∙ ap answered (opened_counts hierarchy b (length marks) (length work) opens))),
      λ W. (counts_in b, X.answers ∙ from W),
    )

-- of whatever graph and d orders yield them
pub yielded_stored : {T : FormsTaken} {b marks work : List ℕ} {r : Result Opened Refusal} {m w : List ℕ} {a : Counts} → Allowed T b marks work r m w → opened_of r ≡ answered a
    → (Y : Yields (form_in b) b)
    → length Y.orders ≡ a.d
    → Stored Y.graph Y.orders b
yielded_stored {T} {b} {marks} {work} X e Y d =
    let opens = sym X.answers ∙ e in
    stored Y
    (bounds_are (opened_right T b (length marks) (length work) (sym opens)) Y
    (d ∙ ap (λ (a : Counts). a.d) (opened_counts T b (length marks) (length work) opens)))

-- they answer every question between their vertices
pub opened_answers : {T : FormsTaken} {b marks work : List ℕ} {r : Result Opened Refusal} {m w : List ℕ} {a : Counts} → Allowed T b marks work r m w → opened_of r ≡ answered a
    → {u v : ℕ} {marks' work' : List ℕ} {r' : Result Asked Refusal} {m' w' : List ℕ} → u < a.n → v < a.n → a.n ≤ length marks'
    → words_in b ≤ length work'
    → ask.Allowed T b u v marks' work' r' m' w'
    → (asked_of r' ≡ answered (said_of (answer (index_in b) u v))) × (m' ≡ (answer (index_in b) u v).marks ++ drop a.n marks')
opened_answers {T} {b} {marks} {work} X e {u} {v} {marks'} {work'} source target room words Q =
    let opens = sym X.answers ∙ e in
    let n = ap (λ (a : Counts). a.n) (opened_counts T b (length marks) (length work) opens) in (
      Q.answers ∙ opened_asks T b (length marks) (length work) opens u v (rw n at source) (rw n at target) (length marks') (length work') (rw n at room) words,
      Q.leaves
          ∙ opened_marks T b (length marks) (length work) opens u v (rw n at source) (rw n at target) marks' (length work') (rw n at room) words
          ∙ ap (λ (k : ℕ). (answer (index_in b) u v).marks ++ drop k marks') (sym n),
    )

-- A question that is answered.
module _ (T : FormsTaken) (b : List ℕ) (u v m w : ℕ) {s : Said} (e : ask_answer T b u v m w ≡ answered s) (Y : Yields (form_in b) b) where
  asked_made : Made (index_in b)
  asked_made =
      let R : HeaderRight T b = opened_right T b m w (sym (asked_opens T b u v m w e)) in
      let some : 0 < (counts_in b).n = omega (arith, (answered_only T b u v m w s e).source_low) in
      record { graph = Y.graph; ends = Y.ends; orders = Y.orders; permuted = Y.permuted; yields = (stored Y (bounds_are R Y (orders_are R Y some))).holds }

pub asked_path : {T : FormsTaken} {b : List ℕ} {u v : ℕ} {marks work : List ℕ} {r : Result Asked Refusal} {m w : List ℕ} {s : Said} → ask.Allowed T b u v marks work r m w
    → asked_of r ≡ answered s
    → (Y : Yields (form_in b) b)
    → (s.says ≡ true) ↔ Reaches Y.graph u v
unfolding asked_made
asked_path {T} {b} {u} {v} {marks} {work} {s = s} X e Y =
    let f = sym X.answers ∙ e in
    ask.asked_right T b u v marks (length work) s f (asked_made T b u v (length marks) (length work) f Y)

-- the host's answers: no refusal is 0
answered_by : (o : Outcome Said) → asked_by (host_asked o) ≡ o → (host_asked o).refusal ≡ 0 → (s : Said) × (o ≡ answered s)
answered_by (refused number extra) back none =
    let said = rw (eq-eqb number 0 none) at back in
    let z : ◌≡◌ {A = ℕ} 0 1 = cc in
    absurd (omega arith)
answered_by (answered s) back none = (s, refl)

pub host_path : {b : List ℕ} {u v : ℕ} {marks : List ℕ} {r : DrobistenAsked} {m : List ℕ} → face.Asks b u v marks r m → r.refusal ≡ 0
    → (Y : Yields (form_in b) b)
    → (r.yes ≡ 1) ↔ Reaches Y.graph u v
unfolding asked_made
host_path {b} {u} {v} {marks} X none Y =
    let (s, e) =
    answered_by (ask_answer host b u v (length marks) 0) (face.asked_read host b u v (length marks) 0) (ap (λ (z : DrobistenAsked). z.refusal) (sym X.returns) ∙ none) in
    face.host_right X none (asked_made host b u v (length marks) 0 e Y)
