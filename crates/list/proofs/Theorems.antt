-- What a list of stored bytes says, wherever one is given, and whatever edge list and orders yield the bytes: it holds the other vertices that the vertex
-- reaches, and the vertex itself exactly where another one is in its group, rising; and nothing behind them is touched. `list` gives this, by its contract; and
-- its contract allows one result.
use mathlib.Core.Bool.{true, false}
use mathlib.Core.Logic.{◌↔◌}
use mathlib.Core.Path.{◌≡◌, refl, sym, ap, ◌∙◌}
use mathlib.Core.List.{List, [], ◌∷◌, ◌++◌}
use Prim.Native.Nat.{ℕ, ◌<◌}
use native.Mathlib.Omega.{arith}
use lib.Dec.{leb}
use lib.ListN.{length, take, drop}
use lib.Seq.{take_at, drop_at}
use borrow.Author.Tests.{leb-false}
use Rattle.std.specs.Prelude.{Result}
use Rattle.lineage.specs.Lists.{among}
use Rattle.lineage.specs.Index.{index_of, Made}
use Rattle.lineage.specs.Stored.{Form, counts_of, counts_fit, counts_in}
use Rattle.lineage.specs.Question.{downstream}
use Rattle.lineage.specs.Calls.{Check, check, answered, any_applies, FormsTaken, index_in, form_checks, list_late, list_answer, list_output}
use Rattle.refusals.specs.declared.Refusal.{Refusal}
use Rattle.refusals.proofs.Told.{outcome_once}
use Rattle.laws.specs.Rising.{Rises}
use Rattle.laws_answers.specs.Answers.{Downstream}
use Rattle.laws_answers.proofs.Demands.{downstream_rises, downstream_made}
use Rattle.stored.specs.Fits.{Fits}
use Rattle.laws.specs.Checks.{Pass}
use Rattle.laws.proofs.Checks.{stops_early, pass_behind, answered_pass, answered_is}
use Rattle.stored.proofs.Contents.{names_many}
use Rattle.stored.proofs.Encoded.{index_encode}
use Rattle.open.specs.Yields.{Yields}
use Rattle.open.proofs.Fits.{Wide, yielded_fits}
use Rattle.list.specs.Listed.{Allowed}

module _ (T : FormsTaken) (b : List ℕ) (u : ℕ) (marks work out : List ℕ) (count : ℕ)
    (e : list_answer T b u (length marks) (length work) (length out) ≡ answered count)
  where
    abbrev early : List Check
    early = form_checks T b (length marks) (length work)

    -- those behind 6
    abbrev own : List Check
    own = check (leb (counts_in b).n u) 14 0 ∷ list_late b u (length out)

    abbrev found : List ℕ
    found = downstream (index_in b) u

    abbrev list : List ℕ
    list = take count (list_output T b u (length marks) (length work) out)

    passes : Pass (early ++ own)
    unfolding list_answer
    passes = answered_pass (length found) (early ++ own) count e

    none : any_applies (early ++ own) ≡ false
    none = stops_early (early ++ own) [] 8 passes

    behind : Pass own
    behind = pass_behind early own passes

    counted : length found ≡ count
    unfolding list_answer
    counted = sym (answered_is (length found) (early ++ own) count e)

    -- the list, and what stands behind it
    output : list_output T b u (length marks) (length work) out ≡ found ++ drop (length found) out
    unfolding list_output
    output = rw none refl

    list_is_lem : list ≡ found
    list_is_lem = rw output (take_at found (drop (length found) out) count counted)

    pub listed_behind : drop count (list_output T b u (length marks) (length work) out) ≡ drop count out
    listed_behind = rw output (drop_at found (drop (length found) out) count counted ∙ ap (λ (k : ℕ). drop k out) counted)

    -- it rises
    pub listed_rises : Rises list
    listed_rises = rw list_is_lem (downstream_rises (index_in b) u)

    vertex : u < length (index_in b).names
    vertex = omega (arith, leb-false (counts_in b).n u behind.0, names_many b)

    -- v is in the list exactly where it is downstream of the vertex, in whatever graph yields the bytes
    pub listed_right : (M : Made (index_in b)) (v : ℕ) → (among v list ≡ true) ↔ Downstream M.graph u v
    listed_right M v = rw list_is_lem (downstream_made M u v vertex)

    -- so in whatever graph yields these very bytes, with counts within their form's bounds
    pub listed_yielded :
        {F : Form} → Wide F → (Y : Yields F b) → counts_fit F (counts_of (index_of Y.graph Y.orders)) ≡ true → (v : ℕ)
        → (among v list ≡ true) ↔ Downstream Y.graph u v
    listed_yielded {F} W Y bounds =
        let E : Fits F (index_of Y.graph Y.orders) = yielded_fits W Y.graph Y.ends Y.orders Y.permuted Y.plain bounds in
        listed_right (record {
          graph = Y.graph;
          ends = Y.ends;
          orders = Y.orders;
          permuted = Y.permuted;
          yields = sym (index_encode E) ∙ ap index_in Y.bytes;
        })

-- two results that the contract allows are equal
pub listed_once :
    {T : FormsTaken} {b : List ℕ} {u : ℕ} {marks work out : List ℕ} {r r' : Result ℕ Refusal} {ms ms' ws ws' os os' : List ℕ}
    → Allowed T b u marks work out r ms ws os → Allowed T b u marks work out r' ms' ws' os' → (r ≡ r') × ((ms ≡ ms') × ((ws ≡ ws') × (os ≡ os')))
listed_once A B =
    (outcome_once (λ count. count) (λ a a' e. e) _ _ (A.answers ∙ sym B.answers), (A.leaves ∙ sym B.leaves, (A.clears ∙ sym B.clears, A.writes ∙ sym B.writes)))
