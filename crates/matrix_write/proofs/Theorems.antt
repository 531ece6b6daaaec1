-- What was written by a finished call, as its caller has it: the first `total` bytes of the output. They are the edge list's text, and nothing behind them is altered.
-- Read back, by lists with room and whatever these held, they give the same n and the same edge list; so a build from what was read is the build from what was
-- written. Two results that the contract allows are equal.
use mathlib.Core.Bool.{Bool, false, cond}
use mathlib.Core.Path.{◌≡◌, refl, sym, ap, ap₂, ◌∙◌}
use mathlib.Core.List.{List, [], ◌++◌}
use Prim.Native.Nat.{ℕ, ◌≤◌}
use native.Mathlib.Omega.{arith}
use lib.ListN.{length, take, drop}
use lib.Seq.{take_at, drop_at}
use Rattle.lineage.specs.Graph.{Graph}
use Rattle.lineage.specs.Stored.{form2}
use Rattle.lineage.specs.Calls.{Check, answered, any_applies, Input, build_call, build_call_output}
use Rattle.laws.proofs.Checks.{stops_early, answered_pass, answered_is}
use Rattle.build.specs.Input.{input_of}
use Rattle.matrix_lines.specs.Matrix.{matrix_text}
use Rattle.matrix_lines.specs.Calls.{matrix_read_answer, matrix_read_sources, matrix_read_targets, write_checks, matrix_write_answer, matrix_write_output}
use Rattle.matrix_lines.proofs.Reread as again
use Rattle.matrix_read.specs.declared.MatrixRead.{MatrixRead}
use Rattle.matrix_read.specs.declared.MatrixRefusal.{MatrixRefusal}
use Rattle.matrix_read.proofs.Theorems.{read_one}
use Rattle.matrix_read.specs.Answer.{Answered}
use Rattle.refusals.specs.declared.Refusal.{Refusal}
use Rattle.refusals.proofs.Told.{outcome_once}
use Rattle.std.proofs.Common.{Result, Ok}
use Rattle.matrix_write.specs.Written.{Allowed}

-- form 2's bounds have at most seven digits
small : again.Small form2
small = record { vertices = omega arith; edges = omega arith }

module _ {G : Graph} {out out' : List ℕ} {total : ℕ} (W : Allowed G out (Ok total) out') where
  abbrev checks : List Check
  checks = write_checks form2 G (matrix_text G) (length out)

  answers : matrix_write_answer form2 G (length out) ≡ answered total
  answers = sym W.answers

  taken : any_applies checks ≡ false
  unfolding matrix_write_answer
  taken = stops_early checks [] 5 (answered_pass (length (matrix_text G)) checks total answers)

  total_is : total ≡ length (matrix_text G)
  unfolding matrix_write_answer
  total_is = answered_is (length (matrix_text G)) checks total answers

  output_is : out' ≡ matrix_text G ++ drop total out
  unfolding matrix_write_output
  output_is =
      W.writes
      ∙ ap (λ (t : Bool). cond t out (matrix_text G ++ drop (length (matrix_text G)) out)) taken
      ∙ ap (λ (k : ℕ). matrix_text G ++ drop k out) (sym total_is)

  -- what was written is the text, and the output behind it is as it was
  pub written_is : take total out' ≡ matrix_text G
  written_is = ap (take total) output_is ∙ take_at (matrix_text G) (drop total out) total (sym total_is)

  pub written_behind : drop total out' ≡ drop total out
  written_behind = ap (drop total) output_is ∙ drop_at (matrix_text G) (drop total out) total (sym total_is)

  -- it is read back into lists with room
  module _ {S T : List ℕ} {r : Result MatrixRead MatrixRefusal} {S' T' : List ℕ} (R : Answered (take total out') S T r S' T')
      (sources-room : length G.sources ≤ length S) (targets-room : length G.sources ≤ length T)
    where
      rewritten : take total out' ≡ again.rewritten form2 G out S T small taken sources-room targets-room
      rewritten = ap₂ (λ (k : ℕ) (o : List ℕ). take k o) total_is W.writes

      -- the same n and number of edges, and the same edge list; behind it the lists are as they were
      pub written_reads : r ≡ Ok (record { n = G.n; edges = length G.sources })
      written_reads =
          read_one r (Ok (record { n = G.n; edges = length G.sources }))
          (R.answers
          ∙ ap (λ (text : List ℕ). matrix_read_answer form2 text (length S) (length T)) rewritten
          ∙ again.written_reads form2 G out S T small taken sources-room targets-room)

      pub written_sources : S' ≡ G.sources ++ drop (length G.sources) S
      written_sources =
          R.sources_hold
          ∙ ap (λ (text : List ℕ). matrix_read_sources form2 text S T) rewritten
          ∙ again.written_sources form2 G out S T small taken sources-room targets-room

      pub written_targets : T' ≡ G.targets ++ drop (length G.targets) T
      written_targets =
          R.targets_hold
          ∙ ap (λ (text : List ℕ). matrix_read_targets form2 text S T) rewritten
          ∙ again.written_targets form2 G out S T small taken sources-room targets-room

      -- a build from as many edges as were read answers and writes what a build from the edge list does
      read_back : {A : Type 0} (f : List ℕ → List ℕ → A) → f (take (length G.sources) S') (take (length G.targets) T') ≡ f G.sources G.targets
      read_back f =
          ap₂ f
          (ap (take (length G.sources)) written_sources ∙ take_at G.sources (drop (length G.sources) S) (length G.sources) refl)
          (ap (take (length G.targets)) written_targets ∙ take_at G.targets (drop (length G.targets) T) (length G.targets) refl)

      module _ (form d : ℕ) (orders : List ℕ) where
        abbrev read_input : Input
        read_input = input_of G.n (take (length G.sources) S') (take (length G.targets) T') d orders

        abbrev input : Input
        input = input_of G.n G.sources G.targets d orders

        pub build_same : (work lent : ℕ) → build_call form read_input work lent ≡ build_call form input work lent
        build_same work lent = read_back (λ (sources targets : List ℕ). build_call form (input_of G.n sources targets d orders) work lent)

        pub bytes_same : (work : ℕ) (lent : List ℕ) → build_call_output form read_input work lent ≡ build_call_output form input work lent
        bytes_same work lent = read_back (λ (sources targets : List ℕ). build_call_output form (input_of G.n sources targets d orders) work lent)

-- Two results that the contract allows are equal.
pub written_once : {G : Graph} {out : List ℕ} {r r' : Result ℕ Refusal} {o o' : List ℕ} → Allowed G out r o → Allowed G out r' o' → (r ≡ r') × (o ≡ o')
written_once {r = r} {r'} A B = (outcome_once (λ total. total) (λ a a' e. e) r r' (A.answers ∙ sym B.answers), A.writes ∙ sym B.writes)
