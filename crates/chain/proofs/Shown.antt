-- What may be answered behind 15, and what the list may hold: on a no nothing is written; on a yes the list is too short for the steps, or they stand at its front.
use mathlib.Core.Bool.{true, false}
use mathlib.Core.Path.{◌≡◌, ◌∙◌}
use mathlib.Core.List.{List}
use Prim.Native.Nat.{ℕ, ◌≤◌}
use native.Mathlib.Omega.{arith}
use lib.ListN.{length}
use borrow.Author.Tests.{le-ltb}
use Rattle.std.specs.Prelude.{Option, Some, None, Result, Ok}
use Rattle.lineage.specs.Index.{Index}
use Rattle.lineage.specs.Question.{answer}
use Rattle.refusals.specs.declared.Refusal.{Refusal}
use Rattle.numbers.specs.Put.{put}
use Rattle.numbers.proofs.Put.{put_start}
use Rattle.chain_steps.specs.Chain.{chain_of}
use Rattle.chain.specs.Chained.{Fills, Shows}

-- the steps found, which were counted
module _ {found out : List ℕ} {count : ℕ} (counted : count ≡ length found) where
  pub fills_all : count ≤ length out → {written : List ℕ} → written ≡ put out 0 found → Fills found out (Ok (Some count)) written
  fills_all h e = let room = le-ltb (length out) (length found) (omega arith) in record { answers = rw (counted, room); writes = e ∙ put_start out found ∙ rw room }

module _ {I : Index} {u v : ℕ} {out : List ℕ} where
  pub shows_no : (answer I u v).says ≡ false → Shows I u v out (Ok None) out
  shows_no e = record { answers = rw e; writes = rw e }

  pub shows_yes : (answer I u v).says ≡ true → {found : List ℕ} → found ≡ chain_of I u v → {r : Result (Option ℕ) Refusal} {out' : List ℕ} → Fills found out r out' → Shows I u v out r out'
  shows_yes e is F = record { answers = rw (e, ← is) F.answers; writes = rw (e, ← is) F.writes }
