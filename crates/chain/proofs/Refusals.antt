-- What `chain` answers and leaves: what its checks come to, and the list by whether one applies.
use mathlib.Core.Bool.{Bool, cond}
use mathlib.Core.Path.{◌≡◌, refl, ◌∙◌}
use mathlib.Core.List.{List, [], ◌∷◌}
use Prim.Native.Nat.{ℕ}
use lib.Dec.{leb}
use lib.ListN.{length}
use Rattle.lineage.specs.Stored.{counts_in}
use Rattle.lineage.specs.Calls.{Check, check, Outcome, FormsTaken, index_in}
use Rattle.open.proofs.Called.{Called}
use Rattle.chain.specs.Traced.{Traced, traced, room_checks, shown, chain_answer, chain_marks, chain_work, chain_output}

-- 14 of the source, 14 of the target
abbrev own : List ℕ → ℕ → ℕ → List Check
own b u v = check (leb (counts_in b).n u) 14 0 ∷ check (leb (counts_in b).n v) 14 1 ∷ []

pub chains : {T : FormsTaken} {b : List ℕ} (u v : ℕ) {marks work : List ℕ} (out : List ℕ) {o : Outcome Traced} {m w f : List ℕ} {stops : Bool}
    → Called T b marks work (own b u v) (room_checks (index_in b) u v (length out)) (traced (index_in b) u v) o m w stops
    → f ≡ cond stops out (shown (index_in b) u v out)
    → record {
      result_value : o ≡ chain_answer T b u v (length marks) (length work) (length out);
      marks_after : m ≡ chain_marks T b u v marks (length work);
      work_after : w ≡ chain_work T b u v (length marks) work;
      steps_after : f ≡ chain_output T b u v (length marks) (length work) out;
    }
unfolding chain_answer chain_marks chain_work chain_output
chains u v out C e = record { result_value = C.says; marks_after = C.leaves; work_after = C.clears; steps_after = e ∙ rw C.all refl }
