-- What `list` answers and leaves: what its checks come to, and the out list by whether one applies.
use mathlib.Core.Bool.{Bool, cond}
use mathlib.Core.Path.{◌≡◌, refl, ◌∙◌}
use mathlib.Core.List.{List, [], ◌∷◌, ◌++◌}
use Prim.Native.Nat.{ℕ}
use lib.Dec.{leb}
use lib.ListN.{length, drop}
use Rattle.lineage.specs.Stored.{counts_in}
use Rattle.lineage.specs.Question.{downstream}
use Rattle.lineage.specs.Calls.{Check, check, Outcome, FormsTaken, index_in, list_answer, list_marks, list_work, list_output}
use Rattle.open.proofs.Called.{Called}
use Rattle.list.specs.Listed.{room_checks}

abbrev found : List ℕ → ℕ → List ℕ
found b u = downstream (index_in b) u

-- 14
abbrev own : List ℕ → ℕ → List Check
own b u = check (leb (counts_in b).n u) 14 0 ∷ []

pub lists : {T : FormsTaken} {b : List ℕ} (u : ℕ) {marks work : List ℕ} (out : List ℕ) {o : Outcome ℕ} {m w f : List ℕ} {stops : Bool}
    → Called T b marks work (own b u) (room_checks (found b u) (length out)) (length (found b u)) o m w stops
    → f ≡ cond stops out (found b u ++ drop (length (found b u)) out)
    → record {
      result_value : o ≡ list_answer T b u (length marks) (length work) (length out);
      marks_after : m ≡ list_marks T b u marks (length work);
      work_after : w ≡ list_work T b u (length marks) work;
      out_after : f ≡ list_output T b u (length marks) (length work) out;
    }
unfolding list_answer list_marks list_work list_output
lists u out C e = record { result_value = C.says; marks_after = C.leaves; work_after = C.clears; out_after = e ∙ rw C.all refl }
