-- What a program in C may rely on that builds: the outcomes of the definitions are read off the numbers, and two results that the contracts allow are equal.
use mathlib.Core.Bool.{not}
use mathlib.Core.Path.{◌≡◌, sym, ◌∙◌}
use mathlib.Core.List.{List, ◌∷◌, ◌++◌}
use Prim.Native.Nat.{ℕ}
use native.Mathlib.Omega.{arith}
use lib.ListN.{length}
use Rattle.lineage.specs.Stored.{Form, form_of}
use Rattle.lineage.specs.Calls.{check, ordinary, takes, Input, built, length_of, build_early, build_late, build_answer, build_work, build_output, build_call, build_call_work, build_call_output}
use Rattle.face.specs.declared.DrobistenCounted.{DrobistenCounted}
use Rattle.face.specs.Host.{host_counted, counted_by}
use Rattle.face.proofs.Theorems.{numbered, counted_back}

-- the outcomes are read off the numbers, at any form and told the form: no refusal of a build has the number 0
pub built_form_read : (F : Form) (B : Input) (w o : ℕ) → counted_by (host_counted (build_answer F B w o)) ≡ build_answer F B w o
unfolding build_answer
built_form_read F B w o =
    counted_back (build_answer F B w o)
    (numbered (length_of F (built B)) (build_early F B w ++ build_late F B o)
    (omega arith, (omega arith, (omega arith, (omega arith, (omega arith, (omega arith, (omega arith, (omega arith, (omega arith, (omega arith, tt)))))))))))

pub built_read : (form : ℕ) (B : Input) (w o : ℕ) → counted_by (host_counted (build_call form B w o)) ≡ build_call form B w o
unfolding build_answer build_call
built_read form B w o =
    let F : Form = form_of form in
    counted_back (build_call form B w o)
    (numbered (length_of F (built B)) (check (not (takes ordinary form)) 11 form ∷ (build_early F B w ++ build_late F B o))
    (omega arith, (omega arith, (omega arith, (omega arith, (omega arith, (omega arith, (omega arith, (omega arith, (omega arith, (omega arith, (omega arith, tt))))))))))))

-- what the builds may return and leave, by their contracts: `drobisten_build`, which is told the form, and those of one form
pub record Builds (form : ℕ) (B : Input) (work out : List ℕ) (r : DrobistenCounted) (w o : List ℕ) : Type 0 where
  pub returns : r ≡ host_counted (build_call form B (length work) (length out))
  pub leaves : w ≡ build_call_work form B work
  pub writes : o ≡ build_call_output form B (length work) out

pub record BuildsForm (F : Form) (B : Input) (work out : List ℕ) (r : DrobistenCounted) (w o : List ℕ) : Type 0 where
  pub returns : r ≡ host_counted (build_answer F B (length work) (length out))
  pub leaves : w ≡ build_work F B work
  pub writes : o ≡ build_output F B (length work) out

-- two results are equal
pub built_once :
    {form : ℕ} {B : Input} {work out : List ℕ} {r r' : DrobistenCounted} {w w' o o' : List ℕ}
    → Builds form B work out r w o → Builds form B work out r' w' o' → (r ≡ r') × ((w ≡ w') × (o ≡ o'))
built_once A B = (A.returns ∙ sym B.returns, (A.leaves ∙ sym B.leaves, A.writes ∙ sym B.writes))

pub built_form_once :
    {F : Form} {B : Input} {work out : List ℕ} {r r' : DrobistenCounted} {w w' o o' : List ℕ}
    → BuildsForm F B work out r w o → BuildsForm F B work out r' w' o' → (r ≡ r') × ((w ≡ w') × (o ≡ o'))
built_form_once A B = (A.returns ∙ sym B.returns, (A.leaves ∙ sym B.leaves, A.writes ∙ sym B.writes))
