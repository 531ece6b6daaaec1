-- What a run promises, by its contract alone: two results that it allows are equal, and the bytes that it counts are what the program is defined to print.
use mathlib.Core.List.{List, ◌++◌}
use mathlib.Core.Path.{◌≡◌, sym, ap, ◌∙◌}
use Prim.Native.Nat.{ℕ, ◌≤◌}
use native.Mathlib.Omega.{arith}
use lib.ListN.{length, take, drop, length-append}
use lib.Seq.{take_at, drop_at}
use Rattle.text.specs.Output.{output}

-- what `run` may answer and leave
pub record Allowed (text out : List ℕ) (r : ℕ) (out' : List ℕ) : Type 0 where
  pub counts : r ≡ length (output text)
  pub writes : out' ≡ output text ++ drop r out

-- two results are equal
pub ran_once : {text out : List ℕ} {r r' : ℕ} {o o' : List ℕ} → Allowed text out r o → Allowed text out r' o' → (r ≡ r') × (o ≡ o')
ran_once {text} {out} X Y =
    let same = X.counts ∙ sym Y.counts in
    (same, X.writes ∙ ap (λ (k : ℕ). output text ++ drop k out) same ∙ sym Y.writes)

-- the output begins with what is printed, and goes on as it was
pub run_prints : {text out : List ℕ} {r : ℕ} {o : List ℕ} → Allowed text out r o → take r o ≡ output text
run_prints {text} {out} {r} X = rw X.writes (take_at (output text) (drop r out) r (sym X.counts))

pub run_keeps : {text out : List ℕ} {r : ℕ} {o : List ℕ} → Allowed text out r o → drop r o ≡ drop r out
run_keeps {text} {out} {r} X = rw X.writes (drop_at (output text) (drop r out) r (sym X.counts))

-- the output holds the bytes that are counted
pub run_within : {text out : List ℕ} {r : ℕ} {o : List ℕ} → Allowed text out r o → r ≤ length o
run_within {text} {out} {r} X = omega (arith, X.counts, ap length X.writes, length-append (output text) (drop r out))
