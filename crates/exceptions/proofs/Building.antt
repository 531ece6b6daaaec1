-- What building wrote opens beside the same index, with whatever marks suffice; the output behind it is untouched. The contract allows one result.
use Rattle.std.specs.Prelude.{Result}
use mathlib.Core.Bool.{false}
use mathlib.Core.Path.{◌≡◌, refl, sym, ap, ◌∙◌}
use mathlib.Core.List.{List, [], ◌++◌}
use Prim.Native.Nat.{ℕ, ◌≤◌}
use lib.ListN.{length, take, drop}
use lib.Seq.{take_at, drop_at}
use borrow.Author.Tests.{ltb-false}
use Rattle.lineage.specs.Stored.{counts_in}
use Rattle.lineage.specs.Calls.{Check, answered, any_applies, host, words_in, index_in}
use Rattle.laws.specs.Checks.{Pass}
use Rattle.laws.proofs.Checks.{stops_outcome, stops_early, pass_front, pass_behind, answered_pass, answered_is}
use Rattle.laws_exceptions.specs.Exceptions.{encode_exceptions}
use Rattle.stored_header.proofs.Admitted.{header_pass, lent_pass}
use Rattle.exceptions.specs.Calls.{form_one_checks, build_late, open_late, list_counts, exceptions_built, exceptions_output, exceptions_opened, exception_marks}
use Rattle.refusals.specs.declared.Refusal.{Refusal}
use Rattle.refusals.proofs.Told.{outcome_once}
use Rattle.exceptions.specs.Written.{written_of}
use Rattle.exceptions.proofs.Opening.{passes}

module _ (b : List ℕ) (marks : ℕ) (out : List ℕ) (total : ℕ) (e : exceptions_built b marks (length out) ≡ answered total) where
  abbrev first : List Check
  first = form_one_checks b marks

  abbrev late : List Check
  late = build_late b (length out)

  abbrev lists : List ℕ
  lists = encode_exceptions (index_in b)

  passed : Pass (first ++ late)
  unfolding exceptions_built
  passed = answered_pass (length lists) (first ++ late) total e

  total_is : length lists ≡ total
  unfolding exceptions_built
  total_is = sym (answered_is (length lists) (first ++ late) total e)

  output_is : exceptions_output b marks out ≡ lists ++ drop (length lists) out
  unfolding exceptions_output
  output_is = let none : any_applies (first ++ late) ≡ false = stops_early (first ++ late) [] 7 passed in rw none refl

  -- the lists stand in front, and the output behind them is untouched
  pub built_lists : take total (exceptions_output b marks out) ≡ encode_exceptions (index_in b)
  built_lists = rw output_is (take_at lists (drop (length lists) out) total total_is)

  pub built_behind : drop total (exceptions_output b marks out) ≡ drop total out
  built_behind = rw output_is (drop_at lists (drop (length lists) out) total total_is ∙ ap (λ (n : ℕ). drop n out) total_is)

  -- what was built opens
  pub built_opens : (m : ℕ) → (counts_in b).n ≤ m → exceptions_opened b (take total (exceptions_output b marks out)) m ≡ answered (list_counts (index_in b))
  unfolding exceptions_opened
  built_opens m room =
      let p = pass_front first late passed in
      let again : Pass (form_one_checks b m) = lent_pass host b m 0 (header_pass host b marks 0 p) room (ltb-false 0 (words_in b) p.1.1.1.1.0) in
      rw built_lists
      (stops_outcome (list_counts (index_in b)) (form_one_checks b m ++ open_late b lists) 7 (passes b lists m again (pass_behind first late passed).0 refl))

-- two results that the contract allows are equal
pub record Allowed (b marks out : List ℕ) (r : Result ℕ Refusal) (marks' out' : List ℕ) : Type 0 where
  pub answers : written_of r ≡ exceptions_built b (length marks) (length out)
  pub leaves : marks' ≡ exception_marks b marks
  pub writes : out' ≡ exceptions_output b (length marks) out

pub built_once : {b marks out : List ℕ} {r r' : Result ℕ Refusal} {m m' o o' : List ℕ} → Allowed b marks out r m o → Allowed b marks out r' m' o' → (r ≡ r') × ((m ≡ m') × (o ≡ o'))
built_once A B = (outcome_once _ (λ n n' e. e) _ _ (A.answers ∙ sym B.answers), (A.leaves ∙ sym B.leaves, A.writes ∙ sym B.writes))
