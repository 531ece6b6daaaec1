-- Lists that do not belong to the index are told before the vertices are looked at. A question by exception lists, wherever it is answered, says what the walk says of the
-- same index and vertices, so yes exactly where a path leads from source to target, in whatever graph yields the index. The contract allows one result.
use Rattle.std.specs.Prelude.{Result}
use mathlib.Core.Bool.{Bool, true, false, not}
use mathlib.Core.Logic.{◌↔◌}
use mathlib.Core.Path.{◌≡◌, sym, ap, ◌∙◌}
use mathlib.Core.List.{List, [], ◌∷◌, ◌++◌}
use Prim.Native.Nat.{ℕ, ◌<◌}
use native.Mathlib.Omega.{arith}
use lib.Dec.{leb}
use lib.ListN.{length}
use borrow.Author.Tests.{leb-false, not-false}
use Rattle.lineage.specs.Graph.{Reaches}
use Rattle.lineage.specs.Index.{Made}
use Rattle.lineage.specs.Lists.{same_list}
use Rattle.lineage.specs.Stored.{Counts, counts_in, form_of, header_at}
use Rattle.lineage.specs.Question.{answer}
use Rattle.lineage.specs.Calls.{Check, check, refused, answered, host, contents_check, index_in, open_answer, Said, said_of, ask_early, ask_answer}
use Rattle.laws.specs.Checks.{Pass}
use Rattle.laws.specs.Sound.{Sound}
use Rattle.laws.proofs.Tests.{is_false}
use Rattle.laws.proofs.Lists.{same_list_lem}
use Rattle.laws.proofs.Checks.{stops_outcome, pass_front, pass_behind, pass_both, answered_pass, answered_is, rest_comes}
use Rattle.laws_same.proofs.Lineage.{tests_same}
use Rattle.laws_exceptions.specs.Exceptions.{encode_exceptions, says_by_exceptions}
use Rattle.laws_exceptions.proofs.Says.{says_same, says_right}
use Rattle.stored_header.proofs.Admitted.{header_pass}
use Rattle.stored_header.proofs.Laid.{header_laid, d_is}
use Rattle.stored.proofs.Contents.{names_many, labels_many, contents_sound_lem}
use Rattle.exceptions.specs.Calls.{form_one_checks, belong_check, ask_late, exceptions_asked, exception_marks}
use Rattle.refusals.specs.declared.Refusal.{Refusal}
use Rattle.refusals.proofs.Told.{outcome_once}
use Rattle.exceptions.specs.Said as told

-- beside an index that opens, lists that are not its exceptions get 20, whatever the vertices
pub others_first :
    (b lists : List ℕ) (u v marks : ℕ) (a : Counts) → open_answer host b marks 0 ≡ answered a → (lists ≡ encode_exceptions (index_in b) → ⊥)
    → exceptions_asked b lists u v marks ≡ refused 20 0
unfolding open_answer exceptions_asked
others_first b lists u v marks a e n =
    let first : List Check = form_one_checks b marks in
    let vertices : List Check = check (leb (counts_in b).n u) 14 0 ∷ check (leb (counts_in b).n v) 14 1 ∷ [] in
    let says : Bool = says_by_exceptions (index_in b) u v in
    let own : List ℕ = encode_exceptions (index_in b) in
    let other : same_list lists own ≡ false = is_false (same_list lists own) (λ t. n (same_list_lem lists own t)) in
    (rest_comes says first (contents_check b ∷ []) (belong_check b lists ∷ vertices) (answered_pass (counts_in b) (first ++ (contents_check b ∷ [])) a e)
    (stops_outcome says (belong_check b lists ∷ vertices) 0 (ap not other))).says

module _ (b lists : List ℕ) (u v marks : ℕ) (s : Bool) (e : exceptions_asked b lists u v marks ≡ answered s) where
  abbrev first : List Check
  first = form_one_checks b marks

  abbrev late : List Check
  late = ask_late b lists u v

  passes : Pass (first ++ late)
  unfolding exceptions_asked
  passes = answered_pass (says_by_exceptions (index_in b) u v) (first ++ late) s e

  behind : Pass late
  behind = pass_behind first late passes

  said_is : s ≡ says_by_exceptions (index_in b) u v
  unfolding exceptions_asked
  said_is = answered_is (says_by_exceptions (index_in b) u v) (first ++ late) s e

  source : u < length (index_in b).names
  source = omega (arith, leb-false (counts_in b).n u behind.1.1.0, names_many b)

  target : v < length (index_in b).names
  target = omega (arith, leb-false (counts_in b).n v behind.1.1.1.0, names_many b)

  sound : Sound (index_in b)
  sound = contents_sound_lem (form_of (header_at b 0)) b (not-false _ behind.0)

  some : 0 < length (index_in b).labels
  some =
      let L = header_laid b host (header_pass host b marks 0 (pass_front first late passes)) in
      omega (arith, labels_many b, d_is L, L.least)

  -- the walk is answered too, and says the same
  pub exceptions_same : (t : Said) × (ask_answer host b u v marks 0 ≡ answered t) × (t.says ≡ s)
  unfolding ask_answer
  exceptions_same =
      let vertices : List Check = check (leb (counts_in b).n u) 14 0 ∷ check (leb (counts_in b).n v) 14 1 ∷ [] in
      let early = pass_both first vertices (pass_front first late passes) (behind.1.1.0, (behind.1.1.1.0, tt)) in (
        said_of (answer (index_in b) u v),
        stops_outcome (said_of (answer (index_in b) u v)) (ask_early host b u v marks 0 ++ (contents_check b ∷ [])) 8 (pass_both (ask_early host b u v marks 0) (contents_check b ∷ []) early (behind.0, tt)),
        sym (said_is ∙ tests_same (says_by_exceptions (index_in b) u v) (answer (index_in b) u v).says (says_same (index_in b) sound u v source target some)),
      )

  -- yes exactly where a path leads from source to target, in whatever graph yields the index
  pub exceptions_right : (M : Made (index_in b)) → (s ≡ true) ↔ Reaches M.graph u v
  exceptions_right M = rw said_is (says_right (index_in b) M u v source target)

-- two results that the contract allows are equal
pub record Allowed (b lists : List ℕ) (source target : ℕ) (marks : List ℕ) (r : Result Bool Refusal) (marks' : List ℕ) : Type 0 where
  pub answers : told.said_of r ≡ exceptions_asked b lists source target (length marks)
  pub leaves : marks' ≡ exception_marks b marks

pub said_once :
    {b lists : List ℕ} {u v : ℕ} {marks : List ℕ} {r r' : Result Bool Refusal} {m m' : List ℕ}
    → Allowed b lists u v marks r m → Allowed b lists u v marks r' m' → (r ≡ r') × (m ≡ m')
said_once A B = (outcome_once _ (λ s s' e. e) _ _ (A.answers ∙ sym B.answers), A.leaves ∙ sym B.leaves)
