-- What a call on exception lists answers and leaves, by where its checks stop: at one of those that it shares with the other calls, or at one behind them. And what bytes and
-- lists are that the shared checks let through.
use Rattle.std.specs.Prelude.{Result, Ok, Err, IsErrAnd}
use mathlib.Core.Bool.{Bool, false, cond}
use mathlib.Core.Path.{◌≡◌, refl, sym, ap, ◌∙◌}
use mathlib.Core.List.{List, [], ◌∷◌, ◌++◌, append-nil}
use Prim.Native.Nat.{ℕ, ◌≤◌}
use native.Mathlib.Omega.{arith}
use lib.Dec.{leb}
use lib.ListN.{length, drop}
use borrow.Author.Tests.{leb-true, not-false}
use Rattle.lineage.specs.Lists.{same_list, cleared}
use Rattle.lineage.specs.Stored.{Form, form_of, header_at, counts_in, counts_fit, offsets_fit}
use Rattle.lineage.specs.Calls.{Check, check, Outcome, refused, answered, outcome, any_applies, host, takes, contents_check, index_in}
use Rattle.laws.specs.Checks.{Stops, Pass, stopped, Comes}
use Rattle.laws.proofs.Tests.{both, neither}
use Rattle.laws.proofs.Lists.{same_list_lem}
use Rattle.laws.proofs.Checks.{stops_outcome, stops_early, pass_front, pass_behind, answered_pass, answered_is, refused_comes, rest_comes}
use Rattle.laws_exceptions.specs.Exceptions.{encode_exceptions, says_by_exceptions}
use Rattle.stored_header.specs.declared.Layout.{Layout}
use Rattle.stored_header.specs.Header.{layout_in}
use Rattle.stored_header.proofs.Laid.{n_is, cleared_in}
use Rattle.stored_header.proofs.Admitted.{Admits, admitted, admitted_laid}
use Rattle.exceptions.specs.Calls.{form_one_checks, sound_checks, exceptions_built, exceptions_output, belong_check, listed_checks, list_counts, exceptions_opened, exceptions_asked, exception_marks}
use Rattle.refusals.specs.declared.Refusal.{Refusal}
use Rattle.refusals.specs.Refusals.{number_of, extra_of, outcome_by}
use Rattle.numbers.proofs.Cleared.{cleared_again}
use Rattle.sound_places.specs.declared.SoundImage.{SoundImage}
use Rattle.exceptions.specs.Written.{written_of, room_checks, Fills}

-- behind checks that were made by another call: it refused, or these stop at number i
module _ {A B : Type 0} (z : B) (a : A) (cs ds : List Check) where
  pub behind_refused : {x y : ℕ} → refused x y ≡ outcome cs z → refused x y ≡ outcome (cs ++ ds) a
  behind_refused {x} {y} e = sym (rw append-nil at (refused_comes a z cs [] ds x y (sym e)).says)

  pub behind_stops : Pass cs → (i : ℕ) → Stops ds i → stopped ds i a ≡ outcome (cs ++ ds) a
  behind_stops p i s = sym (rest_comes a [] cs ds p (stops_outcome a ds i s)).says

-- what is answered where `?` passed a refusal on
pub passed_on : {A B : Type 0} (f : A → B) (r : Result A Refusal) (e : Refusal) {o : Outcome B} → IsErrAnd r (λ y. y ≡ e) → refused (number_of e) (extra_of e) ≡ o
    → outcome_by f r ≡ o
passed_on f (Ok a) e h says = absurd h
passed_on f (Err y) e h says = rw h says

-- form 1 has at most 4,096 vertices
module _ (b : List ℕ) (marks : ℕ) (passes : Pass (form_one_checks b marks)) where
  one : header_at b 0 ≡ 1
  one =
      let (low, high) = both (leb 1 (header_at b 0)) (leb (header_at b 0) 1) (both _ _ (not-false (takes host (header_at b 0)) passes.1.0)).0 in
      omega (arith, leb-true 1 (header_at b 0) low, leb-true (header_at b 0) 1 high)

  most : (form_of (header_at b 0)).vertices ≡ 4096
  most = ap (λ (z : ℕ). (form_of z).vertices) one

  pub counts_few : (counts_in b).n ≤ 4096
  counts_few =
      let F : Form = form_of (header_at b 0) in
      let fits = (neither (counts_fit F (counts_in b)) (offsets_fit F (counts_in b) b) passes.1.1.0).0 in
      omega (arith, most, leb-true (counts_in b).n F.vertices (both (leb (counts_in b).n F.vertices) _ fits).0)

pub vertices_few : {b : List ℕ} {marks : ℕ} {l : Layout} → Admits host b marks 0 l → l.n ≤ 4096
vertices_few {b} {marks} A = omega (arith, n_is (admitted_laid A), counts_few b marks (admitted A))

-- an image as its bytes and their layout, and the layout that the header of bytes says
abbrev pub seen : SoundImage → List ℕ × Layout
seen s = (s.image.bytes.now, s.image.layout)

abbrev pub header_of : List ℕ → List ℕ × Layout
header_of b = (b, layout_in b)

-- `admit_sound` let bytes through, as this image
pub record AdmitsSound (b : List ℕ) (marks : ℕ) (s : SoundImage) : Type 0 where
  pub passes : answered (seen s) ≡ outcome (sound_checks b marks) (header_of b)

module _ {b : List ℕ} {marks : ℕ} {s : SoundImage} (A : AdmitsSound b marks s) where
  pub sound_passed : Pass (sound_checks b marks)
  sound_passed = answered_pass (header_of b) (sound_checks b marks) (seen s) (sym A.passes)

  own_is : seen s ≡ header_of b
  own_is = answered_is (header_of b) (sound_checks b marks) (seen s) (sym A.passes)

  pub image_is : answered (seen s) ≡ answered (header_of b)
  image_is = ap answered own_is

  pub sound_bytes_are : s.image.bytes.now ≡ b
  sound_bytes_are = ap (λ (z : List ℕ × Layout). z.0) own_is

  pub sound_admits : Admits host b marks 0 s.image.layout
  sound_admits = record {
    passes =
        ap (λ (z : List ℕ × Layout). answered z.1) own_is
        ∙ sym (stops_outcome (layout_in b) (form_one_checks b marks) 5 (pass_front (form_one_checks b marks) (contents_check b ∷ []) sound_passed));
  }

  pub groups_few : s.image.layout.k ≤ 4096
  groups_few = omega (arith, vertices_few sound_admits, s.image.laid.groups)

-- and `admit_lists` lists beside them
pub record AdmitsLists (b lists : List ℕ) (marks : ℕ) (s : SoundImage) : Type 0 where
  pub passes : answered (seen s) ≡ outcome (listed_checks b lists marks) (header_of b)

module _ {b lists : List ℕ} {marks : ℕ} {s : SoundImage} (A : AdmitsLists b lists marks s) where
  pub listed_passed : Pass (listed_checks b lists marks)
  listed_passed = answered_pass (header_of b) (listed_checks b lists marks) (seen s) (sym A.passes)

  pub listed_sound : AdmitsSound b marks s
  listed_sound = record {
    passes =
        ap answered (answered_is (header_of b) (listed_checks b lists marks) (seen s) (sym A.passes))
        ∙ sym (stops_outcome (header_of b) (sound_checks b marks) 6 (pass_front (sound_checks b marks) (belong_check b lists ∷ []) listed_passed));
  }

  pub listed_belong : lists ≡ encode_exceptions (index_in s.image.bytes.now)
  listed_belong =
      let own : List ℕ = encode_exceptions (index_in b) in
      same_list_lem lists own (not-false (same_list lists own) (pass_behind (sound_checks b marks) (belong_check b lists ∷ []) listed_passed).0)
      ∙ ap (λ (z : List ℕ). encode_exceptions (index_in z)) (sym (sound_bytes_are listed_sound))

module _ (b marks : List ℕ) where
  abbrev first : List Check
  first = form_one_checks b (length marks)

  -- the marks after 10 to 13, and behind them
  pub marks_kept : {x y : ℕ} → refused x y ≡ outcome first (layout_in b) → marks ≡ exception_marks b marks
  unfolding exception_marks
  marks_kept {x} {y} e = rw (refused_comes (layout_in b) (layout_in b) first [] [] x y (sym e)).before

  module _ {l : Layout} (A : Admits host b (length marks) 0 l) where
    behind : exception_marks b marks ≡ cleared (counts_in b).n marks
    unfolding exception_marks
    behind = let none : any_applies first ≡ false = stops_early first [] 5 (admitted A) in rw none refl

    pub marks_cleared : {m : List ℕ} → m ≡ cleared l.n marks → m ≡ exception_marks b marks
    marks_cleared e = cleared_in (admitted_laid A) marks e ∙ sym behind

    pub marks_clear : {m : List ℕ} → m ≡ exception_marks b marks → m ≡ cleared l.n m
    marks_clear e = cleared_again _ _ (e ∙ behind ∙ sym (cleared_in (admitted_laid A) marks refl))

  abbrev own : List ℕ × Layout
  own = header_of b

  -- 15, and behind it 20
  pub sound_refused : {x y : ℕ} → refused x y ≡ outcome first (layout_in b) → refused x y ≡ outcome (sound_checks b (length marks)) own
  sound_refused e = behind_refused (layout_in b) own first (contents_check b ∷ []) e

  pub sound_at : {l : Layout} → Admits host b (length marks) 0 l → (i : ℕ) → Stops (contents_check b ∷ []) i
      → stopped (contents_check b ∷ []) i own ≡ outcome (sound_checks b (length marks)) own
  sound_at A i s = behind_stops (layout_in b) own first (contents_check b ∷ []) (admitted A) i s

  module _ (lists : List ℕ) where
    pub lists_refused :
        {x y : ℕ} → refused x y ≡ outcome (sound_checks b (length marks)) own → refused x y ≡ outcome (listed_checks b lists (length marks)) own
    lists_refused e = behind_refused own own (sound_checks b (length marks)) (belong_check b lists ∷ []) e

    pub lists_at : Pass (sound_checks b (length marks)) → (i : ℕ) → Stops (belong_check b lists ∷ []) i
        → stopped (belong_check b lists ∷ []) i own ≡ outcome (listed_checks b lists (length marks)) own
    lists_at p i s = behind_stops own own (sound_checks b (length marks)) (belong_check b lists ∷ []) p i s

    -- what is opened
    pub opens_refused : {x y : ℕ} → refused x y ≡ outcome (listed_checks b lists (length marks)) own → refused x y ≡ exceptions_opened b lists (length marks)
    unfolding exceptions_opened
    opens_refused e = behind_refused own (list_counts (index_in b)) (listed_checks b lists (length marks)) [] e

    pub opens_done : Pass (listed_checks b lists (length marks)) → answered (list_counts (index_in b)) ≡ exceptions_opened b lists (length marks)
    unfolding exceptions_opened
    opens_done p = sym (stops_outcome (list_counts (index_in b)) (listed_checks b lists (length marks)) 7 p)

  -- a question by lists that belong
  module _ (lists : List ℕ) (u v : ℕ) where
    abbrev vertices : List Check
    vertices = check (leb (counts_in b).n u) 14 0 ∷ check (leb (counts_in b).n v) 14 1 ∷ []

    abbrev pub Asks : Outcome Bool → Type 0
    Asks o = o ≡ exceptions_asked b lists u v (length marks)

    pub asks_refused : {x y : ℕ} → refused x y ≡ outcome (listed_checks b lists (length marks)) own → Asks (refused x y)
    unfolding exceptions_asked
    asks_refused e = behind_refused own (says_by_exceptions (index_in b) u v) (listed_checks b lists (length marks)) vertices e

    pub asks_at : Pass (listed_checks b lists (length marks)) → (i : ℕ) → Stops vertices i → Asks (stopped vertices i (says_by_exceptions (index_in b) u v))
    unfolding exceptions_asked
    asks_at p i s = behind_stops own (says_by_exceptions (index_in b) u v) (listed_checks b lists (length marks)) vertices p i s

  -- building: the output too
  module _ (out : List ℕ) where
    abbrev lists : List ℕ
    lists = encode_exceptions (index_in b)

    abbrev shared : List Check
    shared = sound_checks b (length marks)

    abbrev pub Builds : Outcome ℕ → List ℕ → Type 0
    Builds o f = (o ≡ exceptions_built b (length marks) (length out)) × (f ≡ exceptions_output b (length marks) out)

    builds_by : {o : Outcome ℕ} {kept stops : Bool} → Comes shared (room_checks lists (length out)) (length lists) o kept stops
        → Builds o (cond stops out (lists ++ drop (length lists) out))
    unfolding exceptions_built exceptions_output
    builds_by C = (sym C.says, rw C.all)

    pub builds_refused : {x y : ℕ} → refused x y ≡ outcome shared own → Builds (refused x y) out
    builds_refused e = builds_by (refused_comes (length lists) own shared [] (room_checks lists (length out)) _ _ (sym e))

    pub builds_filled : {s : SoundImage} → AdmitsSound b (length marks) s → {r : Result ℕ Refusal} {f : List ℕ} → Fills (encode_exceptions (index_in s.image.bytes.now)) out r f
        → Builds (written_of r) f
    builds_filled A {r} {f} W =
        let W' : Fills lists out r f = rw (sound_bytes_are A) at W in
        let (o, f) = builds_by (rest_comes (length lists) shared [] (room_checks lists (length out)) (sound_passed A) (sym W'.answers)) in (o, W'.writes ∙ f)
