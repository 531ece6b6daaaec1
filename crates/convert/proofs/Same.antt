-- Bytes that hold the same index, each with its header right and its contents sound, answer every call alike, whatever their forms: of the checks of header and
-- words none applies, the others look at n alone, and what is answered looks at the index alone.
use mathlib.Core.Bool.{Bool, false, ◌||◌, cond}
use mathlib.Core.Path.{◌≡◌, refl, sym, ap, ap₂, ◌∙◌}
use mathlib.Core.List.{List, [], ◌∷◌, ◌++◌}
use Prim.Native.Nat.{ℕ, ◌≤◌}
use lib.Dec.{leb, ltb}
use lib.ListN.{length, drop}
use borrow.Author.Tests.{le-ltb}
use Rattle.lineage.specs.Lists.{cleared}
use Rattle.lineage.specs.Index.{Index}
use Rattle.lineage.specs.Stored.{Counts, counts_in}
use Rattle.lineage.specs.Question.{answer, downstream}
use Rattle.lineage.specs.Calls.{Check, check, Outcome, refuse, outcome, any_applies, FormsTaken, words_in, form_checks, contents_check, index_in, Said, said_of, open_answer, ask_early, ask_answer, ask_marks, list_early, list_late, list_answer, list_output, list_marks}
use Rattle.laws.specs.Checks.{Pass}
use Rattle.stored_header.specs.Header.{header_checks}

-- the second checks are the first without some that do not apply
pub data Fewer : List Check → List Check → Type 0 where
  none : Fewer [] []
  keep : (c : Check) {cs ds : List Check} → Fewer cs ds → Fewer (c ∷ cs) (c ∷ ds)
  pass : (c : Check) {cs ds : List Check} → c.applies ≡ false → Fewer cs ds → Fewer (c ∷ cs) ds

pub fewer_outcome : {A : Type 0} (a : A) {cs ds : List Check} → Fewer cs ds → outcome cs a ≡ outcome ds a
fewer_outcome a none = refl
fewer_outcome a (keep c f) = ap (refuse c.applies c.number c.extra) (fewer_outcome a f)
fewer_outcome a (pass c h f) = rw h (fewer_outcome a f)

pub fewer_applies : {cs ds : List Check} → Fewer cs ds → any_applies cs ≡ any_applies ds
fewer_applies none = refl
fewer_applies (keep c f) = ap (λ (t : Bool). c.applies || t) (fewer_applies f)
fewer_applies (pass c h f) = rw h (fewer_applies f)

-- the header is right for a form that the call takes, the words suffice, and the contents are sound
pub record Right (T : FormsTaken) (b : List ℕ) (work : ℕ) : Type 0 where
  pub header : Pass (header_checks T b)
  pub words : words_in b ≤ work
  pub contents : (contents_check b).applies ≡ false

-- 13, for n vertices
abbrev pub marks_check : (n marks : ℕ) → Check
marks_check n marks = check (ltb marks n) 13 n

-- Each call by n and the index: its checks but for those that do not apply, and what it answers and leaves.
abbrev ask_checks : (n u v marks : ℕ) → List Check
ask_checks n u v marks = marks_check n marks ∷ check (leb n u) 14 0 ∷ check (leb n v) 14 1 ∷ []

abbrev asked_by : ℕ → Index → (u v marks : ℕ) → Outcome Said
asked_by n I u v marks = outcome (ask_checks n u v marks) (said_of (answer I u v))

abbrev ask_marks_by : ℕ → Index → (u v : ℕ) → List ℕ → List ℕ
ask_marks_by n I u v marks =
    let refused : Bool = any_applies (ask_checks n u v (length marks)) in
    cond refused (cond refused marks (cleared n marks)) ((answer I u v).marks ++ drop n marks)

abbrev vertex_checks : (n u marks : ℕ) → List Check
vertex_checks n u marks = marks_check n marks ∷ check (leb n u) 14 0 ∷ []

abbrev list_checks : ℕ → Index → (u marks out : ℕ) → List Check
list_checks n I u marks out =
    let count : ℕ = length (downstream I u) in marks_check n marks ∷ check (leb n u) 14 0 ∷ check (ltb out count) 16 count ∷ []

abbrev listed_by : ℕ → Index → (u marks out : ℕ) → Outcome ℕ
listed_by n I u marks out = outcome (list_checks n I u marks out) (length (downstream I u))

abbrev list_output_by : ℕ → Index → (u marks : ℕ) → List ℕ → List ℕ
list_output_by n I u marks out =
    let found : List ℕ = downstream I u in cond (any_applies (list_checks n I u marks (length out))) out (found ++ drop (length found) out)

module _ {T : FormsTaken} {b : List ℕ} {work : ℕ} (R : Right T b work) where
  abbrev n : ℕ
  n = (counts_in b).n

  pub front : (marks : ℕ) {cs ds : List Check} → Fewer cs ds → Fewer (form_checks T b marks work ++ cs) (marks_check n marks ∷ ds)
  front marks f =
      pass _ R.header.0 (pass _ R.header.1.0 (pass _ R.header.1.1.0 (keep _ (pass _ (le-ltb work (words_in b) R.words) f))))

  -- opening
  opened_by_lem : (marks : ℕ) → open_answer T b marks work ≡ outcome (marks_check n marks ∷ []) (counts_in b)
  unfolding open_answer
  opened_by_lem marks =
      let f : Fewer (form_checks T b marks work ++ (contents_check b ∷ [])) (marks_check n marks ∷ []) = front marks (pass _ R.contents none) in
      fewer_outcome (counts_in b) f

  -- a question
  module _ (u v : ℕ) where
    ask_fewer : (marks : ℕ) → Fewer (ask_early T b u v marks work ++ (contents_check b ∷ [])) (ask_checks n u v marks)
    ask_fewer marks = front marks (keep _ (keep _ (pass _ R.contents none)))

    ask_early_lem : (marks : ℕ) → Fewer (ask_early T b u v marks work) (ask_checks n u v marks)
    ask_early_lem marks = front marks (keep _ (keep _ none))

    asked_by_lem : (marks : ℕ) → ask_answer T b u v marks work ≡ asked_by n (index_in b) u v marks
    unfolding ask_answer
    asked_by_lem marks = fewer_outcome (said_of (answer (index_in b) u v)) (ask_fewer marks)

    ask_marks_by_lem : (marks : List ℕ) → ask_marks T b u v marks work ≡ ask_marks_by n (index_in b) u v marks
    unfolding ask_marks
    ask_marks_by_lem marks = rw (fewer_applies (ask_fewer (length marks)), fewer_applies (ask_early_lem (length marks)))

  -- a list
  module _ (u : ℕ) where
    list_fewer : (marks out : ℕ) → Fewer (list_early T b u marks work ++ list_late b u out) (list_checks n (index_in b) u marks out)
    list_fewer marks out = front marks (keep _ (pass _ R.contents (keep _ none)))

    list_early_lem : (marks : ℕ) → Fewer (list_early T b u marks work) (vertex_checks n u marks)
    list_early_lem marks = front marks (keep _ none)

    listed_by_lem : (marks out : ℕ) → list_answer T b u marks work out ≡ listed_by n (index_in b) u marks out
    unfolding list_answer
    listed_by_lem marks out = fewer_outcome (length (downstream (index_in b) u)) (list_fewer marks out)

    list_output_by_lem : (marks : ℕ) (out : List ℕ) → list_output T b u marks work out ≡ list_output_by n (index_in b) u marks out
    unfolding list_output
    list_output_by_lem marks out = rw (fewer_applies (list_fewer marks (length out)))

    list_marks_by : (marks : List ℕ) → list_marks T b u marks work ≡ cond (any_applies (vertex_checks n u (length marks))) marks (cleared n marks)
    unfolding list_marks
    list_marks_by marks = rw (fewer_applies (list_early_lem (length marks)))

-- two such bytes, of any forms that the call takes, with the same counts and the same index
pub record Alike (T : FormsTaken) (b b' : List ℕ) (work work' : ℕ) : Type 0 where
  pub right : Right T b work
  pub right' : Right T b' work'
  pub counts : counts_in b' ≡ counts_in b
  pub index : index_in b' ≡ index_in b

module _ {T : FormsTaken} {b b' : List ℕ} {work work' : ℕ} (S : Alike T b b' work work') where
  pub same_n : (counts_in b').n ≡ (counts_in b).n
  same_n = ap (λ (a : Counts). a.n) S.counts

  -- what both come to
  module _ {A : Type 0} (by : ℕ → Index → A) where
    pub by_same : by (counts_in b').n (index_in b') ≡ by (counts_in b).n (index_in b)
    by_same = ap₂ by same_n S.index

  pub opened_same : (marks : ℕ) → open_answer T b' marks work' ≡ open_answer T b marks work
  opened_same marks =
      opened_by_lem S.right' marks
      ∙ ap (λ (a : Counts). outcome (marks_check a.n marks ∷ []) a) S.counts
      ∙ sym (opened_by_lem S.right marks)

  module _ (u v : ℕ) where
    -- yes or no, the reason, the groups opened and the labelling, or the refusal; and the marks
    pub asked_same : (marks : ℕ) → ask_answer T b' u v marks work' ≡ ask_answer T b u v marks work
    asked_same marks =
        asked_by_lem S.right' u v marks ∙ by_same (λ (n : ℕ) (I : Index). asked_by n I u v marks) ∙ sym (asked_by_lem S.right u v marks)

    pub ask_marks_same : (marks : List ℕ) → ask_marks T b' u v marks work' ≡ ask_marks T b u v marks work
    ask_marks_same marks =
        ask_marks_by_lem S.right' u v marks ∙ by_same (λ (n : ℕ) (I : Index). ask_marks_by n I u v marks) ∙ sym (ask_marks_by_lem S.right u v marks)

  module _ (u : ℕ) where
    pub listed_same : (marks out : ℕ) → list_answer T b' u marks work' out ≡ list_answer T b u marks work out
    listed_same marks out =
        listed_by_lem S.right' u marks out ∙ by_same (λ (n : ℕ) (I : Index). listed_by n I u marks out) ∙ sym (listed_by_lem S.right u marks out)

    pub list_output_same : (marks : ℕ) (out : List ℕ) → list_output T b' u marks work' out ≡ list_output T b u marks work out
    list_output_same marks out =
        list_output_by_lem S.right' u marks out ∙ by_same (λ (n : ℕ) (I : Index). list_output_by n I u marks out) ∙ sym (list_output_by_lem S.right u marks out)

    pub list_marks_same : (marks : List ℕ) → list_marks T b' u marks work' ≡ list_marks T b u marks work
    list_marks_same marks =
        list_marks_by S.right' u marks
        ∙ ap (λ (n : ℕ). cond (any_applies (vertex_checks n u (length marks))) marks (cleared n marks)) same_n
        ∙ sym (list_marks_by S.right u marks)
