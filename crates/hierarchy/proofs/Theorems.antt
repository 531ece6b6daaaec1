-- What an answer to a question on a stored plain hierarchy says, whatever edge list and order yield the bytes: it is yes exactly where a path of zero or more edges leads from
-- source to target, and exactly where the source's outer interval contains the target's; its reason is one of 1 to 4, no group is opened, no mark is left, and the one
-- labelling decides under 2 and 4. `ask_hierarchy` gives these answers, by its contract.
use mathlib.Core.Bool.{true, ◌||◌, cond}
use mathlib.Core.Logic.Iff
use mathlib.Core.Logic.{◌↔◌}
use mathlib.Core.Path.{◌≡◌, refl, ap, subst, ◌∙◌}
use mathlib.Core.List.{List, [], ◌∷◌, ◌++◌}
use Prim.Native.Nat.{ℕ, ◌≤◌, ◌<◌}
use native.Mathlib.Omega.{arith}
use lib.Dec.{eqb, leb}
use lib.ListN.{length, drop, replicate}
use borrow.Author.Tests.{not-false}
use Rattle.lineage.specs.Lists.{cleared}
use Rattle.lineage.specs.Graph.{Reaches}
use Rattle.lineage.specs.Labels.{Labelling}
use Rattle.lineage.specs.Index.{Index, Made}
use Rattle.lineage.specs.Question.{place_in, answer}
use Rattle.lineage.specs.Sound.{is_tree, contents_sound}
use Rattle.lineage.specs.Stored.{Form, counts_in, header_at, form_of}
use Rattle.lineage.specs.Calls.{Check, check, answered, hierarchy, form_checks, contents_check, index_in, Said, said_of, ask_early, ask_answer, ask_marks}
use Rattle.laws.specs.Checks.{Pass}
use Rattle.laws.proofs.Checks.{answered_pass, pass_front, pass_behind}
use Rattle.laws_answers.specs.Answers.{Member}
use Rattle.laws_hierarchy.specs.Hierarchy.{Contained, Alike}
use Rattle.laws_hierarchy.proofs.Pairs.{pairs_alike}
use Rattle.laws_hierarchy.proofs.Contained.{contained_reaches}
use Rattle.laws_hierarchy.proofs.Unopened.{none_opened, first_decides}
use Rattle.stored_header.specs.Header.{header_checks}
use Rattle.stored_header.proofs.Admitted.{header_pass}
use Rattle.stored.proofs.Contents.{names_many, labels_many, contents_tree}
use Rattle.ask.proofs.Answered.{Answered, answered_only}
use Rattle.ask.proofs.Theorems.{asked_right, marks_are}
use Rattle.hierarchy.proofs.Admitted.{form_is, one_labelling}

module _ (b : List ℕ) (u v : ℕ) (marks : List ℕ) (w : ℕ) (s : Said) (e : ask_answer hierarchy b u v (length marks) w ≡ answered s) where
  abbrev I : Index
  I = index_in b

  abbrev F : Form
  F = form_of (header_at b 0)

  -- those behind 6
  abbrev own : List Check
  own = check (leb (counts_in b).n u) 14 0 ∷ check (leb (counts_in b).n v) 14 1 ∷ contents_check b ∷ []

  passes : Pass (ask_early hierarchy b u v (length marks) w ++ (contents_check b ∷ []))
  unfolding ask_answer
  passes = answered_pass (said_of (answer I u v)) (ask_early hierarchy b u v (length marks) w ++ (contents_check b ∷ [])) s e

  header : Pass (header_checks hierarchy b)
  header = header_pass hierarchy b (length marks) w (pass_front (form_checks hierarchy b (length marks) w) own passes)

  A : Answered b u v s
  A = answered_only hierarchy b u v (length marks) w s e

  source : u < length I.names
  source = omega (arith, names_many b, A.source_low)

  target : v < length I.names
  target = omega (arith, names_many b, A.target_low)

  some : 0 < length I.labels
  some = omega (arith, labels_many b, A.some)

  one : length I.labels ≡ 1
  one = labels_many b ∙ one_labelling 4 b header refl

  alike : Alike I
  alike = pairs_alike F b (ap (λ (G : Form). G.by_place) (form_is 4 b header))

  -- the bytes hold a plain hierarchy
  pub asked_tree : is_tree I.children ≡ true
  asked_tree =
      contents_tree F b (not-false (contents_sound F b) (pass_behind (form_checks hierarchy b (length marks) w) own passes).1.1.0)
      (ap (λ (G : Form). G.tree) (form_is 4 b header))

  -- one of the reasons 1 to 4, no group opened, and the labelling that there is under 2 and 4
  pub asked_plain : (s.reason ≤ 4) × ((s.opened ≡ 0) × (s.deciding ≡ cond (eqb s.reason 2 || eqb s.reason 4) 1 0))
  asked_plain =
      let (low, none, left) = none_opened I A.sound alike some u v target in
      subst (λ (z : Said). (z.reason ≤ 4) × ((z.opened ≡ 0) × (z.deciding ≡ cond (eqb z.reason 2 || eqb z.reason 4) 1 0))) A.said
      (low, (none, first_decides I A.sound alike one u v source target))

  -- marks below n are 0, and later ones as they were
  pub asked_unmarked : ask_marks hierarchy b u v marks w ≡ cleared (counts_in b).n marks
  unfolding cleared
  asked_unmarked =
      let (low, none, left) = none_opened I A.sound alike some u v target in
      marks_are hierarchy b u v marks w s e
      ∙ ap (λ (m : List ℕ). m ++ drop (counts_in b).n marks) (left ∙ ap (λ (n : ℕ). replicate n 0) (names_many b))

  -- yes exactly where a path leads, and exactly where the source's outer interval contains the target's
  pub asked_path : (M : Made I) → (s.says ≡ true) ↔ Reaches M.graph u v
  asked_path M = asked_right hierarchy b u v marks w s e M

  pub asked_contained : (M : Made I) (l : Labelling) → Member l I.labels → (s.says ≡ true) ↔ Contained l (place_in I u) (place_in I v)
  asked_contained M l i = Iff.trans (asked_path M) (Iff.symm (contained_reaches M asked_tree l i u v source target))
