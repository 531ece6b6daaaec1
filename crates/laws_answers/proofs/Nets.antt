-- The net of a sound index. Its children are groups of lower levels, and each group has a mark of its own, at its name; so the walk of the index is
-- the one told by lists, and its marks are the bytes that name the groups opened.
use mathlib.Core.Bool.{cond}
use mathlib.Core.Logic.{◌↔◌}
use mathlib.Core.Path.{◌≡◌, sym, ap, subst, ◌∙◌}
use mathlib.Core.List.{List, [], ◌∷◌, map}
use Prim.Native.Nat.{ℕ, suc, ◌<◌}
use native.Mathlib.Omega.{arith}
use lib.Dec.{eqb}
use lib.ListN.{length, get_or, length-replicate, get_or-replicate}
use borrow.Author.Tests.{eqb-true, eq-eqb}
use Rattle.lineage.specs.Lists.{among}
use Rattle.lineage.specs.Index.{Index}
use Rattle.lineage.specs.Question.{net_of, walk, Answer}
use Rattle.laws.specs.Sound.{Sound}
use Rattle.laws.proofs.Lists.{table_is}
use Rattle.laws.proofs.Grouped.{group_name, place_one, child_in, levels_fall}
use Rattle.laws_answers.specs.Walks.{◌∈◌}
use Rattle.laws_answers.specs.Answers.{no_marks, marks_of, Marked}
use Rattle.laws_answers.proofs.Tries.{Lower}
use Rattle.laws_answers.proofs.Marks.{painted, painted_long, painted_at, painted_more, Spots, marked_is, ones_none, ones_painted}
use Rattle.laws_answers.proofs.Walked.{Held, Ran, walk_runs}

module _ (I : Index) (S : Sound I) where
  abbrev k : ℕ
  k = length I.children

  abbrev n : ℕ
  n = length I.names

  abbrev name : ℕ → ℕ
  name p = get_or I.groups p 0

  -- children are groups of lower levels
  pub lower : (t : ℕ) → Lower (net_of I t) (λ p. get_or I.levels p 0) k
  lower t = record { within = child_in S.condensed; falls = levels_fall S.condensed }

  -- each name is a byte of its own
  spots : Spots name k (no_marks I)
  spots = record {
    fits = λ p b. rw length-replicate (group_name S.condensed p b).0;
    apart = place_one S.condensed;
    clear = λ p b. get_or-replicate n (name p) 0 0 (group_name S.condensed p b).0;
  }

  -- the walk from x, told by lists
  pub walk_ran : (x t : ℕ) → x < k → Ran (net_of I t) k (no_marks I) (get_or I.children x []) (x ∷ []) 0 (walk I t x (no_marks I))
  unfolding walk
  walk_ran x t b = walk_runs (net_of I t) (lower t) spots x (suc (get_or I.levels x 0)) b (omega arith)

  -- the marks of groups, byte by byte
  painted_marks : (o : List ℕ) → ((p : ℕ) → p ∈ o → p < k) → painted name o (no_marks I) ≡ marks_of I o
  painted_marks o low =
      sym (table_is (λ i. cond (among i (map name o)) 1 0) (painted name o (no_marks I)) n 0
      (painted_long name o (no_marks I) ∙ length-replicate n 0)
      (λ i h. sym (painted_at name (no_marks I) o (λ p j. spots.fits p (low p j)) i ∙ ap (cond (among i (map name o)) 1) (get_or-replicate {A = ℕ} n i 0 0 h))))

  -- a group's byte is 1 exactly where the group is among them
  pub mark_is : (o : List ℕ) → ((p : ℕ) → p ∈ o → p < k) → (p : ℕ) → p < k → (get_or (marks_of I o) (name p) 0 ≡ 1) ↔ (p ∈ o)
  mark_is o low p b =
      let e : eqb (get_or (marks_of I o) (name p) 0) 1 ≡ among p o =
      subst (λ (m : List ℕ). eqb (get_or m (name p) 0) 1 ≡ among p o) (painted_marks o low) (marked_is spots p b o low) in
      (λ h. sym e ∙ eq-eqb (get_or (marks_of I o) (name p) 0) 1 h, λ i. eqb-true (get_or (marks_of I o) (name p) 0) 1 (e ∙ i))

  -- more groups, more marks
  pub marks_more : (o₁ o₂ : List ℕ) → ((p : ℕ) → p ∈ o₁ → p < k) → ((p : ℕ) → p ∈ o₂ → p ∈ o₁) → (i : ℕ) → get_or (marks_of I o₂) i 0 ≡ 1 → get_or (marks_of I o₁) i 0 ≡ 1
  marks_more o₁ o₂ low up i h =
      rw (← painted_marks o₁ low)
      (painted_more name (no_marks I) o₁ o₂ (λ p j. spots.fits p (low p j)) up i (rw (← painted_marks o₂ (λ p j. low p (up p j))) at h))

  -- an answer that counts and marks the groups
  pub marked_of : {a : Answer} (o : List ℕ) → Held k o → a.opened ≡ length o → a.marks ≡ painted name o (no_marks I) → Marked I o a
  marked_of o H c m = record {
    once = H.once;
    low = H.low;
    count = c;
    left = rw m (omega (arith, ones_painted spots o H.once H.low, ones_none n));
    marks = m ∙ painted_marks o H.low;
  }
