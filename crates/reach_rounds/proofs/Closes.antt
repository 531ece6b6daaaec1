-- Each round that goes on marks the group of some added edge's target that was not marked, and takes no mark away; where no edge leads out, an edge's target is marked
-- wherever its source is.
use mathlib.Core.Bool.{Bool, true, false, not}
use mathlib.Core.Logic.{◌⊎◌, inl, inr}
use mathlib.Core.Path.{◌≡◌, refl, sym, ap, ◌∙◌}
use mathlib.Core.List.{List, [], ◌∷◌}
use Prim.Native.Nat.{ℕ, ◌≤◌, ◌<◌}
use native.Mathlib.Omega.{arith}
use lib.ListN.{length, get_or, set, length-set}
use lib.Seq.{get_or-set_same}
use borrow.Author.Tests.{eqb-true, eq-eqb, not-true}
use Rattle.lineage.specs.Lists.{among, those}
use Rattle.lineage.specs.Graph.{Edge, first, later}
use Rattle.laws.proofs.Tests.{clash, and_right, or_false_left, or_false_right}
use Rattle.laws.proofs.Lists.{here, there, in_cons, those_yes, those_no}
use Rattle.laws.proofs.Rising.{those_le}
use Rattle.numbers.proofs.Marks.{marks_keep}
use Rattle.reach_rounds.specs.Rounds.{is_marked, leads_out, crossed, spread_over, one_led_out}

-- an edge that leads out marks; one that does not changes nothing
module _ (names : List ℕ) (s t : ℕ) (marks : List ℕ) where
  pub either : (P : List ℕ → Type 0) → (leads_out names marks s t ≡ true → P (set marks (get_or names t 0) 1)) → P marks → P (crossed names s t marks)
  unfolding crossed
  either P with_mark without = at (leads_out names marks s t) refl
    where
      at : (b : Bool) → leads_out names marks s t ≡ b → P (crossed names s t marks)
      at true e = rw e (with_mark e)
      at false e = rw e without

  crossed_long : length (crossed names s t marks) ≡ length marks
  crossed_long = either (λ m. length m ≡ length marks) (λ e. length-set marks (get_or names t 0) 1) refl

pub spread_long : (names S T marks : List ℕ) → length (spread_over names S T marks) ≡ length marks
unfolding spread_over
spread_long names [] T marks = refl
spread_long names (s ∷ S) [] marks = refl
spread_long names (s ∷ S) (t ∷ T) marks = spread_long names S T (crossed names s t marks) ∙ crossed_long names s t marks

-- fewer pass a stronger test that one of them fails
those_less :
    (p q : ℕ → Bool) (xs : List ℕ) (t : ℕ) → ((x : ℕ) → p x ≡ true → q x ≡ true) → among t xs ≡ true → q t ≡ true → p t ≡ false
    → length (those p xs) < length (those q xs)
those_less p q [] t w i yes-q no-p = clash i refl
those_less p q (x ∷ xs) t w i yes-q no-p = at (p x) refl (q x) refl (in_cons t x xs i) (λ j. those_less p q xs t w j yes-q no-p)
  where
    at :
        (a : Bool) → p x ≡ a → (b : Bool) → q x ≡ b → (t ≡ x) ⊎ (among t xs ≡ true) → (among t xs ≡ true → length (those p xs) < length (those q xs))
        → length (those p (x ∷ xs)) < length (those q (x ∷ xs))
    at true ea true eb (inl e) ih = clash (rw (sym e) at ea) no-p
    at true ea true eb (inr j) ih = rw (those_yes p x xs ea, those_yes q x xs eb) (omega (arith, ih j))
    at true ea false eb c ih = clash (w x ea) eb
    at false ea true eb c ih = rw (those_no p x xs ea, those_yes q x xs eb) (omega (arith, those_le p q xs w))
    at false ea false eb (inl e) ih = clash yes-q (rw e eb)
    at false ea false eb (inr j) ih = rw (those_no p x xs ea, those_no q x xs eb) (ih j)

-- how many vertices of the list have a group that is not marked
abbrev pub bare : List ℕ → List ℕ → List ℕ → ℕ
bare names T marks = length (those (λ t. not (is_marked names marks t)) T)

module _ (names : List ℕ) where
  -- no mark is taken away
  pub record Keeps (before after : List ℕ) : Type 0 where
    pub each : (x : ℕ) → is_marked names before x ≡ true → is_marked names after x ≡ true

  crossed_keeps : (s t : ℕ) (marks : List ℕ) → Keeps marks (crossed names s t marks)
  crossed_keeps s t marks = record {
    each = λ x h.
        either names s t marks (λ m. is_marked names m x ≡ true) (λ e. eq-eqb _ 1 (marks_keep (get_or names t 0 ∷ []) marks (get_or names x 0) (eqb-true _ 1 h))) h;
  }

  pub spread_keeps : (S T marks : List ℕ) → Keeps marks (spread_over names S T marks)
  unfolding spread_over
  spread_keeps [] T marks = record { each = λ x h. h }
  spread_keeps (s ∷ S) [] marks = record { each = λ x h. h }
  spread_keeps (s ∷ S) (t ∷ T) marks =
      let K = spread_keeps S T (crossed names s t marks) in
      record { each = λ x h. K.each x ((crossed_keeps s t marks).each x h) }

  -- what is not marked afterwards was not before
  still_bare : {before after : List ℕ} → Keeps before after → (x : ℕ) → not (is_marked names after x) ≡ true → not (is_marked names before x) ≡ true
  still_bare {before} {after} k x h = at (is_marked names before x) refl
    where
      at : (b : Bool) → is_marked names before x ≡ b → not (is_marked names before x) ≡ true
      at true e = clash (k.each x e) (not-true (is_marked names after x) h)
      at false e = rw e refl

  pub bare_less : (T : List ℕ) {before after : List ℕ} → Keeps before after → bare names T after ≤ bare names T before
  bare_less T {before} {after} k = those_le (λ t. not (is_marked names after t)) (λ t. not (is_marked names before t)) T (still_bare k)

  -- an edge that led out marked its target's group
  record Gained (T before after : List ℕ) : Type 0 where
    who : ℕ
    in_list : among who T ≡ true
    was_not : is_marked names before who ≡ false
    now_is : is_marked names after who ≡ true

  gains :
      (S T marks : List ℕ) → ((a b : ℕ) → Edge S T a b → get_or names b 0 < length marks) → one_led_out names S T marks ≡ true
      → Gained T marks (spread_over names S T marks)
  unfolding spread_over one_led_out crossed leads_out
  gains [] T marks low h = clash h refl
  gains (s ∷ S) [] marks low h = clash h refl
  gains (s ∷ S) (t ∷ T) marks low h = at (leads_out names marks s t) refl (gains S T marks (λ a b e. low a b (later e)))
    where
      at :
          (b : Bool) → leads_out names marks s t ≡ b → (one_led_out names S T marks ≡ true → Gained T marks (spread_over names S T marks))
          → Gained (t ∷ T) marks (spread_over names S T (crossed names s t marks))
      at true e ih = record {
        who = t;
        in_list = here t T;
        was_not = not-true (is_marked names marks t) (and_right (is_marked names marks s) (not (is_marked names marks t)) e);
        now_is = (spread_keeps S T (crossed names s t marks)).each t (rw e (eq-eqb _ 1 (get_or-set_same marks (get_or names t 0) 1 0 (low s t first))));
      }
      at false e ih =
          let g = ih (rw e at h) in
          record { who = g.who; in_list = there g.who t T g.in_list; was_not = g.was_not; now_is = rw e g.now_is }

  pub bare_falls :
      (S T marks : List ℕ) → ((a b : ℕ) → Edge S T a b → get_or names b 0 < length marks) → one_led_out names S T marks ≡ true
      → bare names T (spread_over names S T marks) < bare names T marks
  bare_falls S T marks low h =
      let g = gains S T marks low h in
      those_less (λ t. not (is_marked names (spread_over names S T marks) t)) (λ t. not (is_marked names marks t)) T g.who (still_bare (spread_keeps S T marks))
      g.in_list (rw g.was_not refl) (rw g.now_is refl)

  -- no edge leads out: its target is marked where its source is
  pub still_closed :
      (S T marks : List ℕ) → one_led_out names S T marks ≡ false → (a b : ℕ) → Edge S T a b → is_marked names marks a ≡ true → is_marked names marks b ≡ true
  unfolding one_led_out crossed leads_out
  still_closed [] T marks h a b e m = elim e [ ]
  still_closed (s ∷ S) [] marks h a b e m = elim e [ ]
  still_closed (s ∷ S) (t ∷ T) marks h a b first m = at (is_marked names marks t) refl
    where
      at : (b : Bool) → is_marked names marks t ≡ b → is_marked names marks t ≡ true
      at true e = e
      at false e = clash (rw (m, e) refl) (or_false_left (leads_out names marks s t) (one_led_out names S T (crossed names s t marks)) h)
  still_closed (s ∷ S) (t ∷ T) marks h a b (later e) m =
      still_closed S T marks
      (ap (one_led_out names S T) (sym (rw (or_false_left (leads_out names marks s t) (one_led_out names S T (crossed names s t marks)) h) refl))
      ∙ or_false_right (leads_out names marks s t) (one_led_out names S T (crossed names s t marks)) h) a b e m
