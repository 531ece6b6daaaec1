-- Marks of vertices: n of them, in front of those that were, written one after the other. Where a vertex is marked by its group, whose mark stands at its name, the
-- name of the next vertex is either passed already, and then still marked as before since it is its own name, or the vertex itself.
use mathlib.Core.Bool.{Bool, true, false, cond}
use mathlib.Core.Path.{◌≡◌, refl, sym, ap, ◌∙◌}
use mathlib.Core.List.{List, [], ◌∷◌, ◌++◌, map, map-append}
use Prim.Native.Nat.{ℕ, suc, ◌+◌, ◌-◌, ◌≤◌, ◌<◌}
use native.Mathlib.Decide.{ℕ_discrete}
use native.Mathlib.Numerals.{add-one}
use native.Mathlib.Omega.{arith}
use lib.Dec.{eqb}
use lib.ListN.{length, get_or, set, drop, length-append, length-drop, get_or-append}
use lib.Seq.{drop-cons, drop_at, set_at, append_snoc, get_or-drop, get_or-append-add}
use mir.Val.{bool_byte}
use Rattle.lineage.specs.Lists.{upto}
use Rattle.laws.proofs.Lists.{table_at, table_long, table_same}
use Rattle.numbers.proofs.Numbers.{numbers_long}
use Rattle.stored.specs.declared.reading.Numbers.{Numbers}
use Rattle.stored.specs.Reading.{numbers_of}
use Rattle.rules_states.specs.Marks.{marks_of, group_mark, vertex_marks, Named}

module _ (f : ℕ → ℕ) (m : List ℕ) where
  pub marks_none : m ≡ marks_of 0 f m
  unfolding marks_of
  marks_none = refl

  marks_suc : (i : ℕ) → i < length m → set (marks_of i f m) i (f i) ≡ marks_of (suc i) f m
  unfolding marks_of
  marks_suc i h =
      rw (drop-cons m i 0 h, map-append f (upto i) (i ∷ []))
      (set_at (map f (upto i)) (get_or m i 0) (drop (suc i) m) (f i) i (table_long f i) ∙ sym (append_snoc (map f (upto i)) (f i) (drop (suc i) m)))

  pub marks_more : (i : ℕ) {now : List ℕ} {x : ℕ} → i < length m → now ≡ marks_of i f m → x ≡ f i → set now i x ≡ marks_of (i + 1) f m
  marks_more i h e is = rw (is, e, add-one) (marks_suc i h)

  pub marks_at : (i v : ℕ) → v < i → get_or (marks_of i f m) v 0 ≡ f v
  unfolding marks_of
  marks_at i v h = get_or-append (map f (upto i)) (drop i m) 0 v (omega (arith, table_long f i)) ∙ table_at f i v 0 h

  pub marks_past : (i v : ℕ) → i ≤ v → get_or (marks_of i f m) v 0 ≡ get_or m v 0
  unfolding marks_of
  marks_past i v h =
      let far : v ≡ length (map f (upto i)) + (v - i) = omega (arith, table_long f i) in
      let near : i + (v - i) ≡ v = omega arith in
      ap (λ (j : ℕ). get_or (map f (upto i) ++ drop i m) j 0) far
      ∙ get_or-append-add (map f (upto i)) (drop i m) (v - i) 0
      ∙ get_or-drop i m (v - i) 0
      ∙ ap (λ (j : ℕ). get_or m j 0) near

  -- as many as before, and from n on as they were
  pub marks_long : (n : ℕ) → n ≤ length m → length (marks_of n f m) ≡ length m
  unfolding marks_of
  marks_long n h = omega (arith, length-append (map f (upto n)) (drop n m), table_long f n, length-drop n m)

  pub marks_behind : (n : ℕ) → drop n (marks_of n f m) ≡ drop n m
  unfolding marks_of
  marks_behind n = drop_at (map f (upto n)) (drop n m) n (table_long f n)

-- two ways to tell the marks of n vertices that agree
pub marks_same : (n : ℕ) (f g : ℕ → ℕ) (m : List ℕ) → ((v : ℕ) → v < n → f v ≡ g v) → marks_of n f m ≡ marks_of n g m
unfolding marks_of
marks_same n f g m e = ap (λ (xs : List ℕ). xs ++ drop n m) (table_same f g n e)

-- 1 or 0 by a test, and the test again; a cast makes them so
pub bit_back : (t : Bool) → eqb (cond t 1 0) 1 ≡ t
bit_back true = refl
bit_back false = refl

bit_cast : (t : Bool) → bool_byte t ≡ cond t 1 0
bit_cast true = refl
bit_cast false = refl

module _ {names : List ℕ} (m : List ℕ) (N : Named names (length m)) where
  abbrev own : ℕ → ℕ
  own = group_mark names m

  -- the mark that is read at the name of vertex v, after those before v are marked
  pub name_marked :
      (v : ℕ) {name : ℕ} {now : List ℕ} → v < length names → name ≡ get_or names v 0 → now ≡ marks_of v own m → bool_byte (eqb (get_or now name 0) 1) ≡ own v
  name_marked v {name} {now} h e is = bit_cast (eqb (get_or now name 0) 1) ∙ ap (λ (t : Bool). cond t 1 0) (at (ℕ_discrete name v) ∙ ap (λ (p : ℕ). eqb (get_or m p 0) 1) e)
    where
      low : name ≤ v
      low = omega (arith, e, N.name_low v h)

      same : get_or names name 0 ≡ name
      same = ap (λ (p : ℕ). get_or names p 0) e ∙ N.name_own v h ∙ sym e

      at : Dec (name ≡ v) → eqb (get_or now name 0) 1 ≡ eqb (get_or m name 0) 1
      at (yes f) = rw is (ap (λ (x : ℕ). eqb x 1) (marks_past own m v name (omega arith)))
      at (no f) =
          rw is (ap (λ (x : ℕ). eqb x 1) (marks_at own m v name (omega (arith, low, f)))
          ∙ bit_back (eqb (get_or m (get_or names name 0) 0) 1)
          ∙ ap (λ (p : ℕ). eqb (get_or m p 0) 1) same)

-- all vertices gone through
pub vertices_marked :
    (s : Numbers) (m : List ℕ) {v : ℕ} {now : List ℕ} → v ≡ s.len → now ≡ marks_of v (group_mark (numbers_of s) m) m → now ≡ vertex_marks (numbers_of s) m
unfolding vertex_marks
vertices_marked s m gone e = e ∙ ap (λ (i : ℕ). marks_of i (group_mark (numbers_of s) m) m) (gone ∙ sym (numbers_long s.width s.bytes.now s.len))
