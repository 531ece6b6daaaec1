-- Places laid out one by one: those of the groups below p stand at their names, and no other name is touched again; a vertex's word is taken from its name, where it
-- stays as it was. The table of them lies in the lent words behind the walk's stack.
use mathlib.Core.Logic.{◌≢◌}
use mathlib.Core.Path.{◌≡◌, refl, sym, ap, ◌∙◌, subst⁻¹}
use mathlib.Core.List.{List, ◌++◌}
use Prim.Native.Nat.{ℕ, ◌+◌, ◌-◌, ◌≤◌, ◌<◌}
use native.Mathlib.Decide.{dec_lt, ℕ_discrete}
use native.Mathlib.Omega.{arith}
use lib.ListN.{length, get_or, set, take, drop, length-append, length-drop}
use lib.Seq.{get_or-set_same, get_or-set_other, length-take-le}
use Rattle.lineage.specs.Lists.{part}
use Rattle.lineage.specs.Numbers.{num_at}
use Rattle.laws.proofs.Parts.{part_left, part_right, part_take, part_drop, part_whole}
use Rattle.numbers.specs.Regions.{Kept, over}
use Rattle.numbers.proofs.Regions.{read_at}
use Rattle.ask_stacked.specs.Words.{stack_words}
use Rattle.ask_pairs.specs.Places.{Listed, Named, AtNames, FromNames, Placed, table_in}

-- before vertex v: those below it have what stood at their names, all others what stood there
pub record Filled (w : ℕ) (names before places : List ℕ) (v : ℕ) : Type 0 where
  pub done : (u : ℕ) → u < v → get_or places u 0 ≡ get_or before (num_at w names u) 0
  pub left : (u : ℕ) → v ≤ u → get_or places u 0 ≡ get_or before u 0

pub filled_none : (w : ℕ) (names before : List ℕ) → Filled w names before before 0
filled_none w names before = record { done = λ u l. absurd (omega arith); left = λ u l. refl }

module _ {w n : ℕ} {names before places : List ℕ} (N : Named w n names) (v name : ℕ) (h : v < n) (named : name ≡ num_at w names v)
    (F : Filled w names before places v) where
  -- at its name stands what stood there
  read : get_or places name 0 ≡ get_or before name 0
  read = elim (dec_lt name v) [
    | yes l ↦ F.done name l ∙ ap (λ (z : ℕ). get_or before z 0) (ap (num_at w names) named ∙ N.own v h ∙ sym named)
    | no g ↦ F.left name (omega (arith, g))
  ]

-- both passes: at a vertex's name stands the place of the group that bears it
pub placed_all :
    {w n k : ℕ} {names groups before places : List ℕ} → AtNames w k groups before → FromNames w n names before places → Placed w n k names groups places
placed_all {before = before} A F = record { at = λ v p h l e. F.at v h ∙ ap (λ (z : ℕ). get_or before z 0) (sym e) ∙ A.at p l }

-- the words when a part that was lent, from base to base + n, is back
abbrev pub laid : (base n : ℕ) → (work places : List ℕ) → List ℕ
laid base n work places = take base work ++ (places ++ drop (base + n - base) (drop base work))

-- The table lies behind the words of the stack.
module _ (w n base : ℕ) (is : base ≡ stack_words w n) where
  -- what a walk alters leaves it as it was
  pub table_at :
      {work₀ work : List ℕ} → stack_words w n + n ≤ length work₀ → Kept work₀ work 0 (stack_words w n) → (u : ℕ) → u < n
      → (base + u < length work) × (get_or work (base + u) 0 ≡ get_or (table_in w n work₀) u 0)
  table_at room K u h = rw is (omega (arith, K.long), read_at (record { fits = room; apart = over (omega arith) }) K u h)

  module _ (work places : List ℕ) (room : base + n ≤ length work) (long : length places ≡ n) where
    -- what was lent, and what lies behind it
    front : length (take base work) ≡ base
    front = length-take-le base work (omega arith)

    abbrev back : List ℕ
    back = drop (base + n - base) (drop base work)

    laid_table : table_in w n (laid base n work places) ≡ places
    laid_table =
        let none : base - length (take base work) ≡ 0 = omega (arith, front) in
        rw (← is)
        (part_right (take base work) (places ++ back) base n (omega (arith, front))
        ∙ ap (λ (z : ℕ). part (places ++ back) z n) none
        ∙ part_left places back 0 n (omega (arith, long))
        ∙ part_whole places n long)

    pub laid_placed : {k : ℕ} {names groups : List ℕ} → Placed w n k names groups places → Placed w n k names groups (table_in w n (laid base n work places))
    laid_placed {k} {names} {groups} P = subst⁻¹ (Placed w n k names groups) laid_table P

    pub laid_kept : Kept work (laid base n work places) 0 (stack_words w n + n)
    laid_kept = record {
      long = simp (length-append, length-drop) (omega (arith, front, long));
      below = λ at count h. part_left (take base work) (places ++ back) at count (omega (arith, front)) ∙ part_take work base at count (omega arith);
      above = λ at count h.
          let past : base + (base + n - base + (at - length (take base work) - length places)) ≡ at = omega (arith, front, long, is) in
          part_right (take base work) (places ++ back) at count (omega (arith, front, is))
          ∙ part_right places back (at - length (take base work)) count (omega (arith, front, long, is))
          ∙ part_drop (drop base work) (base + n - base) (at - length (take base work) - length places) count
          ∙ part_drop work base (base + n - base + (at - length (take base work) - length places)) count
          ∙ ap (λ (z : ℕ). part work z count) past;
    }
