-- Going through a sequence of places, those whose row is empty are kept.
use mathlib.Core.Bool.{Bool, true, false}
use mathlib.Core.Path.{◌≡◌, sym, ap, ◌∙◌}
use mathlib.Core.List.{List, [], ◌∷◌, ◌++◌, append-nil}
use Prim.Native.Nat.{ℕ, suc, ◌+◌, ◌≤◌, ◌<◌}
use native.Mathlib.Numerals.{add-one}
use native.Mathlib.Omega.{arith}
use lib.ListN.{length, get_or, set}
use borrow.Author.Tests.{eq-eqb, ne_eqb}
use Rattle.lineage.specs.Lists.{those, part}
use Rattle.numbers.specs.Regions.{Kept}
use Rattle.laws.proofs.Lists.{those_append, those_yes, those_no}
use Rattle.laws.proofs.Parts.{part_at, part_length, part_more}
use Rattle.numbers.proofs.Regions.{read_at, Written, written_none, written_more}
use Rattle.build_orders.specs.Fit.{RootsFit}
use Rattle.build_orders.specs.Roots.{row_empty}

-- j places of the sequence are gone through, and c of them written
pub record Rooting (work₀ work : List ℕ) (starts k sequence base j c : ℕ) : Type 0 where
  pub few : c ≤ j
  pub written : Written work₀ work base k c (those (row_empty (part work₀ starts (k + 1))) (part work₀ sequence j))

pub rooting_none : (work : List ℕ) (starts k sequence base : ℕ) → Rooting work work starts k sequence base 0 0
unfolding part
rooting_none work starts k sequence base = record { few = omega arith; written = written_none work base k }

-- where its row is told
pub record Place (work : List ℕ) (starts sequence j : ℕ) : Type 0 where
  pub start_in_lem : starts + get_or work (sequence + j) 0 < length work
  pub end_in : starts + (get_or work (sequence + j) 0 + 1) < length work

module _
    {work₀ work : List ℕ} {starts k sequence base j c : ℕ} (f : RootsFit work₀ starts k sequence base) (i : Rooting work₀ work starts k sequence base j c) (h : j < k)
  where
    abbrev q : ℕ
    q = get_or work (sequence + j) 0

    q_is : q ≡ get_or (part work₀ sequence k) j 0
    q_is = read_at f.sequence_there i.written.kept j h

    low : q < k
    low = rw q_is (f.places j (omega (arith, part_length work₀ sequence k f.sequence_there.fits)))

    pub rooting_place : Place work starts sequence j
    rooting_place =
        let long = i.written.kept.long in
        record {
          start_in_lem = omega (arith, low, f.starts_there.fits);
          end_in = omega (arith, low, f.starts_there.fits);
        }

    start_is : get_or work (starts + q) 0 ≡ get_or (part work₀ starts (k + 1)) q 0
    start_is = read_at f.starts_there i.written.kept q (omega (arith, low))

    end_is : get_or work (starts + (q + 1)) 0 ≡ get_or (part work₀ starts (k + 1)) (suc q) 0
    end_is = read_at f.starts_there i.written.kept (q + 1) (omega (arith, low)) ∙ ap (λ z. get_or (part work₀ starts (k + 1)) z 0) (add-one q)

    abbrev empty : ℕ → Bool
    empty = row_empty (part work₀ starts (k + 1))

    passed : those empty (part work₀ sequence (j + 1)) ≡ those empty (part work₀ sequence j) ++ those empty (q ∷ [])
    passed =
        ap (those empty) (part_more work₀ sequence j 0 (omega (arith, f.sequence_there.fits)) ∙ ap (λ z. part work₀ sequence j ++ (z ∷ [])) (part_at work₀ sequence k j h ∙ sym q_is))
        ∙ those_append empty (part work₀ sequence j) (q ∷ [])

    -- its row is empty: it is written
    pub rooting_more :
        {work' : List ℕ} {c' : ℕ} → get_or work (starts + (q + 1)) 0 ≡ get_or work (starts + q) 0 → work' ≡ set work (base + c) q → c' ≡ c + 1 → Rooting work₀ work' starts k sequence base (j + 1) c'
    rooting_more e ew ec =
        let yes-q : empty q ≡ true = eq-eqb _ _ (sym end_is ∙ e ∙ start_is) in
        rw (ew, ec) (record {
          few = omega (arith, i.few);
          written = rw (passed, those_yes empty q [] yes-q) (written_more q (omega (arith, i.few)) f.room i.written);
        })

    -- it is not: nothing is written
    pub rooting_past :
        {work' : List ℕ} {c' : ℕ} → (get_or work (starts + (q + 1)) 0 ≡ get_or work (starts + q) 0 → ⊥) → work' ≡ work → c' ≡ c → Rooting work₀ work' starts k sequence base (j + 1) c'
    rooting_past ne ew ec =
        let no-q : empty q ≡ false = ne_eqb _ _ (λ e. ne (end_is ∙ e ∙ sym start_is)) in
        rw (ew, ec) (record {
          few = omega (arith, i.few);
          written = rw (passed, those_no empty q [] no-q, append-nil (those empty (part work₀ sequence j))) i.written;
        })

pub rooting_all :
    {work₀ work : List ℕ} {starts k sequence base j c : ℕ} → j ≡ k → Rooting work₀ work starts k sequence base j c
    → Kept work₀ work base k × ((c ≤ k) × (part work base c ≡ those (row_empty (part work₀ starts (k + 1))) (part work₀ sequence k)))
rooting_all {work₀} {work} {starts} {k} {sequence} {base} {j} {c} e i =
    (i.written.kept, (omega (arith, i.few), i.written.holds ∙ ap (λ z. those (row_empty (part work₀ starts (k + 1))) (part work₀ sequence z)) e))
