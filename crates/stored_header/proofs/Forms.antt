-- The table of forms: each has a number of 32 bits, a width of 2 or 4, 2 or 3 numbers by place, and bounds that are not above 200,000 vertices, 1,000,000 edges and child
-- entries, and five labellings. Two numbers by place are what a form of plain hierarchies has, and no other.
use mathlib.Core.Bool.{Bool, true, false, cond}
use mathlib.Core.Path.{◌≡◌, refl}
use mathlib.Core.List.{List, [], ◌∷◌}
use Prim.Native.Nat.{ℕ, zero, suc, ◌^◌, ◌≤◌, ◌<◌}
use native.Mathlib.Omega.{arith}
use native.Mathlib.Nat.{not-suc-le-zero}
use lib.Dec.{eqb}
use Rattle.lineage.specs.Lists.{Every}
use Rattle.lineage.specs.Numbers.{Width}
use Rattle.lineage.specs.Stored.{Form, form1, form4, forms, form_from, form_of, most_labellings}
use Rattle.numbers.specs.Bounds.{vertex_bound, entry_bound}
use Rattle.stored_header.specs.Header.{Stride}

-- a form within the bounds of every form
pub record Within (F : Form) : Type 0 where
  pub number : F.number < 2 ^ 32
  pub width : Width F.width
  pub vertices : F.vertices ≤ vertex_bound
  pub edges : F.edges ≤ entry_bound
  pub entries : F.entries ≤ entry_bound
  pub labellings : F.labellings ≤ most_labellings
  pub stride : Stride F.by_place
  pub pairs : F.tree ≡ eqb F.by_place 2

-- what holds of 2 and of 3 holds of every stride
module _ (P : ℕ → Type 0) (two : P 2) (three : P 3) where
  by_cases : (z : ℕ) → 2 ≤ z → z ≤ 3 → P z
  by_cases zero low high = absurd (not-suc-le-zero low)
  by_cases (suc zero) low high = let none : ⊥ = omega arith in absurd none
  by_cases (suc (suc zero)) low high = two
  by_cases (suc (suc (suc zero))) low high = three
  by_cases (suc (suc (suc (suc z)))) low high = let none : ⊥ = omega arith in absurd none

  pub stride_each : {z : ℕ} → Stride z → P z
  stride_each {z} Z = by_cases z Z.low Z.high

form1_within : Within form1
form1_within = record {
  number = omega arith;
  width = record { low = omega arith; high = omega arith; even = refl };
  vertices = omega arith;
  edges = omega arith;
  entries = omega arith;
  labellings = omega arith;
  stride = record { low = omega arith; high = omega arith };
  pairs = refl;
}

-- the forms of 32-bit numbers
wide_within : (number : ℕ) → number < 2 ^ 32
    → Within (record {
      number = number;
      width = 4;
      vertices = 200000;
      edges = 1000000;
      entries = 1000000;
      labellings = 5;
      by_place = 3;
      tree = false;
    })
wide_within number small =
    record {
      number = small;
      width = record { low = omega arith; high = omega arith; even = refl };
      vertices = omega arith;
      edges = omega arith;
      entries = omega arith;
      labellings = omega arith;
      stride = record { low = omega arith; high = omega arith };
      pairs = refl;
    }

form4_within : Within form4
form4_within = record {
  number = omega arith;
  width = record { low = omega arith; high = omega arith; even = refl };
  vertices = omega arith;
  edges = omega arith;
  entries = omega arith;
  labellings = omega arith;
  stride = record { low = omega arith; high = omega arith };
  pairs = refl;
}

forms_within : Every Within forms
forms_within = (form1_within, (wide_within 2 (omega arith), (wide_within 3 (omega arith), (form4_within, tt))))

-- what holds of every form of the table, and of the first, holds of the form that a number stands for
module _ (P : Form → Type 0) (first : P form1) where
  from_each : (Fs : List Form) (number : ℕ) → Every P Fs → P (form_from Fs number)
  from_each [] number h = first
  from_each (F ∷ Fs) number h = at (eqb F.number number) (from_each Fs number h.1)
    where
      at : (t : Bool) → P (form_from Fs number) → P (cond t F (form_from Fs number))
      at true rest = h.0
      at false rest = rest

pub form_each : (P : Form → Type 0) → Every P forms → (number : ℕ) → P (form_of number)
form_each P h number = from_each P h.0 forms number h

pub form_within : (number : ℕ) → Within (form_of number)
form_within = form_each Within forms_within
