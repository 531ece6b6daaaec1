-- The sections as stretches of the stored bytes: each starts where the header says and ends where the next one starts.
use mathlib.Core.Path.{◌≡◌, ap, ◌∙◌, subst⁻¹}
use mathlib.Core.List.{List}
use Prim.Native.Nat.{ℕ, ◌+◌, ◌*◌, ◌-◌, ◌≤◌, ◌<◌}
use native.Mathlib.Numerals.{add-one}
use native.Mathlib.Omega.{arith}
use lib.ListN.{length, get_or, take, drop}
use Rattle.lineage.specs.Lists.{part}
use Rattle.lineage.specs.Stored.{sizes, stretch}
use Rattle.laws.proofs.Parts.{part_length}
use Rattle.stored_header.specs.declared.Layout.{Layout}
use Rattle.stored_header.specs.Header.{layout_in, offsets_of, Laid}
use Rattle.stored.specs.Sections.{Section}
use Rattle.stored.proofs.Offsets.{offsets_next, offsets_within}

-- the numbers in section i of a layout
abbrev size_in : Layout → ℕ → ℕ
size_in l i = get_or (sizes l.stride l.n l.k l.c l.d) i 0

-- where section i starts
abbrev start_of : Layout → ℕ → ℕ
start_of l i = get_or (offsets_of l) i 0

-- section i ends where the next one starts, within the bytes; the part between is the section
record Stretched (b : List ℕ) (l : Layout) (i : ℕ) : Type 0 where
  pub next : start_of l (i + 1) ≡ start_of l i + l.width * size_in l i
  pub within : start_of l (i + 1) ≤ length b
  pub whole : Section b l i (take (start_of l (i + 1) - start_of l i) (drop (start_of l i) b))

section_at : (b : List ℕ) (i : ℕ) → i < 6 → length b ≡ (layout_in b).total → Stretched b (layout_in b) i
unfolding stretch part
section_at b i h total =
    let l : Layout = layout_in b in
    let all : List ℕ = sizes l.stride l.n l.k l.c l.d in
    let next : start_of l (i + 1) ≡ start_of l i + l.width * size_in l i = rw (add-one i) (offsets_next l.width b 48 all i h) in
    let within : start_of l (i + 1) ≤ length b = omega (arith, next, offsets_within l.width b 48 all i h) in
    let size : start_of l (i + 1) - start_of l i ≡ l.width * size_in l i = omega arith in
    record {
      next = next;
      within = within;
      whole = record { is = rw size; long = rw size (part_length b (start_of l i) (l.width * size_in l i) (omega arith)) };
    }

section_stretched : {b : List ℕ} {l : Layout} → Laid b l → (i : ℕ) → i < 6 → Stretched b l i
section_stretched {b} L i h = subst⁻¹ (λ z. Stretched b z i) L.is (section_at b i h (L.long ∙ ap (λ z. z.total) L.is))

-- its start and its end as code has them
module _ {b : List ℕ} {l : Layout} (L : Laid b l) {i : ℕ} (low : i < 6) {from to : ℕ} (from_is : from ≡ start_of l i) (to_is : to ≡ start_of l (i + 1)) where
  pub span_rises : from ≤ to
  span_rises = omega (arith, (section_stretched L i low).next)

  pub span_within : to ≤ length b
  span_within = omega (arith, (section_stretched L i low).within)

  pub span_whole : Section b l i (take (to - from) (drop from b))
  span_whole = rw (from_is, to_is) (section_stretched L i low).whole
