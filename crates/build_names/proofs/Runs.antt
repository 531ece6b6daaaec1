-- Naming a run of vertices: the run lies outside the window, so it is read as it was lent.
use mathlib.Core.Path.{◌≡◌, sym, ap, ◌∙◌}
use mathlib.Core.List.{List}
use Prim.Native.Nat.{ℕ, ◌+◌, ◌<◌}
use native.Mathlib.Omega.{arith}
use lib.ListN.{length, get_or, set}
use Rattle.laws.proofs.Parts.{part_at, part_length}
use Rattle.numbers.proofs.Stamping.{Stamping, stamping_more}
use Rattle.numbers.proofs.Regions.{read_at}
use Rattle.build_names.specs.Window.{RunFit}

-- the vertex at hand, and where its turn reads and writes
pub record Vertex (work : List ℕ) (at base n i : ℕ) : Type 0 where
  pub vertex_in : at + i < length work
  pub low : get_or work (at + i) 0 < n
  pub name_in : base + get_or work (at + i) 0 < length work

module _
    {work₀ work : List ℕ} {at size name base n i : ℕ} (f : RunFit work₀ at size base n) (s : Stamping work₀ work work₀ base n name at i) (h : i < size)
  where
    same : get_or work (at + i) 0 ≡ get_or work₀ (at + i) 0
    same = read_at f.run_there s.kept i h ∙ sym (part_at work₀ at size i h)

    low : get_or work₀ (at + i) 0 < n
    low = rw (part_at work₀ at size i h) (f.run_low i (omega (arith, part_length work₀ at size f.run_there.fits)))

    pub run_vertex : Vertex work at base n i
    run_vertex =
        let long = s.kept.long in
        record {
          vertex_in = omega (arith, f.run_there.fits);
          low = omega (arith, same, low);
          name_in = omega (arith, same, low, f.room);
        }

    pub run_more : Stamping work₀ (set work (base + get_or work (at + i) 0) name) work₀ base n name at (i + 1)
    run_more = stamping_more f.room (omega (arith, f.run_there.fits)) s low (ap (λ z. set work (base + z) name) same)
