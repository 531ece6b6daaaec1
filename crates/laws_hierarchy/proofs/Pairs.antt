-- Where a group's labels are a pair, s and e, the number before the last is the first: the index that such bytes hold has m = s, whatever they hold.
use mathlib.Core.Path.{◌≡◌, ap}
use mathlib.Core.List.{List}
use Prim.Native.Nat.{ℕ, ◌+◌, ◌-◌, ◌*◌}
use native.Mathlib.Omega.{arith}
use lib.ListN.{get_or}
use Rattle.lineage.specs.Lists.{part}
use Rattle.lineage.specs.Stored.{Form, Counts, counts_in, section, labelling_at, decode}
use Rattle.laws.proofs.Lists.{table_same}
use Rattle.laws.proofs.Every.{every_table}
use Rattle.laws_hierarchy.specs.Hierarchy.{Alike}

pair_alike : (z k : ℕ) (numbers : List ℕ) (j : ℕ) → z ≡ 2 → (labelling_at z k numbers j).m ≡ (labelling_at z k numbers j).s
unfolding labelling_at
pair_alike z k numbers j e =
    let own : List ℕ = part numbers (j * ((z + 1) * k)) ((z + 1) * k) in
    table_same (λ p. get_or own (z * p + (z - 2)) 0) (λ p. get_or own (z * p) 0) k
    (λ p h. ap (λ (i : ℕ). get_or own i 0) (let same : z * p + (z - 2) ≡ z * p = omega arith in same))

pub pairs_alike : (F : Form) (b : List ℕ) → F.by_place ≡ 2 → Alike (decode F b)
unfolding decode
pairs_alike F b e =
    let a : Counts = counts_in b in
    let numbers : List ℕ = section F.width F.by_place a b 5 in
    every_table (λ l. l.m ≡ l.s) (labelling_at F.by_place a.k numbers) a.d (λ j h. pair_alike F.by_place a.k numbers j e)
