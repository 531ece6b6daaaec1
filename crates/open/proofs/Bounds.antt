-- Bytes that some edge list and orders yield keep the form's bounds where their header is right: the header's counts bound the bytes' length, this bounds n, k and c, so
-- that they are read again, and they are the header's.
use mathlib.Core.Bool.{true}
use mathlib.Core.Path.{◌≡◌, sym, ◌∙◌}
use mathlib.Core.List.{List}
use Prim.Native.Nat.{ℕ, ◌+◌, ◌*◌, ◌^◌, ◌≤◌, ◌<◌}
use native.Mathlib.Omega.{arith}
use native.Mathlib.Nat.{mul-le-mul}
use lib.ListN.{length}
use Rattle.lineage.specs.Lists.{Every}
use Rattle.lineage.specs.Index.{Index}
use Rattle.lineage.specs.Numbers.{written}
use Rattle.lineage.specs.Stored.{Form, Counts, starts_from, sections, counts_of, header, encode, counts_in}
use Rattle.lineage.specs.Sound.{is_tree}
use Rattle.laws.specs.Sound.{Sound}
use Rattle.laws.proofs.Starts.{starts_long}
use Rattle.numbers.specs.Bounds.{vertex_bound}
use Rattle.numbers.proofs.Numbers.{count_low}
use Rattle.numbers.proofs.Written.{written_long}
use Rattle.stored_header.specs.declared.Layout.{Layout}
use Rattle.stored_header.specs.Header.{Laid}
use Rattle.stored_header.proofs.Forms.{Within}
use Rattle.stored.specs.Fits.{Full}
use Rattle.stored.proofs.Offsets.{offsets_last}
use Rattle.stored.proofs.LabelNumbers.{labels_long}
use Rattle.stored.proofs.Encoded.{counts_again}
use Rattle.open.proofs.Fits.{full, plain_alike}

module _ (F : Form) {I : Index} (S : Sound I) (W : Within F) (plain : F.tree ≡ true → is_tree I.children ≡ true) where
  abbrev a : Counts
  a = counts_of I

  abbrev w : ℕ
  w = F.width

  -- the length is that of header and sections
  pub yielded_long : length (encode F I) ≡ 48 + w * a.n + w * a.k + w * a.k + w * (a.k + 1) + w * a.c + w * (a.d * ((F.by_place + 1) * a.k))
  unfolding encode
  yielded_long =
      let G = S.condensed in
      let levels : length I.levels ≡ a.k = G.levels_long ∙ G.children_long in
      let starts : length (starts_from 0 I.children) ≡ a.k + 1 = omega (arith, starts_long 0 I.children, G.children_long) in
      let alike : Every (Full F.by_place a.k) I.labels =
      full I.children a.k G.children_long I.labels S.labelled (plain_alike W S plain) in
      let labels = labels_long W.stride a.k I.labels alike in
      offsets_last w (written 4 (header F a)) (sections F.by_place I) 48 (sym (written_long 4 (header F a)))
      ∙ rw (levels, starts, labels)

  -- so every number of the header is of 32 bits, and is read again
  module _ (short : length (encode F I) < 2 ^ 31) (few : length I.labels < 2 ^ 31) where
    header_small : Every (λ x. x < 256 ^ 4) (header F a)
    header_small =
        let l = yielded_long in
        let n : a.n ≤ w * a.n = count_low w a.n W.width.low in
        let k : a.k ≤ w * a.k = count_low w a.k W.width.low in
        let c : a.c ≤ w * a.c = count_low w a.c W.width.low in
        (omega (arith, W.number), (omega arith, (omega arith, (omega arith, (omega arith, (omega arith, (omega arith, (omega arith, (omega arith, (omega arith, (omega arith, (omega arith, tt))))))))))))

    pub counts_bounded : counts_in (encode F I) ≡ a
    counts_bounded = counts_again F I header_small

-- bytes whose header is right are short
pub laid_short : {b : List ℕ} {l : Layout} → Laid b l → length b < 2 ^ 31
laid_short {b} {l} L =
    let w = L.width.high in
    let k : l.k ≤ vertex_bound = omega (arith, L.vertices, L.groups) in
    let by : l.stride + 1 ≤ 4 = omega (arith, L.stride.high) in
    let k1 : l.k + 1 ≤ vertex_bound + 1 = omega arith in
    omega (
      arith,
      L.long,
      L.sited,
      mul-le-mul w L.vertices,
      mul-le-mul w k,
      mul-le-mul w k1,
      mul-le-mul w L.entries,
      mul-le-mul w (mul-le-mul L.most (mul-le-mul by k)),
    )
