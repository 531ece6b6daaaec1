-- The contents of bytes as their six sections hold them: what `decode` reads is the index that the sections hold, so their test is the test of the contents.
use mathlib.Core.Bool.{Bool, true, not, ◌&&◌, ◌||◌}
use mathlib.Core.Path.{◌≡◌, refl, sym, ap, subst⁻¹, ◌∙◌}
use mathlib.Core.List.{List}
use Prim.Native.Nat.{ℕ, ◌+◌, ◌*◌, ◌<◌}
use native.Mathlib.Omega.{arith}
use lib.Dec.{eqb}
use lib.ListN.{length, get_or}
use Rattle.lineage.specs.Index.{Index}
use Rattle.lineage.specs.Numbers.{numbers}
use Rattle.lineage.specs.Stored.{Form, sizes, offsets, header_at, counts_in, form_of, stretch, section, decode}
use Rattle.lineage.specs.Sound.{is_tree, starts_pass, sound, contents_sound}
use Rattle.lineage.specs.Calls.{index_in}
use Rattle.laws.specs.Sound.{Sound}
use Rattle.laws.proofs.Tests.{and_left, and_right}
use Rattle.laws.proofs.Decides.{sound_decides}
use Rattle.laws.proofs.Parts.{part_length}
use Rattle.laws.proofs.Lists.{table_long}
use Rattle.numbers.proofs.Numbers.{numbers_long}
use Rattle.stored_header.specs.declared.Layout.{Layout}
use Rattle.stored_header.specs.Header.{layout_in, Laid}
use Rattle.stored_header.proofs.Forms.{form_within}
use Rattle.stored_header.proofs.Laid.{width_is, stride_is, n_is, k_is, c_is, d_is}
use Rattle.stored.specs.Sections.{Section, Six, index_at}
use Rattle.stored.proofs.Sections.{decode_is}
use Rattle.stored.proofs.Offsets.{offsets_within}

-- the index that bytes hold is as long as the header's counts
module _ (b : List ℕ) where
  pub names_many : length (index_in b).names ≡ (counts_in b).n
  unfolding decode section
  names_many =
      let F : Form = form_of (header_at b 0) in
      numbers_long F.width (stretch F.width F.by_place (counts_in b) b 0) (counts_in b).n

  pub children_many : length (index_in b).children ≡ (counts_in b).k
  unfolding decode
  children_many = table_long _ (counts_in b).k

  pub labels_many : length (index_in b).labels ≡ (counts_in b).d
  unfolding decode
  labels_many = table_long _ (counts_in b).d

-- where the contents are sound, so is the index that they hold, and at a form of plain hierarchies it is one
module _ (F : Form) (b : List ℕ) (h : contents_sound F b ≡ true) where
  abbrev I : Index
  I = decode F b

  abbrev passes : Bool
  passes = starts_pass (section F.width F.by_place (counts_in b) b 3) (counts_in b).k (counts_in b).c

  abbrev hierarchical : Bool
  hierarchical = not F.tree || is_tree I.children

  pub contents_starts : passes ≡ true
  unfolding contents_sound
  contents_starts = and_left passes (sound I && hierarchical) h

  pub contents_sound_lem : Sound I
  unfolding contents_sound
  contents_sound_lem = (sound_decides I).0 (and_left (sound I) hierarchical (and_right passes (sound I && hierarchical) h))

  pub contents_tree : F.tree ≡ true → is_tree I.children ≡ true
  unfolding contents_sound
  contents_tree e =
      let t : hierarchical ≡ true = and_right (sound I) hierarchical (and_right passes (sound I && hierarchical) h) in
      ap (λ (x : Bool). not x || is_tree I.children) (sym e) ∙ t

module _ {b : List ℕ} {l : Layout} {names groups levels starts children labels : List ℕ}
    (L : Laid b l) (S : Six b l names groups levels starts children labels) where
  -- the index of the bytes
  pub index_at_lem : index_at l names groups levels starts children labels ≡ index_in b
  index_at_lem =
      rw (S.names_in.is, S.groups_in_lem.is, S.levels_in.is, S.starts_in.is, S.children_in_lem.is, S.labels_in.is, n_is L, k_is L, c_is L, d_is L, width_is L, stride_is L)
      (sym (decode_is (form_of (header_at b 0)) (form_within (header_at b 0)).stride b))

  -- and the test of its contents: pairs are what a form of plain hierarchies has
  pub contents_are :
      (starts_pass (numbers l.width starts (l.k + 1)) l.k l.c
      && (sound (index_at l names groups levels starts children labels)
      && (not (eqb l.stride 2) || is_tree (index_at l names groups levels starts children labels).children)))
      ≡ contents_sound (form_of (header_at b 0)) b
  unfolding contents_sound section
  contents_are = rw (index_at_lem, S.starts_in.is, k_is L, c_is L, width_is L, stride_is L, (form_within (header_at b 0)).pairs)

-- Where only some of the sections are read, the others are the stretches of the bytes that the header gives.
whole_at : (b : List ℕ) → Laid b (layout_in b) → (i : ℕ) → i < 6
    → Section b (layout_in b) i (stretch (layout_in b).width (layout_in b).stride (counts_in b) b i)
unfolding stretch
whole_at b L i h =
    let l : Layout = layout_in b in
    let o : List ℕ = offsets l.width l.stride l.n l.k l.c l.d in
    let s : List ℕ = sizes l.stride l.n l.k l.c l.d in
    record {
      is = refl;
      long = part_length b (get_or o i 0) (l.width * get_or s i 0) (omega (arith, offsets_within l.width b 48 s i h, L.long));
    }

module _ {b : List ℕ} {l : Layout} (L : Laid b l) where
  -- section i as it stands in the bytes
  abbrev pub stretch_of : ℕ → List ℕ
  stretch_of i = stretch l.width l.stride (counts_in b) b i

  pub whole : (i : ℕ) → i < 6 → Section b l i (stretch_of i)
  whole = subst⁻¹ (λ (z : Layout). Laid b z → (i : ℕ) → i < 6 → Section b z i (stretch z.width z.stride (counts_in b) b i)) L.is (whole_at b) L

  module _ {groups labels : List ℕ} (G : Section b l 1 groups) (M : Section b l 5 labels) where
    -- with the names
    pub with_names : {names : List ℕ} → Section b l 0 names → Six b l names groups (stretch_of 2) (stretch_of 3) (stretch_of 4) labels
    with_names N = record {
      names_in = N;
      groups_in_lem = G;
      levels_in = whole 2 (omega arith);
      starts_in = whole 3 (omega arith);
      children_in_lem = whole 4 (omega arith);
      labels_in = M;
    }

    -- with the children
    pub with_rows :
        {starts children : List ℕ} → Section b l 3 starts → Section b l 4 children → Six b l (stretch_of 0) groups (stretch_of 2) starts children labels
    with_rows S C = record {
      names_in = whole 0 (omega arith);
      groups_in_lem = G;
      levels_in = whole 2 (omega arith);
      starts_in = S;
      children_in_lem = C;
      labels_in = M;
    }

  pub names_only : {names : List ℕ} → Section b l 0 names → Six b l names (stretch_of 1) (stretch_of 2) (stretch_of 3) (stretch_of 4) (stretch_of 5)
  names_only N = with_names (whole 1 (omega arith)) (whole 5 (omega arith)) N

  pub labels_only : {labels : List ℕ} → Section b l 5 labels → Six b l (stretch_of 0) (stretch_of 1) (stretch_of 2) (stretch_of 3) (stretch_of 4) labels
  labels_only M = with_rows (whole 1 (omega arith)) M (whole 3 (omega arith)) (whole 4 (omega arith))
