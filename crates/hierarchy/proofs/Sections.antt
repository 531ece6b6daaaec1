-- All six sections of stored bytes where only children or labels are read; and what the index that they hold has of these.
use mathlib.Core.Path.{◌≡◌, sym, ap, ◌∙◌}
use mathlib.Core.List.{List, [], ◌∷◌}
use Prim.Native.Nat.{ℕ}
use native.Mathlib.Omega.{arith}
use lib.ListN.{length}
use Rattle.lineage.specs.Lists.{upto, first_of}
use Rattle.lineage.specs.Index.{Index}
use Rattle.lineage.specs.Numbers.{numbers}
use Rattle.lineage.specs.Sound.{shared}
use Rattle.lineage.specs.Calls.{index_in}
use Rattle.stored_header.specs.declared.Layout.{Layout}
use Rattle.stored_header.specs.Header.{Laid}
use Rattle.stored.specs.Sections.{Section, Six, labels_in, index_from, index_at}
use Rattle.stored.specs.Rows.{Places}
use Rattle.stored.proofs.Sections.{children_long}
use Rattle.stored.proofs.Contents.{index_at_lem, stretch_of, whole, with_rows, labels_only}
use Rattle.sound_parents.specs.Fit.{Within}
use Rattle.sound_parents.specs.Told.{twice}
use Rattle.sound_parents.proofs.Nobody.{entries_within}
use Rattle.sound_parents.proofs.Parents.{shared_first}
use Rattle.sound_places.specs.Lent.{SoundBytes}
use Rattle.reach.proofs.Fitted.{spots}
use Rattle.hierarchy_labels.specs.Turned.{labelling_of}
use Rattle.hierarchy_labels.proofs.Rules.{labels_one}

module _ {b : List ℕ} {l : Layout} (L : Laid b l) where
  six_children : {children : List ℕ} → Section b l 4 children → Six b l (stretch_of L 0) (stretch_of L 1) (stretch_of L 2) (stretch_of L 3) children (stretch_of L 5)
  six_children C = with_rows L (whole L 1 (omega arith)) (whole L 5 (omega arith)) (whole L 3 (omega arith)) C

  pub groups_are_lem : {groups : List ℕ} → Section b l 1 groups → (index_in b).groups ≡ numbers l.width groups l.k
  unfolding index_from
  groups_are_lem G = ap (λ (I : Index). I.groups) (sym (index_at_lem L (with_rows L G (whole L 5 (omega arith)) (whole L 3 (omega arith)) (whole L 4 (omega arith)))))

  -- one labelling
  pub labelling_one : {labels : List ℕ} → Section b l 5 labels → l.d ≡ 1 → (index_in b).labels ≡ labelling_of l.width l.stride labels l.k ∷ []
  unfolding index_from
  labelling_one {labels} M one =
      ap (λ (I : Index). I.labels) (sym (index_at_lem L (labels_only L M)))
      ∙ ap (λ (d : ℕ). labels_in l.width l.stride labels l.k d) one
      ∙ labels_one l.width l.stride labels l.k

module _ {b : List ℕ} {l : Layout} (S : SoundBytes b l) {children : List ℕ} (C : Section b l 4 children) where
  pub places : Places l.width (stretch_of S.laid 3) children l.k l.c
  places = (spots S (six_children S.laid C) l.n (omega arith)).below

  pub within : Within (numbers l.width children l.c) l.k
  within = entries_within places

  -- the first that stands twice among the child entries is the first child of two others
  pub first_is : first_of (twice (numbers l.width children l.c)) (upto l.k) l.k ≡ first_of (shared (index_in b).children) (upto l.k) l.k
  unfolding index_from
  first_is =
      let many : length (index_at l (stretch_of S.laid 0) (stretch_of S.laid 1) (stretch_of S.laid 2) (stretch_of S.laid 3) children (stretch_of S.laid 5)).children ≡ l.k =
      children_long l.width (stretch_of S.laid 3) children l.k l.c in
      shared_first places
      ∙ ap (λ (n : ℕ). first_of (shared (index_at l (stretch_of S.laid 0) (stretch_of S.laid 1) (stretch_of S.laid 2) (stretch_of S.laid 3) children (stretch_of S.laid 5)).children) (upto n) n) many
      ∙ ap (λ (I : Index). first_of (shared I.children) (upto l.k) l.k) (index_at_lem S.laid (six_children S.laid C))
