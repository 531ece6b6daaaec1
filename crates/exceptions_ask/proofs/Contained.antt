-- What is read of the labels of sound bytes is what the index has: what a group contains.
use mathlib.Core.Bool.{Bool, not, ◌&&◌}
use mathlib.Core.Path.{◌≡◌}
use mathlib.Core.List.{List}
use Prim.Native.Nat.{ℕ}
use Rattle.lineage.specs.Question.{outside, some_labelling}
use Rattle.lineage.specs.Calls.{index_in}
use Rattle.laws_exceptions.specs.Exceptions.{contains}
use Rattle.stored_header.specs.declared.Layout.{Layout}
use Rattle.stored.specs.Sections.{Six, labels_in}
use Rattle.sound_places.specs.Lent.{SoundBytes}
use Rattle.exceptions_marks.proofs.Fitted.{labels_are_lem}

module _
    {b : List ℕ} {l : Layout} {names groups levels starts children labels : List ℕ}
    (O : SoundBytes b l) (P : Six b l names groups levels starts children labels)
  where
    pub contains_read :
        {r : Bool} (x y : ℕ) (a : Bool) → r ≡ (not (some_labelling (outside x y) (labels_in l.width l.stride labels l.k l.d)) && a) → r ≡ (contains (index_in b) x y && a)
    contains_read x y a e = rw (labels_are_lem O P) at e
