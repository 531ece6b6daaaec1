-- What the sections of sound bytes give the list of one group: its entries are told from them, and a group's mark tells whether it is an exception.
use Rattle.std.specs.Prelude.{Option, None, Some}
use Rattle.std.proofs.lemmas.Option.{cond_some}
use mathlib.Core.Bool.{Bool, true, false, cond}
use mathlib.Core.Path.{◌≡◌, refl, sym, ap, ◌∙◌}
use mathlib.Core.List.{List}
use Prim.Native.Nat.{ℕ, ◌<◌}
use native.Mathlib.Omega.{arith}
use lib.Dec.{eqb}
use lib.ListN.{length, get_or, length-map}
use borrow.Author.Tests.{eq-eqb, ne_eqb}
use Rattle.lineage.specs.Index.{Index}
use Rattle.lineage.specs.Numbers.{num_at}
use Rattle.lineage.specs.Calls.{index_in}
use Rattle.laws_exceptions.specs.Exceptions.{is_exception, exceptions_of, entry, entries_of}
use Rattle.stored_header.specs.declared.Layout.{Layout}
use Rattle.stored.specs.Rows.{Places}
use Rattle.stored.specs.Sections.{Six, children_in, labels_in}
use Rattle.sound_places.specs.Lent.{SoundBytes}
use Rattle.reach.proofs.Fitted.{spots}
use Rattle.exceptions_marks.specs.Marks.{Excepted}
use Rattle.exceptions_marks.proofs.Fitted.{children_are, labels_are_lem, places_many, name_was}
use Rattle.exceptions_rows.specs.Rows.{kinds_alone, entry_told}

module _
    {b : List ℕ} {l : Layout} {names groups levels starts children labels : List ℕ}
    (O : SoundBytes b l) (P : Six b l names groups levels starts children labels)
  where
    pub placed : Places l.width starts children l.k l.c
    placed = (spots O P l.n (omega arith)).below

    -- the group at place y, whose name was read
    module _ {y name : ℕ} (h : y < l.k) (named : name ≡ num_at l.width groups y) where
      module _ {x : ℕ} {marks : List ℕ} (X : Excepted (index_in b) x marks) where
        mark_told : eqb (get_or marks name 0) 2 ≡ is_exception (index_in b) x y
        mark_told = ap (λ (z : ℕ). eqb (get_or marks z 0) 2) (name_was O P h named) ∙ X.told y (omega (arith, places_many O))

        pub told_over : (get_or marks name 0 ≡ 2 → ⊥) → None ≡ entry_told (index_in b) x y
        told_over n = rw (sym mark_told ∙ ne_eqb (get_or marks name 0) 2 n)

        pub told_here :
            get_or marks name 0 ≡ 2 → {v : ℕ}
            → v ≡ entry (kinds_alone (children_in l.width starts children l.k l.c) (labels_in l.width l.stride labels l.k l.d)) x y → Some v ≡ entry_told (index_in b) x y
        told_here e {v} is =
            let here : v ≡ entry (index_in b) x y = rw (children_are O P, labels_are_lem O P) at is in
            rw (sym mark_told ∙ eq-eqb (get_or marks name 0) 2 e) (ap Some here)

-- what is told where a test passes, and nothing elsewhere
pub cond_none : (b : Bool) (x : ℕ) {r : Option ℕ} → r ≡ cond b (Some x) None → ((v : ℕ) → r ≡ Some v → ⊥) → b ≡ false
cond_none true x is n = absurd (n x is)
cond_none false x is n = refl

-- what was told of place y
module _ (I : Index) (x y : ℕ) {r : Option ℕ} (told : r ≡ entry_told I x y) where
  pub told_entry : {v : ℕ} → r ≡ Some v → (is_exception I x y ≡ true) × (v ≡ entry I x y)
  told_entry {v} e = let (t, is) = cond_some (is_exception I x y) (entry I x y) v (sym told ∙ e) in (t, sym is)

  pub told_none : ((v : ℕ) → r ≡ Some v → ⊥) → is_exception I x y ≡ false
  told_none n = cond_none (is_exception I x y) (entry I x y) told n

-- as many entries as exceptions
pub entries_many : (I : Index) (x : ℕ) {r : ℕ} → r ≡ length (exceptions_of I x) → r ≡ length (entries_of I x)
entries_many I x e = e ∙ sym (length-map (exceptions_of I x) (entry I x))
