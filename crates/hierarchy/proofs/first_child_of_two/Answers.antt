-- `hierarchy::first_child_of_two` meets its contract: at a form of plain hierarchies the first that stands twice among the child entries is the first child of two others,
-- and marks that were 0 are 0 again.
use mathlib.Core.Path.{sym, ap, ◌∙◌}
use Prim.Native.Nat.{ℕ}
use Rattle.numbers.specs.Found.{found_below}
use Rattle.sound_places.proofs.Images.{sound_bytes}
use Rattle.hierarchy.proofs.Sections.{within, first_is}
use Rattle.hierarchy.proofs.first_child_of_two.Goals as goal

pub first_shared-requires : goal.first_shared-requires
first_shared-requires c = record { within = within (sound_bytes c.args.index.now) c.children.ensures; k_le_n = (c.args.index.now.image.laid.groups, c.requires.0) }

pub returns : goal.returns
returns c =
    let s = c.args.index.now in
    record {
      value = rw c.if-not-tree.false (c.first_shared.ensures.value ∙ ap (λ (x : ℕ). found_below s.image.layout.k x) (first_is (sound_bytes s) c.children.ensures));
      marks_unchanged = c.first_shared.ensures.marks_after ∙ sym c.requires.1;
    }
