-- Plain hierarchies (document 02, [14]) as facts: two groups with a common child are one; outer containment, which decides their questions; labellings whose inner
-- interval is the outer one.
use Rattle.std.specs.Prelude.{true, ◌≡◌, List, ℕ, ◌<◌, ◌≤◌, length, get_or}
use Rattle.lineage.specs.Lists.{Every}
use Rattle.lineage.specs.Labels.{Labelling}
use Rattle.lineage.specs.Index.{Index}
use Rattle.lineage.specs.Sound.{child_of}

-- no group is a child of two others: two groups with a common child are one
abbrev pub OneParent : List (List ℕ) → Type 0
OneParent children =
    (p q x : ℕ) → p < length children → q < length children → child_of children p x ≡ true → child_of children q x ≡ true → p ≡ q

-- x's outer interval contains t's
abbrev pub Contained : Labelling → ℕ → ℕ → Type 0
Contained l x t = (get_or l.s x 0 ≤ get_or l.s t 0) × (get_or l.e t 0 ≤ get_or l.e x 0)

-- m is s in each labelling
abbrev pub Alike : Index → Type 0
Alike I = Every (λ l. l.m ≡ l.s) I.labels
