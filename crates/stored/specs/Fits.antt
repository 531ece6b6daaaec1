-- An index that a form can hold.
use Rattle.std.specs.Prelude.{true, ◌≡◌, ℕ, ◌^◌, ◌<◌, length}
use Rattle.lineage.specs.Lists.{Every}
use Rattle.lineage.specs.Labels.{Labelling}
use Rattle.lineage.specs.Index.{Index}
use Rattle.lineage.specs.Stored.{Form, form_of, counts_of, counts_fit, sections}

-- a labelling has s, m and e for each of the k groups, and a place for each of the k ranks; where m is not written it is s
pub record Full (z k : ℕ) (l : Labelling) : Type 0 where
  pub s : length l.s ≡ k
  pub m : length l.m ≡ k
  pub e : length l.e ≡ k
  pub by_rank : length l.by_rank ≡ k
  pub alike : z ≡ 2 → l.m ≡ l.s

-- the form is in the table, the counts are within its bounds, every group has its level, its children and its labels, and every number of every section can be
-- written in the form's width
pub record Fits (F : Form) (I : Index) : Type 0 where
  pub known : form_of F.number ≡ F
  pub counts : counts_fit F (counts_of I) ≡ true
  pub levels : length I.levels ≡ length I.groups
  pub children : length I.children ≡ length I.groups
  pub labels : Every (Full F.by_place (length I.groups)) I.labels
  pub small : Every (Every (λ x. x < 256 ^ F.width)) (sections F.by_place I)
