-- What is read of the numbers by place of one labelling, and the marks that tell the exceptions of one group. A group's mark stands at its name.
use Rattle.std.specs.Prelude.{Bool, ◌&&◌, cond, ◌≡◌, List, ℕ, ◌+◌, ◌-◌, ◌*◌, ◌<◌, eqb, leb, length, get_or, drop}
use Rattle.lineage.specs.Graph.{leads}
use Rattle.lineage.specs.Labels.{Labelling}
use Rattle.lineage.specs.Index.{Index}
use Rattle.lineage.specs.Numbers.{num_at}
use Rattle.laws_exceptions.specs.Exceptions.{is_exception}
use Rattle.stored.specs.Sections.{labels_in}
use Rattle.stored.specs.declared.reading.Labels.{Labels}

-- the labellings that lent labels hold
abbrev pub labels_of : Labels → List Labelling
labels_of m = labels_in m.width m.z m.bytes.now m.k m.d

-- y's outer interval lies in x's: s(x) is not above s(y), nor e(y) above e(x)
abbrev pub lies_in : (w z : ℕ) → List ℕ → (x y : ℕ) → Bool
lies_in w z tuples x y = leb (num_at w tuples (z * x)) (num_at w tuples (z * y)) && leb (num_at w tuples (z * y + (z - 1))) (num_at w tuples (z * x + (z - 1)))

abbrev pub mark_of : Index → List ℕ → ℕ → ℕ
mark_of I marks q = get_or marks (get_or I.groups q 0) 0

-- what x reaches is marked 1, every other group 0
pub record Reaching (I : Index) (x : ℕ) (marks : List ℕ) : Type 0 where
  pub told : (q : ℕ) → q < length I.children → mark_of I marks q ≡ cond (leads I.children (get_or I.levels x 0) x q) 1 0

-- the mark of a group is 2 exactly where it is an exception of x
pub record Excepted (I : Index) (x : ℕ) (marks : List ℕ) : Type 0 where
  pub told : (q : ℕ) → q < length I.children → eqb (mark_of I marks q) 2 ≡ is_exception I x q

-- and there are as many marks as before, and from n on they are kept
pub record Excepting (I : Index) (x : ℕ) (before marks : List ℕ) : Type 0 where
  pub long : length marks ≡ length before
  pub past : drop (length I.names) marks ≡ drop (length I.names) before
  pub marked : Excepted I x marks
