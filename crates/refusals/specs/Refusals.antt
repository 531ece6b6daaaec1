-- The number and the extra number of each refusal (document 01, "Refusal numbers, in order of checking"; document 02), and what a call gives as the definitions have it.
use Rattle.std.specs.Prelude.{ℕ, Result, Ok, Err}
use Rattle.lineage.specs.Calls.{Outcome, refused, answered}
use Rattle.refusals.specs.declared.Refusal.{Refusal}
use Rattle.refusals.specs.declared.Refusal.TheVariants.{
  ManyVertices,
  ListsDiffer,
  ManyEdges,
  BadLabellings,
  BadOrderList,
  WorkShort,
  BadEdge,
  BadOrder,
  OutputShort,
  BytesShort,
  OtherForm,
  BadHeader,
  MarksShort,
  BadVertex,
  NotSound,
  ListShort,
  BadText,
  BeyondForm,
  OtherLists,
  ManyAdded,
  SharedChild,
}

abbrev pub number_of : Refusal → ℕ
number_of ManyVertices = 1
number_of ListsDiffer = 2
number_of ManyEdges = 3
number_of BadLabellings = 4
number_of BadOrderList = 5
number_of (WorkShort extra) = 6
number_of (BadEdge extra) = 7
number_of (BadOrder extra) = 8
number_of (OutputShort extra) = 9
number_of BytesShort = 10
number_of (OtherForm extra) = 11
number_of BadHeader = 12
number_of (MarksShort extra) = 13
number_of (BadVertex extra) = 14
number_of NotSound = 15
number_of (ListShort extra) = 16
number_of (BadText extra) = 17
number_of BeyondForm = 19
number_of OtherLists = 20
number_of ManyAdded = 21
number_of (SharedChild extra) = 22

abbrev pub extra_of : Refusal → ℕ
extra_of ManyVertices = 0
extra_of ListsDiffer = 0
extra_of ManyEdges = 0
extra_of BadLabellings = 0
extra_of BadOrderList = 0
extra_of (WorkShort extra) = extra
extra_of (BadEdge extra) = extra
extra_of (BadOrder extra) = extra
extra_of (OutputShort extra) = extra
extra_of BytesShort = 0
extra_of (OtherForm extra) = extra
extra_of BadHeader = 0
extra_of (MarksShort extra) = extra
extra_of (BadVertex extra) = extra
extra_of NotSound = 0
extra_of (ListShort extra) = extra
extra_of (BadText extra) = extra
extra_of BeyondForm = 0
extra_of OtherLists = 0
extra_of ManyAdded = 0
extra_of (SharedChild extra) = extra

-- what a call gives, as an outcome: an answer, told by f, or a refusal
abbrev pub outcome_by : {A B : Type 0} → (A → B) → Result A Refusal → Outcome B
outcome_by f (Ok a) = answered (f a)
outcome_by f (Err r) = refused (number_of r) (extra_of r)
