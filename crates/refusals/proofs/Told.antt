-- A refusal is the only one with its number and its extra number: it can be read back from them. So a call gives one thing alone for an outcome, where an answer is told by what f says
-- of it.
use mathlib.Core.Path.{◌≡◌, refl, sym, ap, ◌∙◌}
use mathlib.Core.List.{[], ◌∷◌}
use Prim.Native.Nat.{ℕ}
use lib.ListN.{get_or}
use Rattle.std.specs.Prelude.{Result, Ok, Err}
use Rattle.lineage.specs.Calls.{Outcome, refused, answered}
use Rattle.refusals.specs.declared.Refusal.{Refusal}
use Rattle.refusals.specs.declared.Refusal.TheVariants.{
  ManyVertices,
  ListsDiffer,
  ManyEdges,
  BadLabellings,
  BadOrderList,
  WorkShort,
  BadEdge,
  BadOrder,
  OutputShort,
  BytesShort,
  OtherForm,
  BadHeader,
  MarksShort,
  BadVertex,
  NotSound,
  ListShort,
  BadText,
  BeyondForm,
  OtherLists,
  ManyAdded,
  SharedChild,
}
use Rattle.refusals.specs.Refusals.{number_of, extra_of, outcome_by}

-- the refusals with this extra number, by number; 0 and 18 are none of theirs
abbrev refusal_by : ℕ → ℕ → Refusal
refusal_by number extra =
    get_or
    (NotSound
    ∷ ManyVertices
    ∷ ListsDiffer
    ∷ ManyEdges
    ∷ BadLabellings
    ∷ BadOrderList
    ∷ WorkShort extra
    ∷ BadEdge extra
    ∷ BadOrder extra
    ∷ OutputShort extra
    ∷ BytesShort
    ∷ OtherForm extra
    ∷ BadHeader
    ∷ MarksShort extra
    ∷ BadVertex extra
    ∷ NotSound
    ∷ ListShort extra
    ∷ BadText extra
    ∷ NotSound
    ∷ BeyondForm
    ∷ OtherLists
    ∷ ManyAdded
    ∷ SharedChild extra
    ∷ [])
    number NotSound

read_back : (r : Refusal) → refusal_by (number_of r) (extra_of r) ≡ r
read_back ManyVertices = refl
read_back ListsDiffer = refl
read_back ManyEdges = refl
read_back BadLabellings = refl
read_back BadOrderList = refl
read_back (WorkShort extra) = refl
read_back (BadEdge extra) = refl
read_back (BadOrder extra) = refl
read_back (OutputShort extra) = refl
read_back BytesShort = refl
read_back (OtherForm extra) = refl
read_back BadHeader = refl
read_back (MarksShort extra) = refl
read_back (BadVertex extra) = refl
read_back NotSound = refl
read_back (ListShort extra) = refl
read_back (BadText extra) = refl
read_back BeyondForm = refl
read_back OtherLists = refl
read_back ManyAdded = refl
read_back (SharedChild extra) = refl

-- the number and the extra number of a refusal, and otherwise those of another
module _ {B : Type 0} (other : Refusal) where
  abbrev refusal_in : Outcome B → Refusal
  refusal_in (refused number extra) = refusal_by number extra
  refusal_in (answered b) = other

module _ {B : Type 0} (other : B) where
  abbrev answer_in : Outcome B → B
  answer_in (refused number extra) = other
  answer_in (answered b) = b

-- two results with one outcome are one result, where f tells answers apart
module _ {A B : Type 0} (f : A → B) (apart : (a a' : A) → f a ≡ f a' → a ≡ a') where
  pub outcome_once : (r r' : Result A Refusal) → outcome_by f r ≡ outcome_by f r' → r ≡ r'
  outcome_once (Ok a) (Ok a') e = ap Ok (apart a a' (ap (answer_in (f a)) e))
  outcome_once (Ok a) (Err r') e = cc
  outcome_once (Err r) (Ok a') e = cc
  outcome_once (Err r) (Err r') e = ap Err (sym (read_back r) ∙ ap (refusal_in r) e ∙ read_back r')
