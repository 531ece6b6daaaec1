-- The chain of a yes: the group names from source to target (document 02, [4]).
use Rattle.std.specs.Prelude.{Bool, true, false, List, [], ◌∷◌, ℕ, zero, suc, eqb, length, get_or}
use Rattle.lineage.specs.Lists.{first_of}
use Rattle.lineage.specs.Graph.{leads}
use Rattle.lineage.specs.Index.{Index}
use Rattle.lineage.specs.Question.{place_in}

-- the group at place q reaches the target, the group at place t
unfoldable pub leads_to : Index → ℕ → ℕ → Bool
unfolding leads
leads_to I t q = leads I.children (get_or I.levels q 0) q t

-- the lowest child of p that reaches the target: children rise, so it is the first; the number of groups where none does
unfoldable pub lowest_to : Index → ℕ → ℕ → ℕ
unfolding leads_to
lowest_to I t p = first_of (leads_to I t) (get_or I.children p []) (length I.children)

-- nothing behind the target, otherwise what follows from q
abbrev pub onward : Bool → (ℕ → List ℕ) → ℕ → List ℕ
onward true rest q = []
onward false rest q = rest q

-- from p on: its name, and for any group but the target what follows from the next one; f bounds the names
unfoldable pub steps_by : List ℕ → (ℕ → ℕ) → ℕ → ℕ → ℕ → List ℕ
steps_by groups next t zero p = []
steps_by groups next t (suc f) p = get_or groups p 0 ∷ onward (eqb p t) (steps_by groups next t f) (next p)

-- the chain from a group is its name followed by the chain from its lowest child that reaches the target; for the target's own group it is that one name
unfoldable pub chain_from : Index → ℕ → ℕ → ℕ → List ℕ
unfolding steps_by lowest_to
chain_from I t f p = steps_by I.groups (lowest_to I t) t f p

-- the chain between the groups of two vertices; a group's level bounds the steps below it
unfoldable pub chain_of : Index → ℕ → ℕ → List ℕ
unfolding chain_from
chain_of I u v = chain_from I (place_in I v) (suc (get_or I.levels (place_in I u) 0)) (place_in I u)
