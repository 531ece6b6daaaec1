-- A turned build is refused by 1 to 7 exactly as the ordinary one, with the same extra number. Where the two lists are of one length every check of the one is that of
-- the other, an edge having a bad end either way round; where they are not, both are refused by 2 unless 1 comes first.
use mathlib.Core.Bool.{Bool, or_comm}
use mathlib.Core.Path.{◌≡◌, sym}
use mathlib.Core.List.{List}
use Prim.Native.Nat.{ℕ}
use native.Mathlib.Decide.{ℕ_discrete}
use lib.Dec.{leb}
use lib.ListN.{length, get_or}
use borrow.Author.Tests.{ne_eqb}
use Rattle.lineage.specs.Lists.{upto, any, first_of}
use Rattle.lineage.specs.Graph.{Graph, turned_graph}
use Rattle.lineage.specs.Stored.{Form}
use Rattle.lineage.specs.Calls.{outcome, Input, turned_input, bad_edge, build_early}

module _ (F : Form) (B : Input) (work : ℕ) where
  abbrev G : Graph
  G = B.graph

  abbrev S : List ℕ
  S = G.sources

  abbrev T : List ℕ
  T = G.targets

  -- an edge with a bad end has it either way round, so whatever is told by the bad edges is the same
  bad_turned : {X : Type 0} (f : (ℕ → Bool) → List ℕ → X) → length S ≡ length T → f (bad_edge (turned_graph G)) (upto (length T)) ≡ f (bad_edge G) (upto (length S))
  bad_turned f long = λ j. f (λ i. or_comm (leb G.n (get_or T i 0)) (leb G.n (get_or S i 0)) j) (upto (sym long j))

  pub early_turned : {A : Type 0} (a : A) → outcome (build_early F (turned_input B) work) a ≡ outcome (build_early F B work) a
  early_turned {A} a = at (ℕ_discrete (length S) (length T))
    where
      at : Dec (length S ≡ length T) → outcome (build_early F (turned_input B) work) a ≡ outcome (build_early F B work) a
      at (yes long) = cc (bad_turned any long, bad_turned (λ p xs. first_of p xs 0) long)
      at (no apart) = rw (ne_eqb (length S) (length T) apart, ne_eqb (length T) (length S) (λ e. apart (sym e)))
