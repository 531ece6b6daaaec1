-- Chains of document 01's graph G, asked of its stored bytes under order A at both forms, through every check: one table, a single claim, by computation.
use Rattle.std.specs.Prelude.{◌≡◌, refl, List, [], ◌∷◌, ◌++◌, ℕ, suc, length, replicate}
use Rattle.lineage.specs.Lists.{Every}
use Rattle.lineage.specs.Graph.{Graph}
use Rattle.lineage.specs.Index.{index_of}
use Rattle.lineage.specs.Stored.{Form, form1, form2, encode}
use Rattle.lineage.specs.Calls.{Outcome, refused, answered, ordinary}
use Rattle.chain.specs.Traced.{Traced, none, steps, chain_answer, chain_output}

-- edges 0-1, 1-2, 2-1, 0-3, 3-4, 2-4, 5-5; order A is 0 to 5
abbrev G : Graph
G = record { n = 6; sources = 0 ∷ 1 ∷ 2 ∷ 0 ∷ 3 ∷ 2 ∷ 5 ∷ []; targets = 1 ∷ 2 ∷ 1 ∷ 3 ∷ 4 ∷ 4 ∷ 5 ∷ [] }

abbrev stored : Form → List ℕ
stored F = encode F (index_of G ((0 ∷ 1 ∷ 2 ∷ 3 ∷ 4 ∷ 5 ∷ []) ∷ []))

-- the answer of a list of this length, words enough; and what such a list, each of its numbers 7, holds afterwards
abbrev asked : Form → (u v out : ℕ) → Outcome Traced
asked F u v out = chain_answer ordinary (stored F) u v 6 200 out

abbrev written : Form → (u v out : ℕ) → List ℕ
written F u v out = chain_output ordinary (stored F) u v 6 200 (replicate out 7)

-- a chain; a no, whatever the list's length; an outcome of a list of a length
data Example : Type 0 where
  chain_is : (u v : ℕ) → List ℕ → Example
  there_is_none : (u v : ℕ) → Example
  refuses : (u v out : ℕ) → (number extra : ℕ) → Example

abbrev AtForm : Form → Example → Type 0
AtForm F (chain_is u v chain) = (asked F u v (length chain) ≡ answered (steps (length chain))) × (written F u v (suc (length chain)) ≡ chain ++ (7 ∷ []))
AtForm F (there_is_none u v) = (asked F u v 0 ≡ answered none) × (written F u v 2 ≡ 7 ∷ 7 ∷ [])
AtForm F (refuses u v out number extra) = (asked F u v out ≡ refused number extra) × (written F u v out ≡ replicate out 7)

abbrev Right : Example → Type 0
Right e = AtForm form1 e × AtForm form2 e

abbrev table : List Example
table =
    -- of the children 1 and 3 of 0 the lowest, where both reach 4; 3 where 1 does not reach it
    chain_is 0 4 (0 ∷ 1 ∷ 4 ∷ [])
    ∷ chain_is 0 3 (0 ∷ 3 ∷ [])
    -- names and not vertices: 1 and 2 are one group
    ∷ chain_is 2 4 (1 ∷ 4 ∷ [])
    ∷ chain_is 0 2 (0 ∷ 1 ∷ [])
    -- for the target's own group that one name
    ∷ chain_is 1 2 (1 ∷ [])
    ∷ chain_is 5 5 (5 ∷ [])
    -- no chain
    ∷ there_is_none 3 2
    ∷ there_is_none 0 5
    -- one short; a source and a target that are no vertices
    ∷ refuses 0 4 2 16 3
    ∷ refuses 1 2 0 16 1
    ∷ refuses 6 6 1 14 0
    ∷ refuses 0 6 1 14 1
    ∷ []

claim : Every Right table
unfolding index_of encode chain_answer chain_output
claim = (
  ((refl, refl), (refl, refl)),
  (
    ((refl, refl), (refl, refl)),
    (
      ((refl, refl), (refl, refl)),
      (
        ((refl, refl), (refl, refl)),
        (
          ((refl, refl), (refl, refl)),
          (
            ((refl, refl), (refl, refl)),
            (
              ((refl, refl), (refl, refl)),
              (
                ((refl, refl), (refl, refl)),
                (
                  ((refl, refl), (refl, refl)),
                  (((refl, refl), (refl, refl)), (((refl, refl), (refl, refl)), (((refl, refl), (refl, refl)), tt))),
                ),
              ),
            ),
          ),
        ),
      ),
    ),
  ),
)
