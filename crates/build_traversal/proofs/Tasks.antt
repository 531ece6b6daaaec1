-- What a stack of frames has still to do: from the top, the tries of what is left of the row there, then that frame's vertex is finished, and so down to the
-- roots.
use mathlib.Core.Path.{◌≡◌, refl, ap, ◌∙◌}
use mathlib.Core.List.{List, [], ◌∷◌, ◌++◌, append-nil}
use Prim.Native.Nat.{ℕ, zero, suc, ◌+◌, ◌-◌, ◌≤◌, ◌<◌}
use native.Mathlib.Omega.{arith}
use lib.ListN.{length, get_or, set, take}
use lib.Seq.{get_or-set_same, get_or-set_other, take_all}
use Rattle.lineage.specs.Lists.{part}
use Rattle.laws.proofs.Parts.{part_first, part_empty}
use Rattle.build_traversal.specs.Frames.{row_end}

-- to try a vertex, or to finish one, with the number that was kept in its frame
pub data Task : Type 0 where
  try : ℕ → Task
  finish : ℕ → ℕ → Task

abbrev pub tries : List ℕ → List Task
tries [] = []
tries (v ∷ vs) = try v ∷ tries vs

-- the row at a depth: the roots, else the values of the rows
abbrev pub row_list : List ℕ → List ℕ → ℕ → List ℕ
row_list roots values zero = roots
row_list roots values (suc d) = values

-- a store in the stack at depth j or above does not move the row's end
pub end_same : (starts : List ℕ) (q : ℕ) (stack : List ℕ) (d j v : ℕ) → d ≤ j → row_end starts q (set stack j v) d ≡ row_end starts q stack d
end_same starts q stack zero j v h = refl
end_same starts q stack (suc d) j v h = rw (get_or-set_other stack j d v 0 (λ e. omega arith))

module _ (starts values roots : List ℕ) (q : ℕ) where
  -- the tasks under the row at a depth
  abbrev pub under : List ℕ → List ℕ → List ℕ → ℕ → List Task
  under stack back entry zero = []
  under stack back entry (suc d) =
      finish (get_or stack d 0) (get_or entry d 0)
      ∷ (tries (part (row_list roots values d) (get_or back d 0) (row_end starts q stack d - get_or back d 0)) ++ under stack back entry d)

  -- the tasks from place e of the row at depth d
  abbrev pub tasks : List ℕ → List ℕ → List ℕ → ℕ → ℕ → List Task
  tasks stack back entry d e = tries (part (row_list roots values d) e (row_end starts q stack d - e)) ++ under stack back entry d

  under_same : (stack back entry : List ℕ) (d j v e low : ℕ) → d ≤ j → under (set stack j v) (set back j e) (set entry j low) d ≡ under stack back entry d
  under_same stack back entry zero j v e low h = refl
  under_same stack back entry (suc d) j v e low h =
      rw (
        end_same starts q stack d j v (omega arith),
        get_or-set_other stack j d v 0 (λ z. omega arith),
        get_or-set_other back j d e 0 (λ z. omega arith),
        get_or-set_other entry j d low 0 (λ z. omega arith),
        under_same stack back entry d j v e low (omega arith),
      )

  module _ (stack back entry : List ℕ) (d : ℕ) where
    -- a frame more
    pub tasks_more :
        (v e low e' : ℕ) → d < length stack → d < length back → d < length entry
        → tasks (set stack d v) (set back d e) (set entry d low) (suc d) e'
        ≡ tries (part values e' (get_or starts (suc v) 0 - e')) ++ (finish v low ∷ tasks stack back entry d e)
    tasks_more v e low e' h h' h'' =
        rw (
          get_or-set_same stack d v 0 h,
          get_or-set_same entry d low 0 h'',
          get_or-set_same back d e 0 h',
          end_same starts q stack d d v (omega arith),
          under_same stack back entry d d v e low (omega arith),
        )

    -- the next entry of the row
    pub tasks_next :
        (e : ℕ) → e < row_end starts q stack d → row_end starts q stack d ≤ length (row_list roots values d)
        → tasks stack back entry d e ≡ try (get_or (row_list roots values d) e 0) ∷ tasks stack back entry d (e + 1)
    tasks_next e h l = rw (part_first (row_list roots values d) e (row_end starts q stack d) h l)

    -- the row is over
    pub tasks_over : (e : ℕ) → row_end starts q stack d ≤ e → tasks stack back entry d e ≡ under stack back entry d
    tasks_over e h = rw (part_empty (row_list roots values d) e (row_end starts q stack d) h)

  -- all roots, and nothing under them
  pub tasks_first : (stack back entry : List ℕ) → length roots ≡ q → tasks stack back entry 0 0 ≡ tries roots
  unfolding part
  tasks_first stack back entry h =
      let z : q - 0 ≡ q = omega arith in
      append-nil _ ∙ ap (λ (m : ℕ). tries (take m roots)) z ∙ ap tries (take_all q roots (omega arith))
