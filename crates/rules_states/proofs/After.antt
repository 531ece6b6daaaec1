-- In whatever graph yields the index, the state afterwards is as the document says: a path down children from a changed vertex's group to the record's is a path
-- from that vertex to the record's.
use mathlib.Core.Bool.{Bool, true, false, cond}
use mathlib.Core.Logic.Iff
use mathlib.Core.Logic.{◌↔◌}
use mathlib.Core.Path.{◌≡◌, refl}
use mathlib.Core.List.{List}
use Prim.Native.Nat.{ℕ, ◌<◌}
use native.Mathlib.Omega.{arith}
use lib.Dec.{leb}
use lib.ListN.{length}
use borrow.Author.Tests.{leb-true, leb-false}
use Rattle.lineage.specs.Graph.{Graph, Reaches}
use Rattle.lineage.specs.Index.{Index, Made}
use Rattle.lineage.specs.Question.{place_in}
use Rattle.laws.specs.Sound.{Sound}
use Rattle.laws.proofs.Tests.{clash}
use Rattle.laws.proofs.Lists.{in_any, any_none}
use Rattle.laws.proofs.Grouped.{place_low, leads_exactly}
use Rattle.laws.proofs.Sound.{sound_exactly, made_long, made_paths}
use Rattle.rules_states.specs.Rules.{suspect, unknown, reaches_in, affected, state_after}
use Rattle.rules_states.specs.Marks.{InRange}
use Rattle.rules_states.specs.After as after
use Rattle.rules_states.specs.After.{After}

module _ {I : Index} (M : Made I) (changed : List ℕ) (R : InRange (length I.names) changed) where
  reaches_exactly : (u v : ℕ) → u < length I.names → v < length I.names → (reaches_in I u v ≡ true) ↔ Reaches M.graph u v
  unfolding reaches_in
  reaches_exactly u v hu hv =
      let S : Sound I = (sound_exactly I).1 M in
      Iff.trans (leads_exactly S.condensed (place_in I u) (place_in I v) (place_low S.condensed u hu)) (Iff.symm (made_paths M u v hu hv))

  pub state_right : (v s : ℕ) → After M.graph changed v s (state_after I changed v s)
  unfolding state_after affected
  state_right v s = at (leb (length I.names) v) refl
    where
      many : length I.names ≡ M.graph.n
      many = made_long M

      low : v < length I.names → (t : Bool) → affected I changed v ≡ t → After M.graph changed v s (cond t suspect s)
      low h true e =
          let (u, i, r) = in_any (λ u. reaches_in I u v) changed e in
          after.affected (omega (arith, many)) i ((reaches_exactly u v (R.low u i) h).0 r)
      low h false e =
          after.kept (omega (arith, many))
          (λ u i r. clash ((reaches_exactly u v (R.low u i) h).1 r) (any_none (λ u. reaches_in I u v) changed e u i))

      at : (t : Bool) → leb (length I.names) v ≡ t → After M.graph changed v s (cond t unknown (cond (affected I changed v) suspect s))
      at true e = after.gone (omega (arith, many, leb-true (length I.names) v e))
      at false e = low (leb-false (length I.names) v e) (affected I changed v) refl

-- and there is one such state
pub after_once : {G : Graph} {changed : List ℕ} {v s a b : ℕ} → After G changed v s a → After G changed v s b → a ≡ b
after_once (after.gone h) (after.gone k) = refl
after_once (after.gone h) (after.affected k i r) = absurd (omega arith)
after_once (after.gone h) (after.kept k n) = absurd (omega arith)
after_once (after.affected h i r) (after.gone k) = absurd (omega arith)
after_once (after.affected h i r) (after.affected k j q) = refl
after_once (after.affected {u} h i r) (after.kept k n) = absurd (n u i r)
after_once (after.kept h n) (after.gone k) = absurd (omega arith)
after_once (after.kept h n) (after.affected {u} k i r) = absurd (n u i r)
after_once (after.kept h n) (after.kept k m) = refl
