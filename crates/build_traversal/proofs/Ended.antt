-- The traversal at its end: no task is left, so the state that memory holds is what the traversal folds to, and the tables in memory are its labels.
use mathlib.Core.Bool.{true}
use mathlib.Core.Path.{◌≡◌, sym, ap, ◌∙◌, subst}
use mathlib.Core.List.{List, [], map}
use Prim.Native.Nat.{ℕ, suc, ◌+◌, ◌*◌, min, ◌≤◌, ◌<◌}
use native.Mathlib.Nat.{zero-add}
use native.Mathlib.Omega.{arith}
use lib.ListN.{length, get_or, replicate}
use Rattle.lineage.specs.Lists.{among, position, least, part}
use Rattle.lineage.specs.Labels.{Forest, finished, traverse}
use Rattle.laws.specs.Visits.{Visits}
use Rattle.laws.proofs.Positions.{position_low, least_min}
use Rattle.laws.proofs.Laid.{below_in}
use Rattle.laws.proofs.Parts.{part_length}
use Rattle.numbers.specs.Regions.{Kept}
use Rattle.build_rows.specs.Rows.{rows_in}
use Rattle.build_traversal.specs.Traversed.{Traversed}
use Rattle.build_traversal.specs.Fit.{TraverseFit}
use Rattle.build_traversal.proofs.Reach.{Inside, rows_low, traverse_visits}
use Rattle.build_traversal.proofs.Tasks.{tries}
use Rattle.build_traversal.proofs.Frames.{tasks_end, room_now}
use Rattle.build_traversal.proofs.Machine.{State, state_after, Runs, nothing, run_end}
use Rattle.build_traversal.proofs.Labels.{Sized, Told, told, out_after}
use Rattle.build_traversal.proofs.Going.{Going, state_of, held}

-- what the traversal folds to are its labels
module _
    {next : ℕ → List ℕ} {n : ℕ} (next_low : Inside n next) {roots : List ℕ} {f : Forest} (visits : Visits next roots [] f) (roots_low : (q : ℕ) → among q roots ≡ true → q < n)
    (work₀ work : List ℕ) (base k s : ℕ) (room₀ : base + 7 * n ≤ length work₀) (room : base + 7 * n ≤ length work) (most : k ≤ n)
    (same : state_of work base n k s ≡ state_after n visits (state_of work₀ base n 0 1))
  where
    abbrev first : State
    first = state_of work₀ base n 0 1

    none_out : length first.out ≡ 0
    none_out = part_length work₀ (base + 4 * n) 0 (omega arith)

    sized : Sized n first
    sized = record {
      marks = part_length work₀ base n (omega arith);
      m = part_length work₀ (base + 5 * n) n (omega arith);
      e = part_length work₀ (base + 6 * n) n (omega arith);
    }

    labels : (v : ℕ) → among v (finished f) ≡ true → Told n next f 0 v (state_of work base n k s)
    labels v i = subst (λ c. Told n next f c v (state_of work base n k s)) none_out (subst (Told n next f (length first.out) v) (sym same) (told n next_low visits first sized roots_low v i))

    out_is : part work (base + 4 * n) k ≡ finished f
    unfolding part
    out_is = ap (λ t. t.out) same ∙ out_after n visits first

    pub traversed : Traversed next f work base n k
    traversed = record {
      most = most;
      out = out_is;
      m = λ v i. (labels v i).m ∙ ap suc (zero-add _);
      e = λ v i. e_is v i;
      s = λ D v i.
          (labels v i).s D
          ∙ ap (min (least n (map (λ q. get_or (part work base n) q 0) (next v)))) (e_is v i)
          ∙ least_min n (suc (position v (finished f))) (map (λ q. get_or (part work base n) q 0) (next v))
          ∙ ap (λ z. least z (map (λ q. get_or (part work base n) q 0) (next v))) (low v i);
    }
      where
        e_is : (v : ℕ) → among v (finished f) ≡ true → get_or (part work (base + 6 * n) n) v 0 ≡ suc (position v (finished f))
        e_is v i = (labels v i).e ∙ ap suc (zero-add _)

        low : (v : ℕ) → among v (finished f) ≡ true → min n (suc (position v (finished f))) ≡ suc (position v (finished f))
        low v i = omega (arith, position_low v (finished f) i, ap length out_is, part_length work (base + 4 * n) k (omega arith), most)

module _ {work₀ work : List ℕ} {starts values c roots q n base d k s e at end : ℕ} (fit : TraverseFit work₀ starts values c roots q n base (7 * n)) (g : Going work₀ work starts values c roots q n base d k s e at end) where
  run_through : d ≡ 0 → end ≤ e → Runs n (rows_in work₀ starts values c n) (tries (part work₀ roots q)) (state_of work₀ base n 0 1) (state_of work base n k s)
  run_through z h = g.goes (state_of work base n k s) (subst (λ ts. Runs n (rows_in work₀ starts values c n) ts (state_of work base n k s) (state_of work base n k s)) (sym (tasks_end fit g.frames h z)) nothing)

  pub ended :
      part work₀ base n ≡ replicate n 0 → d ≡ 0 → end ≤ e
      → Kept work₀ work base (7 * n) × Traversed (rows_in work₀ starts values c n) (traverse (rows_in work₀ starts values c n) (suc n) (part work₀ roots q) []) work base n k
  ended clear z h =
      let next_low = rows_low (part work₀ starts (n + 1)) (part work₀ values c) fit.values_low in
      let roots_low = below_in n (part work₀ roots q) fit.roots_low in
      let visits = traverse_visits n (part work₀ roots q) next_low roots_low in
      let same = run_end next_low visits roots_low (state_of work₀ base n 0 1) clear (omega arith) (run_through z h) in
      (g.frames.kept, traversed next_low visits roots_low work₀ work base k s (omega (arith, fit.room)) (room_now fit g.frames) (omega (arith, held fit g)) same)
