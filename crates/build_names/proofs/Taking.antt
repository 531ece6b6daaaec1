-- A group is made of the top of the stack: its vertices are named in the sixth region and numbered in the first, and the stack lies between the two.
use mathlib.Core.Path.{◌≡◌, sym, subst, ◌∙◌}
use mathlib.Core.List.{List}
use Prim.Native.Nat.{ℕ, ◌+◌, ◌-◌, ◌*◌, ◌≤◌}
use native.Mathlib.Omega.{arith}
use Rattle.lineage.specs.Lists.{part}
use Rattle.laws.specs.Laid.{Below}
use Rattle.laws.proofs.Parts.{part_part}
use Rattle.laws.proofs.Laid.{part_below}
use Rattle.numbers.specs.Regions.{Kept, under}
use Rattle.numbers.proofs.Regions.{kept_then, kept_wider}
use Rattle.numbers.specs.Stamped.{Stamped}
use Rattle.laws.specs.OnePass.{least_of}
use Rattle.build_names.specs.Window.{RunFit, group_at, TakeFit, Taken, own_of, SettleFit, Settled, groups}

module _ {work : List ℕ} {base n begin sp : ℕ} (fit : TakeFit work base n begin sp) where
  pub names_fit : RunFit work (base + 4 * n + begin) (sp - begin) (base + 5 * n) n
  names_fit = record {
    run_there = record { fits = omega (arith, fit.room, fit.some, fit.most); apart = under (omega (arith, fit.some, fit.most)) };
    run_low = fit.low;
    room = omega (arith, fit.room);
  }

  module _ {work₁ : List ℕ} (naming : Kept work work₁ (base + 5 * n) n) where
    group_same : group_at work₁ base n begin sp ≡ group_at work base n begin sp
    group_same = naming.below (base + 4 * n + begin) (sp - begin) (omega (arith, fit.some, fit.most))

    pub taken :
        {work₂ : List ℕ} {name : ℕ} → name ≡ least_of (group_at work base n begin sp) → Stamped name (group_at work base n begin sp) (part work (base + 5 * n) n) (part work₁ (base + 5 * n) n)
        → Kept work₁ work₂ base n → Stamped n (group_at work₁ base n begin sp) (part work₁ base n) (part work₂ base n) → Taken work work₂ base n begin sp
    taken {work₂} {name} is named numbering numbered = record {
      room = fit.room;
      most = fit.most;
      kept = kept_then (kept_wider base (6 * n) (omega arith) (omega arith) naming) (kept_wider base (6 * n) (omega arith) (omega arith) numbering);
      between = λ at count low high. numbering.above at count low ∙ naming.below at count high;
      numbers = rw (group_same, naming.below base n (omega arith)) at numbered;
      names = subst (Stamped (least_of (group_at work base n begin sp)) (group_at work base n begin sp) (part work (base + 5 * n) n)) (sym (numbering.above (base + 5 * n) n (omega arith))) (rw is at named);
    }

module _ {work : List ℕ} {base n d sp : ℕ} (fit : SettleFit work base n d sp) where
  pub take_fit : TakeFit work base n (own_of work base n d - 1) sp
  take_fit =
      let begin : ℕ = own_of work base n d - 1 in
      let inside : begin + (sp - begin) ≤ sp = omega (arith, fit.some, fit.on) in
      record {
        room = fit.room;
        some = omega (arith, fit.some, fit.on);
        most = fit.most;
        low = subst (Below n) (part_part work (base + 4 * n) sp begin (sp - begin) inside) (part_below n (part work (base + 4 * n) sp) begin (sp - begin) fit.low);
        few = fit.few;
      }

  pub settled : {work' : List ℕ} {low : ℕ} → own_of work base n d ≡ low → Taken work work' base n (own_of work base n d - 1) sp → Settled work work' base n d sp low (own_of work base n d - 1)
  settled e t = groups e t (omega (arith, fit.some))
