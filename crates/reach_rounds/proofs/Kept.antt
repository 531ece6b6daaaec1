-- The rounds keep the length of the marks, and every mark from n on: sweeps do, and an edge that leads out marks a name.
use mathlib.Core.Bool.{Bool, true, false}
use mathlib.Core.Path.{◌≡◌, refl, ◌∙◌}
use mathlib.Core.List.{List, [], ◌∷◌}
use Prim.Native.Nat.{ℕ, zero, suc, ◌<◌}
use native.Mathlib.Omega.{arith}
use lib.ListN.{length, get_or, drop}
use lib.Seq.{drop-set-lt}
use Rattle.lineage.specs.Graph.{Edge, first, later}
use Rattle.lineage.specs.Index.{Index}
use Rattle.laws.specs.Sound.{Sound}
use Rattle.laws.proofs.Grouped.{name_in}
use Rattle.reach_sweep.proofs.Swept.{swept_long, swept_past}
use Rattle.reach.specs.Marks.{first_labels, swept_in}
use Rattle.reach.proofs.Marked.{first_sound}
use Rattle.reach_rounds.specs.Rounds.{is_marked, crossed, spread_over, one_led_out, go_on, rounds, swept_all, rounds_in}
use Rattle.reach_rounds.proofs.Closes.{either, spread_long}

-- what a sweep and a pass over the edges keep, the rounds keep
module _
    (names S T : List ℕ) (v : ℕ) (sweep : List ℕ → List ℕ) (P : List ℕ → Type 0)
    (by-sweep : (m : List ℕ) → P m → P (sweep m)) (by-edges : (m : List ℕ) → P m → P (spread_over names S T m))
  where
    pub rounds_keep : (f : ℕ) (m : List ℕ) → P m → P (rounds names S T v sweep f m)
    unfolding rounds
    rounds_keep zero m p = by-sweep m p
    rounds_keep (suc f) m p =
        let q : P (sweep m) = by-sweep m p in
        at (is_marked names (sweep m) v) (one_led_out names S T (sweep m)) q (rounds_keep f (spread_over names S T (sweep m)) (by-edges (sweep m) q))
      where
        at :
            (a b : Bool) → P (sweep m) → P (rounds names S T v sweep f (spread_over names S T (sweep m)))
            → P (go_on a b (λ x. rounds names S T v sweep f x) (sweep m) (spread_over names S T (sweep m)))
        at true b q r = q
        at false false q r = q
        at false true q r = r

module _ (I : Index) (S T : List ℕ) (v : ℕ) (marks : List ℕ) where
  pub rounds_long : length (rounds_in I S T v marks) ≡ length marks
  unfolding swept_in
  rounds_long =
      rounds_keep I.names S T v (swept_all I) (λ m. length m ≡ length marks)
      (λ m e. swept_long I.groups I.children (first_labels I.labels).by_rank (length I.children) m ∙ e)
      (λ m e. spread_long I.names S T m ∙ e) (length S) marks refl

spread_past :
    (names S T : List ℕ) (n : ℕ) → ((a b : ℕ) → Edge S T a b → get_or names b 0 < n) → (m : List ℕ) → drop n (spread_over names S T m) ≡ drop n m
unfolding spread_over
spread_past names [] T n low m = refl
spread_past names (s ∷ S) [] n low m = refl
spread_past names (s ∷ S) (t ∷ T) n low m =
    spread_past names S T n (λ a b e. low a b (later e)) (crossed names s t m)
    ∙ either names s t m (λ x. drop n x ≡ drop n m) (λ out. drop-set-lt n m (get_or names t 0) 1 (low s t first)) refl

module _ {I : Index} (Z : Sound I) (some : 0 < length I.labels) {S T : List ℕ} (low : (a b : ℕ) → Edge S T a b → b < length I.names) where
  pub rounds_past : (v : ℕ) (marks : List ℕ) → drop (length I.names) (rounds_in I S T v marks) ≡ drop (length I.names) marks
  unfolding swept_in
  rounds_past v marks =
      let n : ℕ = length I.names in
      rounds_keep I.names S T v (swept_all I) (λ m. drop n m ≡ drop n marks)
      (λ m e. swept_past Z.condensed (first_sound I.children I.labels Z.labelled some) (length I.children) m (omega arith) ∙ e)
      (λ m e. spread_past I.names S T n (λ a b x. name_in Z.condensed b (low a b x)) m ∙ e) (length S) marks refl
