-- What the names of sound contents give the rounds: they are those of the index, and each has its mark.
use mathlib.Core.Path.{◌≡◌, sym, ap, ◌∙◌}
use mathlib.Core.Bool.{Bool}
use mathlib.Core.List.{List}
use Prim.Native.Nat.{ℕ, ◌≤◌, ◌<◌}
use native.Mathlib.Omega.{arith}
use lib.ListN.{get_or}
use Rattle.lineage.specs.Numbers.{numbers}
use Rattle.lineage.specs.Calls.{index_in}
use Rattle.numbers.proofs.Numbers.{numbers_at}
use Rattle.stored_header.specs.declared.Layout.{Layout}
use Rattle.stored_header.proofs.Laid.{k_is}
use Rattle.stored.specs.Sections.{Section, Six}
use Rattle.stored.proofs.Contents.{stretch_of, names_only, children_many}
use Rattle.sound_places.specs.Lent.{SoundBytes}
use Rattle.reach.specs.Marks.{swept_in}
use Rattle.reach.proofs.Fitted.{names_are, names_fit}
use Rattle.reach_rounds.specs.Rounds.{spread_over, one_led_out, swept_all}

-- the sweep from the highest rank
pub swept_from_top : {b : List ℕ} {l : Layout} → SoundBytes b l → (before : List ℕ) {after : List ℕ} → after ≡ swept_in (index_in b) l.k before → after ≡ swept_all (index_in b) before
swept_from_top {b} O before e = e ∙ ap (λ (r : ℕ). swept_in (index_in b) r before) (k_is O.laid ∙ sym (children_many b))

module _ {b : List ℕ} {l : Layout} {names : List ℕ} (O : SoundBytes b l) (N : Section b l 0 names) where
  abbrev P : let L = O.laid in Six b l names (stretch_of L 1) (stretch_of L 2) (stretch_of L 3) (stretch_of L 4) (stretch_of L 5)
  P = names_only O.laid N

  pub names_here : numbers l.width names l.n ≡ (index_in b).names
  names_here = names_are O P

  -- each has its mark
  pub names_low : (marks : ℕ) → l.n ≤ marks → (v : ℕ) → v < l.n → get_or (numbers l.width names l.n) v 0 < marks
  names_low marks room v h = omega (arith, numbers_at l.width names l.n v h, (names_fit O P marks room).name_low v h)

  pub name_room : (v : ℕ) {name marks : ℕ} → v < l.n → name ≡ get_or (numbers l.width names l.n) v 0 → l.n ≤ marks → name < marks
  name_room v {marks = marks} h e room = omega (arith, e, names_low marks room v h)

  -- the name of a vertex that was read
  pub name_here : (v : ℕ) {name : ℕ} → name ≡ get_or (numbers l.width names l.n) v 0 → name ≡ get_or (index_in b).names v 0
  name_here v e = e ∙ ap (λ (s : List ℕ). get_or s v 0) names_here

  -- a round over the added edges
  module _ (S T before : List ℕ) where
    pub spread_here : {after : List ℕ} → after ≡ spread_over (numbers l.width names l.n) S T before → after ≡ spread_over (index_in b).names S T before
    spread_here e = e ∙ ap (λ (s : List ℕ). spread_over s S T before) names_here

    pub led_here : {r : Bool} → r ≡ one_led_out (numbers l.width names l.n) S T before → r ≡ one_led_out (index_in b).names S T before
    led_here e = e ∙ ap (λ (s : List ℕ). one_led_out s S T before) names_here
