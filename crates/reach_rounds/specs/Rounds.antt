-- Rounds over added edges: each edge that leads from a marked group into an unmarked one marks it, then a sweep; until there is none, or the target is marked.
use Rattle.std.specs.Prelude.{Bool, true, false, not, ◌&&◌, ◌||◌, cond, List, [], ◌∷◌, ℕ, zero, suc, ◌<◌, eqb, length, get_or, set}
use Rattle.lineage.specs.Index.{Index}
use Rattle.reach.specs.Marks.{swept_in}

-- every number of the list is below n
pub record Low (n : ℕ) (xs : List ℕ) : Type 0 where
  pub each : (i : ℕ) → i < length xs → get_or xs i 0 < n

-- the vertex's group is marked
abbrev pub is_marked : List ℕ → List ℕ → ℕ → Bool
is_marked names marks v = eqb (get_or marks (get_or names v 0) 0) 1

-- an edge from s to t leads from a marked group into an unmarked one
unfoldable pub leads_out : List ℕ → List ℕ → ℕ → ℕ → Bool
leads_out names marks s t = is_marked names marks s && not (is_marked names marks t)

-- such an edge marks it
unfoldable pub crossed : List ℕ → ℕ → ℕ → List ℕ → List ℕ
unfolding leads_out
crossed names s t marks = cond (leads_out names marks s t) (set marks (get_or names t 0) 1) marks

-- the edges in turn: the marks, and whether one led out
unfoldable pub spread_over : List ℕ → (sources targets : List ℕ) → List ℕ → List ℕ
unfolding crossed
spread_over names [] T marks = marks
spread_over names (s ∷ S) [] marks = marks
spread_over names (s ∷ S) (t ∷ T) marks = spread_over names S T (crossed names s t marks)

unfoldable pub one_led_out : List ℕ → (sources targets : List ℕ) → List ℕ → Bool
unfolding crossed
one_led_out names [] T marks = false
one_led_out names (s ∷ S) [] marks = false
one_led_out names (s ∷ S) (t ∷ T) marks = leads_out names marks s t || one_led_out names S T (crossed names s t marks)

-- nothing more where the target is marked or no edge leads out, otherwise the rest of the rounds
abbrev pub go_on : Bool → Bool → (List ℕ → List ℕ) → List ℕ → List ℕ → List ℕ
go_on true b rest marks more = marks
go_on false false rest marks more = marks
go_on false true rest marks more = rest more

-- a sweep, and then so many rounds at most, each over the added edges and with its sweep
unfoldable pub rounds : List ℕ → (sources targets : List ℕ) → ℕ → (sweep : List ℕ → List ℕ) → ℕ → List ℕ → List ℕ
unfolding spread_over one_led_out
rounds names S T v sweep zero marks = sweep marks
rounds names S T v sweep (suc f) marks =
    let swept : List ℕ = sweep marks in
    go_on (is_marked names swept v) (one_led_out names S T swept) (λ m. rounds names S T v sweep f m) swept (spread_over names S T swept)

-- over an index, by the sweep through all ranks, as many rounds as there are added edges
abbrev pub swept_all : Index → List ℕ → List ℕ
swept_all I marks = swept_in I (length I.children) marks

abbrev pub rounds_in : Index → (sources targets : List ℕ) → ℕ → List ℕ → List ℕ
rounds_in I S T v marks = rounds I.names S T v (swept_all I) (length S) marks
