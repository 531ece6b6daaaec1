-- The walk of document 01, "A question", over any net, told by lists of opened groups where the walk of lineage has marks.
use Rattle.std.specs.Prelude.{Bool, true, false, ◌≡◌, List, [], ◌∷◌, ℕ}
use Rattle.lineage.specs.Lists.{among}
use Rattle.lineage.specs.Walk.{Net}

-- x stands in the list
infix 20 ◌∈◌
abbrev pub ◌∈◌ : ℕ → List ℕ → Type 0
x ∈ xs = among x xs ≡ true

-- how trying children ends: nowhere, or at a child of which rule 2 says yes
pub data End : Type 0 where
  nowhere : End
  yes_at : ℕ → End

-- Tries cs o e o': trying the children cs one after the other, with the groups o opened before (the last first), ends with e, and then the
-- groups o' are opened.
pub data Tries (N : Net) : List ℕ → List ℕ → End → List ℕ → Type 0 where
  -- no child is left
  over : {o : List ℕ} → Tries N [] o nowhere o
  -- rule 2 ends the whole walk with yes
  hit : {h : ℕ} {cs o : List ℕ} → N.yes h ≡ true → Tries N (h ∷ cs) o (yes_at h) o
  -- a child already opened is passed over
  met : {h : ℕ} {cs o o' : List ℕ} {e : End} → N.yes h ≡ false → h ∈ o → Tries N cs o e o' → Tries N (h ∷ cs) o e o'
  -- a child ruled out by 3 or 4 is passed over
  cut : {h : ℕ} {cs o o' : List ℕ} {e : End} → N.yes h ≡ false → N.no h ≡ true → Tries N cs o e o' → Tries N (h ∷ cs) o e o'
  -- any other child is opened in its turn: its children are tried, and the walk ends among them
  finds :
      {h g : ℕ} {cs o o' : List ℕ}
      → N.yes h ≡ false → among h o ≡ false → N.no h ≡ false
      → Tries N (N.children h) (h ∷ o) (yes_at g) o'
      → Tries N (h ∷ cs) o (yes_at g) o'
  -- or it does not, and the children after it are tried
  goes_on :
      {h : ℕ} {cs o o₁ o₂ : List ℕ} {e : End}
      → N.yes h ≡ false → among h o ≡ false → N.no h ≡ false
      → Tries N (N.children h) (h ∷ o) nowhere o₁
      → Tries N cs o₁ e o₂
      → Tries N (h ∷ cs) o e o₂

-- the walk from x opens x and tries its children
abbrev pub Walks : Net → ℕ → End → List ℕ → Type 0
Walks N x e o = Tries N (N.children x) (x ∷ []) e o

-- child by child, where every group on the way, both ends included, passes rules 3 and 4
pub data Through (children : ℕ → List ℕ) (no? : ℕ → Bool) : ℕ → ℕ → Type 0 where
  ends : {g : ℕ} → no? g ≡ false → Through children no? g g
  goes : {p q g : ℕ} → no? p ≡ false → q ∈ children p → Through children no? q g → Through children no? p g
