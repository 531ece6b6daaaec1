-- Two nets that agree on the groups below k have one walk, since it never leaves them: what is proved of an index holds of the bytes that store it.
use mathlib.Core.Bool.{Bool, true, false, ◌||◌}
use mathlib.Core.Path.{◌≡◌, refl, ◌∙◌}
use mathlib.Core.List.{List, [], ◌∷◌}
use Prim.Native.Nat.{ℕ, zero, suc, ◌<◌}
use lib.ListN.{set}
use Rattle.lineage.specs.Walk.{Net, Walked, marked, follow, pick, try_with, open_at}
use Rattle.laws.proofs.Lists.{here, there}
use Rattle.laws_answers.specs.Walks.{◌∈◌}

-- the nets have the same children, tests and marks on groups below k, and children stay there
pub record Agree (N N' : Net) (k : ℕ) : Type 0 where
  pub within : (p q : ℕ) → p < k → q ∈ N.children p → q < k
  pub children : (p : ℕ) → p < k → N.children p ≡ N'.children p
  pub yes : (p : ℕ) → p < k → N.yes p ≡ N'.yes p
  pub deciding : (p : ℕ) → p < k → N.deciding p ≡ N'.deciding p
  pub no : (p : ℕ) → p < k → N.no p ≡ N'.no p
  pub spot : (p : ℕ) → p < k → N.spot p ≡ N'.spot p

pick_same :
    (y p : Bool) (l : ℕ) (op op' : ℕ → List ℕ → Walked) (h : ℕ) (m : List ℕ) (rest rest' : List ℕ → Walked)
    → op h m ≡ op' h m → ((m' : List ℕ) → rest m' ≡ rest' m') → pick y p l op h m rest ≡ pick y p l op' h m rest'
pick_same true p l op op' h m rest rest' o e = refl
pick_same false true l op op' h m rest rest' o e = e m
pick_same false false l op op' h m rest rest' o e = λ i. follow (o i).found (o i) (λ m'. e m' i)

module _ (N N' : Net) (k : ℕ) (A : Agree N N' k) where
  -- trying children, where both open groups below k alike
  pub try_same :
      (op op' : ℕ → List ℕ → Walked) → ((h : ℕ) (m : List ℕ) → h < k → op h m ≡ op' h m)
      → (cs : List ℕ) → ((h : ℕ) → h ∈ cs → h < k) → (m : List ℕ) → try_with N op cs m ≡ try_with N' op' cs m
  unfolding try_with
  try_same op op' o [] b m = refl
  try_same op op' o (h ∷ cs) b m =
      let l = b h (here h cs) in
      let rest = try_same op op' o cs (λ q i. b q (there q h cs i)) in
      pick_same (N.yes h) (marked N m h || N.no h) (N.deciding h) op op' h m (λ m'. try_with N op cs m') (λ m'. try_with N' op' cs m') (o h m l) rest
      ∙ rw (A.yes h l, A.no h l, A.spot h l, A.deciding h l) refl

  -- opening a group
  pub open_same : (L g : ℕ) (m : List ℕ) → g < k → open_at N L g m ≡ open_at N' L g m
  unfolding open_at
  open_same zero g m b = refl
  open_same (suc L) g m b =
      let tried = try_same (open_at N L) (open_at N' L) (open_same L) (N.children g) (λ q i. A.within g q b i) (set m (N.spot g) 1) in
      rw (tried, A.children g b, A.spot g b) refl
