-- The count of groups opened is what the marks gain, so it stays within their length: a group is opened only where its mark is not set, and opening sets it.
use mathlib.Core.Bool.{Bool, true, false, ◌||◌, cond}
use mathlib.Core.Logic.{◌≢◌}
use mathlib.Core.Path.{◌≡◌, refl, ap, ◌∙◌}
use mathlib.Core.List.{List, [], ◌∷◌}
use Prim.Native.Nat.{ℕ, zero, suc, ◌+◌, ◌≤◌, ◌<◌}
use native.Mathlib.Omega.{arith}
use lib.Dec.{eqb}
use lib.ListN.{length, set, length-set}
use lib.Seq.{get_or-set_other}
use Rattle.lineage.specs.Lists.{Every, ones}
use Rattle.lineage.specs.Walk.{Net, Walked, marked, follow, pick, try_with, open_at}
use Rattle.laws.proofs.Tests.{or_false_left, clash}
use Rattle.laws.proofs.Positions.{ones_set}
use Rattle.ask_walk.specs.Fit.{Safe}

-- the marks stay as long as they are, and gain as many as are counted
pub record Gains (m : List ℕ) (a : Walked) : Type 0 where
  pub long : length a.marks ≡ length m
  pub gain : ones a.marks ≡ ones m + a.opened

one_low : (b : Bool) → cond b 1 0 ≤ 1
one_low true = omega arith
one_low false = omega arith

pub ones_low : (m : List ℕ) → ones m ≤ length m
ones_low [] = omega arith
ones_low (x ∷ xs) = omega (arith, ones_low xs, one_low (eqb x 1))

-- children are groups below k, and each group's mark is among l
pub record Within (N : Net) (k l : ℕ) : Type 0 where
  pub children : (p : ℕ) → p < k → Every (λ h. h < k) (N.children p)
  pub spots : (p : ℕ) → p < k → N.spot p < l

follow_gains :
    (f : Bool) (m : List ℕ) (a : Walked) (rest : List ℕ → Walked) → Gains m a → ((m' : List ℕ) → length m' ≡ length m → Gains m' (rest m'))
    → Gains m (follow f a rest)
follow_gains true m a rest A R = A
follow_gains false m a rest A R =
    let B : Gains a.marks (rest a.marks) = R a.marks A.long in
    record { long = B.long ∙ A.long; gain = omega (arith, B.gain, A.gain) }

module _ (N : Net) {k l : ℕ} (W : Within N k l) where
  -- what opens an unmarked group, gains
  abbrev Opens : (ℕ → List ℕ → Walked) → Type 0
  Opens op = (h : ℕ) (m : List ℕ) → length m ≡ l → h < k → marked N m h ≡ false → Gains m (op h m)

  pick_gains :
      (op : ℕ → List ℕ → Walked) → Opens op → (h : ℕ) (m : List ℕ) (rest : List ℕ → Walked) → length m ≡ l → h < k
      → ((m' : List ℕ) → length m' ≡ length m → Gains m' (rest m'))
      → (y p : Bool) → (p ≡ false → marked N m h ≡ false) → (n : ℕ) → Gains m (pick y p n op h m rest)
  pick_gains op O h m rest e b R true p u n = record { long = refl; gain = omega arith }
  pick_gains op O h m rest e b R false true u n = R m refl
  pick_gains op O h m rest e b R false false u n = follow_gains (op h m).found m (op h m) rest (O h m e b (u refl)) R

  pub try_gains : (op : ℕ → List ℕ → Walked) → Opens op → (hs : List ℕ) → Every (λ h. h < k) hs → (m : List ℕ) → length m ≡ l → Gains m (try_with N op hs m)
  unfolding try_with
  try_gains op O [] b m e = record { long = refl; gain = omega arith }
  try_gains op O (h ∷ hs) b m e =
      pick_gains op O h m (λ m'. try_with N op hs m') e b.0 (λ m' e'. try_gains op O hs b.1 m' (e' ∙ e))
      (N.yes h) (marked N m h || N.no h) (or_false_left (marked N m h) (N.no h)) (N.deciding h)

  pub open_gains : (L : ℕ) → Opens (open_at N L)
  unfolding open_at
  open_gains zero h m e b u = record { long = refl; gain = omega arith }
  open_gains (suc L) h m e b u =
      let T = try_gains (open_at N L) (open_gains L) (N.children h) (W.children h b) (set m (N.spot h) 1) (length-set m (N.spot h) 1 ∙ e) in
      record {
        long = T.long ∙ length-set m (N.spot h) 1;
        gain = omega (arith, T.gain, ones_set m (N.spot h) (omega (arith, W.spots h b)) u);
      }

-- Opening marks no group of which rule 2 says yes: it opens none of those, and a mark is one group's own.
module _ (N : Net) {k : ℕ} (inside : (p : ℕ) → p < k → Every (λ h. h < k) (N.children p))
    (own : (p q : ℕ) → p < k → q < k → N.spot p ≡ N.spot q → p ≡ q) where
  pub safe_set : (g : ℕ) (m : List ℕ) → g < k → N.yes g ≡ false → Safe N k m → Safe N k (set m (N.spot g) 1)
  safe_set g m low not-hit S = record {
    each = λ p b y.
        let other : N.spot p ≢ N.spot g = λ e. clash y (ap N.yes (own p g b low e) ∙ not-hit) in
        rw (get_or-set_other m (N.spot g) (N.spot p) 1 0 other) (S.each p b y);
  }

  abbrev Saves : (ℕ → List ℕ → Walked) → Type 0
  Saves op = (h : ℕ) (m : List ℕ) → h < k → N.yes h ≡ false → Safe N k m → Safe N k (op h m).marks

  follow_safe :
      (f : Bool) (a : Walked) (rest : List ℕ → Walked) → Safe N k a.marks → ((m' : List ℕ) → Safe N k m' → Safe N k (rest m').marks)
      → Safe N k (follow f a rest).marks
  follow_safe true a rest A R = A
  follow_safe false a rest A R = R a.marks A

  pick_safe :
      (op : ℕ → List ℕ → Walked) → Saves op → (h : ℕ) (m : List ℕ) (rest : List ℕ → Walked) → h < k → Safe N k m
      → ((m' : List ℕ) → Safe N k m' → Safe N k (rest m').marks) → (y p : Bool) → N.yes h ≡ y → (n : ℕ) → Safe N k (pick y p n op h m rest).marks
  pick_safe op O h m rest b S R true p e n = S
  pick_safe op O h m rest b S R false true e n = R m S
  pick_safe op O h m rest b S R false false e n = follow_safe (op h m).found (op h m) rest (O h m b e S) R

  try_safe : (op : ℕ → List ℕ → Walked) → Saves op → (hs : List ℕ) → Every (λ h. h < k) hs → (m : List ℕ) → Safe N k m → Safe N k (try_with N op hs m).marks
  unfolding try_with
  try_safe op O [] b m S = S
  try_safe op O (h ∷ hs) b m S =
      pick_safe op O h m (λ m'. try_with N op hs m') b.0 S (λ m' S'. try_safe op O hs b.1 m' S') (N.yes h) (marked N m h || N.no h) refl (N.deciding h)

  pub open_safe : (L : ℕ) → Saves (open_at N L)
  unfolding open_at
  open_safe zero h m b not-hit S = S
  open_safe (suc L) h m b not-hit S = try_safe (open_at N L) (open_safe L) (N.children h) (inside h b) (set m (N.spot h) 1) (safe_set h m b not-hit S)

-- the number of the labelling that ended the walk is a child's deciding number, or 0
module _ (N : Net) (b : ℕ) (low : (h : ℕ) → N.deciding h ≤ b) where
  follow_deciding : (f : Bool) (a : Walked) (rest : List ℕ → Walked) → a.deciding ≤ b → ((m : List ℕ) → (rest m).deciding ≤ b) → (follow f a rest).deciding ≤ b
  follow_deciding true a rest h r = h
  follow_deciding false a rest h r = r a.marks

  pick_deciding :
      (y p : Bool) (h : ℕ) (op : ℕ → List ℕ → Walked) (m : List ℕ) (rest : List ℕ → Walked)
      → ((m' : List ℕ) → (op h m').deciding ≤ b) → ((m' : List ℕ) → (rest m').deciding ≤ b) → (pick y p (N.deciding h) op h m rest).deciding ≤ b
  pick_deciding true p h op m rest o r = low h
  pick_deciding false true h op m rest o r = r m
  pick_deciding false false h op m rest o r = follow_deciding (op h m).found (op h m) rest (o m) r

  try_deciding : (op : ℕ → List ℕ → Walked) → ((h : ℕ) (m : List ℕ) → (op h m).deciding ≤ b) → (hs m : List ℕ) → (try_with N op hs m).deciding ≤ b
  unfolding try_with
  try_deciding op o [] m = omega arith
  try_deciding op o (h ∷ hs) m =
      pick_deciding (N.yes h) (marked N m h || N.no h) h op m (λ m'. try_with N op hs m') (o h) (λ m'. try_deciding op o hs m')

  pub open_deciding : (L g : ℕ) (m : List ℕ) → (open_at N L g m).deciding ≤ b
  unfolding open_at
  open_deciding zero g m = omega arith
  open_deciding (suc L) g m = try_deciding (open_at N L) (open_deciding L) (N.children g) (set m (N.spot g) 1)
