-- The walk of lineage is the walk told by lists: its marks are those of the opened groups, its count is their number, and it ends where the
-- relation ends. By induction on the level bound, and under it on the children: a child is marked if it is opened, so both pass over the same.
use mathlib.Core.Bool.{Bool, true, false, ◌||◌, false≢true}
use mathlib.Core.Logic.{inl, inr}
use mathlib.Core.Path.{◌≡◌, refl, sym, ap}
use mathlib.Core.List.{List, [], ◌∷◌}
use Prim.Native.Nat.{ℕ, zero, suc, ◌<◌, ◌+◌}
use native.Mathlib.Omega.{arith}
use lib.ListN.{length, set}
use Rattle.lineage.specs.Lists.{among}
use Rattle.lineage.specs.Walk.{Net, Walked, marked, follow, pick, try_with, open_at}
use Rattle.laws.proofs.Tests.{or_cases, or_false_left, or_false_right}
use Rattle.laws.proofs.Lists.{here, there}
use Rattle.laws.specs.Rising.{Distinct}
use Rattle.laws_answers.specs.Walks.{◌∈◌, End, nowhere, yes_at, Tries, over, hit, met, cut, finds, goes_on}
use Rattle.laws_answers.proofs.Tries.{each, Lower}
use Rattle.laws_answers.proofs.Marks.{painted, Spots, marked_is}

-- whether it is a yes, and the first labelling that says so
abbrev pub is_yes : End → Bool
is_yes nowhere = false
is_yes (yes_at h) = true

abbrev pub number_at : Net → End → ℕ
number_at N nowhere = 0
number_at N (yes_at h) = N.deciding h

-- groups, each once
pub record Held (k : ℕ) (o : List ℕ) : Type 0 where
  pub once : Distinct o
  pub low : (g : ℕ) → g ∈ o → g < k

-- what a result's found, deciding and marks say: where the walk ended, and which groups are opened
pub record Told (N : Net) (k : ℕ) (m₀ : List ℕ) (found : Bool) (deciding : ℕ) (marks : List ℕ) (e : End) (o : List ℕ) : Type 0 where
  pub found_is : found ≡ is_yes e
  pub deciding_is : deciding ≡ number_at N e
  pub marks_are : marks ≡ painted N.spot o m₀
  pub held : Held k o

-- a is what trying cs comes to, with the groups o opened before, n of them counted before
pub record Ran (N : Net) (k : ℕ) (m₀ cs o : List ℕ) (n : ℕ) (a : Walked) : Type 0 where
  pub end : End
  pub groups : List ℕ
  pub run : Tries N cs o end groups
  pub told : Told N k m₀ a.found a.deciding a.marks end groups
  pub count : length groups ≡ n + a.opened

module _ (N : Net) {level : ℕ → ℕ} {k : ℕ} {m₀ : List ℕ} (F : Lower N level k) (S : Spots N.spot k m₀) where
  -- op opens groups of levels below L rightly
  abbrev Opens : (ℕ → List ℕ → Walked) → ℕ → Type 0
  Opens op L =
      (h : ℕ) (m o : List ℕ) → m ≡ painted N.spot o m₀ → h < k → level h < L → among h o ≡ false → Held k o
      → Ran N k m₀ (N.children h) (h ∷ o) (length o) (op h m)

  -- rest tries the children cs rightly
  abbrev TriesOn : List ℕ → (List ℕ → Walked) → Type 0
  TriesOn cs rest = (m o : List ℕ) → m ≡ painted N.spot o m₀ → Held k o → Ran N k m₀ cs o (length o) (rest m)

  -- h is opened, and what came of it is followed
  follow_runs :
      (h : ℕ) (cs o : List ℕ) (rest : List ℕ → Walked) → TriesOn cs rest → N.yes h ≡ false → among h o ≡ false → N.no h ≡ false
      → (a : Walked) (e : End) (o₁ : List ℕ) → Tries N (N.children h) (h ∷ o) e o₁
      → Told N k m₀ a.found a.deciding a.marks e o₁ → length o₁ ≡ length o + a.opened
      → Ran N k m₀ (h ∷ cs) o (length o) (follow a.found a rest)
  follow_runs h cs o rest R y u n a nowhere o₁ r T c =
      let B = R a.marks o₁ T.marks_are T.held in
      rw T.found_is (record { end = B.end; groups = B.groups; run = goes_on y u n r B.run; told = B.told; count = omega (arith, B.count) })
  follow_runs h cs o rest R y u n a (yes_at g) o₁ r T c =
      rw T.found_is (record { end = yes_at g; groups = o₁; run = finds y u n r; told = rw T.found_is at T; count = c })

  pick_runs :
      (op : ℕ → List ℕ → Walked) (L : ℕ) → Opens op L
      → (h : ℕ) (cs m o : List ℕ) (rest : List ℕ → Walked) → m ≡ painted N.spot o m₀ → h < k → level h < L → Held k o → TriesOn cs rest
      → (y p : Bool) → N.yes h ≡ y → (among h o || N.no h) ≡ p → Ran N k m₀ (h ∷ cs) o (length o) (pick y p (N.deciding h) op h m rest)
  pick_runs op L O h cs m o rest e b l H R true p ye pe =
      record { end = yes_at h; groups = o; run = hit ye; told = record { found_is = refl; deciding_is = refl; marks_are = e; held = H }; count = omega arith }
  pick_runs op L O h cs m o rest e b l H R false true ye pe =
      let B = R m o e H in
      record {
        end = B.end;
        groups = B.groups;
        run = elim (or_cases (among h o) (N.no h) pe) [ inl i ↦ met ye i B.run | inr n ↦ cut ye n B.run ];
        told = B.told;
        count = B.count;
      }
  pick_runs op L O h cs m o rest e b l H R false false ye pe =
      let u = or_false_left (among h o) (N.no h) pe in
      let A = O h m o e b l u H in
      follow_runs h cs o rest R ye u (or_false_right (among h o) (N.no h) pe) (op h m) A.end A.groups A.run A.told A.count

  try_runs : (op : ℕ → List ℕ → Walked) (L : ℕ) → Opens op L → (cs : List ℕ) → ((h : ℕ) → h ∈ cs → (h < k) × (level h < L)) → TriesOn cs (λ m. try_with N op cs m)
  unfolding try_with
  try_runs op L O [] l m o e H =
      record { end = nowhere; groups = o; run = over; told = record { found_is = refl; deciding_is = refl; marks_are = e; held = H }; count = omega arith }
  try_runs op L O (h ∷ cs) l m o e H =
      let b = l h (here h cs) in
      let R = try_runs op L O cs (λ q i. l q (there q h cs i)) in
      let same : (marked N m h || N.no h) ≡ (among h o || N.no h) = rw (e, marked_is S h b.0 o H.low) in
      pick_runs op L O h cs m o (λ m'. try_with N op cs m') e b.0 b.1 H R (N.yes h) (marked N m h || N.no h) refl (sym same)

  open_runs : (L : ℕ) → Opens (open_at N L) L
  unfolding open_at
  open_runs zero h m o e b l u H = absurd (omega arith)
  open_runs (suc L) h m o e b l u H =
      let low : (q : ℕ) → q ∈ N.children h → (q < k) × (level q < L) = λ q i. (F.within h q b i, omega (arith, F.falls h q b i)) in
      let held : Held k (h ∷ o) = record { once = (u, H.once); low = each (λ q. q < k) h o b H.low } in
      let T = try_runs (open_at N L) L (open_runs L) (N.children h) low (set m (N.spot h) 1) (h ∷ o) (ap (λ (z : List ℕ). set z (N.spot h) 1) e) held in
      record { end = T.end; groups = T.groups; run = T.run; told = T.told; count = omega (arith, T.count) }

  -- the walk from x
  pub walk_runs : (x L : ℕ) → x < k → level x < L → Ran N k m₀ (N.children x) (x ∷ []) 0 (open_at N L x m₀)
  walk_runs x L b l = open_runs L x m₀ [] refl b l refl (record { once = tt; low = λ g i. absurd (false≢true i) })
