-- A list is closed where no step leads out of it; then no path does.
use mathlib.Core.Bool.{true}
use mathlib.Core.Path.{◌≡◌}
use mathlib.Core.List.{List}
use Prim.Native.Nat.{ℕ}
use Rattle.lineage.specs.Lists.{among}
use Rattle.laws.specs.Leads.{Leads, stay, step}

-- paths join
pub leads_on : {next : ℕ → List ℕ} {p q r : ℕ} → Leads next p q → Leads next q r → Leads next p r
leads_on stay b = b
leads_on (step e a) b = step e (leads_on a b)

-- what each step keeps, a path keeps
pub leads_keeps : {next : ℕ → List ℕ} (P : ℕ → Type 0) → ((p q : ℕ) → P p → among q (next p) ≡ true → P q) → {p q : ℕ} → Leads next p q → P p → P q
leads_keeps P keeps stay i = i
leads_keeps P keeps (step {p = p} {q = q} e l) i = leads_keeps P keeps l (keeps p q i e)

-- no step leads out of the list
pub record Closed (next : ℕ → List ℕ) (l : List ℕ) : Type 0 where
  pub inside : (p q : ℕ) → among p l ≡ true → among q (next p) ≡ true → among q l ≡ true

-- a path that begins in a closed list ends in it
pub stays : {next : ℕ → List ℕ} {l : List ℕ} → Closed next l → {p q : ℕ} → Leads next p q → among p l ≡ true → among q l ≡ true
stays {l = l} c = leads_keeps (λ p. among p l ≡ true) c.inside
