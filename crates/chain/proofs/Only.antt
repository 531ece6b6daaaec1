-- Of chains in a graph: from one name to one vertex there is only one, since the lowest child group that reaches the target is one; neighbours come next one after the
-- other, so a path of edges leads from each to the next; and the last is the name of the target's group.
use mathlib.Core.Path.{◌≡◌, refl, sym, ap, subst⁻¹, ◌∙◌}
use mathlib.Core.List.{List, ◌∷◌}
use Prim.Native.Nat.{ℕ, zero, suc, ◌≤◌, ◌<◌}
use native.Mathlib.Omega.{arith}
use lib.ListN.{length, get_or}
use Rattle.lineage.specs.Graph.{Graph, Ends, Reaches, stay, step, name_of}
use Rattle.laws.specs.Leads.{OneGroup}
use Rattle.laws.proofs.Reaches.{reaches_on}
use Rattle.laws.proofs.Names.{group_on, group_turn, name_smallest, name_group, name_one}
use Rattle.laws_answers.proofs.Built.{reached_low}
use Rattle.laws_same.specs.Same.{ChildGroup}
use Rattle.chain.specs.Right.{Next, Chain, arrived, onward}

module _ {G : Graph} {v : ℕ} where
  -- only one comes next
  next_only : {a b c : ℕ} → Next G v a b → Next G v a c → b ≡ c
  next_only {b = b} {c} N P = omega (arith, N.lowest c P.child P.reaches, P.lowest b N.child N.reaches)

  -- a path of edges leads to it
  pub next_path : {a b : ℕ} → Next G v a b → Reaches G a b
  next_path N = reaches_on N.child.from.0 (step N.child.edge N.child.into.1)

  -- nothing comes next after the target's group: the way back to it would make them one group
  next_apart : {a b : ℕ} → Next G v a b → OneGroup G a v → ⊥
  next_apart N g = N.child.apart (next_path N, reaches_on N.reaches g.1)

  -- only one chain
  pub chain_only : {a : ℕ} {xs ys : List ℕ} → Chain G v a xs → Chain G v a ys → xs ≡ ys
  chain_only (arrived g) (arrived g') = refl
  chain_only (arrived g) (onward N C) = absurd (next_apart N g)
  chain_only (onward N C) (arrived g) = absurd (next_apart N g)
  chain_only {a} (onward N C) (onward {rest = ys} P D) = ap (λ xs. a ∷ xs) (chain_only C (subst⁻¹ (λ (b : ℕ). Chain G v b ys) (next_only N P) D))

  chain_some : {a : ℕ} {xs : List ℕ} → Chain G v a xs → 1 ≤ length xs
  chain_some (arrived g) = omega arith
  chain_some (onward N C) = omega arith

  -- it begins at the name
  pub chain_begins : {a : ℕ} {xs : List ℕ} → Chain G v a xs → get_or xs 0 0 ≡ a
  chain_begins (arrived g) = refl
  chain_begins (onward N C) = refl

  -- each step comes next after the one before
  pub chain_next : {a : ℕ} {xs : List ℕ} → Chain G v a xs → (i : ℕ) → suc i < length xs → Next G v (get_or xs i 0) (get_or xs (suc i) 0)
  chain_next (arrived g) i h = absurd (omega arith)
  chain_next (onward N C) zero h = rw (chain_begins C) N
  chain_next (onward N C) (suc i) h = chain_next C i (omega arith)

module _ {G : Graph} (ends : Ends G) {v : ℕ} (hv : v < G.n) where
  -- what comes next is the name of its group: the name, too, is a vertex of a child group that reaches the target
  next_named : {a b : ℕ} → Next G v a b → (b < G.n) × (name_of G b ≡ b)
  next_named {a} {b} N =
      let C = N.child in
      let low : b < G.n = reached_low ends (ends.targets_low C.s C.t C.edge) C.into.1 in
      let g : OneGroup G b (name_of G b) = name_group G ends b low in
      let child : ChildGroup G a (name_of G b) =
      record {
        apart = λ o. C.apart (group_on G ends o (group_turn G ends g));
        s = C.s;
        t = C.t;
        edge = C.edge;
        from = C.from;
        into = group_on G ends (group_turn G ends g) C.into;
      } in
      (low, omega (arith, N.lowest (name_of G b) child (reaches_on g.1 N.reaches), name_smallest G ends b b low (stay, stay)))

  -- the last is the name of the target's group
  pub chain_ends : {a : ℕ} {xs : List ℕ} → a < G.n → name_of G a ≡ a → Chain G v a xs → (i : ℕ) → suc i ≡ length xs → get_or xs i 0 ≡ name_of G v
  chain_ends {a} ha own (arrived g) zero e = sym own ∙ (name_one G ends a v ha hv).1 g
  chain_ends ha own (arrived g) (suc i) e = absurd (omega arith)
  chain_ends ha own (onward N C) zero e = absurd (omega (arith, chain_some C))
  chain_ends ha own (onward N C) (suc i) e = chain_ends (next_named N).0 (next_named N).1 C i (omega arith)
