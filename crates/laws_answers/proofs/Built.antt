-- An index built from a graph and orders: it is sound, its vertices are the graph's and its paths down children the graph's paths; it has a labelling
-- for each order, so with each order of one index among those of another the labellings stand so too.
use mathlib.Core.Logic.{◌↔◌}
use mathlib.Core.Path.{◌≡◌, refl}
use mathlib.Core.List.{List}
use Prim.Native.Nat.{ℕ, ◌<◌}
use native.Mathlib.Omega.{arith}
use lib.ListN.{length, length-map}
use Rattle.lineage.specs.Lists.{Every}
use Rattle.lineage.specs.Graph.{Graph, Ends, Reaches, stay, step, condense}
use Rattle.lineage.specs.Labels.{Order, Labelling, labelling}
use Rattle.lineage.specs.Index.{index_of, Made}
use Rattle.lineage.specs.Question.{place_in}
use Rattle.laws.specs.Leads.{Down}
use Rattle.laws.specs.Sound.{Sound}
use Rattle.laws.proofs.Sound.{made_sound, made_long, made_paths}
use Rattle.laws_answers.specs.Answers.{Member}
use Rattle.laws_answers.proofs.Members.{every_member, member_map, map_member}

-- what a vertex reaches is a vertex
pub reached_low : {G : Graph} → Ends G → {u v : ℕ} → u < G.n → Reaches G u v → v < G.n
reached_low ends b stay = b
reached_low ends b (step {u = u} {w = w} e r) = reached_low ends (ends.targets_low u w e) r

module _ (G : Graph) (ends : Ends G) (orders : List (List ℕ)) (permuted : Every (Order G.n) orders) where
  abbrev pub built : Made (index_of G orders)
  built = record { graph = G; ends = ends; orders = orders; permuted = permuted; yields = refl }

  -- it is sound
  pub built_sound : Sound (index_of G orders)
  built_sound = made_sound G ends orders permuted

  -- its vertices are the graph's
  pub built_long : length (index_of G orders).names ≡ G.n
  built_long = made_long built

  -- its paths down children are the graph's paths
  pub built_paths : (u v : ℕ) → u < G.n → v < G.n → Reaches G u v ↔ Down (index_of G orders).children (place_in (index_of G orders) u) (place_in (index_of G orders) v)
  built_paths u v bu bv = made_paths built u v (omega (arith, built_long)) (omega (arith, built_long))

-- an order gives a labelling
pub built_some : (G : Graph) (orders : List (List ℕ)) → 0 < length orders → 0 < length (index_of G orders).labels
unfolding index_of
built_some G orders some = omega (arith, length-map orders (labelling (condense G).groups (condense G).children))

-- orders among others give labellings among theirs
pub built_more :
    (G : Graph) (orders₁ orders₂ : List (List ℕ)) → Every (λ o. Member o orders₂) orders₁
    → (l : Labelling) → Member l (index_of G orders₁).labels → Member l (index_of G orders₂).labels
unfolding index_of
built_more G orders₁ orders₂ up l m =
    let f = labelling (condense G).groups (condense G).children in
    let (o, i, e) = map_member f orders₁ m in
    rw (← e) (member_map f (every_member (λ q. Member q orders₂) up i))
