-- What a chain of stored bytes is, wherever one is given, and whatever edge list and orders yield the bytes: it is the chain of the graph, the only one, from the name
-- of the source's group to that of the target's; nothing behind it is touched. There are steps exactly where a question says yes, and where a question is refused the
-- chain is refused likewise. `chain` gives this, by its contract; and its contract allows one result.
use mathlib.Core.Bool.{Bool, true, false}
use mathlib.Core.Logic.Iff
use mathlib.Core.Logic.{◌↔◌}
use mathlib.Core.Path.{◌≡◌, refl, sym, ap, subst, ◌∙◌}
use mathlib.Core.List.{List, [], ◌∷◌, ◌++◌, append-nil, append_assoc}
use Prim.Native.Nat.{ℕ, suc, ◌≤◌, ◌<◌}
use native.Mathlib.Omega.{arith}
use lib.Dec.{leb}
use lib.ListN.{length, get_or, take, drop}
use lib.Seq.{take_at, drop_at}
use borrow.Author.Tests.{leb-false, lt-ltb, le-ltb}
use Rattle.std.specs.Prelude.{Option, Some, None, Result}
use Rattle.lineage.specs.Graph.{Graph, Reaches, name_of}
use Rattle.lineage.specs.Index.{Index, Made}
use Rattle.lineage.specs.Stored.{counts_in}
use Rattle.lineage.specs.Question.{answer}
use Rattle.lineage.specs.Calls.{Check, check, refused, answered, outcome, FormsTaken, form_checks, contents_check, index_in, Said, said_of, ask_early, ask_answer}
use Rattle.refusals.specs.declared.Refusal.{Refusal}
use Rattle.refusals.proofs.Told.{outcome_once}
use Rattle.laws.specs.Checks.{Pass}
use Rattle.laws.proofs.Checks.{stops_early, pass_front, pass_behind, answered_pass, answered_is, refused_comes, rest_comes}
use Rattle.laws.specs.Leads.{OneGroup}
use Rattle.laws.proofs.Reaches.{reaches_on}
use Rattle.laws.proofs.Names.{group_on, group_turn, name_low, name_group, name_own}
use Rattle.laws.proofs.Tests.{clash}
use Rattle.laws.proofs.Sound.{sound_exactly, made_long, made_paths}
use Rattle.laws_answers.proofs.Demands.{answer_down}
use Rattle.stored_header.specs.Header.{layout_in, Laid}
use Rattle.stored_header.proofs.Laid.{header_laid, d_is}
use Rattle.stored_header.proofs.Admitted.{header_pass}
use Rattle.stored.proofs.Contents.{names_many, labels_many}
use Rattle.chain_steps.specs.Chain.{chain_of}
use Rattle.chain.specs.Traced.{Traced, none, steps, traced_by, traced, room_checks, chain_late, chain_answer, chain_output}
use Rattle.chain.specs.Chained.{traced_of, Allowed}
use Rattle.chain.specs.Right.{Next, Chain, arrived, onward}
use Rattle.chain.proofs.Right.{chain_made}
use Rattle.chain.proofs.Only.{chain_only, chain_begins, chain_next, next_path, chain_ends}

-- two results that the contract allows are equal
traced_apart : (a a' : Option ℕ) → traced_of a ≡ traced_of a' → a ≡ a'
traced_apart (Some count) (Some count') e = cc
traced_apart (Some count) None e = cc
traced_apart None (Some count) e = cc
traced_apart None None e = refl

pub chained_once :
    {T : FormsTaken} {b : List ℕ} {u v : ℕ} {marks work out : List ℕ} {r r' : Result (Option ℕ) Refusal} {ms ms' ws ws' os os' : List ℕ}
    → Allowed T b u v marks work out r ms ws os → Allowed T b u v marks work out r' ms' ws' os' → (r ≡ r') × ((ms ≡ ms') × ((ws ≡ ws') × (os ≡ os')))
chained_once A B =
    (outcome_once traced_of traced_apart _ _ (A.answers ∙ sym B.answers), (A.leaves ∙ sym B.leaves, (A.clears ∙ sym B.clears, A.writes ∙ sym B.writes)))

-- The chain as a list, in every graph that yields an index.
module _ {I : Index} (M : Made I) (v : ℕ) (hv : v < length I.names) where
  -- for the target's own group it is that one name
  pub chain_own : (u : ℕ) → u < length I.names → OneGroup M.graph u v → chain_of I u v ≡ name_of M.graph u ∷ []
  chain_own u hu g =
      let G : Graph = M.graph in
      let named : OneGroup G u (name_of G u) = name_group G M.ends u (omega (arith, made_long M)) in
      chain_only (chain_made M v hv u hu g.0) (arrived (group_on G M.ends (group_turn G M.ends named) g))

  -- the chain from a group is its name followed by the chain from its lowest child that reaches the target
  pub chain_follows :
      (a b : ℕ) → a < length I.names → b < length I.names → name_of M.graph a ≡ a → name_of M.graph b ≡ b → Next M.graph v a b
      → chain_of I a v ≡ a ∷ chain_of I b v
  chain_follows a b ha hb own own' N =
      let from : (x : ℕ) → x < length I.names → name_of M.graph x ≡ x → Reaches M.graph x v → Chain M.graph v x (chain_of I x v) =
      λ x h e r. subst (λ (y : ℕ). Chain M.graph v y (chain_of I x v)) e (chain_made M v hv x h r) in
      chain_only (from a ha own (reaches_on (next_path N) N.reaches)) (onward N (from b hb own' N.reaches))

-- A question asked with the same memory.
module _ (T : FormsTaken) (b : List ℕ) (u v marks work out : ℕ) where
  abbrev early : List Check
  early = ask_early T b u v marks work

  abbrev count : ℕ
  count = length (chain_of (index_in b) u v)

  -- where it is answered, the list decides
  asked_room : (s : Said) → ask_answer T b u v marks work ≡ answered s → chain_answer T b u v marks work out ≡ outcome (room_checks (index_in b) u v out) (traced (index_in b) u v)
  unfolding ask_answer chain_answer
  asked_room s e =
      let I : Index = index_in b in
      (rest_comes (traced I u v) early (contents_check b ∷ []) (room_checks I u v out) (answered_pass (said_of (answer I u v)) (early ++ (contents_check b ∷ [])) s e) refl).says

  asked_says : (s : Said) → ask_answer T b u v marks work ≡ answered s → s.says ≡ (answer (index_in b) u v).says
  unfolding ask_answer
  asked_says s e = ap (λ (z : Said). z.says) (answered_is (said_of (answer (index_in b) u v)) (early ++ (contents_check b ∷ [])) s e)

  -- a no is a no, whatever the list's length
  pub chained_no : (s : Said) → ask_answer T b u v marks work ≡ answered s → s.says ≡ false → chain_answer T b u v marks work out ≡ answered none
  chained_no s e h = asked_room s e ∙ rw (sym (asked_says s e) ∙ h) refl

  -- a yes has steps, or 16 where they do not fit
  pub chained_yes : (s : Said) → ask_answer T b u v marks work ≡ answered s → s.says ≡ true → count ≤ out → chain_answer T b u v marks work out ≡ answered (steps count)
  chained_yes s e h room = asked_room s e ∙ rw (sym (asked_says s e) ∙ h, le-ltb out count room) refl

  pub chained_short : (s : Said) → ask_answer T b u v marks work ≡ answered s → s.says ≡ true → out < count → chain_answer T b u v marks work out ≡ refused 16 count
  chained_short s e h short = asked_room s e ∙ rw (sym (asked_says s e) ∙ h, lt-ltb out count short) refl

  -- a question's refusal is the chain's
  pub chained_refused : (x y : ℕ) → ask_answer T b u v marks work ≡ refused x y → chain_answer T b u v marks work out ≡ refused x y
  unfolding ask_answer chain_answer
  chained_refused x y e =
      let I : Index = index_in b in
      let room : List Check = room_checks I u v out in
      ap (λ (cs : List Check). outcome cs (traced I u v)) (sym (append_assoc early (contents_check b ∷ []) room) ∙ ap (λ (cs : List Check). cs ++ room) (sym (append-nil (early ++ (contents_check b ∷ [])))))
      ∙ (refused_comes (traced I u v) (said_of (answer I u v)) (early ++ (contents_check b ∷ [])) [] room x y e).says

-- a no and steps, by what a question says
said_steps : (b : Bool) (c count : ℕ) → traced_by b c ≡ steps count → (b ≡ true) × (c ≡ count)
said_steps true c count e = (refl, cc)
said_steps false c count e = let z : ◌≡◌ {A = ℕ} 0 1 = cc in absurd (omega arith)

said_none : (b : Bool) (c : ℕ) → traced_by b c ≡ none → b ≡ false
said_none true c e = let z : ◌≡◌ {A = ℕ} 0 1 = cc in absurd (omega arith)
said_none false c e = refl

-- A chain that is answered.
module _ (T : FormsTaken) (b : List ℕ) (u v : ℕ) (marks work out : List ℕ) (r : Traced)
    (e : chain_answer T b u v (length marks) (length work) (length out) ≡ answered r)
  where
    abbrev I : Index
    I = index_in b

    abbrev forms : List Check
    forms = form_checks T b (length marks) (length work)

    -- those behind 6
    abbrev own : List Check
    own = check (leb (counts_in b).n u) 14 0 ∷ check (leb (counts_in b).n v) 14 1 ∷ chain_late b u v (length out)

    passes : Pass (forms ++ own)
    unfolding chain_answer
    passes = answered_pass (traced I u v) (forms ++ own) r e

    told : traced I u v ≡ r
    unfolding chain_answer
    told = sym (answered_is (traced I u v) (forms ++ own) r e)

    behind : Pass own
    behind = pass_behind forms own passes

    source : u < length I.names
    source = omega (arith, leb-false (counts_in b).n u behind.0, names_many b)

    target : v < length I.names
    target = omega (arith, leb-false (counts_in b).n v behind.1.0, names_many b)

    some : 0 < length I.labels
    some =
        let L : Laid b (layout_in b) = header_laid b T (header_pass T b (length marks) (length work) (pass_front forms own passes)) in
        omega (arith, labels_many b, d_is L, L.least)

    -- the answer is yes exactly where the source reaches the target, in whatever graph yields the bytes
    yes_right : (M : Made I) → ((answer I u v).says ≡ true) ↔ Reaches M.graph u v
    yes_right M = Iff.trans (answer_down I ((sound_exactly I).1 M) some u v source target) (Iff.symm (made_paths M u v source target))

    -- on a no there is no path
    pub chained_none : r ≡ none → (M : Made I) → Reaches M.graph u v → ⊥
    chained_none n M p = clash ((yes_right M).1 p) (said_none (answer I u v).says (length (chain_of I u v)) (told ∙ n))

    module _ (count : ℕ) (is : r ≡ steps count) where
      says : ((answer I u v).says ≡ true) × (length (chain_of I u v) ≡ count)
      says = said_steps (answer I u v).says (length (chain_of I u v)) count (told ∙ is)

      -- the steps that are written, and what stands behind them
      abbrev list : List ℕ
      list = take count (chain_output T b u v (length marks) (length work) out)

      output : chain_output T b u v (length marks) (length work) out ≡ chain_of I u v ++ drop (length (chain_of I u v)) out
      unfolding chain_output
      output = rw (stops_early (forms ++ own) [] 9 passes, says.0) refl

      list_is_lem : list ≡ chain_of I u v
      list_is_lem = rw output (take_at (chain_of I u v) (drop (length (chain_of I u v)) out) count says.1)

      list_long : length list ≡ count
      list_long = ap length list_is_lem ∙ says.1

      -- past the last step the list is as it was
      pub chained_behind : drop count (chain_output T b u v (length marks) (length work) out) ≡ drop count out
      chained_behind = rw output (drop_at (chain_of I u v) (drop (length (chain_of I u v)) out) count says.1 ∙ ap (λ (k : ℕ). drop k out) says.1)

      -- in whatever graph yields the bytes
      module _ (M : Made I) where
        abbrev G : Graph
        G = M.graph

        low : {x : ℕ} → x < length I.names → x < G.n
        low h = omega (arith, made_long M)

        -- there is a path, and the list is the chain from the name of the source's group, the only one
        pub chained_path : Reaches G u v
        chained_path = (yes_right M).0 says.0

        pub chained_right : Chain G v (name_of G u) list
        chained_right = rw list_is_lem (chain_made M v target u source chained_path)

        pub chained_only : (xs : List ℕ) → Chain G v (name_of G u) xs → xs ≡ list
        chained_only xs C = chain_only C chained_right

        -- it begins at that name and ends at the name of the target's group
        pub chained_begins : get_or list 0 0 ≡ name_of G u
        chained_begins = chain_begins chained_right

        pub chained_ends : (i : ℕ) → suc i ≡ count → get_or list i 0 ≡ name_of G v
        chained_ends i h =
            chain_ends M.ends (low target) (name_low G M.ends u (low source)) (name_own G M.ends u (low source)) chained_right i (h ∙ sym list_long)

        -- each step is the lowest child of the one before that reaches the target, so a path of edges leads from each to the next
        pub chained_next : (i : ℕ) → suc i < count → Next G v (get_or list i 0) (get_or list (suc i) 0)
        chained_next i h = chain_next chained_right i (omega (arith, list_long))

        pub chained_edges : (i : ℕ) → suc i < count → Reaches G (get_or list i 0) (get_or list (suc i) 0)
        chained_edges i h = next_path (chained_next i h)
