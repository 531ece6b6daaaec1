-- A question: source u, target v (document 01, "A question"), and the downstream list.
use Rattle.std.specs.Prelude.{Bool, true, false, not, ◌&&◌, ◌||◌, cond, List, [], ◌∷◌, ℕ, suc, eqb, leb, ltb, length, get_or, replicate}
use Rattle.lineage.specs.Lists.{upto, those}
use Rattle.lineage.specs.Graph.{place_of, leads}
use Rattle.lineage.specs.Labels.{Labelling}
use Rattle.lineage.specs.Index.{Index}
use Rattle.lineage.specs.Walk.{Net, Walked, open_at}

-- x's inner interval contains t's e
abbrev pub inside : ℕ → ℕ → Labelling → Bool
inside x t l = leb (get_or l.m x 0) (get_or l.e t 0) && leb (get_or l.e t 0) (get_or l.e x 0)

-- x's outer interval does not contain t's
abbrev pub outside : ℕ → ℕ → Labelling → Bool
outside x t l = not (leb (get_or l.s x 0) (get_or l.s t 0) && leb (get_or l.e t 0) (get_or l.e x 0))

-- in some labelling
abbrev pub some_labelling : (Labelling → Bool) → List Labelling → Bool
some_labelling p [] = false
some_labelling p (l ∷ ls) = p l || some_labelling p ls

-- the number, counted on from `at`, of the first labelling that passes the test; 0 where none does
abbrev pub first_from : ℕ → (Labelling → Bool) → List Labelling → ℕ
first_from at p [] = 0
first_from at p (l ∷ ls) = cond (p l) at (first_from (suc at) p ls)

-- counted from 1
abbrev pub first_labelling : (Labelling → Bool) → List Labelling → ℕ
first_labelling p ls = first_from 1 p ls

-- 2. in some labelling x's inner interval contains t's e
abbrev pub rule2 : Index → ℕ → ℕ → Bool
rule2 I x t = some_labelling (inside x t) I.labels

-- 3. x's level is not above t's
abbrev pub rule3 : Index → ℕ → ℕ → Bool
rule3 I x t = leb (get_or I.levels x 0) (get_or I.levels t 0)

-- 4. in some labelling x's outer interval does not contain t's
abbrev pub rule4 : Index → ℕ → ℕ → Bool
rule4 I x t = some_labelling (outside x t) I.labels

-- what the walk towards t goes by; a group's mark stands at its name
abbrev pub net_of : Index → ℕ → Net
net_of I t = record {
  children = λ p. get_or I.children p [];
  yes = λ h. rule2 I h t;
  deciding = λ h. first_labelling (inside h t) I.labels;
  no = λ h. rule3 I h t || rule4 I h t;
  spot = λ p. get_or I.groups p 0;
}

-- the walk from x opens x; the levels on the way are at most x's own
unfoldable pub walk : Index → ℕ → ℕ → List ℕ → Walked
unfolding open_at
walk I t x m = open_at (net_of I t) (suc (get_or I.levels x 0)) x m

-- yes or no, the reason, the number of the labelling that decided (0 where none did), the number of groups opened, and the marks
pub record Answer : Type 0 where
  pub says : Bool
  pub reason : ℕ
  pub deciding : ℕ
  pub opened : ℕ
  pub marks : List ℕ

-- an answer under reasons 1 to 4: no group is opened
abbrev pub plain : Bool → ℕ → ℕ → List ℕ → Answer
plain b r l m = record { says = b; reason = r; deciding = l; opened = 0; marks = m }

-- 5. the walk from x finds t: yes; 6. otherwise: no
abbrev pub by_walk : Walked → Answer
by_walk a = record { says = a.found; reason = cond a.found 5 6; deciding = a.deciding; opened = a.opened; marks = a.marks }

-- the first rule that holds decides: whether 1, 2, 3, 4 hold, the first labelling for 2 and for 4, and the walk
abbrev pub decided : Bool → Bool → Bool → Bool → ℕ → ℕ → (List ℕ → Walked) → List ℕ → Answer
decided true r2 r3 r4 i o w m = plain true 1 0 m
decided false true r3 r4 i o w m = plain true 2 i m
decided false false true r4 i o w m = plain false 3 0 m
decided false false false true i o w m = plain false 4 o m
decided false false false false i o w m = by_walk (w m)

-- the answer between two groups, x and t by place, with marks m
abbrev pub between : Index → ℕ → ℕ → List ℕ → Answer
between I x t m =
    decided (eqb x t) (rule2 I x t) (rule3 I x t) (rule4 I x t) (first_labelling (inside x t) I.labels) (first_labelling (outside x t) I.labels) (walk I t x) m

-- the group of a vertex, by its place
abbrev pub place_in : Index → ℕ → ℕ
place_in I u = place_of I.groups (get_or I.names u 0)

-- the answer to a question between two vertices; its n marks start from 0
unfoldable pub answer : Index → ℕ → ℕ → Answer
unfolding walk
answer I u v = between I (place_in I u) (place_in I v) (replicate (length I.names) 0)

-- the vertices of u's group: those that have its name
abbrev pub group_of : Index → ℕ → List ℕ
group_of I u = those (λ v. eqb (get_or I.names v 0) (get_or I.names u 0)) (upto (length I.names))

-- u is in its own downstream list exactly if its group has more than one vertex (document 02, [2])
unfoldable pub in_own_list : Index → ℕ → Bool
in_own_list I u = ltb 1 (length (group_of I u))

-- v is downstream of u: u itself by the rule above, any other vertex when u reaches it
unfoldable pub is_downstream : Index → ℕ → ℕ → Bool
unfolding leads in_own_list
is_downstream I u v =
    cond (eqb u v) (in_own_list I u) (leads I.children (get_or I.levels (place_in I u) 0) (place_in I u) (place_in I v))

-- all vertices downstream of u, rising
unfoldable pub downstream : Index → ℕ → List ℕ
unfolding is_downstream
downstream I u = those (is_downstream I u) (upto (length I.names))
