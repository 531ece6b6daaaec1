-- A forest that fits the ranks is what a traversal makes under the forest's own order of entering. At a group p the children in that order stand
-- before p's block, in it, or after it. Those before and after have lower ranks than p, hence ranks below its block, and were visited by then; in the
-- block stand the trees below p one after the other, and what else of them are children of p is visited once its tree is gone through.
use mathlib.Core.Bool.{Bool, true, false, false≢true}
use mathlib.Core.Logic.{inl, inr}
use mathlib.Core.Path.{◌≡◌, sym, ap, ◌∙◌}
use mathlib.Core.List.{List, [], ◌∷◌, ◌++◌, append-nil, append_assoc}
use Prim.Native.Nat.{ℕ, suc, ◌<◌, ◌≤◌}
use native.Mathlib.Decide.{dec_le}
use native.Mathlib.Omega.{arith}
use Rattle.lineage.specs.Lists.{among, those}
use Rattle.lineage.specs.Labels.{Forest, done, after}
use Rattle.laws.specs.Visits.{Visits, over, skip, enter}
use Rattle.laws.proofs.Tests.{is_false}
use Rattle.laws.proofs.Lists.{here, there, in_cons, in_one, in_left, in_right, in_append, Kept, those_append, those_yes, those_pass}
use Rattle.laws.proofs.Traversal.{kept}
use Rattle.laws.proofs.Visited.{seen_cases, visited_seen}
use Rattle.laws.proofs.Forests.{Ranking, Fits, none, tree, entered, join_f, join_done, entered_finished, block_up, member_rank, rank_member}

-- groups already seen are passed over
skips : {next : ℕ → List ℕ} {seen : List ℕ} {f : Forest} (xs todo : List ℕ) → Kept xs seen → Visits next todo seen f → Visits next (xs ++ todo) seen f
skips [] todo all v = v
skips (x ∷ xs) todo all v = skip (all x (here x xs)) (skips xs todo (λ y i. all y (there y x xs i)) v)

module _
    (R : Ranking) (ord : List ℕ) (next : ℕ → List ℕ)
    (next_is : (p : ℕ) → next p ≡ those (R.child p) ord)
    (one : (p q : ℕ) → p < R.k → q < R.k → R.e p ≡ R.e q → p ≡ q)
    (low : (p : ℕ) → among p ord ≡ true → p < R.k)
    (falls : (p q : ℕ) → p < R.k → R.child p q ≡ true → R.e q < R.e p)
  where
    -- no rank of the list lies above lo and up to hi
    abbrev Outside : List ℕ → ℕ → ℕ → Type 0
    Outside xs lo hi = (x : ℕ) → among x xs ≡ true → R.e x ≤ hi → R.e x ≤ lo

    -- all up to lo has been seen
    abbrev Covered : List ℕ → ℕ → Type 0
    Covered seen lo = (x : ℕ) → among x ord ≡ true → R.e x ≤ lo → among x seen ≡ true

    -- children of p that stand outside its block have been seen when it is entered
    passed :
        (p : ℕ) {lo r : ℕ} (xs seen : List ℕ) → p < R.k → R.e p ≡ suc r → Outside xs lo r → Covered seen lo → Kept xs ord
        → Kept (those (R.child p) xs) seen
    passed p xs seen h y o c i x j =
        let t = those_pass (R.child p) x xs j in
        c x (i x t.1) (o x t.1 (omega (arith, falls p x h t.0)))

    entered_seen : (f : Forest) (seen : List ℕ) (x : ℕ) → among x (entered f) ≡ true → among x (after f seen) ≡ true
    entered_seen f seen x i = visited_seen f seen x (rw entered_finished at i)

    -- at p: what stands before and after its block is passed over, and the block gives the forest below
    inside :
        (p : ℕ) (below : Forest) {lo r : ℕ} (a b seen : List ℕ)
        → p < R.k
        → R.e p ≡ suc r
        → ord ≡ a ++ (entered below ++ b)
        → Outside a lo r
        → Outside b lo r
        → Covered seen lo
        → ((rest : List ℕ) (g : Forest) → Visits next rest (after below seen) g → Visits next (those (R.child p) (entered below) ++ rest) seen (join_f below g))
        → Visits next (next p) seen below
    inside p below a b seen h y o oa ob c go =
        let child : ℕ → Bool = R.child p in
        let parts : next p ≡ those child a ++ (those child (entered below) ++ those child b) =
        next_is p ∙ ap (those child) o ∙ those_append child a (entered below ++ b) ∙ ap (those child a ++◌) (those_append child (entered below) b) in
        let ia : Kept a ord = λ x i. rw o (in_left x a (entered below ++ b) i) in
        let ib : Kept b ord = λ x i. rw o (in_right x a (entered below ++ b) (in_right x (entered below) b i)) in
        let last : Visits next (those child b) (after below seen) done =
        rw (← append-nil (those child b)) (skips (those child b) [] (λ x i. kept below seen x (passed p b seen h y ob c ib x i)) over) in
        rw parts (skips (those child a) _ (passed p a seen h y oa c ia) (rw (join_done below) at (go (those child b) done last)))

    -- the order's part for a forest, then the rest: the forest, then what the rest gives
    replay :
        {ok : ℕ → Bool} {f : Forest} {lo hi : ℕ}
        → Fits R ok f lo hi
        → (a b seen : List ℕ)
        → ord ≡ a ++ (entered f ++ b)
        → Outside a lo hi
        → Outside b lo hi
        → Outside seen lo hi
        → Covered seen lo
        → (rest : List ℕ) (g : Forest)
        → Visits next rest (after f seen) g
        → Visits next (those ok (entered f) ++ rest) seen (join_f f g)
    replay none a b seen o oa ob os c rest g v = v
    replay {ok} (tree {p = p} {lo = lo} {r = r} {hi = hi} {below = below} {next = nxt} t h x y u w) a b seen o oa ob os c rest g v =
        rw split (
        enter new
        (inside p below (a ++ (p ∷ [])) (entered nxt ++ b) (p ∷ seen) h y ord_below a_below b_below seen_below
        (replay u (a ++ (p ∷ [])) (entered nxt ++ b) (p ∷ seen) ord_below a_below b_below s_below seen_below))
        (skips (those ok (entered below)) _ (λ z i. entered_seen below (p ∷ seen) z (those_pass ok z (entered below) i).1)
        (replay w (a ++ (p ∷ entered below)) b (after below (p ∷ seen)) ord_next a_next b_next s_next seen_next rest g v)))
      where
        split : those ok (p ∷ (entered below ++ entered nxt)) ++ rest ≡ p ∷ (those ok (entered below) ++ (those ok (entered nxt) ++ rest))
        split =
            ap (◌++ rest) (those_yes ok p (entered below ++ entered nxt) t ∙ ap (p ∷◌) (those_append ok (entered below) (entered nxt)))
            ∙ ap (p ∷◌) (append_assoc (those ok (entered below)) (those ok (entered nxt)) rest)

        new : among p seen ≡ false
        new = is_false (among p seen) (λ i. absurd (omega (arith, block_up u, block_up w, os p i (omega (arith, block_up w)))))

        ord_below : ord ≡ (a ++ (p ∷ [])) ++ (entered below ++ (entered nxt ++ b))
        ord_below = o ∙ simp append_assoc

        ord_next : ord ≡ (a ++ (p ∷ entered below)) ++ (entered nxt ++ b)
        ord_next = o ∙ simp append_assoc

        a_below : Outside (a ++ (p ∷ [])) lo r
        a_below z i l =
            elim (in_append z a (p ∷ []) i) [
              | inl j ↦ oa z j (omega (arith, block_up w))
              | inr j ↦ absurd (omega (arith, ap R.e (in_one z p j)))
            ]

        b_below : Outside (entered nxt ++ b) lo r
        b_below z i l =
            elim (in_append z (entered nxt) b i) [
              | inl j ↦ absurd (omega (arith, member_rank w z j))
              | inr j ↦ ob z j (omega (arith, block_up w))
            ]

        s_below : Outside (p ∷ seen) lo r
        s_below z i l =
            elim (in_cons z p seen i) [
              | inl q ↦ absurd (omega (arith, ap R.e q))
              | inr j ↦ os z j (omega (arith, block_up w))
            ]

        seen_below : Covered (p ∷ seen) lo
        seen_below z i l = there z p seen (c z i l)

        a_next : Outside (a ++ (p ∷ entered below)) (suc r) hi
        a_next z i l =
            elim (in_append z a (p ∷ entered below) i) [
              | inl j ↦ omega (arith, oa z j l, block_up u)
              | inr j ↦ elim (in_cons z p (entered below) j) [
                | inl q ↦ omega (arith, ap R.e q)
                | inr q ↦ omega (arith, member_rank u z q)
              ]
            ]

        b_next : Outside b (suc r) hi
        b_next z i l = omega (arith, ob z i l, block_up u)

        s_next : Outside (after below (p ∷ seen)) (suc r) hi
        s_next z i l =
            elim (seen_cases z below (p ∷ seen) i) [
              | inl j ↦ omega (arith, member_rank u z (rw (← entered_finished z below) at j))
              | inr j ↦ elim (in_cons z p seen j) [
                | inl q ↦ omega (arith, ap R.e q)
                | inr q ↦ omega (arith, os z q l, block_up u)
              ]
            ]

        seen_next : Covered (after below (p ∷ seen)) (suc r)
        seen_next z i l = at (dec_le (R.e z) lo) (dec_le (R.e z) r)
          where
            at : Dec (R.e z ≤ lo) → Dec (R.e z ≤ r) → among z (after below (p ∷ seen)) ≡ true
            at (yes q) d = kept below (p ∷ seen) z (seen_below z i q)
            at (no q) (yes d) = entered_seen below (p ∷ seen) z (rank_member one u z (low z i) (omega arith) d)
            at (no q) (no d) = rw (one z p (low z i) h (omega arith)) (kept below (p ∷ seen) p (here p seen))

    -- the whole forest, from nothing seen
    pub replayed :
        (root : ℕ → Bool) (f : Forest) (k : ℕ) → Fits R root f 0 k → ord ≡ entered f → ((p : ℕ) → p < R.k → 1 ≤ R.e p) → Visits next (those root ord) [] f
    replayed root f k fits o above =
        let nothing : (z : ℕ) → among z [] ≡ true → R.e z ≤ k → R.e z ≤ 0 = λ z i l. absurd (false≢true i) in
        let v : Visits next (those root (entered f) ++ []) [] (join_f f done) =
        replay fits [] [] [] (o ∙ sym (append-nil (entered f))) nothing nothing nothing (λ z i l. absurd (omega (arith, above z (low z i)))) [] done over in
        rw (o, ← append-nil (those root (entered f))) (rw (join_done f) at v)
