-- Going through the vertices upwards, its name is copied; a vertex that is its own name is the next of the group list, at the place that is the number of names before it; any other
-- vertex has a name below it, and that name's place.
use mathlib.Core.Bool.{Bool, true, false}
use mathlib.Core.Path.{◌≡◌, refl, sym, ap, ap₂, subst, ◌∙◌}
use mathlib.Core.List.{List, [], ◌∷◌, ◌++◌, append-nil, map}
use Prim.Native.Nat.{ℕ, zero, suc, ◌+◌, ◌*◌, ◌≤◌, ◌<◌}
use native.Mathlib.Nat.{not-suc-le-zero}
use native.Mathlib.Decide.{ℕ_discrete}
use native.Mathlib.Numerals.{add-one}
use native.Mathlib.Omega.{arith}
use lib.Arith.{lt_of_le-ne}
use lib.Dec.{eqb}
use lib.ListN.{length, get_or, set}
use lib.Seq.{get_or-set_same, get_or-set_other}
use borrow.Author.Tests.{eq-eqb, ne_eqb}
use Rattle.lineage.specs.Lists.{upto, among, those, position, part}
use Rattle.lineage.specs.Graph.{group_list, place_of}
use Rattle.numbers.specs.Regions.{Kept}
use Rattle.numbers.proofs.Regions.{part_set, part_over, part_under, kept_same, kept_set, kept_then, kept_more, part_longer, read_at}
use Rattle.laws.proofs.Tests.{is_false}
use Rattle.laws.proofs.Lists.{those_append, those_yes, those_no, those_pass, those_keep, in_upto, upto_low, table_at, table_is}
use Rattle.laws.proofs.Positions.{position_past, position_left}
use Rattle.laws.proofs.Parts.{part_at, part_length, part_more}
use Rattle.build_groups.specs.Fit.{ListFit}
use Rattle.build_groups.specs.Places.{places_of_names}

-- of a filter of 0, 1, .. , a number's position is how many pass before it
position_upto : (p : ℕ → Bool) (n v : ℕ) → v < n → p v ≡ true → position v (those p (upto n)) ≡ length (those p (upto v))
position_upto p zero v h t = absurd (not-suc-le-zero h)
position_upto p (suc n) v h t = at (ℕ_discrete v n) (position_upto p n v)
  where
    self : (x : ℕ) → position x (x ∷ []) ≡ 0
    self x = rw (eq-eqb x x refl, position)

    split : those p (upto (suc n)) ≡ those p (upto n) ++ those p (n ∷ [])
    split = those_append p (upto n) (n ∷ [])

    at : Dec (v ≡ n) → (v < n → p v ≡ true → position v (those p (upto n)) ≡ length (those p (upto v))) → position v (those p (upto (suc n))) ≡ length (those p (upto v))
    at (yes e) ih =
        let none : among v (those p (upto n)) ≡ false = is_false _ (λ i. absurd (omega (arith, upto_low n v (those_pass p v (upto n) i).1))) in
        let last : position v (those p (n ∷ [])) ≡ 0 = ap (λ z. position v (those p (z ∷ []))) (sym e) ∙ ap (position v) (those_yes p v [] t) ∙ self v in
        ap (position v) split ∙ position_past v (those p (upto n)) (those p (n ∷ [])) none ∙ rw (last, e) (omega arith)
    at (no ne) ih =
        let l : v < n = omega arith in
        ap (position v) split ∙ position_left v (those p (upto n)) (those p (n ∷ [])) (those_keep p v (upto n) t (in_upto n v l)) ∙ ih l t

-- v vertices are gone through, and k of them are their own name; the names of c are copied
pub record Listing (work₀ work : List ℕ) (names n base c v k : ℕ) : Type 0 where
  pub kept : Kept work₀ work base (3 * n)
  pub few : k ≤ v
  pub copied : part work base c ≡ part work₀ names c
  pub listed : part work (base + n) k ≡ those (λ x. eqb (get_or (part work₀ names n) x 0) x) (upto v)
  pub placed : (u : ℕ) → u < v → get_or (part work (base + 2 * n) n) u 0 ≡ place_of (group_list (part work₀ names n)) (get_or (part work₀ names n) u 0)

pub listing_none : (work : List ℕ) (names n base : ℕ) → Listing work work names n base 0 0 0
unfolding part
listing_none work names n base = record { kept = kept_same work base (3 * n); few = omega arith; copied = refl; listed = refl; placed = λ u h. absurd (not-suc-le-zero h) }

-- the vertex at hand, and where its turn reads and writes
pub record Vertex (work : List ℕ) (names n base v k : ℕ) : Type 0 where
  pub name_in : names + v < length work
  pub low : get_or work (names + v) 0 ≤ v
  pub few : k ≤ v
  pub room : base + 3 * n ≤ length work

module _ {work₀ work : List ℕ} {names n base c v k : ℕ} (f : ListFit work₀ names n base) (i : Listing work₀ work names n base c v k) (h : v < n) where
  abbrev given : List ℕ
  given = part work₀ names n

  abbrev own : ℕ → Bool
  own x = eqb (get_or given x 0) x

  long : length given ≡ n
  long = part_length work₀ names n f.names_there.fits

  pub name_is : get_or work (names + v) 0 ≡ get_or given v 0
  name_is = read_at f.names_there i.kept v h

  room : base + 3 * n ≤ length work
  room = omega (arith, f.room, i.kept.long)

  pub listing_vertex : Vertex work names n base v k
  listing_vertex = record {
    name_in = omega (arith, f.names_there.fits, i.kept.long);
    low = omega (arith, name_is, f.named.low v (omega (arith, long)));
    few = i.few;
    room = room;
  }

  -- its name is copied
  pub listing_copied : c ≡ v → Listing work₀ (set work (base + v) (get_or work (names + v) 0)) names n base (v + 1) v k
  listing_copied e =
      let name : ℕ = get_or work (names + v) 0 in
      let same : name ≡ get_or work₀ (names + v) 0 = name_is ∙ sym (part_at work₀ names n v h) in
      record {
        kept = kept_more v name (omega arith) i.kept;
        few = i.few;
        copied =
            part_longer work base v name (omega (arith, room))
            ∙ ap₂ (λ x y. x ++ (y ∷ [])) (rw e at i.copied) same
            ∙ sym (part_more work₀ names v 0 (omega (arith, f.names_there.fits)));
        listed = part_under work (base + n) k (base + v) name (omega arith) ∙ i.listed;
        placed = rw (part_under work (base + 2 * n) n (base + v) name (omega arith)) i.placed;
      }

  -- as many as are listed
  count : k ≡ length (those own (upto v))
  count = sym (part_length work (base + n) k (omega (arith, room, i.few))) ∙ ap length i.listed

  -- one vertex more in the places' region
  placed_more :
      (words : List ℕ) (x : ℕ) → length words ≡ n → ((u : ℕ) → u < v → get_or words u 0 ≡ place_of (group_list given) (get_or given u 0)) → x ≡ place_of (group_list given) (get_or given v 0)
      → (u : ℕ) → u < v + 1 → get_or (set words v x) u 0 ≡ place_of (group_list given) (get_or given u 0)
  placed_more words x l all e u j = at (ℕ_discrete u v)
    where
      at : Dec (u ≡ v) → get_or (set words v x) u 0 ≡ place_of (group_list given) (get_or given u 0)
      at (yes z) = rw (z, get_or-set_same words v x 0 (omega arith)) e
      at (no ne) = rw (get_or-set_other words v u x 0 ne) (all u (omega arith))

  -- the names up to v are those before it, and v if it is one
  split : those own (upto (v + 1)) ≡ those own (upto v) ++ those own (v ∷ [])
  split = rw (add-one v) (those_append own (upto v) (v ∷ []))

  -- the place of a name is how many names stand before it
  place_own : get_or given v 0 ≡ v → k ≡ place_of (group_list given) (get_or given v 0)
  unfolding group_list
  place_own e =
      count
      ∙ sym (ap (λ z. position v (those own (upto z))) long ∙ position_upto own n v h (eq-eqb (get_or given v 0) v e))
      ∙ ap (λ z. position z (those own (upto (length given)))) (sym e)

  module _ (name : ℕ) (given_is : name ≡ get_or given v 0) (now : c ≡ v + 1) where
    -- it is its own name: it is listed, and its place is how many were listed before it
    pub listing_own :
        {work' : List ℕ} {k' : ℕ} → name ≡ v → work' ≡ set (set work (base + n + k) name) (base + 2 * n + v) k → k' ≡ k + 1
        → Listing work₀ work' names n base (v + 1) (v + 1) k'
    listing_own e ew ek =
        let own-v : own v ≡ true = eq-eqb (get_or given v 0) v (sym given_is ∙ e) in
        let few = i.few in
        let then : List ℕ = set work (base + n + k) name in
        rw (ew, ek) (record {
          kept = kept_then (kept_then i.kept (kept_set work base (3 * n) (base + n + k) name (omega arith) (omega arith))) (kept_set then base (3 * n) (base + 2 * n + v) k (omega arith) (omega arith));
          few = omega arith;
          copied =
              part_over then base (v + 1) (base + 2 * n + v) k (omega arith)
              ∙ part_over work base (v + 1) (base + n + k) name (omega arith)
              ∙ rw now at i.copied;
          listed =
              part_over then (base + n) (k + 1) (base + 2 * n + v) k (omega arith)
              ∙ part_longer work (base + n) k name (omega (arith, room))
              ∙ ap (λ z. z ++ (name ∷ [])) i.listed
              ∙ ap (λ z. those own (upto v) ++ (z ∷ [])) e
              ∙ sym (split ∙ ap (those own (upto v) ++◌) (those_yes own v [] own-v));
          placed =
              rw (part_set then (base + 2 * n) n v k h, part_under work (base + 2 * n) n (base + n + k) name (omega arith))
              (placed_more (part work (base + 2 * n) n) k (part_length work (base + 2 * n) n (omega (arith, room))) i.placed (place_own (sym given_is ∙ e)));
        })

    -- it is not: its name is below it, and has its place
    pub listing_other :
        {work' : List ℕ} {k' : ℕ} → (name ≡ v → ⊥) → work' ≡ set work (base + 2 * n + v) (get_or work (base + 2 * n + name) 0) → k' ≡ k
        → Listing work₀ work' names n base (v + 1) (v + 1) k'
    listing_other ne ew ek =
        let a : ℕ = get_or given v 0 in
        let below : a < v = let l = f.named.low v (omega (arith, long)) in lt_of_le-ne l (λ z. ne (given_is ∙ z)) in
        let no-v : own v ≡ false = ne_eqb a v (λ z. ne (given_is ∙ z)) in
        let x : ℕ = get_or work (base + 2 * n + name) 0 in
        let place_is : x ≡ place_of (group_list given) a =
        ap (λ z. get_or work (base + 2 * n + z) 0) given_is
        ∙ part_at work (base + 2 * n) n a (omega arith)
        ∙ i.placed a below
        ∙ ap (place_of (group_list given)) (f.named.own v (omega (arith, long))) in
        rw (ew, ek) (record {
          kept = kept_then i.kept (kept_set work base (3 * n) (base + 2 * n + v) x (omega arith) (omega arith));
          few = omega (arith, i.few);
          copied = part_over work base (v + 1) (base + 2 * n + v) x (omega arith) ∙ rw now at i.copied;
          listed =
              part_over work (base + n) k (base + 2 * n + v) x (omega (arith, i.few))
              ∙ i.listed
              ∙ sym (split ∙ ap (those own (upto v) ++◌) (those_no own v [] no-v) ∙ append-nil (those own (upto v)));
          placed =
              rw (part_set work (base + 2 * n) n v x h)
              (placed_more (part work (base + 2 * n) n) x (part_length work (base + 2 * n) n (omega (arith, room))) i.placed place_is);
        })

pub listing_all :
    {work₀ work : List ℕ} {names n base v k : ℕ} → ListFit work₀ names n base → v ≡ n → Listing work₀ work names n base v v k
    → Kept work₀ work base (3 * n)
    × ((k ≤ n)
    × ((part work base n ≡ part work₀ names n)
    × ((part work (base + n) k ≡ group_list (part work₀ names n)) × (part work (base + 2 * n) n ≡ places_of_names (part work₀ names n)))))
unfolding group_list places_of_names
listing_all {work₀} {work} {names} {n} {base} {v} {k} f e i =
    let given : List ℕ = part work₀ names n in
    let long : length given ≡ n = part_length work₀ names n f.names_there.fits in (
      i.kept,
      (
        omega (arith, i.few),
        (
          rw e at i.copied,
          (
            i.listed ∙ ap (λ z. those (λ x. eqb (get_or given x 0) x) (upto z)) (e ∙ sym long),
            sym (subst (λ z. map (λ u. place_of (group_list given) (get_or given u 0)) (upto z) ≡ part work (base + 2 * n) n) (sym long)
                (table_is (λ u. place_of (group_list given) (get_or given u 0)) (part work (base + 2 * n) n) n 0
                (part_length work (base + 2 * n) n (omega (arith, f.room, i.kept.long))) (λ u h. sym (i.placed u (omega arith))))),
          ),
        ),
      ),
    )

-- the place of a vertex's group
pub place_at : (names : List ℕ) (v : ℕ) → v < length names → get_or (places_of_names names) v 0 ≡ place_of (group_list names) (get_or names v 0)
unfolding places_of_names
place_at names v h = table_at (λ u. place_of (group_list names) (get_or names u 0)) (length names) v 0 h
