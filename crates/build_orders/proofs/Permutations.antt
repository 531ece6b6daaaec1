-- Orders as permutations. Order i stamps with i + 1 words that are i or less, so afterwards a word is i + 1 exactly where its number stands in the order.
use mathlib.Core.Bool.{Bool, true, false, not, cond}
use mathlib.Core.Path.{◌≡◌, refl, sym, ◌∙◌}
use mathlib.Core.List.{List, map}
use Prim.Native.Nat.{ℕ, ◌+◌, ◌*◌, ◌≤◌, ◌<◌}
use native.Mathlib.Nat.{suc-mul, mul-le-mul_right}
use native.Mathlib.Omega.{arith}
use lib.ListN.{length, get_or, replicate, get_or-replicate}
use borrow.Author.Tests.{eq-eqb, ne_eqb, not-false}
use Rattle.lineage.specs.Lists.{upto, any, among, part, Every}
use Rattle.lineage.specs.Labels.{Order}
use Rattle.lineage.specs.Calls.{order_at, bad_order}
use Rattle.laws.proofs.Lists.{in_upto, upto_low, any_same, any_none}
use Rattle.laws.proofs.Parts.{part_length}
use Rattle.laws.proofs.Every.{every_mapped}
use Rattle.numbers.specs.Regions.{Kept, Part}
use Rattle.numbers.proofs.Regions.{kept_same, kept_then}
use Rattle.numbers.specs.Stamped.{Stamped}
use Rattle.build_orders.specs.Lacks.{lacks}
use Rattle.numbers.proofs.Found.{NoneBelow, none_begin, none_more}

-- order i lies in an order list of d orders
pub order_room : (i d n : ℕ) → i < d → i * n + n ≤ d * n
order_room i d n h = rw (← suc-mul i n) (mul-le-mul_right n h)

-- i orders are gone through: none is bad, and the words are at most i
pub record Tried (orders work₀ work : List ℕ) (base n i : ℕ) : Type 0 where
  pub kept : Kept work₀ work base n
  pub low : (v : ℕ) → v < n → get_or (part work base n) v 0 ≤ i
  pub passed : NoneBelow (bad_order n orders) i

pub tried_none : (orders work : List ℕ) (base n : ℕ) → part work base n ≡ replicate n 0 → Tried orders work work base n 0
tried_none orders work base n e = record {
  kept = kept_same work base n;
  low = λ v h. rw e (omega (arith, get_or-replicate {A = ℕ} n v 0 0 h));
  passed = none_begin;
}

module _
    {orders work₀ work work' : List ℕ} {base n i : ℕ} (room : base + n ≤ length work) (t : Tried orders work₀ work base n i)
    (k : Kept work work' base n) (s : Stamped (i + 1) (part orders (i * n) n) (part work base n) (part work' base n))
  where
    word : (v : ℕ) → v < n → get_or (part work' base n) v 0 ≡ cond (among v (part orders (i * n) n)) (i + 1) (get_or (part work base n) v 0)
    word v h = s.at v (omega (arith, part_length work base n room))

    -- a word lacks the stamp exactly where its number does not stand in the order
    lacks_is : any (lacks (i + 1) (part work' base n)) (upto n) ≡ bad_order n orders i
    lacks_is =
        any_same (lacks (i + 1) (part work' base n)) (λ v. not (among v (part orders (i * n) n))) (upto n)
        (λ v j. at v (upto_low n v j) (among v (part orders (i * n) n)) refl)
      where
        at : (v : ℕ) → v < n → (b : Bool) → among v (part orders (i * n) n) ≡ b → lacks (i + 1) (part work' base n) v ≡ not (among v (part orders (i * n) n))
        at v h true e = rw (word v h, e, eq-eqb (i + 1) (i + 1) refl)
        at v h false e = rw (word v h, e, ne_eqb (get_or (part work base n) v 0) (i + 1) (λ z. omega (arith, t.low v h)))

    -- by a slice of the words
    module _ {words : List ℕ} (P : Part work' base n words) (r : Bool) (e : r ≡ any (lacks (i + 1) words) (upto (length words))) where
      told : r ≡ bad_order n orders i
      told = e ∙ rw (P.long, P.is) lacks_is

      pub tried_bad : r ≡ true → bad_order n orders i ≡ true
      tried_bad h = sym told ∙ h

      pub tried_more : r ≡ false → Tried orders work₀ work' base n (i + 1)
      tried_more h = record {
        kept = kept_then t.kept k;
        low = λ v l. at v l (among v (part orders (i * n) n)) refl;
        passed = none_more t.passed (sym told ∙ h);
      }
        where
          at : (v : ℕ) → v < n → (b : Bool) → among v (part orders (i * n) n) ≡ b → get_or (part work' base n) v 0 ≤ i + 1
          at v l true z = rw (word v l, z) (omega arith)
          at v l false z = rw (word v l, z) (omega (arith, t.low v l))

-- an order that is not bad is an order
module _ (n d : ℕ) (orders : List ℕ) (whole : length orders ≡ d * n) where
  pub order_of : (i : ℕ) → i < d → bad_order n orders i ≡ false → Order n (order_at n orders i)
  order_of i h e = record {
    long = part_length orders (i * n) n (omega (arith, order_room i d n h));
    all = λ v l. not-false (among v (order_at n orders i)) (any_none (λ x. not (among x (order_at n orders i))) (upto n) e v (in_upto n v l));
  }

  pub orders_of_lem : any (bad_order n orders) (upto d) ≡ false → Every (Order n) (map (order_at n orders) (upto d))
  orders_of_lem e =
      every_mapped (Order n) (order_at n orders) (upto d)
      (λ i j. order_of i (upto_low d i j) (any_none (bad_order n orders) (upto d) e i j))
