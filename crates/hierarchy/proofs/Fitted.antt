-- Behind 15: 4 by the number of labellings, 22 by the first child of two others, 9 by the length that the layout has there, or what is written.
use mathlib.Core.Bool.{Bool, true, false, not, not-not, ◌&&◌, cond}
use mathlib.Core.Path.{◌≡◌, refl, sym, ap, ap₂, subst⁻¹, ◌∙◌}
use mathlib.Core.List.{List, [], ◌∷◌, ◌++◌}
use Prim.Native.Nat.{ℕ, ◌≤◌, ◌<◌}
use native.Mathlib.Omega.{arith}
use lib.Dec.{eqb, ltb}
use lib.ListN.{length, get_or, drop}
use borrow.Author.Tests.{lt-ltb, le-ltb, ltb-true, eqb-true, not-false}
use Rattle.lineage.specs.Lists.{upto, any, first_of}
use Rattle.lineage.specs.Numbers.{num_at}
use Rattle.lineage.specs.Sound.{shared, is_tree}
use Rattle.lineage.specs.Stored.{Form, counts_in, form_of}
use Rattle.lineage.specs.Calls.{refused, answered, index_in}
use Rattle.laws.specs.Checks.{Stops, stopped}
use Rattle.laws.proofs.Tests.{clash}
use Rattle.laws.proofs.Checks.{stops_early, stops_outcome}
use Rattle.numbers.specs.Put.{put}
use Rattle.numbers.proofs.Put.{put_start}
use Rattle.numbers.proofs.Numbers.{numbers_at}
use Rattle.stored_header.specs.declared.Row.{Row}
use Rattle.stored_header.specs.declared.Layout.{Layout}
use Rattle.stored_header.specs.Header.{Stride, row_of, counts, layout_by, Laid}
use Rattle.stored_header.proofs.Forms.{form_within}
use Rattle.stored_header.proofs.Laid.{k_is, d_is}
use Rattle.stored.specs.Sections.{Section}
use Rattle.stored.proofs.Contents.{children_many}
use Rattle.numbers.proofs.Found.{any_first, found_tells}
use Rattle.std.specs.Prelude.{Option, Some, None, is_some, Result, Ok, Err}
use Rattle.std.proofs.lemmas.Option.{cond_some}
use Rattle.numbers.specs.Found.{found_below}
use Rattle.sound_places.specs.Lent.{SoundBytes}
use Rattle.refusals.specs.declared.Refusal.{Refusal}
use Rattle.refusals.specs.declared.Refusal.TheVariants.{SharedChild, OutputShort}
use Rattle.convert.specs.Convert.{converted}
use Rattle.convert.specs.Converted.{converted_of}
use Rattle.hierarchy.specs.Turn.{plain_checks}
use Rattle.hierarchy.specs.Turned.{Turned}
use Rattle.hierarchy.specs.Fit.{Wide, Between}
use Rattle.hierarchy.proofs.Sections.{groups_are_lem}
use Rattle.hierarchy.proofs.Written.{converted_long}

-- Looking through 0, 1, .. , k - 1 for the first that passes a test.
module _ (p : ℕ → Bool) where
  -- where one passes, the number for none is not looked at
  first_any : (xs : List ℕ) (a b : ℕ) → any p xs ≡ true → first_of p xs a ≡ first_of p xs b
  first_any [] a b e = clash e refl
  first_any (x ∷ xs) a b e = at (p x) refl (first_any xs a b)
    where
      at : (t : Bool) → p x ≡ t → (any p xs ≡ true → first_of p xs a ≡ first_of p xs b) → first_of p (x ∷ xs) a ≡ first_of p (x ∷ xs) b
      at true f ih = rw (f, first_of)
      at false f ih = rw (f, first_of) (ih (rw f at e))

-- what was looked for at some forms alone
some_where : (t : Bool) (o : Option ℕ) → is_some (cond t o None) ≡ (t && is_some o)
some_where true o = refl
some_where false o = refl

found_where : (t : Bool) (k f first : ℕ) → cond t (found_below k f) None ≡ Some first → (first ≡ cond t f k) × (first < k)
found_where true k f first e = let (low, same) = cond_some (ltb f k) f first e in (sym same, omega (arith, ltb-true f k low))
found_where false k f first e = absurd (cc)

first_where : (t : Bool) (k f first : ℕ) → first ≡ cond t f k → first < k → first ≡ f
first_where true k f first e low = e
first_where false k f first e low = absurd (omega arith)

none_found : (o : Option ℕ) → ((v : ℕ) → o ≡ Some v → ⊥) → is_some o ≡ false
none_found (Some v) n = absurd (n v refl)
none_found None n = refl

-- another form with its row of the table
pub record Other (b : List ℕ) (l : Layout) (form : ℕ) (row : Row) : Type 0 where
  pub wide : Wide b l form
  pub single : (form_of form).tree ≡ false → l.d ≡ 1
  pub row_is : row ≡ row_of form

module _ {b : List ℕ} {l : Layout} (K : SoundBytes b l) {form : ℕ} {row : Row} (O : Other b l form row) where
  abbrev G : Form
  G = form_of form

  abbrev L : Laid b l
  L = K.laid

  abbrev k : ℕ
  k = l.k

  abbrev children : List (List ℕ)
  children = (index_in b).children

  abbrev needed : ℕ
  needed = length (converted G b)

  pub row_stride : Stride row.stride
  row_stride = subst⁻¹ (λ (r : Row). Stride r.stride) O.row_is (form_within form).stride

  tree_is : row.tree ≡ G.tree
  tree_is = ap (λ (r : Row). r.tree) O.row_is

  many : length children ≡ k
  many = children_many b ∙ sym (k_is L)

  -- the first child of two others, or k
  abbrev first_two : ℕ
  first_two = first_of (shared children) (upto k) k

  -- the index is a plain hierarchy where no group is a child of two
  tree_told : not (is_tree children) ≡ any (shared children) (upto k)
  unfolding is_tree
  tree_told = not-not (any (shared children) (upto (length children))) ∙ ap (λ (n : ℕ). any (shared children) (upto n)) many

  -- the first by place, which its name tells
  module _ {first : ℕ} (found : first ≡ cond row.tree first_two k) (low : first < k) where
    name_is : {groups : List ℕ} → Section b l 1 groups → {name : ℕ} → name ≡ num_at l.width groups first
        → name ≡ get_or (index_in b).groups (first_of (shared children) (upto (length children)) 0) 0
    name_is {groups} R e =
        let same : first ≡ first_two = first_where row.tree k first_two first found low in
        let some : any (shared children) (upto k) ≡ true = any_first (shared children) k ∙ lt-ltb first_two k (omega arith) in
        e
        ∙ sym (numbers_at l.width groups k first low)
        ∙ ap₂ (λ (xs : List ℕ) (i : ℕ). get_or xs i 0) (sym (groups_are_lem L R))
        (same ∙ first_any (shared children) (upto k) k 0 some ∙ ap (λ (n : ℕ). first_of (shared children) (upto n) 0) (sym many))

  module _ {o : Option ℕ} (found : o ≡ cond row.tree (found_below k first_two) None) where
    told : is_some o ≡ (G.tree && not (is_tree children))
    told =
        ap is_some found
        ∙ some_where row.tree (found_below k first_two)
        ∙ ap₂ (λ (x y : Bool). x && y) tree_is (found_tells (shared children) k refl ∙ sym tree_told)

    plain_none : ((v : ℕ) → o ≡ Some v → ⊥) → (G.tree && not (is_tree children)) ≡ false
    plain_none n = sym told ∙ none_found o n

    module _ {first : ℕ} (some : o ≡ Some first) where
      first_found : (first ≡ cond row.tree first_two k) × (first < k)
      first_found = found_where row.tree k first_two first (sym found ∙ some)

      pub first_low : first < k
      first_low = first_found.1

      shared_some : (G.tree && not (is_tree children)) ≡ true
      shared_some = sym told ∙ ap is_some some

      -- the same of what a search found
      found_name : {groups : List ℕ} → Section b l 1 groups → {name : ℕ} → name ≡ num_at l.width groups first
          → name ≡ get_or (index_in b).groups (first_of (shared children) (upto (length children)) 0) 0
      found_name = name_is first_found.0 first_low

  module _ (out : List ℕ) where
    -- the checks stop at number i: 4, 22, 9, none
    turned_at : (i : ℕ) → Stops (plain_checks G b (length out)) i → {r : Result ℕ Refusal} → converted_of r ≡ stopped (plain_checks G b (length out)) i needed
        → Turned G b out r (cond (ltb i 3) out (converted G b ++ drop needed out))
    turned_at i s e = record {
      answers = e ∙ sym (stops_outcome needed (plain_checks G b (length out)) i s);
      writes = rw (stops_early (plain_checks G b (length out)) [] i s);
    }

    several_is : {t : Bool} → (row.tree && not (eqb l.d 1)) ≡ t → (G.tree && not (eqb (counts_in b).d 1)) ≡ t
    several_is e = ap₂ (λ (t : Bool) (d : ℕ). t && not (eqb d 1)) (sym tree_is) (sym (d_is L)) ∙ e

    module _ (single : (row.tree && not (eqb l.d 1)) ≡ false) where
      one : l.d ≡ 1
      one = at G.tree refl (several_is single)
        where
          at : (t : Bool) → G.tree ≡ t → (G.tree && not (eqb (counts_in b).d 1)) ≡ false → l.d ≡ 1
          at false e h = O.single e
          at true e h = d_is L ∙ eqb-true (counts_in b).d 1 (not-false (eqb (counts_in b).d 1) (ap (λ (t : Bool). t && not (eqb (counts_in b).d 1)) (sym e) ∙ h))

      -- the layout of the same counts at the other form
      pub between : {to : Layout} → to ≡ layout_by 4 row.stride (counts l.n l.k l.c l.d) → Between b l form to
      between e = record {
        both = O.wide;
        one = one;
        laid = e ∙ ap₂ (λ (r : Row) (z : Layout). layout_by 4 r.stride (counts z.n z.k z.c z.d)) O.row_is L.is;
      }

      module _ {o : Option ℕ} (found : o ≡ cond row.tree (found_below k first_two) None) where
        pub turned_shared : {first : ℕ} → o ≡ Some first → {groups : List ℕ} → Section b l 1 groups → {name : ℕ} → name ≡ num_at l.width groups first
            → Turned G b out (Err (SharedChild name)) out
        turned_shared some R e = turned_at 1 (several_is single, shared_some found some) (ap (refused 22) (found_name found some R e))

        module _ (none : (v : ℕ) → o ≡ Some v → ⊥) {to : Layout} (T : Between b l form to) where
          pub turned_short : length out < to.total → Turned G b out (Err (OutputShort to.total)) out
          turned_short h =
              turned_at 2 (several_is single, (plain_none found none, lt-ltb (length out) needed (omega (arith, converted_long K T)))) (ap (refused 9) (converted_long K T))

          pub turned_whole : to.total ≤ length out → {t : List ℕ} → t ≡ put out 0 (converted G b) → Turned G b out (Ok to.total) t
          turned_whole h e =
              subst⁻¹ (Turned G b out (Ok to.total)) (e ∙ put_start out (converted G b))
              (turned_at 3 (several_is single, (plain_none found none, (le-ltb (length out) needed (omega (arith, converted_long K T)), tt))) (ap answered (converted_long K T)))
