-- The entries of x written one by one, from number `from` on: what stands there are those of the places passed.
use mathlib.Core.Bool.{true, false}
use mathlib.Core.Path.{◌≡◌, refl, sym, ap, ap₂, ◌∙◌}
use mathlib.Core.List.{List, [], ◌∷◌}
use Prim.Native.Nat.{ℕ, ◌+◌, ◌*◌, ◌≤◌, ◌<◌}
use native.Mathlib.Omega.{arith}
use native.Mathlib.Nat.{add-zero}
use lib.ListN.{length, length-append}
use Rattle.lineage.specs.Index.{Index}
use Rattle.lineage.specs.Numbers.{le_bytes, written}
use Rattle.laws_exceptions.specs.Exceptions.{is_exception, entry, entries_of}
use Rattle.laws_exceptions.proofs.Through.{row_to, row_none, row_all, row_over, row_more, row_room}
use Rattle.numbers.specs.Put.{put}
use Rattle.numbers.proofs.Put.{put_none}
use Rattle.numbers.proofs.Written.{written_next, written_one}

-- no entries, nothing written
pub putting_nothing : (out : List ℕ) (at : ℕ) (row : List ℕ) → length row ≡ 0 → out ≡ put out at (written 4 row)
putting_nothing out at [] e = sym (put_none out at)
putting_nothing out at (y ∷ row) e = absurd (omega arith)

pub record Putting (I : Index) (x from y at : ℕ) (before out : List ℕ) : Type 0 where
  pub long : length out ≡ length before
  pub here : at ≡ from + length (row_to I x y)
  pub is : out ≡ put before (4 * from) (written 4 (row_to I x y))

pub putting_none : (I : Index) (x from : ℕ) (out : List ℕ) → Putting I x from 0 from out out
putting_none I x from out = record {
  long = refl;
  here = rw (row_none I x) (sym (add-zero from));
  is = rw (row_none I x) (sym (put_none out (4 * from)));
}

module _
    {I : Index} {x from y at : ℕ} {before out : List ℕ} (room : 4 * (from + length (entries_of I x)) ≤ length before) (K : Putting I x from y at before out)
  where
    pub putting_over : is_exception I x y ≡ false → Putting I x from (y + 1) at before out
    putting_over f = record {
      long = K.long;
      here = rw (row_over I x y f) K.here;
      is = rw (row_over I x y f) K.is;
    }

    module _ (t : is_exception I x y ≡ true) (low : y < length I.groups) where
      pub putting_fits : 4 * at + 4 ≤ length out
      putting_fits = omega (arith, K.here, K.long, row_room I x y t low)

      pub putting_more : {v : ℕ} {out' : List ℕ} → v ≡ entry I x y → out' ≡ put out (4 * at) (le_bytes 4 v) → length out' ≡ length out
          → Putting I x from (y + 1) (at + 1) before out'
      putting_more {v} e w l = record {
        long = l ∙ K.long;
        here = omega (arith, K.here, ap length (row_more I x y t), length-append (row_to I x y) (entry I x y ∷ []));
        is =
            w
            ∙ ap₂ (λ (z bs : List ℕ). put z (4 * at) bs) K.is (ap (le_bytes 4) e ∙ written_one 4 (entry I x y))
            ∙ written_next 4 (4 * from) before (row_to I x y) (entry I x y ∷ []) (4 * at) (omega (arith, K.here)) (omega (arith, row_room I x y t low))
            ∙ ap (λ (z : List ℕ). put before (4 * from) (written 4 z)) (sym (row_more I x y t));
      }

    pub putting_all : y ≡ length I.groups → out ≡ put before (4 * from) (written 4 (entries_of I x))
    putting_all e = K.is ∙ ap (λ (z : List ℕ). put before (4 * from) (written 4 z)) (row_all I x y e)
