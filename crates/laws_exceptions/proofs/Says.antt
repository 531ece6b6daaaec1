-- A question by the lists says yes exactly where a path leads: contained and not an exception is contained and led to, and what is led to is contained.
-- So it says what the walk says, and of every graph that yields the index whether u reaches v.
use mathlib.Core.Bool.{Bool, true, false, not}
use mathlib.Core.Logic.Iff
use mathlib.Core.Logic.{◌↔◌}
use mathlib.Core.Path.{◌≡◌, refl, ap}
use Prim.Native.Nat.{ℕ, ◌<◌}
use native.Mathlib.Omega.{arith}
use lib.ListN.{length, get_or}
use borrow.Author.Tests.{not-true}
use Rattle.lineage.specs.Lists.{among}
use Rattle.lineage.specs.Graph.{Reaches, leads}
use Rattle.lineage.specs.Index.{Index, Made}
use Rattle.lineage.specs.Question.{place_in, answer}
use Rattle.laws.specs.Leads.{Down}
use Rattle.laws.specs.Sound.{Sound}
use Rattle.laws.proofs.Tests.{and_both, and_left, and_right, clash, is_false}
use Rattle.laws.proofs.Grouped.{place_low, leads_exactly}
use Rattle.laws.proofs.Sound.{sound_exactly, made_paths}
use Rattle.laws_answers.proofs.Demands.{answer_down}
use Rattle.laws_exceptions.specs.Exceptions.{contains, exceptions_of, says_by_exceptions}
use Rattle.laws_exceptions.proofs.Exceptions.{listed_exactly, contains_down, exception_exactly}

module _ (I : Index) (S : Sound I) (u v : ℕ) (bu : u < length I.names) (bv : v < length I.names) where
  abbrev x : ℕ
  x = place_in I u

  abbrev y : ℕ
  y = place_in I v

  bx : x < length I.children
  bx = place_low S.condensed u bu

  by : y < length I.groups
  by = omega (arith, place_low S.condensed v bv, S.condensed.children_long)

  -- contained and not listed is led to
  unlisted_down : contains I x y ≡ true → among y (exceptions_of I x) ≡ false → Down I.children x y
  unlisted_down c n = at (leads I.children (get_or I.levels x 0) x y) refl
    where
      at : (b : Bool) → leads I.children (get_or I.levels x 0) x y ≡ b → Down I.children x y
      at true e = (leads_exactly S.condensed x y bx).0 e
      at false e =
          clash ((listed_exactly I x y).1 (by, (exception_exactly I S x y bx).1 (c, λ w. clash ((leads_exactly S.condensed x y bx).1 w) e))) n

  -- yes exactly where a path down children leads from u's group to v's
  pub says_down : (says_by_exceptions I u v ≡ true) ↔ Down I.children x y
  unfolding says_by_exceptions
  says_down = (
    λ h. unlisted_down (and_left (contains I x y) _ h) (not-true (among y (exceptions_of I x)) (and_right (contains I x y) _ h)),
    λ w. and_both (contains_down I S x y bx w)
        (ap not (is_false (among y (exceptions_of I x)) (λ i. ((exception_exactly I S x y bx).0 ((listed_exactly I x y).0 i).1).1 w))),
  )

  -- the same yes or no as the walk
  pub says_same : 0 < length I.labels → (says_by_exceptions I u v ≡ true) ↔ ((answer I u v).says ≡ true)
  says_same some = Iff.trans says_down (Iff.symm (answer_down I S some u v bu bv))

-- of every graph that yields the index: yes exactly where u reaches v
pub says_right :
    (I : Index) (M : Made I) (u v : ℕ) → u < length I.names → v < length I.names → (says_by_exceptions I u v ≡ true) ↔ Reaches M.graph u v
says_right I M u v bu bv = Iff.trans (says_down I ((sound_exactly I).1 M) u v bu bv) (Iff.symm (made_paths M u v bu bv))
