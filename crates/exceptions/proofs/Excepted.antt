-- What exception lists hold, wherever they open: list x has an entry for each exception of x, and these are the groups that x contains in every labelling though in no
-- graph that yields the index a path leads to them from x's.
use mathlib.Core.Bool.{true}
use mathlib.Core.Logic.{◌↔◌}
use mathlib.Core.Path.{◌≡◌, sym, ap, ◌∙◌}
use mathlib.Core.List.{List, ◌++◌}
use Prim.Native.Nat.{ℕ, ◌≤◌, ◌<◌}
use native.Mathlib.Omega.{arith}
use lib.ListN.{length, get_or}
use Rattle.lineage.specs.Lists.{among}
use Rattle.lineage.specs.Graph.{Reaches, place_of}
use Rattle.lineage.specs.Index.{Index, Made}
use Rattle.lineage.specs.Stored.{form_of, header_at}
use Rattle.lineage.specs.Question.{place_in}
use Rattle.lineage.specs.Calls.{answered, host, index_in}
use Rattle.laws.specs.Leads.{Down}
use Rattle.laws.specs.Sound.{Sound}
use Rattle.laws.proofs.Checks.{pass_front, pass_behind, answered_pass}
use Rattle.laws.proofs.Grouped.{group_name, place_of_name}
use Rattle.laws.proofs.Sound.{sound_exactly, made_paths}
use Rattle.laws_exceptions.specs.Exceptions.{contains, exceptions_of, entries_of}
use Rattle.laws_exceptions.proofs.Exceptions as laws
use Rattle.stored_header.proofs.Admitted.{header_pass}
use Rattle.stored_header.proofs.Laid.{header_laid, n_is, k_is}
use Rattle.stored.proofs.Contents.{children_many, contents_sound_lem}
use Rattle.exceptions_ask.specs.Listed.{list_in}
use Rattle.exceptions_ask.proofs.Listed.{list_is_lem}
use Rattle.exceptions.specs.Calls.{form_one_checks, open_late, ListCounts, list_counts, exceptions_opened}
use Rattle.exceptions.proofs.Refusals.{counts_few}
use Rattle.exceptions.proofs.Opening.{exceptions_exactly, opened_counts}
use borrow.Author.Tests.{not-false}

-- in a graph that yields the index
module _ {I : Index} (M : Made I) where
  S : Sound I
  S = (sound_exactly I).1 M

  -- a group's name is a vertex of it
  own_place : (p : ℕ) → p < length I.children → place_in I (get_or I.groups p 0) ≡ p
  own_place p h = ap (place_of I.groups) (group_name S.condensed p h).1 ∙ place_of_name S.condensed p h

  paths : (x y : ℕ) → x < length I.children → y < length I.children → Reaches M.graph (get_or I.groups x 0) (get_or I.groups y 0) ↔ Down I.children x y
  paths x y hx hy =
      rw (own_place x hx, own_place y hy) at
      (made_paths M (get_or I.groups x 0) (get_or I.groups y 0) (group_name S.condensed x hx).0 (group_name S.condensed y hy).0)

  -- y is an exception of x exactly where x contains it in every labelling and no path leads from x's group to y's
  pub exceptions_are :
      (x y : ℕ) → x < length I.groups
      → (among y (exceptions_of I x) ≡ true)
      ↔ ((y < length I.groups) × (contains I x y ≡ true) × (Reaches M.graph (get_or I.groups x 0) (get_or I.groups y 0) → ⊥))
  exceptions_are x y h =
      let bx : x < length I.children = omega (arith, S.condensed.children_long) in
      let E = laws.exceptions_are I S x y bx in (
        (λ i. let (low, c, n) = E.0 i in (low, c, λ w. n ((paths x y bx (omega (arith, S.condensed.children_long))).0 w))),
        λ e. let (low, c, n) = e in E.1 (low, c, λ w. n ((paths x y bx (omega (arith, S.condensed.children_long))).1 w)),
      )

-- as they are stored
module _ (b lists : List ℕ) (marks : ℕ) (a : ListCounts) (e : exceptions_opened b lists marks ≡ answered a) where
  groups_are_lem : a.groups ≡ length (index_in b).groups
  groups_are_lem = ap (λ (z : ListCounts). z.groups) (opened_counts b lists marks a e)

  groups_few : a.groups ≤ 4096
  unfolding exceptions_opened
  groups_few =
      let p = answered_pass (list_counts (index_in b)) (form_one_checks b marks ++ open_late b lists) a e in
      let early = pass_front (form_one_checks b marks) (open_late b lists) p in
      let L = header_laid b host (header_pass host b marks 0 early) in
      let sound : Sound (index_in b) = contents_sound_lem (form_of (header_at b 0)) b (not-false _ (pass_behind (form_one_checks b marks) (open_late b lists) p).0) in
      omega (arith, groups_are_lem, sound.condensed.children_long, children_many b, k_is L, L.groups, n_is L, counts_few b marks early)

  -- list x has the entries of x's exceptions
  pub list_holds : (x : ℕ) → x < a.groups → list_in lists a.groups x ≡ entries_of (index_in b) x
  list_holds x h = list_is_lem (index_in b) ((exceptions_exactly b lists marks).0 (a, e)).1 (sym groups_are_lem) groups_few h
