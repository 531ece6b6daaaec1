-- What is answered by a table of places laid out over sound bytes, and by lists that belong to them, is what the index says.
use mathlib.Core.Bool.{Bool, not, ◌&&◌}
use mathlib.Core.Path.{◌≡◌, refl, sym, ap, ◌∙◌}
use mathlib.Core.List.{List, ◌++◌}
use Prim.Native.Nat.{ℕ, ◌≤◌, ◌<◌}
use native.Mathlib.Omega.{arith}
use lib.ListN.{length, get_or, get_or-append}
use Rattle.lineage.specs.Index.{Index}
use Rattle.laws.proofs.Grouped.{place_low, name_of_place}
use Rattle.numbers.proofs.Numbers.{numbers_at}
use Rattle.lineage.specs.Question.{place_in, outside, some_labelling}
use Rattle.lineage.specs.Calls.{index_in}
use Rattle.laws_exceptions.specs.Exceptions.{encode_exceptions, says_by_exceptions}
use Rattle.stored_header.specs.declared.Layout.{Layout}
use Rattle.stored.specs.Sections.{Six, labels_in}
use Rattle.sound_places.specs.Lent.{SoundBytes}
use Rattle.ask_pairs.specs.Places.{Placed}
use Rattle.reach.proofs.Fitted.{index_sound, names_count, names_are}
use Rattle.exceptions_marks.proofs.Fitted.{groups_are_lem, labels_are_lem, places_many, groups_many}
use Rattle.exceptions_ask.specs.Listed.{has_place, list_in}
use Rattle.exceptions_ask.proofs.Listed.{list_in_lem, says_by}
use Rattle.stored.specs.declared.reading.Labels.{Labels}
use Rattle.exceptions_all.specs.Pairs.{threes, Ready}
use Rattle.exceptions_all.proofs.Pairs.{threes_same}

-- a table in front of other words
pub placed_front :
    {w n k : ℕ} {names groups : List ℕ} (table rest : List ℕ) → length table ≡ n → Placed w n k names groups table → Placed w n k names groups (table ++ rest)
placed_front table rest e T = record { at = λ v p h low s. get_or-append table rest 0 v (omega arith) ∙ T.at v p h low s }

module _
    {b : List ℕ} {l : Layout} {names groups levels starts children labels : List ℕ}
    (O : SoundBytes b l) (P : Six b l names groups levels starts children labels) (few : l.n ≤ 4096)
    {lists : List ℕ} (are : lists ≡ encode_exceptions (index_in b))
    {places : List ℕ} (T : Placed l.width l.n l.k names groups places)
  where
    abbrev I : Index
    I = index_in b

    place_few : (v : ℕ) → v < l.n → place_in I v < l.k
    place_few v h = omega (arith, places_many O, place_low (index_sound O).condensed v (omega (arith, names_count O)))

    -- the table holds the place of every vertex's group
    table_at : (v : ℕ) → v < l.n → get_or places v 0 ≡ place_in I v
    table_at v h =
        T.at v (place_in I v) h (place_few v h)
        (sym (numbers_at l.width groups l.k (place_in I v) (place_few v h))
        ∙ ap (λ (z : List ℕ). get_or z (place_in I v) 0) (groups_are_lem O P)
        ∙ name_of_place (index_sound O).condensed v (omega (arith, names_count O))
        ∙ ap (λ (z : List ℕ). get_or z v 0) (sym (names_are O P))
        ∙ numbers_at l.width names l.n v h)

    groups_few : l.k ≤ 4096
    groups_few = omega (arith, O.laid.groups)

    pub tabled_ready : (m : Labels) → m.k ≡ l.k → length places ≡ l.n → Ready m lists places
    tabled_ready m many h = record {
      listed = λ x low. rw many (list_in_lem I are (groups_many O) groups_few (omega (arith, low, many)));
      low = λ v b. omega (arith, many, table_at v (omega (arith, b, h)), place_few v (omega (arith, b, h)));
    }

    -- contained and not listed
    abbrev told : ℕ → ℕ → Bool
    told u v =
        not (some_labelling (outside (get_or places u 0) (get_or places v 0)) (labels_in l.width l.stride labels l.k l.d))
        && not (has_place (get_or places v 0) (list_in lists l.k (get_or places u 0)))

    told_says : (u v : ℕ) → u < l.n → v < l.n → told u v ≡ says_by_exceptions (index_in b) u v
    told_says u v hu hv =
        says_by I are (groups_many O) groups_few (omega (arith, table_at u hu, place_few u hu)) u v (table_at u hu) (table_at v hv) (rw (labels_are_lem O P) refl)

    pub tabled_threes : length places ≡ l.n → (sources targets : List ℕ) → threes (length places) told sources targets (length sources)
        ≡ threes l.n (says_by_exceptions (index_in b)) sources targets (length sources)
    tabled_threes h sources targets =
        ap (λ (n : ℕ). threes n told sources targets (length sources)) h
        ∙ threes_same l.n told (says_by_exceptions (index_in b)) told_says sources targets (length sources)
