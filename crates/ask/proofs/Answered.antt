-- What an answered question rests on: no check applies, so the two vertices are below n, there is a labelling, and the index that the bytes hold is sound.
use mathlib.Core.Bool.{false}
use mathlib.Core.Path.{◌≡◌, sym}
use mathlib.Core.List.{List, [], ◌∷◌, ◌++◌}
use Prim.Native.Nat.{ℕ, ◌≤◌, ◌<◌}
use lib.Dec.{leb}
use borrow.Author.Tests.{leb-false, not-false}
use Rattle.lineage.specs.Stored.{counts_in, header_at, form_of}
use Rattle.lineage.specs.Sound.{contents_sound}
use Rattle.lineage.specs.Question.{answer}
use Rattle.lineage.specs.Calls.{Check, check, answered, any_applies, FormsTaken, index_in, form_checks, ask_early, contents_check, Said, said_of, ask_answer}
use Rattle.laws.specs.Sound.{Sound}
use Rattle.laws.specs.Checks.{Pass}
use Rattle.laws.proofs.Checks.{stops_early, pass_front, pass_behind, answered_pass, answered_is}
use Rattle.stored_header.proofs.Laid.{header_laid}
use Rattle.stored_header.proofs.Admitted.{header_pass}
use Rattle.stored.proofs.Contents.{contents_sound_lem}

-- what an answered question rests on
pub record Answered (b : List ℕ) (u v : ℕ) (s : Said) : Type 0 where
  pub source_low : u < (counts_in b).n
  pub target_low : v < (counts_in b).n
  pub some : 1 ≤ (counts_in b).d
  pub sound : Sound (index_in b)
  pub said : said_of (answer (index_in b) u v) ≡ s

module _ (T : FormsTaken) (b : List ℕ) (u v m w : ℕ) (s : Said) (e : ask_answer T b u v m w ≡ answered s) where
  abbrev checks : List Check
  checks = ask_early T b u v m w ++ (contents_check b ∷ [])

  -- those behind 6
  abbrev own : List Check
  own = check (leb (counts_in b).n u) 14 0 ∷ check (leb (counts_in b).n v) 14 1 ∷ contents_check b ∷ []

  passes : Pass checks
  unfolding ask_answer
  passes = answered_pass (said_of (answer (index_in b) u v)) checks s e

  pub none_applies : any_applies checks ≡ false
  none_applies = stops_early checks [] 8 passes

  pub none_early : any_applies (ask_early T b u v m w) ≡ false
  none_early = stops_early (ask_early T b u v m w) (contents_check b ∷ []) 8 passes

  pub answered_only : Answered b u v s
  unfolding ask_answer
  answered_only =
      let behind : Pass own = pass_behind (form_checks T b m w) own passes in
      record {
        source_low = leb-false (counts_in b).n u behind.0;
        target_low = leb-false (counts_in b).n v behind.1.0;
        some = (header_laid b T (header_pass T b m w (pass_front (form_checks T b m w) own passes))).least;
        sound = contents_sound_lem (form_of (header_at b 0)) b (not-false (contents_sound (form_of (header_at b 0)) b) behind.1.1.0);
        said = sym (answered_is (said_of (answer (index_in b) u v)) checks s e);
      }
