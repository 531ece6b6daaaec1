-- What is let through, as the definitions have it.
use Rattle.std.specs.Prelude.{List, ℕ, Result}
use Rattle.lineage.specs.Calls.{Outcome}
use Rattle.refusals.specs.declared.Refusal.{Refusal}
use Rattle.refusals.specs.Refusals.{outcome_by}
use Rattle.stored_header.specs.declared.Layout.{Layout}
use Rattle.sound_places.specs.declared.SoundImage.{SoundImage}

-- the bytes of a sound image and their layout, or the number and values that the document gives each case
abbrev pub admitted_of : Result SoundImage Refusal → Outcome (List ℕ × Layout)
admitted_of = outcome_by (λ s. (s.image.bytes.now, s.image.layout))
