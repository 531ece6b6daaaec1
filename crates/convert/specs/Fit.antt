-- What is lent where an index is written at another form.
use Rattle.std.specs.Prelude.{true, ◌≡◌, ℕ}
use Rattle.lineage.specs.Stored.{counts_in, form_of, is_form}
use Rattle.stored_header.specs.declared.Layout.{Layout}
use Rattle.stored_header.specs.Header.{layout_by}
use Rattle.sound_places.specs.declared.SoundImage.{SoundImage}

-- of sound bytes: the number of another form that has as many numbers by place, and the layout that the same counts have there
pub record Turns (s : SoundImage) (form : ℕ) (to : Layout) : Type 0 where
  pub known : is_form form ≡ true
  pub alike : (form_of form).by_place ≡ s.image.layout.stride
  pub laid : to ≡ layout_by (form_of form).width (form_of form).by_place (counts_in s.image.bytes.now)
