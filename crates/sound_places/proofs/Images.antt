-- A sound image as what is asked of its bytes and their layout.
use Rattle.sound_places.specs.Lent.{SoundBytes}
use Rattle.sound_places.specs.declared.SoundImage.{SoundImage}

pub sound_bytes : (s : SoundImage) → SoundBytes s.image.bytes.now s.image.layout
sound_bytes s = record { laid = s.image.laid; contents = s.contents }
