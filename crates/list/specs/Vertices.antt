-- The vertices of a listing.
use Rattle.std.specs.Prelude.{Bool, List, ℕ}
use Rattle.stored.specs.Reading.{numbers_of}
use Rattle.list.specs.declared.listing.Listing.{Listing}
use Rattle.list.specs.Listing.{is_listed, listed}

abbrev pub lists : Listing → ℕ → Bool
lists l v = is_listed (numbers_of l.names) l.marks.now l.u l.own v

abbrev pub vertices_of : Listing → List ℕ
vertices_of l = listed (numbers_of l.names) l.marks.now l.u l.own
