-- What a sink holds after some bytes went to it.
use Rattle.std.specs.Prelude.{◌≡◌, ◌++◌, ◌-◌, ℕ, length, Option}
use Rattle.std.specs.Option.{option_map}
use Rattle.run_terms.specs.Files.{Bytes, IsPrefix}
use Rattle.mb_outside.specs.declared.sink.Sink.{Ghosts as OfSink}

-- a first part of the text was added
abbrev pub AddsPart : Bytes → Option Bytes → Option Bytes → Type 0
AddsPart text old new = (part : Bytes) × IsPrefix part text × (new ≡ option_map (λ held. held ++ part) old)

-- a first part of the text was taken: added where the bytes are told, and taken off the room where that is told
pub record TakesPart (text : Bytes) (told_old told_new : Option Bytes) (room_old room_new : Option ℕ) : Type 0 where
  pub part : Bytes
  pub first : IsPrefix part text
  pub added : told_new ≡ option_map (λ held. held ++ part) told_old
  pub taken : room_new ≡ option_map (λ free. free - length part) room_old

-- a sink is as it was, but for the bytes that it took, its room and its count of faults
pub record Kept {K : Type 0} (k : OfSink K) (old new : K) : Type 0 where
  pub other : k.other new ≡ k.other old
  pub second : k.second new ≡ k.second old
  pub rest : k.rest new ≡ k.rest old
  pub loan : k.loan new ≡ k.loan old
  pub other_spare : k.other_spare new ≡ k.other_spare old
