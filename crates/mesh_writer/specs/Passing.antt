-- A text on its way to a sink by a page that holds the last of it.
use Rattle.std.specs.Prelude.{◌≡◌, ℕ, ◌+◌, ◌-◌, ◌≤◌, ◌++◌, length, Option, Some}
use Rattle.std.specs.Option.{option_map}
use Rattle.run_terms.specs.Files.{Bytes, Rose}
use Rattle.mb_outside.specs.Sinks.{Kept, TakesPart}
use Rattle.mb_outside.specs.declared.sink.Sink.{Ghosts as OfSink}

-- the sink took what the page held and a first part of the text, and the page holds the rest
pub record Passed (text held_old held_new : Bytes) (told_old told_new : Option Bytes) (room_old room_new : Option ℕ) : Type 0 where
  pub sent : Bytes
  pub split : sent ++ held_new ≡ held_old ++ text
  pub told : told_new ≡ option_map (λ held. held ++ sent) told_old
  pub room : room_new ≡ option_map (λ free. free - length sent) room_old

-- the sink failed after a first part of what the page held and of the text, and only where its room was too small
pub record Stopped (text held_old : Bytes) (told_old told_new : Option Bytes) (room_old room_new : Option ℕ) : Type 0 where
  pub part : TakesPart (held_old ++ text) told_old told_new room_old room_new
  pub small : (free : ℕ) → room_old ≡ Some free → length held_old + length text ≤ free → ⊥

-- the first, of what a page held before and holds now, and of a sink of any type before and now
abbrev pub PassedOn : {K : Type 0} → OfSink K → Bytes → Bytes × Bytes → K × K → Type 0
PassedOn k text held sink = Passed text held.0 held.1 (k.told sink.0) (k.told sink.1) (k.room sink.0) (k.room sink.1)

-- the second, of what a page held, and of a sink of any type before and now
abbrev pub StoppedOn : {K : Type 0} → OfSink K → Bytes → Bytes → K × K → Type 0
StoppedOn k text held sink = Stopped text held (k.told sink.0) (k.told sink.1) (k.room sink.0) (k.room sink.1)

-- the text passed by a page, of what it held before and holds now, to a sink, before and now
pub record Wrote {K : Type 0} (k : OfSink K) (text : Bytes) (held : Bytes × Bytes) (sink : K × K) : Type 0 where
  pub passed : PassedOn k text held sink
  pub count : k.faults sink.1 ≡ k.faults sink.0
  pub kept : Kept k sink.0 sink.1

-- the sink failed after a first part of what the page held and of the text
pub record Broke {K : Type 0} (k : OfSink K) (text held : Bytes) (sink : K × K) : Type 0 where
  pub stopped : StoppedOn k text held sink
  pub later : k.faults sink.0 ≤ k.faults sink.1
  pub rose : Rose (k.faults sink.0) (k.faults sink.1)
  pub kept : Kept k sink.0 sink.1
