-- What a sink in memory holds, and where its writes fail.
use Rattle.std.specs.Prelude.{◌==◌, ◌||◌, ◌-◌, ◌+◌, ℕ, Bool, List, [], Option, Some, None, if◌then◌else◌, length, nat_lt}
use Rattle.run_terms.specs.Files.{Bytes}
use Rattle.mb_outside.specs.Calls.{Calls, is_listed, part_of}

-- the bytes that a sink took, how many it may hold, how many one call takes at most, its calls and its faults
pub record SinkState : Type 0 where
  pub bytes : Bytes
  pub room : ℕ
  pub most : ℕ
  pub calls : Calls
  pub faults : ℕ

-- a sink without bytes, none of whose calls was made
abbrev pub empty_sink : (room most : ℕ) → List ℕ → SinkState
empty_sink room most fails = record { bytes = []; room = room; most = most; calls = record { fails = fails; made = 0 }; faults = 0 }

-- what is left of the room, where no call is to fail
abbrev pub room_left : SinkState → Option ℕ
room_left sink = if length sink.calls.fails == 0 then Some (sink.room - length sink.bytes) else None

-- whether a write fails: its call is listed, or it would take the bytes past the room
abbrev pub is_write_refused : SinkState → Bytes → Bool
is_write_refused sink piece = is_listed sink.calls || nat_lt sink.room (length sink.bytes + part_of sink.most piece)
