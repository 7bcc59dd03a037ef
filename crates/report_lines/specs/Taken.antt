-- What a sink takes of a line.
use Rattle.std.specs.Prelude.{◌≡◌, ◌-◌, ◌++◌, Result, OnOk, OnErr, length}
use Rattle.std.specs.Option.{option_map}
use Rattle.run_terms.specs.Files.{Bytes, Counts}
use Rattle.mb_outside.specs.Sinks.{TakesPart}
use Rattle.mb_outside.specs.declared.shelf.Failed.{Failed}
use Rattle.mb_outside.specs.declared.sink.Sink.{Ghosts as OfSink}

-- the line was taken, added where the bytes are told and off the room where that is told, or a first part of it was and the count rose
pub record Takes {O : Type 0} (o : OfSink O) (line : Bytes) (old new : O) (r : Result (Unit {0}) Failed) : Type 0 where
  pub added : OnOk r (o.told new ≡ option_map (λ held. held ++ line) (o.told old))
  pub less : OnOk r (o.room new ≡ option_map (λ free. free - length line) (o.room old))
  pub part : OnErr r (TakesPart line (o.told old) (o.told new) (o.room old) (o.room new))
  pub count : Counts (o.faults old) (o.faults new) r
