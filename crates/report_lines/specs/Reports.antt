-- What an output holds after a line went to it, whole or in part.
use Rattle.std.specs.Prelude.{◌≡◌, ◌<◌, ◌++◌, ◌⊎◌, Result, Ok, Err}
use Rattle.std.specs.Option.{option_map}
use Rattle.run_terms.specs.Files.{Bytes}
use Rattle.run_terms.specs.Meets.{Why, Unsaid}
use Rattle.mb_outside.specs.Seen.{OnOutput}
use Rattle.mb_outside.specs.Sinks.{AddsPart}
use Rattle.mb_outside.specs.declared.shelf.Failed.{Failed}

-- the line was added, or a first part of it and the count of faults rose
abbrev pub IsReported : Bytes → OnOutput → OnOutput → Type 0
IsReported line before now =
    ((now.told ≡ option_map (λ held. held ++ line) before.told) × (now.faults ≡ before.faults))
    ⊎ (AddsPart line before.told now.told × (before.faults < now.faults))

-- how the saying of a line ended
abbrev pub said : Result (Unit {0}) Failed → Result (Unit {0}) Why
said (Ok done) = Ok done
said (Err failed) = Err Unsaid
