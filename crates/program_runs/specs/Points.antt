-- The sums that the search for a point's winding number counts: one where the number was found, whether it could be reported or not.
use Rattle.std.specs.Prelude.{ℕ, Result, Ok, Err}
use Rattle.mesh_files.specs.declared.halt.Halt.{Halt}
use Rattle.mesh_files.specs.declared.halt.Halt.TheVariants.{At, Reporting, NoMemory as Starved}
use Rattle.program_runs.specs.declared.status.Status.{Status}
use Rattle.program_runs.specs.declared.status.Status.TheVariants.{Done, WriteFault}

-- of a search that ended so
abbrev pub sums_in : Result (Unit {0}) Halt → ℕ
sums_in (Ok done) = 1
sums_in (Err (At name stop)) = 0
sums_in (Err Reporting) = 1
sums_in (Err Starved) = 0

-- of one with this status
abbrev pub sums_of_point : Status → ℕ
sums_of_point Done = 1
sums_of_point WriteFault = 1
sums_of_point _ = 0
