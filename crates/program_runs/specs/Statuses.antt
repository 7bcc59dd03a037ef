-- The statuses of a run by number.
use Rattle.std.specs.Prelude.{◌≡◌, ℕ, ◌⊎◌}
use Rattle.program_runs.specs.declared.status.Status.{Status}
use Rattle.program_runs.specs.declared.status.Status.TheVariants.{Done, Usage, BadScript, MissingFile, BadMesh, Limit, ReadFault, WriteFault, NoMemory}

abbrev pub status_number : Status → ℕ
status_number Done = 0
status_number Usage = 1
status_number BadScript = 2
status_number MissingFile = 3
status_number BadMesh = 4
status_number Limit = 5
status_number ReadFault = 6
status_number WriteFault = 7
status_number NoMemory = 8

abbrev pub IsDoneOrStarved : Status → Type 0
IsDoneOrStarved status = (status ≡ Done) ⊎ (status ≡ NoMemory)

abbrev pub IsUsageOrStarved : Status → Type 0
IsUsageOrStarved status = (status ≡ Usage) ⊎ (status ≡ NoMemory)
