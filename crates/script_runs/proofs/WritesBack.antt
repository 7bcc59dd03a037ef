-- What a script writes is read again.
use Rattle.std.proofs.Common.{ℕ, ◌≤◌}
use Rattle.std.specs.List.{All}
use Rattle.mesh_terms.specs.Limits.{IsLawful, Limits}
use Rattle.operation_laws.specs.Laws.{OperationsAreReadable}
use Rattle.play_terms.specs.ReadingBack.{WritesReadable}
use Rattle.run_terms.specs.Files.{Bytes, Files}
use Rattle.play_laws.proofs.ScriptsReadingBack.{script_keeps}
use Rattle.script_runs.specs.Operations.{meanings}
use Rattle.play_terms.specs.Plays.{script_task}

-- whatever the files, by the law of what operations give
pub script_back : (k : ℕ) (limits : Limits) (name : Bytes) → k ≤ 6 → IsLawful limits → OperationsAreReadable → (files : Files) →
    All (WritesReadable k limits) (script_task meanings k limits name files).actions
script_back k limits name few lawful law files = (script_keeps meanings k limits few lawful (law k limits few lawful) name).actions files
