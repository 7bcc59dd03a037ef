-- The most sums that a run counts.
use Rattle.std.specs.Prelude.{ℕ, Option, Some, None}
use Rattle.mesh_terms.specs.Limits.{Limits}
use Rattle.run_terms.specs.Files.{Files}
use Rattle.play_terms.specs.Words.{Command, CopyFile, InsideFile, RunScript}
use Rattle.script_runs.specs.Costs.{script_cost}
use Rattle.script_runs.specs.Operations.{meanings}

-- a copy counts none, a point in a mesh one, and a script what its operations count
abbrev pub command_cost : Limits → Option Command → Files → ℕ
command_cost limits None files = 0
command_cost limits (Some (CopyFile k from to)) files = 0
command_cost limits (Some (InsideFile k file p)) files = 1
command_cost limits (Some (RunScript k script)) files = script_cost meanings k limits script files
