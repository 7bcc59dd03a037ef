-- Where the steps of a script stop, and where a script does.
use Rattle.std.specs.Prelude.{◌≡◌, Bool, true, false, ⊤, IsTrue}
use Rattle.run_terms.specs.Files.{Bytes}
use Rattle.mesh_files.specs.declared.stop.Stop.{Stop}
use Rattle.mesh_files.specs.declared.stop.Stop.TheVariants.{Usage, BadScript}
use Rattle.mesh_files.specs.declared.halt.Halt.{Halt}
use Rattle.mesh_files.specs.declared.halt.Halt.TheVariants.{At, Reporting, NoMemory}

-- neither words nor a script are at fault
abbrev pub is_step_stop : Stop → Bool
is_step_stop Usage = false
is_step_stop (BadScript line kind) = false
is_step_stop _ = true

-- where a step may stop: at a file, at its line or at a limit, as it reports, or for want of memory
abbrev pub IsHaltOfStep : Halt → Type 0
IsHaltOfStep (At name stop) = IsTrue (is_step_stop stop)
IsHaltOfStep Reporting = ⊤
IsHaltOfStep NoMemory = ⊤

-- a script of this name is at fault in its own file alone, and no words are
abbrev pub IsStopOfScript : Bytes → Bytes → Stop → Type 0
IsStopOfScript script file Usage = ⊥
IsStopOfScript script file (BadScript line kind) = file ≡ script
IsStopOfScript script file _ = ⊤

-- where a script may stop: as one of its steps, or at its own file
abbrev pub IsHaltOfScript : Bytes → Halt → Type 0
IsHaltOfScript script (At name stop) = IsStopOfScript script name.now stop
IsHaltOfScript script Reporting = ⊤
IsHaltOfScript script NoMemory = ⊤
