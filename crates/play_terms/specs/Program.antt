-- What the program does: the task of each command, and of the words that ask for it.
use Rattle.std.specs.Prelude.{List, Option, Some, None, Err}
use Rattle.mb_base.specs.declared.kernel_kind.KernelKind.{KernelKind}
use Rattle.mesh_terms.specs.Limits.{Limits}
use Rattle.run_terms.specs.Files.{Bytes}
use Rattle.run_terms.specs.Tasks.{NoCommand, Task, give}
use Rattle.play_terms.specs.Commands as commands
use Rattle.play_terms.specs.Commands.{copy_task, inside_task}
use Rattle.play_terms.specs.Words.{Command, CopyFile, InsideFile, RunScript, command}
use Rattle.play_terms.specs.Plays as plays
use Rattle.play_terms.specs.Plays.{script_task}

-- what the commands need of geometry: the winding number of a point in a mesh, and what an operation gives of two meshes under each of the kernels that
-- a script may choose
pub record Meanings : Type 0 where
  pub points : commands.Meanings
  pub scripts : KernelKind → plays.Meanings

-- the task of a command; words of no command are refused
abbrev pub command_task : Meanings → Limits → Option Command → Task (Unit {0})
command_task meanings limits None = give (Err NoCommand)
command_task meanings limits (Some (CopyFile k from to)) = copy_task k limits from to
command_task meanings limits (Some (InsideFile k file p)) = inside_task k meanings.points limits file p
command_task meanings limits (Some (RunScript k script)) = script_task meanings.scripts k limits script

-- the task of the words
abbrev pub play : Meanings → Limits → List Bytes → Task (Unit {0})
play meanings limits words = command_task meanings limits (command words)
