-- What is done with the text of a script.
use Rattle.std.specs.Prelude.{ℕ, Ok}
use Rattle.mesh_terms.specs.Limits.{Limits}
use Rattle.mb_base.specs.declared.kernel_kind.KernelKind.{KernelKind}
use Rattle.run_terms.specs.Files.{Bytes}
use Rattle.run_terms.specs.Meets.{Why, Refused, Starved}
use Rattle.run_terms.specs.Tasks.{FaultyScript, Task, give, then_task}
use Rattle.script_lang.specs.declared.fault.ScriptFault.{ScriptFault}
use Rattle.script_lang.specs.declared.fault.ScriptFault.TheVariants.{Bad, NoMemory}
use Rattle.play_terms.specs.Plays.{Meanings, at_first, script_checked, steps_task}
use Rattle.play_terms.specs.Scripts.{script}

-- its lines are read, and then their steps are done
abbrev pub text_task : (KernelKind → Meanings) → ℕ → Limits → Bytes → Bytes → Task (Unit {0})
text_task means k limits name text =
    then_task (give (script_checked name (script k text))) (λ lines.
    then_task (steps_task means k limits name lines at_first) (λ _. give (Ok tt)))

-- why a script of this name is not done that is at fault, or for which memory is wanting
abbrev pub why_of_fault : Bytes → ScriptFault → Why
why_of_fault name (Bad line kind) = Refused (FaultyScript name line kind)
why_of_fault name NoMemory = Starved
