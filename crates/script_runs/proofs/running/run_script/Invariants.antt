use Rattle.std.proofs.Common.{map}
use Rattle.mb_base.specs.declared.kernel_kind.KernelKind.TheVariants.{Grid}
use Rattle.mb_outside.specs.Seen.{seen_of}
use Rattle.script_lang.specs.Steps.{line_of}
use Rattle.script_runs.specs.Names.{state_in}
use Rattle.script_runs.specs.Operations.{meanings}
use Rattle.script_runs.proofs.Progress.{HasDone}
use Rattle.script_runs.proofs.running.run_script.Given as goal

abbrev pub invariant-loop-line : goal.invariant-loop-line
invariant-loop-line g l =
    HasDone meanings l.settings.digits l.settings.limits.now l.name (map line_of l.line-items) (state_in Grid l.initial.names)
    (seen_of g.S.Shelf g.O.Sink l.initial.shelf l.initial.out) l.initial.sums
    l.line-index (state_in l.kernels l.names) (seen_of g.S.Shelf g.O.Sink l.shelf l.out) l.sums
