use Rattle.std.proofs.Common.{◌∙◌, ◌+◌, ap}
use Rattle.program_runs.proofs.Halts.{found_by_status}
use Rattle.program_runs.specs.Windings.{windings}
use Rattle.play_laws.proofs.ReadingBack.{inside_keeps}
use Rattle.program_runs.proofs.locating.inside.Goals as goal

pub returns-clause-ends : goal.returns-clause-ends
returns-clause-ends g c = record { ended = c.located-ended.result; met = c.located-ended.ensures.met; told = c.concluded.ensures.told; quiet = c.concluded.ensures.quiet }

pub returns-clause-back : goal.returns-clause-back
returns-clause-back g c =
    (inside_keeps c.args.settings.now.digits windings c.args.settings.now.limits.now
    c.args.sought.now.file.now c.args.sought.now.point c.requires.digits c.located-ended.ensures.lawful).actions

pub returns-clause-counted : goal.returns-clause-counted
returns-clause-counted g c =
    c.located-ended.ensures.counted
    ∙ ap (λ n. c.args.sums.now + n) (found_by_status c.args.sought.now.file.now c.located-ended.result c.concluded.result
    c.located-ended.ensures.met.halts c.concluded.ensures.told.0)
