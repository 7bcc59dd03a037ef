use Rattle.play_laws.proofs.ReadingBack.{copy_keeps, mesh_given}
use Rattle.program_runs.proofs.copying.copy.Goals as goal

pub returns-clause-ends : goal.returns-clause-ends
returns-clause-ends g c = record { ended = c.copied-ended.result; met = c.copied-ended.ensures.met; told = c.concluded.ensures.told; quiet = c.concluded.ensures.quiet }

pub returns-clause-mesh_back : goal.returns-clause-mesh_back
returns-clause-mesh_back g c =
    mesh_given c.args.settings.now.digits c.args.settings.now.limits.now c.args.from.now c.requires.digits c.copied-ended.ensures.lawful

pub returns-clause-back : goal.returns-clause-back
returns-clause-back g c =
    (copy_keeps c.args.settings.now.digits c.args.settings.now.limits.now c.args.from.now c.args.to.now c.requires.digits c.copied-ended.ensures.lawful).actions
