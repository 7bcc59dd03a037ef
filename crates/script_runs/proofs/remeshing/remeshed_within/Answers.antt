use Rattle.operation_laws.specs.Kernels.{told_remeshed}
use Rattle.script_runs.proofs.RemeshStages.{is_remeshed}
use Rattle.script_runs.proofs.remeshing.remeshed_within.Goals as goal

pub returns-in-Ok-clause-meets : goal.returns-in-Ok-clause-meets
returns-in-Ok-clause-meets c = is_remeshed c.args.at.now.limits.now (told_remeshed c.args.mesh.now) c.in-Ok.ensures.within
