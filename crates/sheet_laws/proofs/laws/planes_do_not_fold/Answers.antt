use Rattle.sheet_laws.proofs.NoFolds.{planes_do_not_fold as law}
use Rattle.sheet_laws.proofs.laws.planes_do_not_fold.Goals as goal

pub returns : goal.returns
returns c = law
