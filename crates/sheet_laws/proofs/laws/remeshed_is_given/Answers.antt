use Rattle.sheet_laws.proofs.Remeshed.{remeshed_is_given as law}
use Rattle.sheet_laws.proofs.laws.remeshed_is_given.Goals as goal

pub returns : goal.returns
returns c = law
