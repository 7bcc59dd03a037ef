use Rattle.sheet_laws.proofs.PlanesKept.{planes_are_kept as law}
use Rattle.sheet_laws.proofs.laws.planes_are_kept.Goals as goal

pub returns : goal.returns
returns c = law
