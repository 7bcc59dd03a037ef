use Rattle.sheet_laws.proofs.PlanesKept.{regions_turn_left as law}
use Rattle.sheet_laws.proofs.laws.regions_turn_left.Goals as goal

pub returns : goal.returns
returns c = law
