use Rattle.made_laws.proofs.Solids.{solid_given}
use Rattle.made_laws.proofs.laws.solids_are_given.Goals as goal

pub returns : goal.returns
returns c = solid_given
