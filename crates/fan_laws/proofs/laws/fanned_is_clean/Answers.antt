use Rattle.fan_laws.proofs.Fanned.{fanned_is_clean as law}
use Rattle.fan_laws.proofs.laws.fanned_is_clean.Goals as goal

pub returns : goal.returns
returns c = law
