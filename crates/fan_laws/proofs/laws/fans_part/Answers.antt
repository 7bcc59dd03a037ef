use Rattle.fan_laws.proofs.Parted.{fans_part as law}
use Rattle.fan_laws.proofs.laws.fans_part.Goals as goal

pub returns : goal.returns
returns c = law
