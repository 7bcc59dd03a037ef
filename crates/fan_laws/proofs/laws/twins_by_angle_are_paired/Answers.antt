use Rattle.fan_laws.proofs.RoundEdges.{twins_by_angle_are_paired as law}
use Rattle.fan_laws.proofs.laws.twins_by_angle_are_paired.Goals as goal

pub returns : goal.returns
returns c = law
