use Rattle.plan_laws.proofs.Twice.{all_points_are as law}
use Rattle.plan_laws.proofs.laws.all_points_are.Goals as goal

pub returns : goal.returns
returns c = law
