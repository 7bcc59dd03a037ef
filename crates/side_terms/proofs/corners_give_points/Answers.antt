use Rattle.side_terms.specs.PointLaws.{corners_points}
use Rattle.side_terms.proofs.corners_give_points.Goals as goal

pub returns : goal.returns
returns c = corners_points
