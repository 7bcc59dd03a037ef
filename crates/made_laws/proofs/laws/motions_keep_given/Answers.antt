use Rattle.made_laws.proofs.Motions.{motion_kept}
use Rattle.made_laws.proofs.laws.motions_keep_given.Goals as goal

pub returns : goal.returns
returns c = motion_kept
