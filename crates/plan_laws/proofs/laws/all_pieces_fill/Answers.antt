use Rattle.plan_laws.proofs.Whole.{all_pieces_fill as law}
use Rattle.plan_laws.proofs.laws.all_pieces_fill.Goals as goal

pub returns : goal.returns
returns c = law
