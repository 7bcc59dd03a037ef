use Rattle.angle_pairing.proofs.Relabelling.{exchanged}
use Rattle.angle_pairing.proofs.changes.exchange.Goals as goal

pub returns : goal.returns
returns c = exchanged c.args.twins.now c.args.one c.args.other c.requires
