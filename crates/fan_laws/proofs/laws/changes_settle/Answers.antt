use Rattle.fan_laws.proofs.Settling.{changes_settle as law}
use Rattle.fan_laws.proofs.laws.changes_settle.Goals as goal

pub returns : goal.returns
returns c = law
