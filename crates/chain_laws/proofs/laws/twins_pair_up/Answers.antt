use Rattle.chain_laws.proofs.Twins.{twin_runs_back, twin_twin}
use Rattle.chain_laws.proofs.laws.twins_pair_up.Goals as goal

pub returns : goal.returns
returns c = λ es closed h below. (twin_runs_back es closed h below, twin_twin es closed h below)
