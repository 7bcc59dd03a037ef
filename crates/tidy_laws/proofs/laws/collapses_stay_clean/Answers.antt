use Rattle.tidy_laws.proofs.Around.{stays_clean}
use Rattle.tidy_laws.proofs.laws.collapses_stay_clean.Goals as goal

pub returns : goal.returns
returns c = stays_clean
