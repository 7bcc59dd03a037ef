use Rattle.tidy_laws.proofs.Closed.{stays_closed}
use Rattle.tidy_laws.proofs.Points.{three_stay}
use Rattle.tidy_laws.proofs.laws.collapses_stay_closed.Goals as goal

pub returns-clause-closed : goal.returns-clause-closed
returns-clause-closed c = stays_closed

pub returns-clause-three : goal.returns-clause-three
returns-clause-three c = λ a b apart ts. three_stay a b ts
