use Rattle.tidy_laws.proofs.Points.{count_stays, volume_stays}
use Rattle.tidy_laws.proofs.laws.collapses_keep_points.Goals as goal

pub returns-clause-volume : goal.returns-clause-volume
returns-clause-volume c = λ points a b apart same ts. volume_stays points a b apart same ts

pub returns-clause-points : goal.returns-clause-points
returns-clause-points c = λ points a b apart same p q r pq qr rp ts. count_stays points a b apart same p q r pq qr rp ts
