use Rattle.tidy_laws.proofs.Tidying.{tidying}
use Rattle.tidy_laws.proofs.laws.tidying_tidies.Goals as goal

pub returns : goal.returns
returns c = λ points ts labels each three closed below.
    let t = tidying points each ts labels (record { three = three; closed = closed; below = below }) in
    record { three = t.good.three; closed = t.good.closed; below = t.good.below; clean = t.clean; none = t.none; volume = t.volume; at_points = t.at_points }
