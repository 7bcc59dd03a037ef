use Rattle.crossing_laws.specs.Fine.{need_no_hair, numbers_of_p, numbers_of_q, ways_back_out, ways_out}
use Rattle.crossing_laws.specs.PlainWays.{plain_ways_back_out, plain_ways_out}
use Rattle.crossing_laws.proofs.laws.crossings_are_geometric.Goals as goal

pub returns-clause-of_p : goal.returns-clause-of_p
returns-clause-of_p c = numbers_of_p

pub returns-clause-of_q : goal.returns-clause-of_q
returns-clause-of_q c = numbers_of_q

pub returns-clause-plain : goal.returns-clause-plain
returns-clause-plain c = need_no_hair

pub returns-clause-ways : goal.returns-clause-ways
returns-clause-ways c = ways_out

pub returns-clause-ways_back : goal.returns-clause-ways_back
returns-clause-ways_back c = ways_back_out

pub returns-clause-plain_ways : goal.returns-clause-plain_ways
returns-clause-plain_ways c = plain_ways_out

pub returns-clause-plain_ways_back : goal.returns-clause-plain_ways_back
returns-clause-plain_ways_back c = plain_ways_back_out
