use Rattle.std.proofs.Common.{rules, arith}
use Rattle.std.proofs.lemmas.Int.{ints}
use Rattle.crossings.proofs.runs.widened.Goals as goal

pub returns-clause-corner : goal.returns-clause-corner
returns-clause-corner c = record { low_x = search rules; high_x = search rules; low_y = search rules; high_y = search rules; low_z = search rules; high_z = search rules }

pub returns-clause-more : goal.returns-clause-more
returns-clause-more c d h = record {
  low_x = omega (arith, ints, c.min.ensures.self_bound, h.low_x);
  high_x = omega (arith, ints, c.max.ensures.self_bound, h.high_x);
  low_y = omega (arith, ints, c.min-2.ensures.self_bound, h.low_y);
  high_y = omega (arith, ints, c.max-2.ensures.self_bound, h.high_y);
  low_z = omega (arith, ints, c.min-3.ensures.self_bound, h.low_z);
  high_z = omega (arith, ints, c.max-3.ensures.self_bound, h.high_z);
}
