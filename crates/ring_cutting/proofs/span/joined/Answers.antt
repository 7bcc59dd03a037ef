use Rattle.std.proofs.Common.{arith}
use Rattle.std.proofs.lemmas.Int.{ints}
use Rattle.ring_cutting.proofs.span.joined.Goals as goal

pub returns-clause-first : goal.returns-clause-first
returns-clause-first c = λ x h. record {
  west = omega (arith, ints, c.least.ensures.first, h.west);
  east = omega (arith, ints, c.greatest.ensures.first, h.east);
  south = omega (arith, ints, c.least.ensures.second, h.south);
  north = omega (arith, ints, c.greatest.ensures.second, h.north);
}

pub returns-clause-second : goal.returns-clause-second
returns-clause-second c = λ x h. record {
  west = omega (arith, ints, c.least.ensures.third, h.west);
  east = omega (arith, ints, c.greatest.ensures.third, h.east);
  south = omega (arith, ints, c.least.ensures.fourth, h.south);
  north = omega (arith, ints, c.greatest.ensures.fourth, h.north);
}
