use Rattle.edge_cutting.proofs.CommonDivisors.{of_three}
use Rattle.edge_cutting.proofs.divisors.common_divisor.Goals as goal

pub returns : goal.returns
returns c = of_three c.args.x c.args.y c.args.z c.divisor.result c.divisor-2.result c.divisor.ensures c.divisor-2.ensures
