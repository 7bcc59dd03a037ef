use Rattle.std.proofs.Common.{arith}
use Rattle.box_tree.proofs.Shared.{covered_whole}
use Rattle.box_tree.proofs.extent.Extent.quantization.Goals as goal

pub returns-then-exact-clause-exact : goal.returns-then-exact-clause-exact
returns-then-exact-clause-exact c =
    λ z small covered. covered_whole c.args.self z c.min-shared.result (omega (arith, c.min-shared.ensures)) (omega arith) covered
