use Rattle.std.proofs.Common.{arith}
use Rattle.plane_chains.proofs.Pieces.{many}
use Rattle.plane_chains.proofs.lists.Lists.len.Goals as goal

pub returns : goal.returns
returns g c = omega (arith, many c.self.inside.ends.items c.self.inside.items.items c.args.self.now c.self.view_is, c.self.inside.ends.ok.0)
