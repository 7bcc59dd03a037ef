use Rattle.std.proofs.Common.{arith}
use Rattle.obj_text.proofs.reading.Gathered.count.Goals as goal

pub overflow_cast-result : goal.overflow_cast-result
overflow_cast-result c = omega (arith, c.len.ensures, c.self.invariant.sound.few_points)

pub returns : goal.returns
returns c = rw (← c.self.view_is) (omega (arith, c.len.ensures))
