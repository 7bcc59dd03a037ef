use Rattle.std.proofs.Common.{arith}
use Rattle.std.proofs.lemmas.Int.{ints}
use Rattle.edge_face.proofs.Kept.{known_kept, known_none}
use Rattle.edge_face.proofs.pairs.edge_pair.Goals as goal

pub returns-then-count-eq0 : goal.returns-then-count-eq0
returns-then-count-eq0 g c = record { count = known_kept c.requires.known; mark = known_none c.requires.known (omega (arith, ints, c.if-count-eq0.true)) }
