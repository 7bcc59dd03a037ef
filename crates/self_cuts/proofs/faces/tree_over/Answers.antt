use Rattle.std.proofs.Common.{arith}
use Rattle.inspection_laws.proofs.Apart.{all_ordered, many_boxes}
use Rattle.self_cuts.proofs.faces.tree_over.Goals as goal

pub over-requires-clause-few : goal.over-requires-clause-few
over-requires-clause-few c = let few = c.triples.ensures.accepted.mesh.few_triples in omega (arith, few, many_boxes c.args.mesh.now)

pub over-requires-clause-boxes : goal.over-requires-clause-boxes
over-requires-clause-boxes c = all_ordered c.args.mesh.now
