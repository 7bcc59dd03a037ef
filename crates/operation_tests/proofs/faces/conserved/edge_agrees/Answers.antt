use Rattle.std.proofs.Common.{rules, arith}
use Rattle.halfedge.proofs.Edges.{length-all_edges, next_starts}
use Rattle.operation_tests.proofs.faces.conserved.edge_agrees.Goals as goal

pub returns-in-Some : goal.returns-in-Some
returns-in-Some c =
    let es = length-all_edges c.args.side.now.triples in
    let next = next_starts c.args.side.now.triples c.args.half (omega (arith, c.requires.half, es)) in
    λ yes. search (rules, next, c.changes_by.ensures yes)
