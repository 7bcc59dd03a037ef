use Rattle.std.proofs.Common.{ap, ◌∙◌, arith}
use Rattle.std.proofs.lemmas.List.{length-map}
use Rattle.chain_terms.specs.Chains.{all_edges}
use Rattle.chain_terms.specs.Ranks.{start}
use Rattle.halfedge.proofs.Edges.{length-all_edges, next_starts}
use Rattle.mesh_terms.specs.Meshes.{triple_of, triples_of}
use Rattle.halfedge.proofs.halves.end.Goals as goal

pub returns : goal.returns
returns c =
    let ts = triples_of c.args.triples.now in
    c.start.ensures ∙ ap (start (all_edges ts)) c.next.ensures
    ∙ next_starts ts c.args.half (omega (arith, c.requires.half, length-all_edges ts, length-map c.args.triples.now triple_of))
