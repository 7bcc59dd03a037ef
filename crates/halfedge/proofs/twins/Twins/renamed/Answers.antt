use Rattle.std.proofs.Common.{◌≡◌, ◌∙◌, Err, Some, ap}
use Rattle.chain_terms.specs.Chains.{all_edges}
use Rattle.mesh_terms.specs.Meshes.{triples_of}
use Rattle.mesh_terms.specs.OpenEdges.{open_pair}
use Rattle.halfedge.proofs.OpenPair.{open_pair_closed}
use Rattle.halfedge.proofs.twins.Twins.renamed.Goals as goal

-- closed triangles have no open edge
pub unreachable-requires : goal.unreachable-requires
unreachable-requires c =
    let found : open_pair (all_edges (triples_of c.args.triples.items)) ≡ Some (c.in-Err-Open.field-0-0, c.in-Err-Open.field-0-1)
    = c.over.ensures.open _ _ (c.in-Err-Open.is ∙ ap Err c.in-Err-Open.field-0-is) in
    let none = open_pair_closed (all_edges (triples_of c.args.triples.items)) c.requires.twinned.closed in
    cc
