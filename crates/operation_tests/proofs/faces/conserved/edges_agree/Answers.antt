use Rattle.std.proofs.Common.{◌≡◌, length, arith, sym, ap, ◌∙◌}
use Rattle.std.proofs.lemmas.List.{length-map}
use Rattle.halfedge.proofs.Edges.{length-all_edges}
use Rattle.mesh_terms.specs.Meshes.{triple_of}
use Rattle.operation_tests.proofs.faces.conserved.edges_agree.Goals as goal

pub returns : goal.returns
returns c = λ _.
    let ts = c.args.side.now.triples in
    let all : length c.triples.result.now ≡ length ts = sym (length-map c.triples.result.now triple_of) ∙ ap length c.triples.ensures.value in
    record { along = λ h below. c.loop-half.invariant h (omega (arith, below, length-all_edges ts, all, c.loop-half-test.false, c.loop-half.auto.half-end)) }
