use Rattle.std.proofs.Common.{◌↔◌}
use Rattle.std.specs.Prelude.{IsTrue}
use Rattle.std.proofs.lemmas.Result.{IfOk-weaker}
use Rattle.mesh_terms.specs.Meshes.{triples_of}
use Rattle.retained_verts.specs.Handed.{numbers}
use Rattle.mesh_boolean.specs.Audited.{AgreesWithMeshes, AgreesWithSides}
use Rattle.mesh_boolean.specs.Operation.{Tests}
use Rattle.mesh_boolean.proofs.AuditedSides.{as_meshes}
use Rattle.mesh_boolean.proofs.auditing.agrees_with_meshes.Given.{Over}
use Rattle.mesh_boolean.proofs.auditing.agrees_with_meshes.Goals as goal

-- the kernels' tests
abbrev tests : (g : Over) → g.row.K.Denot → Tests
tests g k = record {
  vertex_face = g.K.Meets-5.meet_of k;
  face_vertex = g.K.Meets-6.meet_of k;
  edge_face = g.K.Crosses-1.crossing_of k;
  face_edge = g.K.Crosses-2.crossing_of k;
}

pub agrees_with_sides-requires-clause-known : goal.agrees_with_sides-requires-clause-known
agrees_with_sides-requires-clause-known g c = c.in_ok-windings.ensures.known

pub returns : goal.returns
returns g c =
    let t = tests g c.args.kernels.now in
    let op = c.args.op in
    let r = c.args.outcome.now in
    let us = triples_of c.args.triples.now in
    let n = numbers c.in_ok-windings.windings c.in_ok-windings.hits in
    let same =
    as_meshes t op c.args.p.now c.args.q.now c.in_ok-p.p c.in_ok-q.q n r us
    (record { first = c.in_ok-p.ensures.value; second = c.in_ok-q.ensures.value; numbers = c.in_ok-windings.ensures.value }) in
    IfOk-weaker c.agrees_with_sides.result (λ yes. IsTrue yes ↔ AgreesWithSides op c.in_ok-p.p c.in_ok-q.q n r us)
    (λ yes. IsTrue yes ↔ AgreesWithMeshes t op c.args.p.now c.args.q.now r us)
    (λ yes iff. ((λ e. same.0 (iff.0 e)), (λ a. iff.1 (same.1 a)))) c.agrees_with_sides.ensures
