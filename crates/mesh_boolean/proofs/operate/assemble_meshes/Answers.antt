use Rattle.retained_verts.specs.Handed.{numbers}
use Rattle.mesh_boolean.specs.Operation.{Tests, first_side, second_side}
use Rattle.mesh_boolean.proofs.Costs.{few_sums}
use Rattle.mesh_boolean.proofs.Finished.{all_of_meshes, conserve_in, too_large}
use Rattle.mesh_boolean.proofs.operate.assemble_meshes.Given.{Over}
use Rattle.mesh_boolean.proofs.operate.assemble_meshes.Goals as goal

-- the kernels' tests
abbrev tests : (g : Over) → g.row.K.Denot → Tests
tests g k = record { vertex_face = g.K.Meets-5.meet_of k; face_vertex = g.K.Meets-6.meet_of k; edge_face = g.K.Crosses-1.crossing_of k; face_edge = g.K.Crosses-2.crossing_of k }

pub assemble-requires-clause-known : goal.assemble-requires-clause-known
assemble-requires-clause-known g c = c.in_ok-windings.ensures.known

pub returns-clause-conserved : goal.returns-clause-conserved
returns-clause-conserved g c =
    conserve_in (tests g c.args.kernels.now) c.args.op c.args.p.now c.args.q.now c.in_ok-p.p c.in_ok-q.q (numbers c.in_ok-windings.windings c.in_ok-windings.hits) c.assemble.result
    (record { first = c.in_ok-p.ensures.value; second = c.in_ok-q.ensures.value; numbers = c.in_ok-windings.ensures.value }) c.in_ok-windings.ensures.known.conserved

pub returns-clause-assembled : goal.returns-clause-assembled
returns-clause-assembled g c =
    all_of_meshes (tests g c.args.kernels.now) c.args.op c.args.p.now c.args.q.now c.in_ok-p.p c.in_ok-q.q
    (numbers c.in_ok-windings.windings c.in_ok-windings.hits) c.assemble.result
    (record { first = c.in_ok-p.ensures.value; second = c.in_ok-q.ensures.value; numbers = c.in_ok-windings.ensures.value }) c.assemble.ensures.assembled

pub returns-clause-too_large : goal.returns-clause-too_large
returns-clause-too_large g c =
    too_large (tests g c.args.kernels.now) c.args.op c.args.p.now c.args.q.now c.in_ok-p.p c.in_ok-q.q (numbers c.in_ok-windings.windings c.in_ok-windings.hits)
    c.args.limits.now.halfedges c.assemble.result
    (record { first = c.in_ok-p.ensures.value; second = c.in_ok-q.ensures.value; numbers = c.in_ok-windings.ensures.value }) c.assemble.ensures.too_large

pub returns-clause-cost : goal.returns-clause-cost
returns-clause-cost g c =
    few_sums c.args.steps.now c.all_numbers.new.steps c.in_ok-p.p c.in_ok-q.q (first_side c.args.op c.args.p.now)
    (second_side c.args.q.now) c.in_ok-p.ensures.value c.in_ok-q.ensures.value c.in_ok-windings.ensures.cost
