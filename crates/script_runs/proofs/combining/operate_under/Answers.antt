use Rattle.mesh_boolean.specs.Operation.{Tests}
use Rattle.script_runs.proofs.Operated.{operated}
use Rattle.script_runs.proofs.combining.operate_under.Given.{Over}
use Rattle.script_runs.proofs.combining.operate_under.Goals as goal

-- the kernels' tests
abbrev tests : (g : Over) → g.row.K.Denot → Tests
tests g k = record { vertex_face = g.K.Meets-5.meet_of k; face_vertex = g.K.Meets-6.meet_of k; edge_face = g.K.Crosses-1.crossing_of k; face_edge = g.K.Crosses-2.crossing_of k }

pub returns-in-Ok-clause-outcome : goal.returns-in-Ok-clause-outcome
returns-in-Ok-clause-outcome g c =
    let e = c.in-Ok.ensures in
    operated (tests g c.args.kernels.now) c.args.op c.args.p.now c.args.q.now c.in-Ok.outcome e.prescribed e.filled e.labels
