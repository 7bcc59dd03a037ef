use Rattle.std.proofs.Common.{subst}
use Rattle.std.specs.List.{All}
use Rattle.mesh_terms.specs.Points.{IsPoint}
use Rattle.geometric_laws.proofs.calls.read.Goals as goal

pub returns : goal.returns
returns c = record {
  accepted = c.triples.ensures.accepted;
  on_grid = subst (All IsPoint) c.points.ensures.value c.read_points.ensures;
  labels = c.labels.ensures.labels;
}
