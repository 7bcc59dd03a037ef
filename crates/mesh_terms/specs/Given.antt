-- What each mesh of a run is: accepted, at points of the grid, labelled, and within limits.
use Rattle.std.specs.Prelude.{◌≤◌, length}
use Rattle.std.specs.List.{All}
use Rattle.mesh_terms.specs.Labels.{AreLabels}
use Rattle.mesh_terms.specs.Limits.{Limits}
use Rattle.mesh_terms.specs.Meshes.{IsAccepted, Mesh}
use Rattle.mesh_terms.specs.Points.{IsPoint}

-- an accepted mesh at points of the grid, with a label for each triangle
pub record IsGiven (m : Mesh) : Type 0 where
  pub accepted : IsAccepted (length m.points) m.triples
  pub on_grid : All IsPoint m.points
  pub labels : AreLabels (length m.triples) m.labels

-- such a mesh within limits
pub record IsGivenWithin (limits : Limits) (m : Mesh) : Type 0 where
  pub given : IsGiven m
  pub few_points : length m.points ≤ limits.points
  pub few_triples : length m.triples ≤ limits.triangles
