-- The triangles of a mesh over places, as they are stored.
use Rattle.std.specs.Prelude.{◌≡◌, ◌≤◌, ℤ, List, true, length, map}
use Rattle.std.specs.List.{All}
use Rattle.chain_terms.specs.Chains.{IsClosed, all_edges}
use Rattle.mesh_terms.specs.Limits.{most_points, most_triangles}
use Rattle.mesh_terms.specs.Meshes.{IsBelow, Mesh, triples_of}
use Rattle.sheet_terms.specs.Places.{has_three}
use Rattle.edge_cutting.specs.Inside.{AreApart}
use Rattle.plan_laws.specs.Placed.{placed_faces}
use Rattle.plane_remesh.specs.declared.over_places.OverPlaces.{OverPlaces}

-- what is stored of them: places, corners, and the numbers in the mesh
pub record IsOver (points : List (List ℤ)) (m : Mesh) (o : OverPlaces) : Type 0 where
  pub stored : o.points.items ≡ points
  pub triples : triples_of o.triples.items ≡ map (λ f. f.corners) (placed_faces points m)
  pub sources : o.sources.items ≡ map (λ f. f.number) (placed_faces points m)
  pub apart : AreApart points
  pub few_points : length points ≤ most_points
  pub few : length o.triples.items ≤ most_triangles
  pub below : All (IsBelow (length points)) (triples_of o.triples.items)
  pub three : All (λ t. has_three t ≡ true) (triples_of o.triples.items)
  pub closed : IsClosed (all_edges (triples_of o.triples.items))
