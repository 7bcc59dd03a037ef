-- Triangles with their source faces, bounded by the segments of these.
use Rattle.std.specs.Prelude.{ℕ, ◌<◌, List}
use Rattle.chain_terms.specs.Chains.{all_edges}
use Rattle.mesh_boolean.specs.Boundaries.{HaveOneBoundary}
use Rattle.mesh_terms.specs.Meshes.{Triple}
use Rattle.side_terms.specs.Sides.{Side}
use Rattle.side_terms.specs.Lists.{Copy}
use Rattle.source_face_terms.specs.Segments.{source_count}
use Rattle.source_face_terms.specs.Filled.{face_segments}
use Rattle.mesh_boolean.specs.Picked.{triples_of_face}

-- the triangles of each source face have the boundary of its segments
abbrev pub HaveBoundaries : Side → Side → List Copy → List ℕ → List Triple → Type 0
HaveBoundaries p q cs source ts = (x : ℕ) → x < source_count p q → HaveOneBoundary (all_edges (triples_of_face x source ts)) (face_segments p q cs x)
