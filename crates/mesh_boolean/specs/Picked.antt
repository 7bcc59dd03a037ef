-- Triangles by their source faces.
use Rattle.std.specs.Prelude.{ℕ, ◌==◌, List, map, filter}
use Rattle.std.specs.List.{zip}
use Rattle.mesh_terms.specs.Meshes.{Triple}

-- the triangles of a source face
abbrev pub triples_of_face : ℕ → List ℕ → List Triple → List Triple
triples_of_face x source ts = map (λ m. m.1) (filter (λ m. m.0 == x) (zip source ts))
