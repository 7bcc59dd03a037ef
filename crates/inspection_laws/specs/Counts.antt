-- How many pairs of triangles of a mesh cut one another, as signs tell it.
use Rattle.std.specs.Prelude.{ℕ, length, count_by}
use Rattle.mesh_terms.specs.Meshes.{Mesh}
use Rattle.inspection_terms.specs.Inspected.{pairs_below}
use Rattle.inspection_terms.specs.Triangles.{corners_at}
use Rattle.inspection_laws.specs.Signs.{are_cutting}

abbrev pub cuts_of : Mesh → ℕ
cuts_of m = count_by (λ e. are_cutting (corners_at m e.0) (corners_at m e.1)) (pairs_below (length m.triples))
