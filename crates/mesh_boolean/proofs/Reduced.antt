-- Sides of reduced meshes.
use Rattle.std.proofs.Common.{◌≡◌, ◌∙◌, ap}
use Rattle.mesh_terms.specs.Meshes.{Mesh}
use Rattle.side_terms.specs.Sides.{Side}
use Rattle.mesh_boolean.specs.Operation.{reduced_mesh}

-- the side, of one kind or the other, of a mesh that is the reduced mesh of another
pub side_of_reduced : (made : Mesh → Side) (m mesh : Mesh) (side : Side) → m.points ≡ (reduced_mesh mesh).points →
    m.triples ≡ (reduced_mesh mesh).triples → m.labels ≡ (reduced_mesh mesh).labels → side ≡ made m → side ≡ made (reduced_mesh mesh)
side_of_reduced made m mesh side points triples labels is =
    let same : m ≡ reduced_mesh mesh = λ i. record { points = points i; triples = triples i; labels = labels i } in
    is ∙ ap made same
