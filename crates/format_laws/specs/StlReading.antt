-- What is read of ASCII STL, as a statement.
use Rattle.std.specs.Prelude.{◌≡◌, ℕ, List, Ok}
use Rattle.mesh_terms.specs.Labels.{no_labels}
use Rattle.mesh_terms.specs.Limits.{Limits, IsLawful}
use Rattle.mesh_terms.specs.Meshes.{Soup}
use Rattle.format_laws.specs.Within.{IsWithin}
use Rattle.format_terms.specs.Stl.{stl}

-- what is read of a file under lawful limits is a mesh within them, with a label for each triangle, which is empty
abbrev pub FilesGiveMeshes : Type 0
FilesGiveMeshes =
    (k : ℕ) (limits : Limits) → IsLawful limits → (bytes : List ℕ) (soup : Soup) → stl k limits bytes ≡ Ok soup →
    IsWithin limits soup.points soup.triples × (soup.labels ≡ no_labels soup.triples)
