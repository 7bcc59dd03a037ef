-- What is read of the STL text of a mesh, wherever it stands.
use Rattle.std.specs.Prelude.{◌≡◌, ℕ, ◌≤◌, ℤ, List, [], Bool, true, get_or, length, map, filter, not, ◌&&◌, Some, Ok}
use Rattle.std.specs.List.{IsDistinct}
use Rattle.chain_terms.specs.Chains.{IsClosed, all_edges}
use Rattle.mesh_terms.specs.Given.{IsGivenWithin}
use Rattle.mesh_terms.specs.Labels.{no_labels}
use Rattle.mesh_terms.specs.Limits.{IsLawful, Limits}
use Rattle.mesh_terms.specs.Meshes.{Mesh, Soup, Triple, soup_of}
use Rattle.format_terms.specs.Stl.{same_point}
use Rattle.format_terms.specs.StlWritten.{is_stl, stl_text}
use Rattle.format_laws.specs.Welding.{welded_mesh}
use Rattle.run_terms.specs.Files.{Bytes, Files}
use Rattle.mb_base.specs.declared.kernel_kind.KernelKind.{KernelKind}
use Rattle.play_terms.specs.Commands.{ask_mesh}
use Rattle.play_terms.specs.Plays.{Meanings, State, at_first, mesh_at, steps_task}
use Rattle.play_terms.specs.Sound.{HavePlaces}
use Rattle.play_terms.specs.Steps.{Line}

-- the points of the corners of a triangle
abbrev pub corner_points : List (List ℤ) → Triple → List ℤ × List ℤ × List ℤ
corner_points points t = (get_or points t.0 [], get_or points t.1 [], get_or points t.2 [])

-- no two of three points are equal
abbrev pub are_apart : (List ℤ × List ℤ × List ℤ) → Bool
are_apart c = not (same_point c.0 c.1) && not (same_point c.1 c.2) && not (same_point c.2 c.0)

-- a mesh welded: its points are different, its triangles have the places of those that have three different ones, in order, and it is closed
pub record IsWeldedOf (m : Mesh) (s : Soup) : Type 0 where
  pub distinct : IsDistinct same_point s.points
  pub corners : map (corner_points s.points) s.triples ≡ filter are_apart (map (corner_points m.points) m.triples)
  pub closed : IsClosed (all_edges s.triples)

-- what is read of the STL text of a mesh
abbrev pub read_of_stl : Mesh → Soup
read_of_stl m = let w = welded_mesh m.points m.triples in soup_of w.points w.triples (no_labels w.triples)

-- wherever an STL file within the limit on bytes holds the text of the mesh, this is read of it; and it is the mesh welded
pub record IsReadOfStl (k : ℕ) (limits : Limits) (m : Mesh) : Type 0 where
  pub welded : IsWeldedOf m (read_of_stl m)
  pub read : (name : Bytes) (files : Files) → is_stl name ≡ true → files name ≡ Some (stl_text k m.points m.triples)
      → length (stl_text k m.points m.triples) ≤ limits.file_bytes → (ask_mesh k limits name files).result ≡ Ok (read_of_stl m)

-- of every accepted mesh within the limits
abbrev pub StlTextsReadBack : Type 0
StlTextsReadBack = (k : ℕ) (limits : Limits) (m : Mesh) → k ≤ 6 → IsLawful limits → IsGivenWithin limits m → IsReadOfStl k limits m

-- whatever lines of a script were done, over whatever files, of the STL text of the mesh of each name
abbrev pub GivesStl : (KernelKind → Meanings) → ℕ → Limits → Bytes → Type 0
GivesStl means k limits script =
    (files : Files) (lines : List Line) (state : State) → HavePlaces lines → (steps_task means k limits script lines at_first files).result ≡ Ok state
    → (name : Bytes) → IsReadOfStl k limits (mesh_at state.named name)

-- and whatever the files, of that of a mesh that is read of this one
abbrev pub CopiesStl : ℕ → Limits → Bytes → Type 0
CopiesStl k limits name =
    (files : Files) (m : Soup) → (ask_mesh k limits name files).result ≡ Ok m → IsReadOfStl k limits (record { points = m.points; triples = m.triples; labels = m.labels })
