-- What is needed of operations and of remeshing, so that what a script writes can be read; and how the meshes of its names are read, saved and tidied.
use Rattle.std.specs.Prelude.{◌≡◌, ℕ, ℤ, min, nat_lt, false, List, [], ◌∷◌, None, Ok}
use Rattle.std.specs.List.{All}
use Rattle.mb_base.specs.declared.op.Op.{Op}
use Rattle.mesh_terms.specs.Labels.{no_labels}
use Rattle.mesh_terms.specs.Limits.{Limits}
use Rattle.mesh_terms.specs.Meshes.{Mesh, Soup, soup_of}
use Rattle.mesh_terms.specs.Points.{IsOnGrid, IsPoint}
use Rattle.outline_terms.specs.Outlines.{IsOutline, Outline, most_vertices}
use Rattle.mb_base.specs.declared.kernel_kind.KernelKind.{KernelKind}
use Rattle.play_terms.specs.Formats.{mesh_text}
use Rattle.play_terms.specs.ReadingBack.{IsReadable}
use Rattle.run_terms.specs.Files.{Bytes, Files}
use Rattle.run_terms.specs.Runs.{Write, Say}
use Rattle.play_terms.specs.ScriptLines.{save_line}
use Rattle.play_terms.specs.Plays.{Meanings, Named, State, at_first, extrusion_fault, line_task, mesh_at, outline_at, steps_task, vertex_count, within_remeshed}
use Rattle.play_terms.specs.Scripts as scripts
use Rattle.play_terms.specs.Sound.{HavePlaces}
use Rattle.play_terms.specs.Steps.{Line, Save}
use Rattle.format_laws.specs.Welding.{welded_mesh}
use Rattle.format_terms.specs.Stl.{stl}
use Rattle.format_terms.specs.StlWritten.{stl_text}
use Rattle.tidy_terms.specs.Tidy.{tidy_mesh}
use Rattle.tidy_laws.specs.Laws.{IsTidyMesh}

-- a mesh with nothing dropped
abbrev pub soup_of_mesh : Mesh → Soup
soup_of_mesh m = record { points = m.points; triples = m.triples; labels = m.labels; unused = 0 }

-- wherever a file holds the text of the mesh, the mesh is read of it
abbrev pub MeshReadable : ℕ → Limits → Mesh → Type 0
MeshReadable k limits m = IsReadable k limits (soup_of_mesh m)

-- an outline at points of the grid
pub record IsGivenOutline (o : Outline) : Type 0 where
  pub outline : IsOutline o
  pub on_grid : All IsPoint o.points

-- a result within the limit, of two meshes that are read where they are written, is read where it is written
abbrev pub MeshesReadable : Meanings → ℕ → Limits → Type 0
MeshesReadable means k limits =
    (op : Op) (p q : Mesh) → MeshReadable k limits p → MeshReadable k limits q → nat_lt limits.halfedges (means.operation op p q).halfedges ≡ false
    → MeshReadable k limits (means.operation op p q).mesh

-- so it is of meshes; the remeshed mesh of one that is read where it is written is too, where it is within the limits; a result of two such outlines within the limits is one; and a solid of
-- one between two heights, where it is not refused, is read where it is written
pub record ResultsReadable (means : Meanings) (k : ℕ) (limits : Limits) : Type 0 where
  pub meshes : MeshesReadable means k limits
  pub remeshings : (m : Mesh) → MeshReadable k limits m → within_remeshed limits (means.remeshing m) ≡ Ok (means.remeshing m)
      → MeshReadable k limits (means.remeshing m).mesh
  pub outlines : (op : Op) (p q : Outline) → IsGivenOutline p → IsGivenOutline q → nat_lt (min limits.points most_vertices) (vertex_count (means.outlines op p q)) ≡ false
      → IsGivenOutline (means.outlines op p q).outline
  pub solids : (o : Outline) (low high : ℤ) → IsGivenOutline o → IsOnGrid low → IsOnGrid high → extrusion_fault limits low high (means.extrusion o low high).mesh ≡ None
      → MeshReadable k limits (means.extrusion o low high).mesh

-- the mesh of each name is read where it is written, and its outline is one at points of the grid
pub record NamesReadable (k : ℕ) (limits : Limits) (named : Named) : Type 0 where
  pub meshes : (name : Bytes) → MeshReadable k limits (mesh_at named name)
  pub outlines : (name : Bytes) → IsGivenOutline (outline_at named name)

-- a mesh is read, point by point and triple by triple with its label, of its OBJ text, wherever that stands; and its STL text reads as the mesh welded, without labels
pub record IsReadOfTexts (k : ℕ) (limits : Limits) (m : Mesh) : Type 0 where
  pub obj : MeshReadable k limits m
  pub stl : let w = welded_mesh m.points m.triples in stl k limits (stl_text k m.points m.triples) ≡ Ok (soup_of w.points w.triples (no_labels w.triples))

-- what the names of a script hold: their meshes are read of their texts, saved, and tidied
pub record KeepsMeshes (means : KernelKind → Meanings) (k : ℕ) (limits : Limits) (script : Bytes) : Type 0 where
  -- the lines of each script that is read have their places and heights on the grid
  pub places : (text : Bytes) (lines : List Line) → scripts.script k text ≡ Ok lines → HavePlaces lines
  -- whatever lines were done, over whatever files, the mesh of each name is read of its texts, and the outline of each is one at points of the grid
  pub names : (files : Files) (lines : List Line) (state : State) → HavePlaces lines → (steps_task means k limits script lines at_first files).result ≡ Ok state
      → (name : Bytes) → IsReadOfTexts k limits (mesh_at state.named name)
  pub outlines : (files : Files) (lines : List Line) (state : State) → HavePlaces lines → (steps_task means k limits script lines at_first files).result ≡ Ok state
      → (name : Bytes) → IsGivenOutline (outline_at state.named name)
  -- the tidied mesh of a name is accepted, clean where its mesh is, has its volume and as many triangles at each three different points, and nothing of it can be
  -- collapsed
  pub tidies : (files : Files) (lines : List Line) (state : State) → HavePlaces lines → (steps_task means k limits script lines at_first files).result ≡ Ok state
      → (name : Bytes) → IsTidyMesh (mesh_at state.named name) (tidy_mesh (mesh_at state.named name))
  -- and a line that saves a name writes the text of this mesh, in the format of the file's name, and says so
  pub saves : (state : State) (line : ℕ) (name file : Bytes) (files : Files) → let m = mesh_at state.named name in
      (line_task means k limits script (line, Save name file) state files).actions ≡
      Write file (mesh_text k file m.points m.triples m.labels) ∷ Say (save_line name file m) ∷ []
