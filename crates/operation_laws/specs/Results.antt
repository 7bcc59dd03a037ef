-- What an operation gives of two meshes, or of two outlines, under the kernels that a script may choose, and an extrusion of an outline: a result of them; what
-- remeshing keeps of the meshes of a script; and what an inspection counts.
use Rattle.std.specs.Prelude.{◌≡◌, ◌≤◌, ℕ, ℤ, pos, ◌-ℤ◌, ◌*ℤ◌, min, length, List, None, Ok, map, true}
use Rattle.std.specs.List.{All, flat_map}
use Rattle.std.specs.List.Sorted.{IsPermutation}
use Rattle.mb_base.specs.declared.kernel_kind.KernelKind.{KernelKind}
use Rattle.mb_base.specs.declared.op.Op.{Op}
use Rattle.mesh_terms.specs.Given.{IsGiven}
use Rattle.mesh_terms.specs.Labels.{label_at}
use Rattle.mesh_terms.specs.Limits.{IsLawful, Limits, most_halfedges, most_triangles}
use Rattle.mesh_terms.specs.Meshes.{IsAccepted, Mesh}
use Rattle.mesh_terms.specs.Points.{IsOnGrid}
use Rattle.mesh_terms.specs.Volume.{volume6_of}
use Rattle.cross_section.specs.Extruded.{doubled_area, extruded}
use Rattle.outline_pair_terms.specs.Balance.{AreConserved}
use Rattle.outline_pair_terms.specs.Lists.{FlatCopy, flat_copies, flat_segments}
use Rattle.outline_terms.specs.Outlines.{IsOutline, Outline, most_vertices, outline_edges}
use Rattle.run_terms.specs.Files.{Bytes, Files}
use Rattle.source_face_terms.specs.Filled.{points_of_copies}
use Rattle.pinch_split.specs.Back.{ComeFrom}
use Rattle.play_terms.specs.Plays.{State, at_first, extrusion_fault, mesh_at, outline_at, steps_task, vertex_count}
use Rattle.play_terms.specs.Sound.{HavePlaces}
use Rattle.play_terms.specs.Steps.{Line}
use Rattle.inspection_terms.specs.Inspected.{IsCutCount}
use Rattle.mesh_boolean.specs.Operation.{Outcome, face_labels, first_side, operation, second_side}
use Rattle.mesh_boolean.specs.Results.{AreBounded, ConserveIn, IsCleanOver, copies_in}
use Rattle.operation_laws.specs.Kernels.{flat_numbers_under, meanings_under, tests_under}
use Rattle.sheet_terms.specs.Crossings.{all_points}
use Rattle.sheet_terms.specs.Faces.{Face, faces, planes, seen}
use Rattle.sheet_terms.specs.Needless.{side_edges}
use Rattle.sheet_terms.specs.Regions.{Side, all_sides}
use Rattle.sheet_terms.specs.Remesh.{remeshed}
use Rattle.sheet_laws.specs.Planes.{FillsLeft, KeepsPlane, new_in_plane, old_in_plane}
use Rattle.sheet_laws.specs.Promises.{HasNoFolds, IsRemeshed, is_taken}

-- a result of an operation on two meshes: winding numbers change along the half-edges of both, reduced, by their signed crossings; its copies
-- are the prescribed vertices, each as often; each of its vertices comes from one of these and lies there, and each of these stays; the
-- triangles of each source face have its segments as their boundary and its label; and it is closed, its half-edges are paired, and each vertex
-- has one fan
pub record IsResultOf (kernels : KernelKind) (op : Op) (p q : Mesh) (o : Outcome) : Type 0 where
  pub conserved : ConserveIn (tests_under kernels) op p q
  pub prescribed : o.copies ≡ copies_in (tests_under kernels) op p q
  pub from : ComeFrom o.points (points_of_copies o.copies) o.from
  pub faces : AreBounded (first_side op p) (second_side q) o.copies o.from o.source o.triples
  pub clean : IsCleanOver o.from o.triples
  pub labels : o.labels ≡ map (label_at (face_labels p q)) o.source

-- what an operation makes of two accepted meshes at points of the grid is a result of them
abbrev pub OperationsAreResults : Type 0
OperationsAreResults =
    (kernels : KernelKind) (op : Op) (p q : Mesh) → IsGiven p → IsGiven q → (operation (tests_under kernels) op p q).halfedges ≤ most_halfedges
    → IsResultOf kernels op p q (operation (tests_under kernels) op p q)

-- whatever lines of a script were done, over whatever files, an operation on the meshes of two names is a result of these under the kernels that
-- the lines chose, where its half-edges are within the limit
abbrev pub GivesMeshes : ℕ → Limits → Bytes → Type 0
GivesMeshes k limits script =
    (files : Files) (lines : List Line) (state : State) → HavePlaces lines → (steps_task meanings_under k limits script lines at_first files).result ≡ Ok state
    → (op : Op) (left right : Bytes) → (operation (tests_under state.kernels) op (mesh_at state.named left) (mesh_at state.named right)).halfedges ≤ limits.halfedges
    → IsResultOf state.kernels op (mesh_at state.named left) (mesh_at state.named right)
    (operation (tests_under state.kernels) op (mesh_at state.named left) (mesh_at state.named right))

-- the prescribed vertices of an operation on two outlines
abbrev pub copies_under : KernelKind → Op → Outline → Outline → List FlatCopy
copies_under kernels op p q = flat_copies op p q (flat_numbers_under kernels op p q)

-- a result of an operation on two outlines: winding numbers change along the edges of both by their crossings; it is an outline, of the prescribed
-- vertices; and the edges of its loops are the segments that pair these along the edges of both
pub record IsOutlineOf (kernels : KernelKind) (op : Op) (p q o : Outline) : Type 0 where
  pub conserved : AreConserved (outline_edges p) (outline_edges q) (flat_numbers_under kernels op p q)
  pub prescribed : o.points ≡ map (λ c. c.point) (copies_under kernels op p q)
  pub segments : IsPermutation (flat_segments p q (copies_under kernels op p q)) (outline_edges o)
  pub outline : IsOutline o

-- so what an operation makes of the outlines of two names is, where its vertices are within the limits
abbrev pub GivesOutlines : ℕ → Limits → Bytes → Type 0
GivesOutlines k limits script =
    (files : Files) (lines : List Line) (state : State) → HavePlaces lines → (steps_task meanings_under k limits script lines at_first files).result ≡ Ok state
    → (op : Op) (left right : Bytes)
    → vertex_count ((meanings_under state.kernels).outlines op (outline_at state.named left) (outline_at state.named right)) ≤ min limits.points most_vertices
    → IsOutlineOf state.kernels op (outline_at state.named left) (outline_at state.named right)
    ((meanings_under state.kernels).outlines op (outline_at state.named left) (outline_at state.named right)).outline

-- a solid of an outline between two heights: it is accepted, and its volume is the height times the outline's area
pub record IsSolidOf (o : Outline) (low high : ℤ) (m : Mesh) : Type 0 where
  pub accepted : IsAccepted (length m.points) m.triples
  pub volume : volume6_of m.points m.triples ≡ pos 3 *ℤ ((high -ℤ low) *ℤ doubled_area o)

-- so the solid of the outline of a name is, where it is not refused
abbrev pub GivesSolids : ℕ → Limits → Bytes → Type 0
GivesSolids k limits script =
    (files : Files) (lines : List Line) (state : State) → HavePlaces lines → (steps_task meanings_under k limits script lines at_first files).result ≡ Ok state
    → (old : Bytes) (low high : ℤ) → IsOnGrid low → IsOnGrid high → extrusion_fault limits low high (extruded (outline_at state.named old) low high) ≡ None
    → IsSolidOf (outline_at state.named old) low high (extruded (outline_at state.named old) low high)

-- all three
pub record GivesResults (k : ℕ) (limits : Limits) (script : Bytes) : Type 0 where
  pub meshes : GivesMeshes k limits script
  pub outlines : GivesOutlines k limits script
  pub solids : GivesSolids k limits script

abbrev pub ScriptsGiveResults : Type 0
ScriptsGiveResults = (k : ℕ) (limits : Limits) → k ≤ 6 → IsLawful limits → (script : Bytes) → GivesResults k limits script

-- the triangles of a mesh over its places, and the sides of their planes
abbrev pub faces_of : Mesh → List Face
faces_of m = faces (all_points m) m

abbrev pub sides_of : Mesh → List Side
sides_of m = all_sides (all_points m) (faces_of m)

-- what remeshing keeps in each plane of a mesh: the boundary, once edges are cut where places lie on them; how often each point is covered, those that face one
-- side less those that face the other; and the area. Each new triangle of a region turns left in its plane, so none is flat; and where all new triangles of a
-- plane face the side of its first old one, each point off their edges lies in just as many of them
pub record KeepsPlanes (m : Mesh) : Type 0 where
  pub kept : (let points = all_points m in
      All (λ s. KeepsPlane points (seen points s) (new_in_plane points (sides_of m) s) (old_in_plane points (faces_of m) s)) (planes points (faces_of m)))
  pub left : All (λ s. All (FillsLeft (all_points m) (flat_map side_edges (sides_of m)) s) s.regions) (sides_of m)
  pub flush : All (HasNoFolds (all_points m) (faces_of m) (sides_of m)) (planes (all_points m) (faces_of m))

-- all that remeshing keeps of a mesh: its planes, where what fills them is taken; and, where it has not more triangles than any mesh, it is a mesh that a run may
-- hold, with one fan at each vertex and each directed edge at most once, or the given one
pub record KeepsAll (m : Mesh) : Type 0 where
  pub planes : is_taken m ≡ true → KeepsPlanes m
  pub remeshed : length (remeshed m).mesh.triples ≤ most_triangles → IsRemeshed m (remeshed m)

-- and what remeshing keeps holds of the mesh of each name
abbrev pub GivesRemeshed : ℕ → Limits → Bytes → Type 0
GivesRemeshed k limits script =
    (files : Files) (lines : List Line) (state : State) → HavePlaces lines → (steps_task meanings_under k limits script lines at_first files).result ≡ Ok state
    → (name : Bytes) → KeepsAll (mesh_at state.named name)

abbrev pub ScriptsRemesh : Type 0
ScriptsRemesh = (k : ℕ) (limits : Limits) → k ≤ 6 → IsLawful limits → (script : Bytes) → GivesRemeshed k limits script

-- and the number of cuts that an inspection says of a mesh, whichever kernels the lines chose, is that of the pairs of its triangles that cut one another
abbrev pub CutsAreCounted : Type 0
CutsAreCounted = (kernels : KernelKind) (m : Mesh) → IsCutCount m ((meanings_under kernels).cuts m)
