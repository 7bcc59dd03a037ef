-- The steps of a script, and the names and files in them.
use Rattle.std.specs.Prelude.{ℕ, ℤ, List, [], ◌∷◌, true, false, Bool, bytes_eq, if◌then◌else◌, Option, Some, None}
use Rattle.run_terms.specs.Files.{Bytes}
use Rattle.mb_base.specs.declared.kernel_kind.KernelKind.{KernelKind}
use Rattle.mb_base.specs.declared.kernel_kind.KernelKind.TheVariants as kinds
use Rattle.mb_base.specs.declared.op.Op.{Op}
use Rattle.made_terms.specs.declared.motion.Motion.{Motion}
use Rattle.made_terms.specs.declared.solid.Solid.{Solid}
use Rattle.play_terms.specs.declared.held.HeldKind.{HeldKind}
use Rattle.play_terms.specs.declared.held.HeldKind.TheVariants as held

-- a mesh of a file gets a name, the mesh of a name is written to a file, measured or inspected, a name gets the result of an operation, a solid, or the moved, tidied or
-- remeshed mesh of a name; a name gets an outline of one loop, what an operation makes of two outlines, or the solid between an outline at two heights; or
-- the operations after it are taken under exact kernels
pub data Step : Type 0 where
  Load : (name file : Bytes) → Step
  Save : (name file : Bytes) → Step
  Measure : (name : Bytes) → Step
  Inspect : (name : Bytes) → Step
  Combine : (op : Op) → (name left right : Bytes) → Step
  Make : (name : Bytes) → (solid : Solid) → Step
  Move : (name old : Bytes) → (motion : Motion) → Step
  Tidy : (name old : Bytes) → Step
  Remesh : (name old : Bytes) → Step
  Polygon : (name : Bytes) → (ring : List (List ℤ)) → Step
  Combine2 : (op : Op) → (name left right : Bytes) → Step
  Extrude : (name old : Bytes) → (low high : ℤ) → Step
  Exact : Step

-- a step with the number of its line, from 1
abbrev pub Line : Type 0
Line = ℕ × Step

-- the name that a step gives a mesh or an outline, if it gives one
abbrev pub new_name : Step → Option Bytes
new_name (Load name file) = Some name
new_name (Save name file) = None
new_name (Measure name) = None
new_name (Inspect name) = None
new_name (Combine op name left right) = Some name
new_name (Make name solid) = Some name
new_name (Move name old motion) = Some name
new_name (Tidy name old) = Some name
new_name (Remesh name old) = Some name
new_name (Polygon name ring) = Some name
new_name (Combine2 op name left right) = Some name
new_name (Extrude name old low high) = Some name
new_name Exact = None

abbrev pub is_that : Bytes → Option Bytes → Bool
is_that w None = false
is_that w (Some name) = bytes_eq w name

-- the kind of what it gets
abbrev pub new_kind : Step → HeldKind
new_kind (Load name file) = held.Mesh
new_kind (Save name file) = held.Mesh
new_kind (Measure name) = held.Mesh
new_kind (Inspect name) = held.Mesh
new_kind (Combine op name left right) = held.Mesh
new_kind (Make name solid) = held.Mesh
new_kind (Move name old motion) = held.Mesh
new_kind (Tidy name old) = held.Mesh
new_kind (Remesh name old) = held.Mesh
new_kind (Polygon name ring) = held.Outline
new_kind (Combine2 op name left right) = held.Outline
new_kind (Extrude name old low high) = held.Mesh
new_kind Exact = held.Mesh

-- the kind of what the step gives this name, if it gives it something
abbrev pub gives : Bytes → Step → Option HeldKind
gives w step = if is_that w (new_name step) then Some (new_kind step) else None

-- the first kind, or the second where there is none
abbrev pub or_before : Option HeldKind → Option HeldKind → Option HeldKind
or_before None before = before
or_before (Some kind) before = Some kind

-- the kind of what the last of the lines that give it something gives it
abbrev pub given_kind : Bytes → List Line → Option HeldKind
given_kind w [] = None
given_kind w (l ∷ ls) = or_before (given_kind w ls) (gives w l.1)

abbrev pub is_same : HeldKind → HeldKind → Bool
is_same held.Mesh held.Mesh = true
is_same held.Mesh held.Outline = false
is_same held.Outline held.Mesh = false
is_same held.Outline held.Outline = true

-- there is a kind, and it is this one
abbrev pub is_kind : HeldKind → Option HeldKind → Bool
is_kind kind None = false
is_kind kind (Some other) = is_same kind other

-- the lines leave the name something of this kind
abbrev pub is_given : HeldKind → Bytes → List Line → Bool
is_given kind w lines = is_kind kind (given_kind w lines)

-- a name of a mesh, and one of an outline
abbrev pub mesh_of : Bytes → HeldKind × Bytes
mesh_of name = (held.Mesh, name)

abbrev pub outline_of : Bytes → HeldKind × Bytes
outline_of name = (held.Outline, name)

-- the names whose meshes or outlines a step takes
abbrev pub taken : Step → List (HeldKind × Bytes)
taken (Load name file) = []
taken (Save name file) = mesh_of name ∷ []
taken (Measure name) = mesh_of name ∷ []
taken (Inspect name) = mesh_of name ∷ []
taken (Combine op name left right) = mesh_of left ∷ mesh_of right ∷ []
taken (Make name solid) = []
taken (Move name old motion) = mesh_of old ∷ []
taken (Tidy name old) = mesh_of old ∷ []
taken (Remesh name old) = mesh_of old ∷ []
taken (Polygon name ring) = []
taken (Combine2 op name left right) = outline_of left ∷ outline_of right ∷ []
taken (Extrude name old low high) = outline_of old ∷ []
taken Exact = []

-- the names in a step
abbrev pub names_in : Step → List Bytes
names_in (Load name file) = name ∷ []
names_in (Save name file) = name ∷ []
names_in (Measure name) = name ∷ []
names_in (Inspect name) = name ∷ []
names_in (Combine op name left right) = name ∷ left ∷ right ∷ []
names_in (Make name solid) = name ∷ []
names_in (Move name old motion) = name ∷ old ∷ []
names_in (Tidy name old) = name ∷ old ∷ []
names_in (Remesh name old) = name ∷ old ∷ []
names_in (Polygon name ring) = name ∷ []
names_in (Combine2 op name left right) = name ∷ left ∷ right ∷ []
names_in (Extrude name old low high) = name ∷ old ∷ []
names_in Exact = []

-- the files that a step reads or writes
abbrev pub files_in : Step → List Bytes
files_in (Load name file) = file ∷ []
files_in (Save name file) = file ∷ []
files_in (Measure name) = []
files_in (Inspect name) = []
files_in (Combine op name left right) = []
files_in (Make name solid) = []
files_in (Move name old motion) = []
files_in (Tidy name old) = []
files_in (Remesh name old) = []
files_in (Polygon name ring) = []
files_in (Combine2 op name left right) = []
files_in (Extrude name old low high) = []
files_in Exact = []

-- the kernels under which the operations after a step are taken, where those before it are taken under these
abbrev pub kernels_after : Step → KernelKind → KernelKind
kernels_after Exact kernels = kinds.Exact
kernels_after (Load name file) kernels = kernels
kernels_after (Save name file) kernels = kernels
kernels_after (Measure name) kernels = kernels
kernels_after (Inspect name) kernels = kernels
kernels_after (Combine op name left right) kernels = kernels
kernels_after (Make name solid) kernels = kernels
kernels_after (Move name old motion) kernels = kernels
kernels_after (Tidy name old) kernels = kernels
kernels_after (Remesh name old) kernels = kernels
kernels_after (Polygon name ring) kernels = kernels
kernels_after (Combine2 op name left right) kernels = kernels
kernels_after (Extrude name old low high) kernels = kernels
