-- What a script does: its file is asked for and read, and then its steps are done in order, over the names and files as they are by then.
use Rattle.std.specs.Prelude.{ℕ, ◌+◌, ℤ, min, int_le, length, List, [], ◌∷◌, if◌then◌else◌, nat_lt, bytes_eq, Option, Some, None, Result, Ok, Err}
use Rattle.mesh_terms.specs.Faults.{Halfedges, Points, Triangles, Fault, Bad, Over}
use Rattle.mesh_terms.specs.Limits.{Limits}
use Rattle.mesh_terms.specs.Meshes.{Mesh}
use Rattle.made_terms.specs.Refusals.{MadeFault, Flat, Outside, Exceeds, excess}
use Rattle.outline_terms.specs.Outlines.{Outline, most_vertices, ring_of}
use Rattle.run_terms.specs.Files.{Bytes}
use Rattle.run_terms.specs.Tasks.{Refusal, FaultyScript, FaultyStep, PastLimit, Task, give, then_task}
use Rattle.play_terms.specs.Commands.{ask_file, ask_mesh, write_mesh, say_line}
use Rattle.mb_base.specs.declared.kernel_kind.KernelKind.{KernelKind}
use Rattle.mb_base.specs.declared.kernel_kind.KernelKind.TheVariants.{Grid}
use Rattle.mb_base.specs.declared.op.Op.{Op}
use Rattle.play_terms.specs.declared.held.HeldKind.{HeldKind}
use Rattle.play_terms.specs.declared.held.HeldKind.TheVariants as held
use Rattle.play_terms.specs.Combined.{Combined, Remeshed, Combined2, Extruded}
use Rattle.play_terms.specs.ScriptLines.{load_line, save_line, measure_line, inspect_line, combine_line, tidy_line, remesh_line, combine2_line, extrude_line}
use Rattle.made_terms.specs.Making.{solid_fault, solid_mesh}
use Rattle.made_terms.specs.Motions.{motion_fault, moved_mesh}
use Rattle.made_terms.specs.declared.motion.Motion.{Motion}
use Rattle.made_terms.specs.declared.solid.Solid.{Solid}
use Rattle.play_terms.specs.Scripts.{script}
use Rattle.play_terms.specs.Steps.{Line, Step, Load, Save, Measure, Inspect, Combine, Make, Move, Tidy, Remesh, Polygon, Combine2, Extrude, Exact, kernels_after}
use Rattle.tidy_terms.specs.Tidy.{tidied, tidy_mesh}

-- what the steps need of geometry: what an operation gives of two meshes, what remeshing gives of one, how many pairs of its triangles cut one another, what an
-- operation gives of two outlines, and what an outline between two heights is. Solids, motions, tidying, measures and what else is inspected are definitions
pub record Meanings : Type 0 where
  pub operation : Op → Mesh → Mesh → Combined
  pub remeshing : Mesh → Remeshed
  pub cuts : Mesh → ℕ
  pub outlines : Op → Outline → Outline → Combined2
  pub extrusion : Outline → ℤ → ℤ → Extruded

-- what a name holds
pub data Held : Type 0 where
  OfMesh : (mesh : Mesh) → Held
  OfOutline : (outline : Outline) → Held

-- what each name holds that holds something
abbrev pub Named : Type 0
Named = Bytes → Option Held

abbrev pub no_names : Named
no_names = λ n. None

-- a name gets something; all others keep what they have
abbrev pub with_held : Bytes → Held → Named → Named
with_held name h named = λ n. if bytes_eq n name then Some h else named n

-- a mesh, or an outline
abbrev pub with_name : Bytes → Mesh → Named → Named
with_name name m named = with_held name (OfMesh m) named

abbrev pub with_outline : Bytes → Outline → Named → Named
with_outline name o named = with_held name (OfOutline o) named

-- the kind of what is held
abbrev pub kind_held : Option Held → Option HeldKind
kind_held None = None
kind_held (Some (OfMesh m)) = Some held.Mesh
kind_held (Some (OfOutline o)) = Some held.Outline

-- the mesh, and the outline, that is held
abbrev pub mesh_held : Option Held → Option Mesh
mesh_held None = None
mesh_held (Some (OfMesh m)) = Some m
mesh_held (Some (OfOutline o)) = None

abbrev pub outline_held : Option Held → Option Outline
outline_held None = None
outline_held (Some (OfMesh m)) = None
outline_held (Some (OfOutline o)) = Some o

-- the mesh of a name; one without points where it has none
abbrev pub mesh_or_none : Option Mesh → Mesh
mesh_or_none None = record { points = []; triples = []; labels = [] }
mesh_or_none (Some m) = m

abbrev pub mesh_at : Named → Bytes → Mesh
mesh_at named name = mesh_or_none (mesh_held (named name))

-- the outline of a name; one without points where it has none
abbrev pub outline_or_none : Option Outline → Outline
outline_or_none None = record { points = []; loops = [] }
outline_or_none (Some o) = o

abbrev pub outline_at : Named → Bytes → Outline
outline_at named name = outline_or_none (outline_held (named name))

-- a name gets the mesh of a file, and the mesh is told
abbrev pub load_task : ℕ → Limits → Bytes → Bytes → Named → Task Named
load_task k limits name file named =
    then_task (ask_mesh k limits file) (λ m.
    then_task (say_line (load_line name file m)) (λ _.
    give (Ok (with_name name (record { points = m.points; triples = m.triples; labels = m.labels }) named))))

-- the mesh of a name is written to a file and told; the names stay
abbrev pub save_task : ℕ → Bytes → Bytes → Mesh → Named → Task Named
save_task k name file m named =
    then_task (write_mesh k file m.points m.triples m.labels) (λ _.
    then_task (say_line (save_line name file m)) (λ _.
    give (Ok named)))

-- the mesh of a name is measured, and that is told; the names stay
abbrev pub measure_task : Bytes → Mesh → Named → Task Named
measure_task name m named =
    then_task (say_line (measure_line name m)) (λ _.
    give (Ok named))

-- the mesh of a name is inspected, and that is told; the names stay
abbrev pub inspect_task : Meanings → ℕ → Bytes → Mesh → Named → Task Named
inspect_task means k name m named =
    then_task (say_line (inspect_line k name m (means.cuts m))) (λ _.
    give (Ok named))

-- refused where more half-edges are prescribed than the limit
abbrev pub within : Limits → Combined → Result Combined Refusal
within limits o = if nat_lt limits.halfedges o.halfedges then Err (PastLimit Halfedges o.halfedges) else Ok o

-- a name gets what an operation gives, and that is told
abbrev pub combine_task : Meanings → Limits → Op → Bytes → Bytes → Bytes → Named → Task Named
combine_task means limits op name left right named =
    then_task (give (within limits (means.operation op (mesh_at named left) (mesh_at named right)))) (λ o.
    then_task (say_line (combine_line op name left right o)) (λ _.
    give (Ok (with_name name o.mesh named))))

-- why a solid is not made or a mesh not moved on this line of the script
abbrev pub made_refusal : Bytes → ℕ → MadeFault → Refusal
made_refusal script line Outside = FaultyStep script line 15
made_refusal script line Flat = FaultyStep script line 16
made_refusal script line (Exceeds what seen) = PastLimit what seen

-- refused on this line of the script where there is a fault
abbrev pub made : Bytes → ℕ → Option MadeFault → Mesh → Result Mesh Refusal
made script line None m = Ok m
made script line (Some fault) m = Err (made_refusal script line fault)

-- a name gets a solid, and nothing is told
abbrev pub make_task : Limits → Bytes → ℕ → Bytes → Solid → Named → Task Named
make_task limits script line name solid named =
    then_task (give (made script line (solid_fault limits solid) (solid_mesh solid))) (λ m.
    give (Ok (with_name name m named)))

-- a name gets the moved mesh of a name, and nothing is told
abbrev pub move_task : Bytes → ℕ → Bytes → Bytes → Motion → Named → Task Named
move_task script line name old motion named =
    then_task (give (made script line (motion_fault motion (mesh_at named old).points) (moved_mesh motion (mesh_at named old)))) (λ m.
    give (Ok (with_name name m named)))

-- a name gets the tidied mesh of a name, and how many edges were collapsed is told
abbrev pub tidy_task : Bytes → Bytes → Mesh → Named → Task Named
tidy_task name old m named =
    then_task (say_line (tidy_line name old (tidied m.points m.triples m.labels).collapses)) (λ _.
    give (Ok (with_name name (tidy_mesh m) named)))

-- refused where it has more points or triangles than the limits, points asked first
abbrev pub within_remeshed : Limits → Remeshed → Result Remeshed Refusal
within_remeshed limits r =
    if nat_lt limits.points (length r.mesh.points) then Err (PastLimit Points (length r.mesh.points))
    else if nat_lt limits.triangles (length r.mesh.triples) then Err (PastLimit Triangles (length r.mesh.triples))
    else Ok r

-- a name gets what remeshing gives of the mesh of a name, and that is told
abbrev pub remesh_task : Meanings → Limits → Bytes → Bytes → Mesh → Named → Task Named
remesh_task means limits name old m named =
    then_task (give (within_remeshed limits (means.remeshing m))) (λ r.
    then_task (say_line (remesh_line name old r.planes r.kept)) (λ _.
    give (Ok (with_name name r.mesh named))))

-- a name gets the outline of one loop through these places, and nothing is told
abbrev pub polygon_task : Bytes → List (List ℤ) → Named → Task Named
polygon_task name ring named = give (Ok (with_outline name (ring_of ring) named))

-- how many vertices the outline of an operation has
abbrev pub vertex_count : Combined2 → ℕ
vertex_count o = o.p_kept + o.q_kept + o.crossings

-- refused where it has more than the limit on points, or than any outline
abbrev pub within2 : Limits → Combined2 → Result Combined2 Refusal
within2 limits o = if nat_lt (min limits.points most_vertices) (vertex_count o) then Err (PastLimit Points (vertex_count o)) else Ok o

-- a name gets what an operation on the outlines of two names gives, and that is told
abbrev pub combine2_task : Meanings → Limits → Op → Bytes → Bytes → Bytes → Named → Task Named
combine2_task means limits op name left right named =
    then_task (give (within2 limits (means.outlines op (outline_at named left) (outline_at named right)))) (λ o.
    then_task (say_line (combine2_line op name left right o)) (λ _.
    give (Ok (with_outline name o.outline named))))

-- why there is no solid between two heights: the low one is not below the high one, or it has too many points or triangles
abbrev pub extrusion_fault : Limits → ℤ → ℤ → Mesh → Option MadeFault
extrusion_fault limits low high m = if int_le high low then Some Flat else excess limits (length m.points) (length m.triples)

-- refused on this line of the script where there is a fault
abbrev pub extruded : Bytes → ℕ → Option MadeFault → Extruded → Result Extruded Refusal
extruded script line None e = Ok e
extruded script line (Some fault) e = Err (made_refusal script line fault)

-- a name gets the solid between the outline of a name at two heights, and how many cuts were forced is told
abbrev pub extrude_task : Meanings → Limits → Bytes → ℕ → Bytes → Bytes → ℤ → ℤ → Named → Task Named
extrude_task means limits script line name old low high named =
    let e = means.extrusion (outline_at named old) low high in
    then_task (give (extruded script line (extrusion_fault limits low high e.mesh) e)) (λ e.
    then_task (say_line (extrude_line name old e.forced)) (λ _.
    give (Ok (with_name name e.mesh named))))

-- one row for each kind of step, on this line of the script; the choice of kernels leaves the names as they are
abbrev pub step_task : Meanings → ℕ → Limits → Bytes → ℕ → Step → Named → Task Named
step_task means k limits script line (Load name file) named = load_task k limits name file named
step_task means k limits script line (Save name file) named = save_task k name file (mesh_at named name) named
step_task means k limits script line (Measure name) named = measure_task name (mesh_at named name) named
step_task means k limits script line (Inspect name) named = inspect_task means k name (mesh_at named name) named
step_task means k limits script line (Combine op name left right) named = combine_task means limits op name left right named
step_task means k limits script line (Make name solid) named = make_task limits script line name solid named
step_task means k limits script line (Move name old motion) named = move_task script line name old motion named
step_task means k limits script line (Tidy name old) named = tidy_task name old (mesh_at named old) named
step_task means k limits script line (Remesh name old) named = remesh_task means limits name old (mesh_at named old) named
step_task means k limits script line (Polygon name ring) named = polygon_task name ring named
step_task means k limits script line (Combine2 op name left right) named = combine2_task means limits op name left right named
step_task means k limits script line (Extrude name old low high) named = extrude_task means limits script line name old low high named
step_task means k limits script line Exact named = give (Ok named)

-- what steps hand on: the kernels under which operations are taken from here on, and what each name holds that holds something
pub record State : Type 0 where
  pub kernels : KernelKind
  pub named : Named

-- before any step operations are taken under the kernels of the grid
abbrev pub at_first : State
at_first = record { kernels = Grid; named = no_names }

-- the state after a step that left these names
abbrev pub state_after : Step → State → Named → State
state_after step state named = record { kernels = kernels_after step state.kernels; named = named }

-- a line of the script: its step, by what operations mean under the kernels of the state
abbrev pub line_task : (KernelKind → Meanings) → ℕ → Limits → Bytes → Line → State → Task State
line_task means k limits script l state =
    then_task (step_task (means state.kernels) k limits script l.0 l.1 state.named) (λ named.
    give (Ok (state_after l.1 state named)))

-- tasks in order, each with the value that the one before handed on
abbrev pub in_order : {L A : Type 0} → (L → A → Task A) → List L → A → Task A
in_order task [] a = give (Ok a)
in_order task (l ∷ ls) a = then_task (task l a) (λ b. in_order task ls b)

-- these lines of the script in order
abbrev pub steps_task : (KernelKind → Meanings) → ℕ → Limits → Bytes → List Line → State → Task State
steps_task means k limits script lines state = in_order (line_task means k limits script) lines state

-- the lines of a script of this name, or its first fault as a refusal
abbrev pub script_checked : Bytes → Result (List Line) Fault → Result (List Line) Refusal
script_checked name (Err (Bad line kind)) = Err (FaultyScript name line kind)
script_checked name (Err (Over what seen)) = Err (PastLimit what seen)
script_checked name (Ok lines) = Ok lines

-- the file of a script is read, the whole script before any step
abbrev pub script_task : (KernelKind → Meanings) → ℕ → Limits → Bytes → Task (Unit {0})
script_task means k limits name =
    then_task (ask_file limits name) (λ bytes.
    then_task (give (script_checked name (script k bytes))) (λ lines.
    then_task (steps_task means k limits name lines at_first) (λ _. give (Ok tt))))
