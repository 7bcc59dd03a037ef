-- What names hold, from a list of names with what they hold.
use Rattle.std.specs.Prelude.{◌≡◌, List, Option, IsSome}
use Rattle.std.specs.List.{All}
use Rattle.mb_base.specs.declared.kernel_kind.KernelKind.{KernelKind}
use Rattle.mesh_terms.specs.Meshes.{Mesh}
use Rattle.outline_terms.specs.Outlines.{Outline}
use Rattle.run_terms.specs.Files.{Bytes}
use Rattle.play_terms.specs.Plays.{Held, Named, State, kind_held, mesh_held, outline_held, with_name, with_outline}
use Rattle.play_terms.specs.declared.held.HeldKind.{HeldKind}
use Rattle.play_terms.specs.declared.held.HeldKind.TheVariants as held
use Rattle.play_terms.specs.Steps.{Step, gives, or_before, taken}
use Rattle.script_lang.specs.Names.{beside}

-- what is held beside the first name that is this
abbrev pub named_in : List (Bytes × Held) → Named
named_in names = beside names

-- the state of a script that chose these kernels, with these names
abbrev pub state_in : KernelKind → List (Bytes × Held) → State
state_in kernels names = record { kernels = kernels; named = named_in names }

-- a mesh, or an outline, is held
abbrev pub Holds : HeldKind → Option Held → Type 0
Holds held.Mesh h = IsSome (mesh_held h)
Holds held.Outline h = IsSome (outline_held h)

-- each name that the step takes has a mesh or an outline, as it takes it
abbrev pub HasTaken : Named → Step → Type 0
HasTaken named step = All (λ t. Holds t.0 (named t.1)) (taken step)

-- the name has some mesh, or some outline, and all others have what they had
abbrev pub IsNamed : Bytes → Named → Named → Type 0
IsNamed name old new = (m : Mesh) × (new ≡ with_name name m old)

abbrev pub IsOutlined : Bytes → Named → Named → Type 0
IsOutlined name old new = (o : Outline) × (new ≡ with_outline name o old)

-- each name holds what the step gives it, or what it held, as far as its kind goes
abbrev pub KeepsNames : Step → Named → Named → Type 0
KeepsNames step old new = (w : Bytes) → kind_held (new w) ≡ or_before (gives w step) (kind_held (old w))
