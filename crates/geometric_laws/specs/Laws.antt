-- The law of geometric operations, as statements.
use Rattle.std.specs.Prelude.{◌≡◌, ◌≤◌, ℕ, List, Ok}
use Rattle.mb_base.specs.declared.kernel_kind.KernelKind.TheVariants.{Exact}
use Rattle.mb_base.specs.declared.op.Op.{Op}
use Rattle.mesh_terms.specs.Limits.{IsLawful, Limits}
use Rattle.mesh_terms.specs.Meshes.{Mesh}
use Rattle.run_terms.specs.Files.{Bytes, Files}
use Rattle.shadow_kernels.specs.Spots.{Between}
use Rattle.edge_face.specs.Crossings.{Settle}
use Rattle.exact_kernels.specs.Exact.{exact}
use Rattle.mesh_terms.specs.Given.{IsGiven}
use Rattle.play_terms.specs.Plays.{State, at_first, mesh_at, steps_task}
use Rattle.play_terms.specs.Sound.{HavePlaces}
use Rattle.play_terms.specs.Steps.{Line}
use Rattle.mesh_boolean.specs.Operation.{operation}
use Rattle.operation_laws.specs.Kernels.{meanings_under, tests_of, tests_under}
use Rattle.geometric_laws.specs.Geometric.{IsGeometric}

-- under exact kernels, with whatever rounding, an operation on two accepted meshes at points of the grid keeps their vertices so
abbrev pub OperationsAreGeometric : Type 0
OperationsAreGeometric =
    (w : Between) (settle : Settle) (op : Op) (p q : Mesh) → IsGiven p → IsGiven q → IsGeometric op p q (operation (tests_of exact w settle) op p q).copies

-- whatever lines of a script were done, over whatever files, an operation on the meshes of two names keeps their vertices so, where the lines chose exact kernels
abbrev pub GivesGeometric : ℕ → Limits → Bytes → Type 0
GivesGeometric k limits script =
    (files : Files) (lines : List Line) (state : State) → HavePlaces lines → (steps_task meanings_under k limits script lines at_first files).result ≡ Ok state
    → state.kernels ≡ Exact → (op : Op) (left right : Bytes)
    → IsGeometric op (mesh_at state.named left) (mesh_at state.named right)
    (operation (tests_under state.kernels) op (mesh_at state.named left) (mesh_at state.named right)).copies

-- so it is in every script, under lawful limits
abbrev pub ScriptsAreGeometric : Type 0
ScriptsAreGeometric = (k : ℕ) (limits : Limits) → k ≤ 6 → IsLawful limits → (script : Bytes) → GivesGeometric k limits script
