-- The laws of operations under the kernels that a script may choose, as statements.
use Rattle.std.specs.Prelude.{ℕ, ◌≤◌}
use Rattle.mb_base.specs.declared.kernel_kind.KernelKind.{KernelKind}
use Rattle.mb_base.specs.declared.op.Op.{Op}
use Rattle.mesh_terms.specs.Given.{IsGiven, IsGivenWithin}
use Rattle.mesh_terms.specs.Limits.{IsLawful, Limits}
use Rattle.mesh_terms.specs.Meshes.{Mesh}
use Rattle.play_laws.specs.ScriptsReadingBack.{ResultsReadable}
use Rattle.mesh_boolean.specs.Operation.{operation}
use Rattle.operation_laws.specs.Kernels.{meanings_under, tests_under, told_of}

-- of two accepted meshes at points of the grid an operation makes one within lawful limits, where the half-edges are within them
abbrev pub OperationsAreAccepted : Type 0
OperationsAreAccepted =
    (limits : Limits) → IsLawful limits → (kernels : KernelKind) (op : Op) (p q : Mesh) → IsGiven p → IsGiven q
    → (operation (tests_under kernels) op p q).halfedges ≤ limits.halfedges → IsGivenWithin limits (told_of (operation (tests_under kernels) op p q)).mesh

-- and what a script makes by operations and remeshing of meshes that are read of their texts is read of its text
abbrev pub OperationsAreReadable : Type 0
OperationsAreReadable = (k : ℕ) (limits : Limits) → k ≤ 6 → IsLawful limits → (kernels : KernelKind) → ResultsReadable (meanings_under kernels) k limits
