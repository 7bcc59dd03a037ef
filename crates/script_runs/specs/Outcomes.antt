-- What an operation gave in the program.
use Rattle.std.specs.Prelude.{◌≡◌, [], ◌∷◌}
use Rattle.mesh_boolean.specs.declared.outcome.Outcome.{Outcome}
use Rattle.cross_section.specs.Outcome.{Outcome as Flat}
use Rattle.operation_laws.specs.Kernels.{told2_of}
use Rattle.play_terms.specs.Combined.{Combined, Combined2}

-- its mesh, and the numbers that are told of it
pub record IsOutcome (o : Combined) (r : Outcome) : Type 0 where
  pub mesh : r.mesh ≡ o.mesh
  pub kept : r.prescribed.kept ≡ o.p_kept ∷ o.q_kept ∷ []
  pub crossings : r.prescribed.crossings ≡ o.crossings
  pub forced : r.forced ≡ o.forced

-- the outline of an operation, and the numbers that are told of it
abbrev pub IsOutcome2 : Combined2 → Flat → Type 0
IsOutcome2 o f = told2_of f ≡ o
