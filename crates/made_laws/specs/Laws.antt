-- The laws of made solids and of motions, as statements.
use Rattle.std.specs.Prelude.{◌≡◌, length, None}
use Rattle.mesh_terms.specs.Given.{IsGiven, IsGivenWithin}
use Rattle.mesh_terms.specs.Limits.{IsLawful, Limits}
use Rattle.mesh_terms.specs.Meshes.{Mesh}
use Rattle.made_terms.specs.Making.{solid_fault, solid_mesh}
use Rattle.made_terms.specs.Motions.{motion_fault, moved_mesh}
use Rattle.made_terms.specs.declared.motion.Motion.{Motion}
use Rattle.made_terms.specs.declared.solid.Solid.{Solid}

-- an accepted mesh at points of the grid, with as many points and triangles as the old one
pub record IsMovedFrom (old new : Mesh) : Type 0 where
  pub given : IsGiven new
  pub same_points : length new.points ≡ length old.points
  pub same_triples : length new.triples ≡ length old.triples

-- under lawful limits a solid that is not refused is an accepted mesh at points of the grid, within the limits
abbrev pub SolidsAreGiven : Type 0
SolidsAreGiven = (limits : Limits) → IsLawful limits → (solid : Solid) → solid_fault limits solid ≡ None → IsGivenWithin limits (solid_mesh solid)

-- a motion that is not refused makes of such a mesh one with as many points and triangles
abbrev pub MotionsKeepGiven : Type 0
MotionsKeepGiven = (motion : Motion) (m : Mesh) → IsGiven m → motion_fault motion m.points ≡ None → IsMovedFrom m (moved_mesh motion m)
