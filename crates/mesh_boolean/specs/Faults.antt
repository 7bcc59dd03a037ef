-- Why an operation gives no mesh.
use Rattle.std.specs.Prelude.{◌≡◌, ℕ, ◌<◌, ⊤}
use Rattle.retained_verts.specs.declared.list.PrescribeFault.{PrescribeFault}
use Rattle.retained_verts.specs.declared.list.PrescribeFault.TheVariants.{NoMemory, TooLarge}

-- the half-edges are too many for the limit where the fault says so, and it names their number; memory may be wanting for any
abbrev pub IsTooLarge : (limit halfedges : ℕ) → PrescribeFault → Type 0
IsTooLarge limit halfedges (TooLarge seen) = (limit < halfedges) × (seen ≡ halfedges)
IsTooLarge limit halfedges NoMemory = ⊤
