-- Why no vertices are prescribed.
use Rattle.std.specs.Prelude.{◌≡◌, ℕ, ◌<◌, ◌≤◌}
use Rattle.retained_verts.specs.declared.list.PrescribeFault.{PrescribeFault}
use Rattle.retained_verts.specs.declared.list.PrescribeFault.TheVariants.{TooLarge, NoMemory}

-- the half-edges are too many for the limit exactly where the fault says so, and it names their number
abbrev pub IsFaultAt : (limit halfedges : ℕ) → PrescribeFault → Type 0
IsFaultAt limit halfedges (TooLarge seen) = (limit < halfedges) × (seen ≡ halfedges)
IsFaultAt limit halfedges NoMemory = halfedges ≤ limit
