-- The solid over an outline, and why there is none.
use Rattle.std.specs.Prelude.{◌⊎◌, ℕ, ℤ, nat_lt, int_le, if◌then◌else◌, List, length, Option, Some, None, Result, IsOk, IsErrOf}
use Rattle.std.specs.List.{All}
use Rattle.chain_terms.specs.Chains.{all_edges}
use Rattle.chain_terms.specs.Odd.{SameChain}
use Rattle.chain_terms.specs.Sums.{total}
use Rattle.mesh_terms.specs.Labels.{no_labels}
use Rattle.mesh_terms.specs.Limits.{Limits}
use Rattle.mesh_terms.specs.Meshes.{HasThree, IsBelow, Mesh, Triple}
use Rattle.mb_base.specs.declared.fault.Counted.{Counted}
use Rattle.mb_base.specs.declared.fault.Counted.TheVariants.{Points, Triangles}
use Rattle.face_plane.specs.Planes.{area, plane_of, point_at}
use Rattle.ring_cutting.specs.Cuts.{Cut}
use Rattle.triangulate.specs.Fills.{fill_of}
use Rattle.outline_terms.specs.Extrusion.{extruded_points, extruded_triples}
use Rattle.outline_terms.specs.Outlines.{Outline, outline_edges}
use Rattle.cross_section.specs.declared.extrusion.fault.ExtrudeFault.{ExtrudeFault}
use Rattle.cross_section.specs.declared.extrusion.fault.ExtrudeFault.TheVariants.{FlatSolid, NoMemory, Over}

-- the filling of its loops, seen along z
abbrev pub filling_of : Outline → Cut
filling_of o = fill_of 2 o.points o.loops

-- the solid from a low height to a high one, with empty labels
abbrev pub extruded : Outline → ℤ → ℤ → Mesh
extruded o low high =
    let ts = extruded_triples (length o.points) (filling_of o).triples (outline_edges o) in
    record { points = extruded_points low high o.points; triples = ts; labels = no_labels ts }

-- the outline's doubled area: that of all loops, of which one that runs to the right counts below 0
abbrev pub doubled_area : Outline → ℤ
doubled_area o = total (area (plane_of 2 (point_at o.points))) o.loops

-- triangles on the outline's vertices that have the boundary of its loops
pub record AreOver (o : Outline) (ts : List Triple) : Type 0 where
  pub three : All HasThree ts
  pub below : All (IsBelow (length o.points)) ts
  pub chain : SameChain (all_edges ts) (outline_edges o)

-- a count that exceeds its limit
abbrev pub over : Counted → ℕ → ℕ → Option ExtrudeFault
over what most seen = if nat_lt most seen then Some (Over what seen) else None

-- the first of two reasons
abbrev pub first_reason : Option ExtrudeFault → Option ExtrudeFault → Option ExtrudeFault
first_reason None other = other
first_reason (Some why) other = Some why

-- why there is no solid of so many points between two heights, however its triangles are
abbrev pub flat_or_over : Limits → ℤ → ℤ → ℕ → Option ExtrudeFault
flat_or_over limits low high points = if int_le high low then Some FlatSolid else over Points limits.points points

-- why there is no solid: the low height is not below the high one, or it has too many points, or too many triangles
abbrev pub extrusion_fault : Limits → Outline → ℤ → ℤ → Option ExtrudeFault
extrusion_fault limits o low high =
    let m = extruded o low high in first_reason (flat_or_over limits low high (length m.points)) (over Triangles limits.triangles (length m.triples))

-- where there is a reason it is the answer, and otherwise all is done; or memory is wanting
abbrev pub IsRefusedFor : {X : Type 0} → Option ExtrudeFault → Result X ExtrudeFault → Type 0
IsRefusedFor (Some why) r = IsErrOf r why ⊎ IsErrOf r NoMemory
IsRefusedFor None r = IsOk r ⊎ IsErrOf r NoMemory
