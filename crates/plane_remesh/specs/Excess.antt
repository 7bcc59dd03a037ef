-- Which answers an excess stands for.
use Rattle.std.specs.Prelude.{Option, Some, None}
use Rattle.mesh_terms.specs.Faults as terms
use Rattle.made_terms.specs.Refusals.{MadeFault, Flat, Outside, Exceeds}
use Rattle.mb_base.specs.declared.fault.Counted.{Counted}
use Rattle.mb_base.specs.declared.fault.Counted.TheVariants.{FileBytes, Points, Triangles, Halfedges}
use Rattle.plane_remesh.specs.declared.outcome.RemeshFault.{RemeshFault}
use Rattle.plane_remesh.specs.declared.outcome.RemeshFault.TheVariants.{Over}

-- what is counted
abbrev pub counted : terms.Counted → Counted
counted terms.FileBytes = FileBytes
counted terms.Points = Points
counted terms.Triangles = Triangles
counted terms.Halfedges = Halfedges

-- the answer that an excess gives; no other reason comes
abbrev pub refusal : Option MadeFault → Option RemeshFault
refusal None = None
refusal (Some Flat) = None
refusal (Some Outside) = None
refusal (Some (Exceeds what seen)) = Some (Over (counted what) seen)
