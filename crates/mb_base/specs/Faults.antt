-- The faults of a text, as the definitions of texts have them.
use Rattle.std.specs.Prelude.{ℕ, Option, Some, None}
use Rattle.mesh_terms.specs.Faults as terms
use Rattle.mb_base.specs.declared.fault.Counted.{Counted}
use Rattle.mb_base.specs.declared.fault.Counted.TheVariants.{FileBytes, Points, Triangles, Halfedges}
use Rattle.mb_base.specs.declared.fault.TextKind.{TextKind}
use Rattle.mb_base.specs.declared.fault.TextKind.TheVariants.{UnknownLine, BadVertex, BadNumber, OutOfGrid, BadFace, BadIndex, FaceRepeatsVertex, NotStl}
use Rattle.mb_base.specs.declared.fault.TextFault.{TextFault}
use Rattle.mb_base.specs.declared.fault.TextFault.TheVariants.{Bad, Over, NoMemory}

-- the number of a kind
abbrev pub kind_number : TextKind → ℕ
kind_number UnknownLine = 1
kind_number BadVertex = 2
kind_number BadNumber = 3
kind_number OutOfGrid = 4
kind_number BadFace = 5
kind_number BadIndex = 6
kind_number FaceRepeatsVertex = 7
kind_number NotStl = 10

abbrev pub counted_of : Counted → terms.Counted
counted_of FileBytes = terms.FileBytes
counted_of Points = terms.Points
counted_of Triangles = terms.Triangles
counted_of Halfedges = terms.Halfedges

-- the fault of the text; want of memory is none
abbrev pub fault_of : TextFault → Option terms.Fault
fault_of (Bad line kind) = Some (terms.Bad line (kind_number kind))
fault_of (Over what seen) = Some (terms.Over (counted_of what) seen)
fault_of NoMemory = None
