-- Which answers a reason stands for.
use Rattle.std.specs.Prelude.{◌⊎◌, Option, Some, None, Result, IsOk, IsErrOf}
use Rattle.mesh_terms.specs.Faults as terms
use Rattle.made_terms.specs.Refusals.{MadeFault, Flat, Outside, Exceeds}
use Rattle.mb_base.specs.declared.fault.Counted.{Counted}
use Rattle.mb_base.specs.declared.fault.Counted.TheVariants.{FileBytes, Points, Triangles, Halfedges}
use Rattle.mesh_make.specs.declared.fault.MakeFault.{MakeFault}
use Rattle.mesh_make.specs.declared.fault.MakeFault.TheVariants.{OutOfGrid, FlatSolid, Over, NoMemory}

-- what is counted
abbrev pub counted : terms.Counted → Counted
counted terms.FileBytes = FileBytes
counted terms.Points = Points
counted terms.Triangles = Triangles
counted terms.Halfedges = Halfedges

-- the answer that a reason gives
abbrev pub fault : MadeFault → MakeFault
fault Flat = FlatSolid
fault Outside = OutOfGrid
fault (Exceeds what seen) = Over (counted what) seen

-- the answers of reasons
abbrev pub refusal : Option MadeFault → Option MakeFault
refusal None = None
refusal (Some why) = Some (fault why)

-- where there is a reason it is the answer; otherwise all is done, or memory is wanting
abbrev pub IsRefusedFor : {X : Type 0} → Option MadeFault → Result X MakeFault → Type 0
IsRefusedFor (Some why) r = IsErrOf r (fault why)
IsRefusedFor None r = IsOk r ⊎ IsErrOf r NoMemory
