use Rattle.outline_terms.proofs.Extruding.{extrusion_closed}
use Rattle.outline_terms.proofs.SolidExtrusion.{extrusion_solid}
use Rattle.outline_terms.proofs.Volume.{extrusion_volume}
use Rattle.outline_terms.proofs.extrusion_closes.Goals as goal

pub returns-clause-closed : goal.returns-clause-closed
returns-clause-closed c = extrusion_closed

pub returns-clause-solid : goal.returns-clause-solid
returns-clause-solid c = extrusion_solid

pub returns-clause-volume : goal.returns-clause-volume
returns-clause-volume c = λ low high points ts es below inside same. extrusion_volume low high points ts es below inside same
