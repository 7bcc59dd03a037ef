-- Why a script stops that makes no solid or moves no mesh, and what it makes of an outline.
use Rattle.std.specs.Prelude.{ℕ, ℤ, Result}
use Rattle.mb_base.specs.Faults.{counted_of}
use Rattle.cross_section.specs.Extruded.{extruded, filling_of}
use Rattle.mesh_make.specs.declared.fault.MakeFault.{MakeFault}
use Rattle.mesh_make.specs.declared.fault.MakeFault.TheVariants.{OutOfGrid, FlatSolid, Over, NoMemory}
use Rattle.mesh_terms.specs.Limits.{Limits}
use Rattle.outline_terms.specs.Outlines.{Outline}
use Rattle.play_terms.specs.Combined.{Extruded}
use Rattle.play_terms.specs.Plays.{extruded as extruded_or_not, extrusion_fault}
use Rattle.run_terms.specs.Files.{Bytes}
use Rattle.run_terms.specs.Meets.{Why, Refused, Starved}
use Rattle.run_terms.specs.Tasks.{FaultyStep, PastLimit, Refusal}

-- on this line of the script
abbrev pub why_unmade : Bytes → ℕ → MakeFault → Why
why_unmade script line OutOfGrid = Refused (FaultyStep script line 15)
why_unmade script line FlatSolid = Refused (FaultyStep script line 16)
why_unmade script line (Over what seen) = Refused (PastLimit (counted_of what) seen)
why_unmade script line NoMemory = Starved

-- the solid between an outline at two heights, as far as a script tells it
abbrev pub solid_of : Outline → ℤ → ℤ → Extruded
solid_of o low high = record { mesh = extruded o low high; forced = (filling_of o).forced }

-- or why there is none
abbrev pub solid_or_not : Bytes → ℕ → Limits → Outline → ℤ → ℤ → Result Extruded Refusal
solid_or_not script line limits o low high =
    let e = solid_of o low high in extruded_or_not script line (extrusion_fault limits low high e.mesh) e
