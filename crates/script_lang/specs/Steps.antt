-- The commands and the steps as the definitions of scripts have them.
use Rattle.made_terms.specs.declared.motion.Motion.TheVariants as moves
use Rattle.made_terms.specs.declared.solid.Solid.TheVariants as makes
use Rattle.play_terms.specs.ScriptCommands as named
use Rattle.play_terms.specs.Steps as terms
use Rattle.script_lang.specs.declared.commands.CommandWord.{CommandWord}
use Rattle.script_lang.specs.declared.commands.CommandWord.TheVariants as commands
use Rattle.script_lang.specs.declared.motions.MotionCommand.{MotionCommand}
use Rattle.script_lang.specs.declared.motions.MotionCommand.TheVariants as motions
use Rattle.script_lang.specs.declared.solids.SolidCommand.{SolidCommand}
use Rattle.script_lang.specs.declared.solids.SolidCommand.TheVariants as solids
use Rattle.script_lang.specs.declared.steps.Line.{Line}
use Rattle.script_lang.specs.declared.steps.Step.{Step}
use Rattle.script_lang.specs.declared.steps.Step.TheVariants.{Load, Save, Measure, Inspect, Combine, MakeBox, MakeTetra, MakePrism, MakeLattice, Shift, Scale, Mirror, Turn, Tidy, Remesh, Polygon, Combine2, Extrude, Exact}

abbrev pub making : SolidCommand → named.ScriptCommand
making solids.Box = named.box
making solids.Tetra = named.tetra
making solids.Prism = named.prism
making solids.Lattice = named.lattice

abbrev pub moving : MotionCommand → named.ScriptCommand
moving motions.Shift = named.shift
moving motions.Scale = named.scale
moving motions.Mirror = named.mirror
moving motions.Turn = named.turn

abbrev pub command_of : CommandWord → named.ScriptCommand
command_of commands.Load = named.load
command_of commands.Save = named.save
command_of commands.Measure = named.measure
command_of commands.Inspect = named.inspect
command_of (commands.Combine op) = named.combine op
command_of (commands.Make solid) = making solid
command_of (commands.Move motion) = moving motion
command_of commands.Tidy = named.tidy
command_of commands.Remesh = named.remesh
command_of commands.Polygon = named.polygon
command_of (commands.Combine2 op) = named.combine2 op
command_of commands.Extrude = named.extrude
command_of commands.Exact = named.exact

abbrev pub step_of : Step → terms.Step
step_of (Load name file) = terms.Load name file
step_of (Save name file) = terms.Save name file
step_of (Measure name) = terms.Measure name
step_of (Inspect name) = terms.Inspect name
step_of (Combine op name left right) = terms.Combine op name left right
step_of (MakeBox name low high) = terms.Make name (makes.Box low high)
step_of (MakeTetra name at size) = terms.Make name (makes.Tetra at size)
step_of (MakePrism name at size height) = terms.Make name (makes.Prism at size height)
step_of (MakeLattice name n seed) = terms.Make name (makes.Lattice n seed)
step_of (Shift name source by) = terms.Move name source (moves.Shift by)
step_of (Scale name source factor) = terms.Move name source (moves.Scale factor)
step_of (Mirror name source axis) = terms.Move name source (moves.Mirror axis)
step_of (Turn name source axis) = terms.Move name source (moves.Turn axis)
step_of (Tidy name source) = terms.Tidy name source
step_of (Remesh name source) = terms.Remesh name source
step_of (Polygon name ring) = terms.Polygon name ring
step_of (Combine2 op name left right) = terms.Combine2 op name left right
step_of (Extrude name source low high) = terms.Extrude name source low high
step_of Exact = terms.Exact

abbrev pub line_of : Line → terms.Line
line_of l = (l.line, step_of l.step)
