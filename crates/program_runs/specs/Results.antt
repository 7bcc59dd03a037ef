-- What the operations of a command give and keep, what remeshing keeps, what its names hold, and what is read of their STL texts.
use Rattle.std.specs.Prelude.{Option, Some, None}
use Rattle.geometric_laws.specs.Laws.{GivesGeometric}
use Rattle.mesh_terms.specs.Limits.{Limits}
use Rattle.operation_laws.specs.Results.{GivesRemeshed, GivesResults}
use Rattle.play_terms.specs.Words.{Command, CopyFile, InsideFile, RunScript}
use Rattle.play_laws.specs.ScriptsReadingBack.{KeepsMeshes}
use Rattle.stl_laws.specs.ReadingBack.{CopiesStl, GivesStl}
use Rattle.program_runs.specs.Playing.{meanings}

-- whatever lines of the script that it does, if it does one, an operation is a result of its meshes
abbrev pub CommandGivesResults : Limits → Option Command → Type 0
CommandGivesResults limits None = Unit {0}
CommandGivesResults limits (Some (CopyFile k from to)) = Unit {0}
CommandGivesResults limits (Some (InsideFile k file p)) = Unit {0}
CommandGivesResults limits (Some (RunScript k script)) = GivesResults k limits script

-- and, where these lines chose exact kernels, an operation keeps the vertices of its meshes by their geometric winding numbers
abbrev pub CommandIsGeometric : Limits → Option Command → Type 0
CommandIsGeometric limits None = Unit {0}
CommandIsGeometric limits (Some (CopyFile k from to)) = Unit {0}
CommandIsGeometric limits (Some (InsideFile k file p)) = Unit {0}
CommandIsGeometric limits (Some (RunScript k script)) = GivesGeometric k limits script

-- and what remeshing keeps holds of the mesh of each name
abbrev pub CommandRemeshes : Limits → Option Command → Type 0
CommandRemeshes limits None = Unit {0}
CommandRemeshes limits (Some (CopyFile k from to)) = Unit {0}
CommandRemeshes limits (Some (InsideFile k file p)) = Unit {0}
CommandRemeshes limits (Some (RunScript k script)) = GivesRemeshed k limits script

-- whatever lines of the script that it does, if it does one, the mesh of each name is read of its texts, its tidied mesh
-- is a tidy one of it, and a line that saves it writes its text; and the outline of each name is one at points of the grid
abbrev pub CommandKeepsMeshes : Limits → Option Command → Type 0
CommandKeepsMeshes limits None = Unit {0}
CommandKeepsMeshes limits (Some (CopyFile k from to)) = Unit {0}
CommandKeepsMeshes limits (Some (InsideFile k file p)) = Unit {0}
CommandKeepsMeshes limits (Some (RunScript k script)) = KeepsMeshes meanings.scripts k limits script

-- and of the STL text of each such mesh, or of the mesh that it copies, wherever it stands and is not too long, this mesh is read welded, closed again
abbrev pub CommandReadsStl : Limits → Option Command → Type 0
CommandReadsStl limits None = Unit {0}
CommandReadsStl limits (Some (CopyFile k from to)) = CopiesStl k limits from
CommandReadsStl limits (Some (InsideFile k file p)) = Unit {0}
CommandReadsStl limits (Some (RunScript k script)) = GivesStl meanings.scripts k limits script
