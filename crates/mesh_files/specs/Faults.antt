-- The stops that the faults of a text and of a mesh become.
use Rattle.mb_base.specs.declared.fault.TextFault as texts
use Rattle.mesh_check.specs.declared.mesh.MeshFault as meshes
use Rattle.mesh_files.specs.declared.stop.Stop.{Stop}
use Rattle.mesh_files.specs.declared.stop.Stop.TheVariants.{BadText, BadEdge, Over, NoMemory}

abbrev pub stop_of_text : texts.TextFault → Stop
stop_of_text (texts.TheVariants.Bad line kind) = BadText line kind
stop_of_text (texts.TheVariants.Over what seen) = Over what seen
stop_of_text texts.TheVariants.NoMemory = NoMemory

abbrev pub stop_of_mesh : meshes.MeshFault → Stop
stop_of_mesh (meshes.TheVariants.OpenEdge from to) = BadEdge from to
stop_of_mesh meshes.TheVariants.NoMemory = NoMemory
