-- What a name holds, as the definitions of scripts have it.
use Rattle.play_terms.specs.Plays as terms
use Rattle.script_runs.specs.declared.names.Held.{Held}
use Rattle.script_runs.specs.declared.names.Held.TheVariants.{Mesh, Outline}

abbrev pub held_of : Held → terms.Held
held_of (Mesh mesh) = terms.OfMesh mesh
held_of (Outline outline) = terms.OfOutline outline
