-- The mesh that was read.
use Rattle.mesh_terms.specs.Meshes.{Soup}
use Rattle.mesh_files.specs.declared.reading.Read.{Read}
use Rattle.mesh_files.specs.Reasons.{soup_of}

-- the mesh that was read
abbrev pub soup_with : Read → Soup
soup_with read = soup_of read.mesh read.unused
