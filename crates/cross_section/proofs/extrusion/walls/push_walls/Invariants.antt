use Rattle.std.proofs.Common.{◌≡◌, ◌++◌, take}
use Rattle.std.specs.List.{flat_map}
use Rattle.mesh_terms.specs.Meshes.{triples_of}
use Rattle.outline_terms.specs.Extrusion.{walls}
use Rattle.cross_section.proofs.extrusion.walls.push_walls.Given as goal

abbrev pub invariant-loop-from : goal.invariant-loop-from
invariant-loop-from l = triples_of l.triples.items ≡ triples_of l.fn.triples.items ++ flat_map (walls l.count) (take l.from-index l.edges)
