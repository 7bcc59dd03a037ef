use Rattle.std.proofs.Common.{◌≤◌, take}
use Rattle.std.specs.List.{flat_map}
use Rattle.arrayvec.specs.ArrayVec.{array_vec_len}
use Rattle.mesh_terms.specs.Meshes.{triple_of}
use Rattle.format_terms.specs.StlWritten.{facet_text}
use Rattle.mesh_writer.specs.Passing.{Wrote}
use Rattle.mesh_writer.proofs.stl.write_facets.Given as goal

-- the facets so far were written
abbrev pub invariant-loop-triple : goal.invariant-loop-triple
invariant-loop-triple g l = record {
  free : array_vec_len l.page ≤ 3968;
  wrote : Wrote g.K.Sink (flat_map (λ t. facet_text l.digits l.points (triple_of t)) (take l.triple-index l.triples)) (l.initial.page.items, l.page.items) (l.initial.sink, l.sink);
}
