use Rattle.std.proofs.Common.{◌≡◌, ◌≤◌, ◌+◌, ◌-◌, ◌++◌, get_or, drop, vec_len, vec_capacity}
use Rattle.mesh_terms.specs.Meshes.{triples_of}
use Rattle.format_terms.specs.ObjFaces.{fan_from, face_fan}
use Rattle.obj_text.proofs.reading.push_fan.Given as goal

-- the triangles so far and those of the vertices that are left are all, and there is room for them
abbrev pub invariant-loop-place : goal.invariant-loop-place
invariant-loop-place l = record {
  added : triples_of l.triples.items ++ fan_from (get_or l.vertices 0 0) (drop l.place l.vertices) ≡ triples_of l.initial.triples.items ++ face_fan l.vertices;
  room : vec_len l.triples + (l.last - l.place) ≤ vec_capacity l.triples;
}
