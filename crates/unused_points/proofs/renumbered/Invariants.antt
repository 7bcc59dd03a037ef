use Rattle.std.proofs.Common.{◌≡◌, List, length, take, drop}
use Rattle.mesh_terms.specs.Meshes.{Triple, triples_of}
use Rattle.unused_points.specs.Used.{NumbersUsed, renamed}
use Rattle.unused_points.proofs.renumbered.Given as goal

-- the triangles so far have the new numbers, the others are as they were
abbrev pub invariant-loop-triple : goal.invariant-loop-triple
invariant-loop-triple l = record {
  done : (ts : List Triple) → NumbersUsed (length l.numbers) ts l.numbers →
      triples_of (take l.triple-index l.triple-items) ≡ renamed ts (triples_of (take l.triple-index l.fn.triples.items));
  rest : drop l.triple-index l.triple-items ≡ drop l.triple-index l.fn.triples.items;
}
