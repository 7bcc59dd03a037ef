use Rattle.std.proofs.Common.{◌≡◌, take, map}
use Rattle.lean.specs.Leans.{is_up, normals_of}
use Rattle.lean.proofs.marks.leans.Given as goal

abbrev pub invariant-loop-normal : goal.invariant-loop-normal
invariant-loop-normal l = record {
  marks : l.ups.items ≡ map (map (is_up l.op)) (take l.normal-index l.normal-items);
  sums : l.normal-items ≡ normals_of l.mesh.points l.mesh.triples;
}
