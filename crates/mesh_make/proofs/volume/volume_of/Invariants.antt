use Rattle.std.proofs.Common.{◌≡◌, ◌*◌, ◌^◌, take}
use Rattle.chain_laws.specs.Sums.{IsWithin}
use Rattle.mesh_terms.specs.Meshes.{triples_of}
use Rattle.mesh_terms.specs.Volume.{volume6_of}
use Rattle.mesh_make.proofs.volume.volume_of.Given as goal

abbrev pub invariant-loop-triple : goal.invariant-loop-triple
invariant-loop-triple l = record {
  value : l.volume ≡ volume6_of l.points (triples_of (take l.triple-index l.triples));
  small : IsWithin l.volume (6 * 2 ^ 90 * l.triple-index);
}
