use Rattle.std.proofs.Common.{◌≡◌, length}
use Rattle.mesh_terms.specs.Meshes.{triples_of}
use Rattle.angle_pairing.proofs.Changing.{AreTaken}
use Rattle.angle_pairing.proofs.changes.change_partners.Given as goal

abbrev pub invariant-loop-half : goal.invariant-loop-half
invariant-loop-half l = record {
  full : length l.twins ≡ length l.initial.twins;
  taken : AreTaken (triples_of l.triples) l.initial.twins l.twins l.labels.items l.half;
}
