use Rattle.std.proofs.Common.{◌==◌, drop}
use Rattle.chain_terms.specs.Chains.{all_edges}
use Rattle.chain_terms.specs.Ranks.{start}
use Rattle.mesh_terms.specs.Meshes.{triples_of}
use Rattle.angle_pairing.proofs.Bracketing.{AreLate, IsReading}
use Rattle.angle_pairing.proofs.brackets.pair_round.Given as goal

-- read so far
abbrev pub invariant-loop-half : goal.invariant-loop-half
invariant-loop-half l = IsReading (λ h. start (all_edges (triples_of l.triples)) h == l.high) l.order l.half-index l.left.items l.held.items l.fn.twins l.twins

-- still to be closed
abbrev pub invariant-loop-late : goal.invariant-loop-late
invariant-loop-late l = AreLate (λ h. start (all_edges (triples_of l.triples)) h == l.high) l.order (drop l.late-index l.late-items) l.held.items l.fn.twins l.twins
