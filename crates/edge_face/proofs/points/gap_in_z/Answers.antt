use Rattle.shadow_kernels.proofs.Values.{kept_gap}
use Rattle.edge_face.proofs.points.gap_in_z.Goals as goal

pub returns-clause-value : goal.returns-clause-value
returns-clause-value c = kept_gap c.gap_of.ensures.value c.requires.pz c.requires.qz
