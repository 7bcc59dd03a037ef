use Rattle.shadow_kernels.specs.Levels.{three}
use Rattle.shadow_kernels.proofs.Steps.{same_tally}
use Rattle.shadow_kernels.proofs.tally.face_tally.Goals as goal

pub returns-clause-tally : goal.returns-clause-tally
returns-clause-tally g c =
    same_tally c.tally_of_three.result _ _ c.tally_of_three.ensures.tally
    (three _ _ _ _ _ _ c.edge_meet.ensures.value c.edge_meet-2.ensures.value c.edge_meet-3.ensures.value)
