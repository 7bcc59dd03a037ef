use Rattle.mesh_check.proofs.WaySteps.{sort_of_halves}
use Rattle.mesh_check.proofs.oriented_ways.oriented_ways.Goals as goal

pub returns-clause-ones : goal.returns-clause-ones
returns-clause-ones c =
    sort_of_halves _ c.in_ok-ones.ones.items _ c.in_ok-ones.ensures.ones c.in_ok-ones.ensures.ones_narrow c.sort_unstable.ensures.permutation c.sort_unstable.ensures.sorted

pub returns-clause-others : goal.returns-clause-others
returns-clause-others c =
    sort_of_halves _ c.in_ok-ones.others.items _ c.in_ok-ones.ensures.others c.in_ok-ones.ensures.others_narrow c.sort_unstable-2.ensures.permutation
    c.sort_unstable-2.ensures.sorted
