use Rattle.std.proofs.Common.{refl}
use Rattle.shadow_kernels.specs.Lawful.{grid_rule}
use Rattle.shadow_kernels.specs.RuleLaws.{laws02}
use Rattle.shadow_kernels.specs.Shadows.{meet02}
use Rattle.shadow_kernels.proofs.Decisions.{when_beyond, mark_of_tally}
use Rattle.shadow_kernels.proofs.grid_rule.is_vertex_above_face.Goals as goal

pub returns-in-Some : goal.returns-in-Some
returns-in-Some g c =
    when_beyond (laws02 (grid_rule _ (record { within = g.met.R.Rounding.within c.args.kernel.now.rounding }))) refl _ _ c.told-p c.told-q c.requires.p_fine
    c.requires.q_fine _ c.in-Some.ensures

pub returns-in-None : goal.returns-in-None
unfolding meet02
returns-in-None g c = mark_of_tally _ _ _ _ c.face_tally.ensures.tally c.is_above.ensures
