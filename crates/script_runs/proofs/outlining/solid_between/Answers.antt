use Rattle.std.proofs.Common.{Ok, ℤ, subst}
use Rattle.cross_section.proofs.Solids.{kept_32}
use Rattle.cross_section.specs.Extruded.{IsRefusedFor, extrusion_fault}
use Rattle.script_runs.proofs.OutlineStages.{is_extruded}
use Rattle.script_runs.proofs.outlining.solid_between.Goals as goal

pub returns-in-Ok-clause-meets : goal.returns-in-Ok-clause-meets
returns-in-Ok-clause-meets c =
    let limits = c.args.at.now.limits.now in
    let o = c.args.outline.now in
    let low = kept_32 c.args.heights.low c.requires.low in
    let high = kept_32 c.args.heights.high c.requires.high in
    is_extruded limits c.args.at.now.script.now c.args.at.now.line o c.args.heights.low c.args.heights.high c.in-Ok.extruded
    (subst (λ (z : ℤ × ℤ). IsRefusedFor (extrusion_fault limits o z.0 z.1) (Ok c.in-Ok.extruded)) (λ i. (low i, high i)) c.in-Ok.ensures.refused)
