use Rattle.std.proofs.Common.{arith}
use Rattle.plane_remesh.proofs.LoneSteps.{corners_low, face_low, lone_step, stored_low}
use Rattle.plane_remesh.proofs.Steps.{kept_fits, work_step}
use Rattle.plane_remesh.proofs.Storing.{on_six}
use Rattle.plane_remesh.proofs.plan.Plan.add.Goals as goal

pub add_alone-requires-clause-marks : goal.add_alone-requires-clause-marks
add_alone-requires-clause-marks c =
    let r = c.requires.surface in
    let low = face_low r.0 r.1 c.args.surface.now r.2 c.args.plane c.requires.plane c.in-Some.face c.in-Some.ensures.one in
    omega (arith, low, r.3.marks)

pub add_alone-requires-clause-triples : goal.add_alone-requires-clause-triples
add_alone-requires-clause-triples c =
    let r = c.requires.surface in stored_low r.0 r.1 c.args.surface.now r.2 c.args.plane c.requires.plane c.in-Some.face c.in-Some.ensures.one

pub add_alone-requires-clause-places : goal.add_alone-requires-clause-places
add_alone-requires-clause-places c =
    let r = c.requires.surface in
    corners_low r.0 r.1 c.args.surface.now r.2 c.args.plane c.requires.plane c.in-Some.face c.in-Some.ensures.one _ r.3.full

pub add_work-requires-clause-kept : goal.add_work-requires-clause-kept
add_work-requires-clause-kept c =
    let r = c.requires.surface in
    kept_fits r.0 r.1 c.args.surface.now r.2 c.args.plane c.requires.plane c.in_ok-of-in-None.field-0 (c.in_ok-of-in-None.ensures r.0 r.1 r.2) c.args.self.now r.3

pub returns-in-Some : goal.returns-in-Some
returns-in-Some c = λ points all is was.
    let e = c.add_alone.ensures in
    lone_step points all c.args.surface.now is c.args.plane c.requires.plane c.in-Some.face
    c.in-Some.ensures.one (c.in-Some.ensures.uncut points all is) c.args.self.now c.add_alone.new.self
    was e.marks e.full e.noted e.regions e.sound e.kept e.found

pub returns-in_ok-of-in-None : goal.returns-in_ok-of-in-None
returns-in_ok-of-in-None c = λ points all is was.
    let e = c.add_work.ensures in
    let work = c.in_ok-of-in-None.ensures points all is in
    on_six c.add_work.result _ _ _ _ _ _ _
    (λ regions sound kept found alone ways.
    work_step points all c.args.surface.now is c.args.plane c.requires.plane c.in_ok-of-in-None.field-0
    work (c.in-None.ensures.others points all is) c.args.self.now c.add_work.new.self was
    regions sound kept found alone ways)
    (e.regions points all _ _ work) (e.sound points all _ _ work) e.kept e.found e.alone e.ways
