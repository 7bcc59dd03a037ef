use Rattle.std.proofs.Common.{◌∙◌, ap, arith, length, subst, sym}
use Rattle.plane_filling.specs.Pieces.{CanBeFilled}
use Rattle.plane_remesh.proofs.PlanFilled.{filled_as, not_sound}
use Rattle.plane_remesh.proofs.Viewing.{stored_many}
use Rattle.plane_remesh.proofs.plan.Plan.filled.Goals as goal

pub fill_all-requires-clause-marks : goal.fill_all-requires-clause-marks
fill_all-requires-clause-marks c =
    let r = c.requires in ap length c.deref-3.ensures.value ∙ r.3.marks ∙ sym (stored_many r.0 r.1 c.args.surface.now r.2) ∙ sym (ap length c.deref-2.ensures.value)

pub fill_all-requires-clause-few : goal.fill_all-requires-clause-few
fill_all-requires-clause-few c =
    let r = c.requires in
    let few = r.2.few in omega (arith, ap length c.deref-2.ensures.value, stored_many r.0 r.1 c.args.surface.now r.2, few)

pub fill_all-requires-clause-regions : goal.fill_all-requires-clause-regions
fill_all-requires-clause-regions c =
    let r = c.requires in
    let many = ap length c.deref-2.ensures.value ∙ stored_many r.0 r.1 c.args.surface.now r.2 in
    let at = ap length (c.deref.ensures.value ∙ r.2.stored) in
    subst (λ n. CanBeFilled n (length c.deref.result.now) c.args.self.now.regions) (sym many)
    (subst (λ n. CanBeFilled (length r.1) n c.args.self.now.regions) (sym at) r.3.regions)

pub fill_all-requires-clause-full : goal.fill_all-requires-clause-full
fill_all-requires-clause-full c = let r = c.requires in r.3.full ∙ sym (ap length (c.deref.ensures.value ∙ r.2.stored))

pub fill_all-requires-clause-noted : goal.fill_all-requires-clause-noted
fill_all-requires-clause-noted c = c.requires.3.noted

pub returns-then-not-self : goal.returns-then-not-self
returns-then-not-self c = λ points all is plan. not_sound points all c.args.self.now plan c.if-not-self.true

pub returns : goal.returns
returns c = λ points all is plan.
    filled_as points all c.args.surface.now is c.args.self.now plan c.if-not-self.false c.fill_all.result c.deref.result.now c.deref-2.result.now c.deref-3.result.now
    c.deref.ensures.value c.deref-2.ensures.value c.deref-3.ensures.value c.fill_all.ensures
