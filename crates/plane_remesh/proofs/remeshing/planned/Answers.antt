use Rattle.std.proofs.Common.{Option, ◌≡◌, false, subst, true}
use Rattle.std.specs.Prelude.{MatchOption}
use Rattle.plane_filling.specs.declared.filling.Filled.{Filled}
use Rattle.plan_laws.specs.Placed.{placed_faces}
use Rattle.plane_remesh.specs.Plans.{HasFilled, fills}
use Rattle.plane_remesh.proofs.Making.{not_filled}
use Rattle.plane_remesh.proofs.remeshing.planned.Goals as goal

pub filled-requires : goal.filled-requires
filled-requires c = let r = c.requires in (r.0, placed_faces r.0 c.args.mesh.now, r.1, r.2)

pub made_of-requires : goal.made_of-requires
made_of-requires c =
    let r = c.requires in
    let all = placed_faces r.0 c.args.mesh.now in
    let told =
    subst (λ (o : Option Filled). MatchOption o (fills r.0 all ≡ false) (λ f. (fills r.0 all ≡ true) × HasFilled r.0 all f)) c.in-Some.is
    (c.in_ok-filled.ensures r.0 all r.1 r.2) in
    (r.0, r.1, told.1, told.0)

pub returns-in-Some : goal.returns-in-Some
returns-in-Some c = λ points surface plan.
    let all = placed_faces points c.args.mesh.now in
    let told =
    subst (λ (o : Option Filled). MatchOption o (fills points all ≡ false) (λ f. (fills points all ≡ true) × HasFilled points all f)) c.in-Some.is
    (c.in_ok-filled.ensures points all surface plan) in
    c.made_of.ensures points surface told.1 told.0

pub returns-in-None : goal.returns-in-None
returns-in-None c = λ points surface plan.
    let all = placed_faces points c.args.mesh.now in
    let told =
    subst (λ (o : Option Filled). MatchOption o (fills points all ≡ false) (λ f. (fills points all ≡ true) × HasFilled points all f)) c.in-None.is
    (c.in_ok-filled.ensures points all surface plan) in
    not_filled points c.args.mesh.now told
