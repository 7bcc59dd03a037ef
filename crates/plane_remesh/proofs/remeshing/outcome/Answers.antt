use Rattle.std.proofs.Common.{Option, ◌≡◌, false, refl, subst, true}
use Rattle.std.specs.Prelude.{MatchOption}
use Rattle.mesh_terms.specs.Meshes.{Mesh}
use Rattle.plane_remesh.specs.Rules.{IsMade, makes}
use Rattle.plane_remesh.proofs.Outcomes.{left_ok, outcome_taken}
use Rattle.plane_remesh.proofs.remeshing.outcome.Goals as goal

pub returns-in-Some : goal.returns-in-Some
returns-in-Some c = λ points surface plan.
    let m = c.args.mesh.now in
    let told =
    subst (λ (o : Option Mesh). MatchOption o (makes points m ≡ false) (λ new. (makes points m ≡ true) × IsMade points m new)) c.in-Some.is
    (c.in_ok-new.ensures points surface plan) in
    outcome_taken points m c.in-Some.new _ told.0 told.1 refl surface.planes.count plan.kept

pub returns-in-None : goal.returns-in-None
returns-in-None c = λ points surface plan.
    let m = c.args.mesh.now in
    let told =
    subst (λ (o : Option Mesh). MatchOption o (makes points m ≡ false) (λ new. (makes points m ≡ true) × IsMade points m new)) c.in-None.is
    (c.in_ok-new.ensures points surface plan) in
    left_ok points m c.as_it_was.result _ told surface.planes.count c.as_it_was.ensures.mesh c.as_it_was.ensures.planes c.as_it_was.ensures.kept
