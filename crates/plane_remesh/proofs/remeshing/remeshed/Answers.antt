use Rattle.std.proofs.Common.{[], ◌++◌, ◌∙◌, ap, subst, sym}
use Rattle.std.specs.Prelude.{◌==◌, IfOk}
use Rattle.sheet_terms.specs.Places.{place_points}
use Rattle.sheet_terms.specs.Remesh.{with_points}
use Rattle.plan_laws.specs.Placed.{placed_faces}
use Rattle.plane_remesh.specs.Rules.{IsRemeshed}
use Rattle.plane_remesh.proofs.Outcomes.{points_all, points_none}
use Rattle.plane_remesh.proofs.remeshing.remeshed.Goals as goal

pub of-requires-2 : goal.of-requires-2
of-requires-2 c =
    let m = c.args.mesh.now in let points = place_points (m.points ++ []) in (points, placed_faces points m, c.in_ok-surface.ensures)

pub outcome-requires : goal.outcome-requires
outcome-requires c =
    let m = c.args.mesh.now in
    let points = place_points (m.points ++ []) in
    (points, c.in_ok-surface.ensures, c.in_ok-plan.ensures points (placed_faces points m) c.in_ok-surface.ensures)

pub returns-then-is_empty : goal.returns-then-is_empty
returns-then-is_empty c =
    let m = c.args.mesh.now in
    let points = place_points (m.points ++ []) in
    let plan = c.in_ok-plan.ensures points (placed_faces points m) c.in_ok-surface.ensures in
    let found = c.in_ok-plan.plan.found in
    let none = ap (λ n. n == 0) (sym found.ok.0) ∙ sym c.is_empty.ensures ∙ c.if-is_empty.true in
    subst (λ ps. IfOk c.outcome.result (λ r. IsRemeshed r (with_points m ps))) (points_none m found.items plan.found none)
    (c.outcome.ensures points c.in_ok-surface.ensures plan)

pub of-requires-4 : goal.of-requires-4
of-requires-4 c =
    let m = c.args.mesh.now in
    let points = place_points (m.points ++ c.deref.result.now) in
    (points, placed_faces points m, c.in_ok-surface-2.ensures)

pub outcome-requires-2 : goal.outcome-requires-2
outcome-requires-2 c =
    let m = c.args.mesh.now in
    let points = place_points (m.points ++ c.deref.result.now) in
    (points, c.in_ok-surface-2.ensures, c.in_ok-plan-2.ensures points (placed_faces points m) c.in_ok-surface-2.ensures)

pub returns : goal.returns
returns c =
    let m = c.args.mesh.now in
    let first = place_points (m.points ++ []) in
    let points = place_points (m.points ++ c.deref.result.now) in
    let found = c.in_ok-plan.plan.found.items in
    let before = c.in_ok-plan.ensures first (placed_faces first m) c.in_ok-surface.ensures in
    let plan = c.in_ok-plan-2.ensures points (placed_faces points m) c.in_ok-surface-2.ensures in
    subst (λ ps. IfOk c.outcome-2.result (λ r. IsRemeshed r (with_points m ps)))
    (points_all m found c.deref.result.now before.found (c.deref.ensures.value ∙ c.in_ok-more.ensures)) (c.outcome-2.ensures points c.in_ok-surface-2.ensures plan)
