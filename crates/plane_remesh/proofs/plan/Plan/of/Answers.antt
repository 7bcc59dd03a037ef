use Rattle.std.proofs.Common.{◌≡◌, ◌≤◌, ℕ, ℤ, List, arith, length, refl, subst}
use Rattle.sheet_terms.specs.Faces.{Face}
use Rattle.plane_remesh.specs.declared.plan.Plan.{Plan}
use Rattle.plane_remesh.specs.declared.surface.CutSurface.{CutSurface}
use Rattle.plane_remesh.specs.PlansTo.{IsPlanTo, planes_of}
use Rattle.plane_remesh.specs.Surfaces.{IsSurface}
use Rattle.plane_remesh.proofs.Planned.{noted_all, planned, walks_low}
use Rattle.plane_remesh.proofs.plan.Plan.of.Goals as goal

-- all planes are in the plan
all_in : (points : List (List ℤ)) (all : List Face) (u : CutSurface) → IsSurface points all u →
    (p : Plan) (k : ℕ) → k ≤ u.planes.count → u.planes.count ≤ k → IsPlanTo points all k p →
    IsPlanTo points all (length (planes_of points all)) p
all_in points all u is p k low high to = let e : k ≡ length (planes_of points all) = omega (arith, low, high, is.planes.count) in subst (λ n. IsPlanTo points all n p) e to

pub loop-plane-init : goal.loop-plane-init
loop-plane-init c = λ points all is. c.in_ok-plan.ensures points all is

pub add-requires-clause-surface : goal.add-requires-clause-surface
add-requires-clause-surface c = let r = c.requires in (r.0, r.1, r.2, c.loop-plane.invariant r.0 r.1 r.2)

pub loop-plane-preserved : goal.loop-plane-preserved
loop-plane-preserved c = λ points all is. c.in_ok-add.ensures points all is (c.loop-plane.invariant points all is)

pub note-requires : goal.note-requires
note-requires c =
    let r = c.requires in
    let u = c.args.surface.now in
    let p = c.loop-plane.plan in walks_low r.0 r.1 u r.2 p
    (all_in r.0 r.1 u r.2 p c.loop-plane.plane c.loop-plane.auto.plane-end c.loop-plane-test.false (c.loop-plane.invariant r.0 r.1 r.2))

pub returns : goal.returns
returns c = λ points all is.
    let u = c.args.surface.now in
    let p = c.loop-plane.plan in
    let to = all_in points all u is p c.loop-plane.plane c.loop-plane.auto.plane-end c.loop-plane-test.false (c.loop-plane.invariant points all is) in
    let ways = c.note.new.ways in
    planned points all u is p to ways c.note.ensures.count (noted_all points all u is p to ways c.note.ensures.notes) _ refl refl refl refl refl refl
