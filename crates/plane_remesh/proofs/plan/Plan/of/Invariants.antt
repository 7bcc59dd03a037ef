use Rattle.std.proofs.Common.{List, ℤ}
use Rattle.sheet_terms.specs.Faces.{Face}
use Rattle.plane_remesh.specs.PlansTo.{IsPlanTo}
use Rattle.plane_remesh.specs.Surfaces.{IsSurface}
use Rattle.plane_remesh.proofs.plan.Plan.of.Given as goal

-- the planes so far are in the plan
abbrev pub invariant-loop-plane : goal.invariant-loop-plane
invariant-loop-plane l = (points : List (List ℤ)) (all : List Face) → IsSurface points all l.surface → IsPlanTo points all l.plane l.plan
