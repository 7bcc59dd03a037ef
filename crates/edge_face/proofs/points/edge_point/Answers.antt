use Rattle.std.proofs.Common.{ℤ, Some, List, sym, ap, ◌∙◌}
use Rattle.shadow_kernels.specs.declared.Edge.{Edge}
use Rattle.shadow_kernels.specs.declared.Spot.{Spot}
use Rattle.shadow_kernels.specs.Spots.{Between}
use Rattle.edge_face.specs.Crossings.{Settle, p_point}
use Rattle.edge_face.specs.Sides.{place_on, mirrored}
use Rattle.edge_face.proofs.Placed.{other_point}
use Rattle.edge_face.proofs.points.edge_point.Goals as goal

pub returns-in-OfP : goal.returns-in-OfP
returns-in-OfP g c =
    let w : Between = g.R.Rounding.between_of c.args.rounding.now in
    let settle : Settle = g.R.Rounding.settle_of c.args.rounding.now in
    c.p_point.ensures ∙ ap (λ (e : Edge). Some (place_on e w settle c.args.below.now c.args.above.now)) (sym c.in-OfP.is)

pub returns-in-OfQ : goal.returns-in-OfQ
returns-in-OfQ g c =
    let w : Between = g.R.Rounding.between_of c.args.rounding.now in
    let settle : Settle = g.R.Rounding.settle_of c.args.rounding.now in
    let d = c.args.below.now in
    let u = c.args.above.now in
    c.p_point-in-OfQ.ensures
    ∙ ap (λ (s : Spot). Some (p_point w settle s c.mirrored-in-OfQ.result)) c.mirrored.ensures
    ∙ ap (λ (s : Spot). Some (p_point w settle (mirrored d) s)) c.mirrored-in-OfQ.ensures
    ∙ ap (λ (l : List ℤ). Some l) (other_point w settle d u)
    ∙ ap (λ (e : Edge). Some (place_on e w settle d u)) (sym c.in-OfQ.is)
