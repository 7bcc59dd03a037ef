use Rattle.std.proofs.Common.{rules, arith, ◌≡◌, ◌≢◌, pos, true, false, FitsSigned, sym, ◌∙◌}
use Rattle.std.proofs.lemmas.Int.{ints}
use Rattle.std.specs.Int.{w8}
use Rattle.side_terms.specs.Corners.{corner_at}
use Rattle.shadow_kernels.specs.Spots.{Between}
use Rattle.shadow_kernels.specs.Rules.{Rule}
use Rattle.shadow_kernels.proofs.Values.{seen, kept_unit}
use Rattle.edge_face.specs.Crossings.{Settle, edge_number}
use Rattle.edge_face.specs.Sides.{ends_on, edges_on, pairs_on, place_on, met_on}
use Rattle.edge_face.proofs.Five.{AreRead, pairs_read, made_none, made_some}
use Rattle.edge_face.proofs.Kept.{fine_edge, fine_face, own_fine, other_fine}
use Rattle.edge_face.proofs.numbered.crossing.Given.{Over}
use Rattle.edge_face.proofs.numbered.crossing.Goals.{After-pairs_of-pairs}
use Rattle.edge_face.proofs.numbered.crossing.Goals as goal

-- what is read from the pairs
read : (g : Over) (c : After-pairs_of-pairs g) → let k : Rule = g.K.Rules.rule_of c.args.kernel.now in let w : Between = g.K.Rounding.between_of c.args.kernel.now in
    AreRead (pairs_on c.args.of k w c.args.edge.now c.args.face.now)
    (edge_number (ends_on c.args.of k w) (edges_on c.args.of k w) (corner_at c.args.edge.now 0) (corner_at c.args.edge.now 1) (corner_at c.args.face.now 0)
    (corner_at c.args.face.now 1) (corner_at c.args.face.now 2)) c.pairs_of-pairs.result
read g c =
    let k : Rule = g.K.Rules.rule_of c.args.kernel.now in
    let w : Between = g.K.Rounding.between_of c.args.kernel.now in
    let s = c.args.edge.now in
    let f = c.args.face.now in
    let fs = fine_edge s c.told-edge c.requires.edge_fine in
    let ff = fine_face f c.told-face c.requires.face_fine in
    pairs_read (met_on c.args.of (g.met.K.Rules.lawful c.args.kernel.now)) (corner_at s 0) (corner_at s 1) (corner_at f 0) (corner_at f 1) (corner_at f 2) fs ff
    (own_fine c.args.of _ _ fs ff) (other_fine c.args.of _ _ fs ff) c.pairs_of-pairs.result c.pairs_of-pairs.ensures

pub returns-then-number-eq0 : goal.returns-then-number-eq0
returns-then-number-eq0 g c =
    let k : Rule = g.K.Rules.rule_of c.args.kernel.now in
    let w : Between = g.K.Rounding.between_of c.args.kernel.now in
    let settle : Settle = g.K.Rounding.settle_of c.args.kernel.now in
    let fits : FitsSigned w8 c.number-number.result = search rules in
    let zero : c.number-number.result ≡ pos 0 = omega (arith, ints) in
    let r = read g (goal.at.returns-then-number-eq0 g c).After-pairs_of-pairs in
    record {
      value = made_none (ends_on c.args.of k w) (edges_on c.args.of k w) (place_on c.args.of w settle) (corner_at c.args.edge.now 0)
          (corner_at c.args.edge.now 1) (corner_at c.args.face.now 0) (corner_at c.args.face.now 1) (corner_at c.args.face.now 2) c.number-number.result
          (c.number-number.ensures ∙ r.number) zero;
    }

pub edge_point-requires-clause-below_fine : goal.edge_point-requires-clause-below_fine
edge_point-requires-clause-below_fine g c =
    let r = read g (goal.at.edge_point-requires-clause-below_fine g c).After-pairs_of-pairs in
    (r.spot false c.spot_on-below.result c.first_on.result c.spot_on-below.ensures c.first_on.ensures).1

pub edge_point-requires-clause-above_fine : goal.edge_point-requires-clause-above_fine
edge_point-requires-clause-above_fine g c =
    let r = read g (goal.at.edge_point-requires-clause-above_fine g c).After-pairs_of-pairs in
    (r.spot true c.spot_on-above.result c.first_on-2.result c.spot_on-above.ensures c.first_on-2.ensures).1

pub returns : goal.returns
returns g c =
    let k : Rule = g.K.Rules.rule_of c.args.kernel.now in
    let w : Between = g.K.Rounding.between_of c.args.kernel.now in
    let settle : Settle = g.K.Rounding.settle_of c.args.kernel.now in
    let n = c.number-number.result in
    let fits : FitsSigned w8 n = search rules in
    let some : n ≢ pos 0 = λ z. omega (arith, ints) in
    let r = read g (goal.at.returns g c).After-pairs_of-pairs in
    let below = (r.spot false c.spot_on-below.result c.first_on.result c.spot_on-below.ensures c.first_on.ensures).0 in
    let above = (r.spot true c.spot_on-above.result c.first_on-2.result c.spot_on-above.ensures c.first_on-2.ensures).0 in
    record {
      value = made_some (ends_on c.args.of k w) (edges_on c.args.of k w) (place_on c.args.of w settle) (corner_at c.args.edge.now 0)
          (corner_at c.args.edge.now 1) (corner_at c.args.face.now 0) (corner_at c.args.face.now 1) (corner_at c.args.face.now 2) n
          (c.number-number.ensures ∙ r.number) (seen w8 n) c.in_ok-at.at c.spot_on-below.result c.spot_on-above.result some (kept_unit n fits) below above
          (sym c.in_ok-at.was ∙ c.edge_point.ensures);
    }
