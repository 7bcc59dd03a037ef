use Rattle.std.proofs.Common.{rules, ◌<◌, ℕ, length, map, arith}
use Rattle.std.proofs.lemmas.List.{length-map}
use Rattle.mb_base.specs.Boxes.{axis}
use Rattle.mb_base.proofs.Spans.{least_span}
use Rattle.mb_base.proofs.boxes.box_of.Goals as goal

pub returns-clause-least : goal.returns-clause-least
returns-clause-least c =
    let some : (i : ℕ) → 0 < length (map (axis i) c.args.corners.now) = λ i. grind (arith, length-map, c.requires) in
    record {
      x = least_span (map (axis 0) c.args.corners.now) _ _ (some 0) (search rules) (search rules);
      y = least_span (map (axis 1) c.args.corners.now) _ _ (some 1) (search rules) (search rules);
      z = least_span (map (axis 2) c.args.corners.now) _ _ (some 2) (search rules) (search rules);
    }
