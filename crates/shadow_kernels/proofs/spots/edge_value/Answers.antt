use Rattle.std.proofs.Common.{rules, arith, ◌≡◌, ◌-ℤ◌, FitsSigned, ◌∙◌}
use Rattle.std.proofs.lemmas.Int.{ints}
use Rattle.std.specs.Int.{w64}
use Rattle.side_terms.specs.Corners.{axis}
use Rattle.shadow_kernels.specs.Hulls.{fine_on}
use Rattle.shadow_kernels.proofs.Values.{seen, same_between}
use Rattle.shadow_kernels.proofs.spots.edge_value.Goals as goal

pub returns : goal.returns
returns g c =
    let i = c.args.axis in
    let l = c.args.left.now in
    let r = c.args.right.now in
    let x = c.args.x in
    let h = c.requires.along in
    let fl = fine_on i l c.requires.axis h.left_fine in
    let fr = fine_on i r c.requires.axis h.right_fine in
    let y = c.between.result in
    let fits : FitsSigned w64 y = search rules in
    let kept : seen w64 y ≡ y = omega (arith, ints) in
    let before : seen w64 (seen w64 x -ℤ seen w64 (axis 0 l)) ≡ x -ℤ axis 0 l = omega (arith, ints) in
    let after : seen w64 (seen w64 (axis 0 r) -ℤ seen w64 x) ≡ axis 0 r -ℤ x = omega (arith, ints) in
    kept
    ∙ same_between (g.R.Rounding.between_of c.args.rounding.now) y (seen w64 (axis i l)) (seen w64 (axis i r)) (seen w64 (seen w64 x -ℤ seen w64 (axis 0 l)))
    (seen w64 (seen w64 (axis 0 r) -ℤ seen w64 x))
    (axis i l) (axis i r) (x -ℤ axis 0 l) (axis 0 r -ℤ x) c.between.ensures (omega (arith, ints, fl.low, fl.high)) (omega (arith, ints, fr.low, fr.high)) before after
