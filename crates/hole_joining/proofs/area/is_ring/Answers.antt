use Rattle.std.proofs.Common.{rules, tests, ◌≡◌, ℤ, pos, [], get_or, to_z, of_z, ap, ◌∙◌}
use mir.Syntax.{w128}
use Rattle.std.specs.Prelude.{int_le}
use Rattle.hole_joining.proofs.Areas.{read_area, ring_turned}
use Rattle.hole_joining.proofs.area.is_ring.Goals as goal

pub returns-then-flat : goal.returns-then-flat
returns-then-flat c =
    let flat = c.args.flat.now in
    let loops = c.args.loops.now in
    let areas = c.args.areas.now in
    let i = c.args.i in
    let z : ℤ = get_or areas i (pos 0) in
    let kept : to_z w128 (of_z w128 z) ≡ z = search (rules, tests) in
    ap (λ (z : ℤ). int_le z (pos 0)) kept
    ∙ ring_turned flat (get_or loops i []) z c.if-flat.true (read_area flat loops areas i c.requires.areas c.requires.within)
