use Rattle.std.proofs.Common.{[], ap, sym, ◌∷◌, ◌∙◌}
use Rattle.std.proofs.lemmas.List.Elements.{All-cons, All-nil}
use Rattle.mesh_terms.specs.Points.{IsOnGrid}
use Rattle.plane_chains.specs.Pairs.{option_list}
use Rattle.plane_chains.proofs.GridPoints.{all_three, not_first, not_second, not_third}
use Rattle.plane_chains.proofs.PartWays.{as_32, as_128, grid_kept, grid_shown, point_shown}
use Rattle.plane_chains.proofs.grid_crossings.part_point.Goals as goal

pub returns-in_err-x-clause-point : goal.returns-in_err-x-clause-point
returns-in_err-x-clause-point c =
    ap option_list c.from_residual.ensures ∙ sym (not_first (as_128 c.args.part) (as_128 c.args.whole) c.args.a c.args.b c.in_err-x.ensures.none)
    ∙ point_shown c.args.part c.args.whole c.args.a c.args.b c.ranges.part c.ranges.whole

pub returns-in_err-y-clause-point : goal.returns-in_err-y-clause-point
returns-in_err-y-clause-point c =
    ap option_list c.from_residual-in_err-y.ensures
    ∙ sym (not_second (as_128 c.args.part) (as_128 c.args.whole) c.args.a c.args.b c.in_ok-x.ensures.some.0 c.in_err-y.ensures.none)
    ∙ point_shown c.args.part c.args.whole c.args.a c.args.b c.ranges.part c.ranges.whole

pub returns-in_err-z-clause-point : goal.returns-in_err-z-clause-point
returns-in_err-z-clause-point c =
    ap option_list c.from_residual-in_err-z.ensures
    ∙ sym (not_third (as_128 c.args.part) (as_128 c.args.whole) c.args.a c.args.b c.in_ok-x.ensures.some.0 c.in_ok-y.ensures.some.0 c.in_err-z.ensures.none)
    ∙ point_shown c.args.part c.args.whole c.args.a c.args.b c.ranges.part c.ranges.whole

pub returns-clause-point : goal.returns-clause-point
returns-clause-point c =
    (λ i. (grid_shown c.in_ok-x.x c.in_ok-x.ensures.grid i ∷ grid_shown c.in_ok-y.y c.in_ok-y.ensures.grid i ∷ grid_shown c.in_ok-z.z c.in_ok-z.ensures.grid i ∷ []) ∷ [])
    ∙ all_three (as_128 c.args.part) (as_128 c.args.whole) c.args.a c.args.b c.in_ok-x.x c.in_ok-y.y c.in_ok-z.z c.in_ok-x.ensures.some c.in_ok-y.ensures.some
    c.in_ok-z.ensures.some
    ∙ point_shown c.args.part c.args.whole c.args.a c.args.b c.ranges.part c.ranges.whole

pub returns-clause-grid : goal.returns-clause-grid
returns-clause-grid c =
    All-cons IsOnGrid (as_32 c.in_ok-x.x) (as_32 c.in_ok-y.y ∷ as_32 c.in_ok-z.z ∷ []) (grid_kept c.in_ok-x.x c.in_ok-x.ensures.grid)
    (All-cons IsOnGrid (as_32 c.in_ok-y.y) (as_32 c.in_ok-z.z ∷ []) (grid_kept c.in_ok-y.y c.in_ok-y.ensures.grid)
    (All-cons IsOnGrid (as_32 c.in_ok-z.z) [] (grid_kept c.in_ok-z.z c.in_ok-z.ensures.grid) (All-nil IsOnGrid)))
