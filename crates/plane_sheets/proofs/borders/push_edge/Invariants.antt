use Rattle.std.proofs.Common.{◌≡◌, ◌++◌, drop, get_or}
use Rattle.sheet_terms.specs.Numbers.{above_zero}
use Rattle.plane_sheets.specs.Dealt.{dealt_edges}
use Rattle.plane_sheets.specs.Sides.{all_held, lefts, rights}
use Rattle.plane_sheets.proofs.borders.push_edge.Given as goal

abbrev pub invariant-loop-each : goal.invariant-loop-each
invariant-loop-each l =
    l.found.items ++ dealt_edges l.most (get_or l.ends 0 0) (get_or l.ends 1 0) l.left l.right (drop l.each-index l.sides)
    ≡ l.fn.found.items ++ dealt_edges l.most (get_or l.ends 0 0) (get_or l.ends 1 0) (above_zero (all_held (lefts l.sides))) (above_zero (all_held (rights l.sides))) l.sides
