use Rattle.std.proofs.Common.{◌≡◌, ◌+◌}
use Rattle.std.specs.Prelude.{◌&&◌, count_by, nat_lt}
use Rattle.box_tree.specs.Touching.{touching_numbers}
use Rattle.inspection_terms.specs.Triangles.{corners_at}
use Rattle.inspection_laws.specs.Boxes.{boxes_of}
use Rattle.inspection_laws.specs.Signs.{are_cutting}
use Rattle.self_cuts.specs.Faces.{corners}
use Rattle.self_cuts.proofs.near.cut_among.Given as goal

abbrev pub invariant-loop-s : goal.invariant-loop-s
invariant-loop-s l =
    l.count + count_by (λ s. nat_lt s l.t && are_cutting (corners_at l.mesh s) (corners l.o)) l.s-iterator
    ≡ count_by (λ s. nat_lt s l.t && are_cutting (corners_at l.mesh s) (corners l.o)) (touching_numbers (boxes_of l.mesh) l.own)
