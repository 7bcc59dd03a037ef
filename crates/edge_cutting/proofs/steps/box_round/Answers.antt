use Rattle.std.specs.Prelude.{◌≡◌}
use Rattle.std.specs.Int.{int_max, int_min}
use Rattle.std.proofs.Common.{of_z, rules, to_z, w64}
use Rattle.mesh_terms.specs.Points.{coordinate_of}
use Rattle.edge_cutting.proofs.steps.box_round.Goals as goal

pub returns : goal.returns
returns c =
    let p = c.args.p in
    let q = c.args.q in
    let a : to_z w64 (of_z w64 c.min.result) ≡ int_min (coordinate_of p 0) (coordinate_of q 0) = search rules in
    let b : to_z w64 (of_z w64 c.min-2.result) ≡ int_min (coordinate_of p 1) (coordinate_of q 1) = search rules in
    let d : to_z w64 (of_z w64 c.min-3.result) ≡ int_min (coordinate_of p 2) (coordinate_of q 2) = search rules in
    let e : to_z w64 (of_z w64 c.max.result) ≡ int_max (coordinate_of p 0) (coordinate_of q 0) = search rules in
    let f : to_z w64 (of_z w64 c.max-2.result) ≡ int_max (coordinate_of p 1) (coordinate_of q 1) = search rules in
    let g : to_z w64 (of_z w64 c.max-3.result) ≡ int_max (coordinate_of p 2) (coordinate_of q 2) = search rules in
    cc
