use Rattle.std.proofs.Common.{ℕ, List, arith}
use Rattle.std.specs.Prelude.{◌&&◌, count_by, nat_lt}
use Rattle.std.proofs.lemmas.List.Sums.{count_by-le-length}
use Rattle.box_tree.specs.Touching.{touching_numbers}
use Rattle.inspection_terms.specs.Triangles.{corners_at}
use Rattle.inspection_laws.specs.Boxes.{boxes_of}
use Rattle.inspection_laws.specs.Signs.{are_cutting}
use Rattle.inspection_laws.proofs.Near.{near_few}
use Rattle.self_cuts.specs.Faces.{corners}
use Rattle.self_cuts.proofs.Hands.{first_counted}
use Rattle.self_cuts.proofs.near.cut_among.Goals as goal

pub overflow_add-count : goal.overflow_add-count
overflow_add-count c =
    let m = c.args.mesh.now in
    let numbers = touching_numbers (boxes_of m) c.args.own.now in
    let test = λ (s : ℕ). nat_lt s c.args.t && are_cutting (corners_at m s) (corners c.args.o.now) in
    let rest : List ℕ = c.next.new.self in
    let few = c.triples.ensures.accepted.mesh.few_triples in
    omega (
      arith,
      first_counted test c.loop-s.count (count_by test numbers) c.in-Some.s c.loop-s.s-iterator rest c.loop-s.invariant c.in-Some.ensures.steps c.if-counts.ensures,
      count_by-le-length test numbers,
      near_few m c.args.own.now,
      few,
    )
