use Rattle.std.proofs.Common.{get_or, [], ◌^◌, ◌+◌, arith, subst, sym, ◌∙◌, ap}
use Rattle.mesh_terms.specs.Meshes.{triple_of}
use Rattle.lean.specs.Vectors.{AreSmall, AllSmall, added_at}
use Rattle.lean.proofs.Normals.{small_one, small_below}
use Rattle.lean.proofs.marks.add_at_corners.Goals as goal

pub add_at-requires-3-clause-sum_small : goal.add_at-requires-3-clause-sum_small
add_at-requires-3-clause-sum_small c =
    let n = c.args.normal.now in
    let sums = c.args.normals.now in
    let t = triple_of c.args.triple.now in
    let first = added_at sums t.0 n in
    let small : AllSmall (2 ^ 119 + 2 ^ 63 + 2 ^ 63) (added_at first t.1 n) = small_one (2 ^ 119 + 2 ^ 63) (2 ^ 63) first t.1 n
    (small_one (2 ^ 119) (2 ^ 63) sums t.0 n c.requires.sums_small c.requires.small) c.requires.small in
    let same = c.add_at-2.ensures ∙ ap (λ xs. added_at xs t.1 n) c.add_at.ensures in
    subst (λ xs. AreSmall (2 ^ 120) (get_or xs t.2 [])) (sym same)
    (small_below (2 ^ 119 + 2 ^ 63 + 2 ^ 63) (2 ^ 120) (get_or (added_at first t.1 n) t.2 []) (omega arith) (small t.2))
