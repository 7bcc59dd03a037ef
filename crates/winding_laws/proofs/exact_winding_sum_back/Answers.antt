use Rattle.std.proofs.Common.{◌≡◌, ◌∙◌, arith, of_z, to_z, w64}
use Rattle.std.proofs.lemmas.Int.{ints}
use Rattle.solid_laws.specs.Apex.{off_faces_clear}
use Rattle.solid_laws.specs.Windings.{winding_back_is_solid}
use Rattle.winding_laws.proofs.exact_winding_sum_back.Goals as goal

pub returns-clause-solid : goal.returns-clause-solid
returns-clause-solid g c =
    let p = c.args.p.now in
    let q = c.args.q.now in
    let side = c.twins.ensures.side in
    let whole : to_z w64 (of_z w64 c.winding_sum_back.result) ≡ c.winding_sum_back.result = omega (arith, ints) in
    record { from_each = λ o clear. whole ∙ c.winding_sum_back.ensures.value ∙ winding_back_is_solid _ q o p side clear; off_faces = off_faces_clear q p c.requires side }
