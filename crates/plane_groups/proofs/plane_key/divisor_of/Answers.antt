use Rattle.std.proofs.Common.{◌≡◌, ◌≤◌, ◌^◌, ◌∙◌, arith, ap, pos, subst, sym, unsigned_abs}
use Rattle.std.specs.Int.{w128}
use Rattle.mb_base.proofs.Widths.{same_at}
use Rattle.plane_groups.specs.Keys.{divisor_of_three}
use Rattle.plane_groups.proofs.FrontNormals.{divisor_same}
use Rattle.plane_groups.proofs.plane_key.divisor_of.Goals as goal

pub returns : goal.returns
returns c =
    let u = c.unsigned_abs.result in
    let v = c.unsigned_abs-2.result in
    let w = c.unsigned_abs-3.result in
    let x : u ≡ unsigned_abs c.args.x = c.unsigned_abs.ensures.value ∙ ap unsigned_abs (same_at w128 c.args.x (2 ^ 63) c.requires.x (omega arith)) in
    let y : v ≡ unsigned_abs c.args.y = c.unsigned_abs-2.ensures.value ∙ ap unsigned_abs (same_at w128 c.args.y (2 ^ 63) c.requires.y (omega arith)) in
    let z : w ≡ unsigned_abs c.args.z = c.unsigned_abs-3.ensures.value ∙ ap unsigned_abs (same_at w128 c.args.z (2 ^ 63) c.requires.z (omega arith)) in
    let small : c.common_divisor.result ≤ 2 ^ 64 = omega (arith, c.common_divisor.type_inv) in
    same_at w128 c.from.result (2 ^ 64) (subst (λ t. unsigned_abs t ≤ 2 ^ 64) (sym c.from.ensures) small) (omega arith) ∙ c.from.ensures
    ∙ ap pos (divisor_same u v w c.common_divisor.result c.common_divisor.ensures) ∙ ap (λ t. pos (divisor_of_three t v w)) x
    ∙ ap (λ t. pos (divisor_of_three (unsigned_abs c.args.x) t w)) y ∙ ap (λ t. pos (divisor_of_three (unsigned_abs c.args.x) (unsigned_abs c.args.y) t)) z
