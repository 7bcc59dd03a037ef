use Rattle.std.proofs.Common.{arith, ◌≡◌, ap, ◌∙◌, ℤ}
use Rattle.std.proofs.lemmas.Int.{ints}
use Rattle.std.specs.Int.{w128, cast_signed, cast_unsigned}
use Rattle.plane_laws.specs.Decisions.{is_above}
use Rattle.exact_kernels.specs.Vectors.{vector}
use Rattle.exact_kernels.proofs.normals.is_above.Goals as goal

pub returns : goal.returns
returns c =
    let s = c.scalar.ensures.small in
    let kept : cast_signed w128 (cast_unsigned w128 c.scalar.result) ≡ c.scalar.result = omega (arith, ints, s) in
    c.has_sign.ensures ∙ ap (λ (z : ℤ). is_above (vector c.args.n.now) z) (kept ∙ c.scalar.ensures.value)
