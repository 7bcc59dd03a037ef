use Rattle.std.proofs.Common.{◌≡◌, ℤ, ◌≤◌, ◌^◌, ◌-ℤ◌, ◌*ℤ◌, arith, subst, sym, unsigned_abs, ◌∙◌}
use Rattle.std.proofs.lemmas.Int.{ints}
use Rattle.self_cuts.proofs.Areas.{area_small, kept, kept_same}
use Rattle.self_cuts.proofs.volumes.area.Goals as goal

pub less-requires : goal.less-requires
less-requires c =
    let si = c.args.si in
    let sj = c.args.sj in
    let ti = c.args.ti in
    let tj = c.args.tj in
    let vi = c.args.vi in
    let vj = c.args.vj in
    let a : kept c.way.result ≡ ti -ℤ si = omega (arith, ints, c.way.ensures.value, c.requires.si, c.requires.ti) in
    let b : kept c.way-2.result ≡ vj -ℤ sj = omega (arith, ints, c.way-2.ensures.value, c.requires.sj, c.requires.vj) in
    let d : kept c.way-3.result ≡ tj -ℤ sj = omega (arith, ints, c.way-3.ensures.value, c.requires.sj, c.requires.tj) in
    let e : kept c.way-4.result ≡ vi -ℤ si = omega (arith, ints, c.way-4.ensures.value, c.requires.si, c.requires.vi) in
    let p : kept c.product.result ≡ (ti -ℤ si) *ℤ (vj -ℤ sj) = kept_same c.product.result c.product.ensures.small ∙ c.product.ensures.value ∙ (λ i. a i *ℤ b i) in
    let q : kept c.product-2.result ≡ (tj -ℤ sj) *ℤ (vi -ℤ si) = kept_same c.product-2.result c.product-2.ensures.small ∙ c.product-2.ensures.value ∙ (λ i. d i *ℤ e i) in
    subst (λ (z : ℤ). unsigned_abs z ≤ 2 ^ 62) (sym (λ i. p i -ℤ q i))
    (area_small si sj ti tj vi vj c.requires.si c.requires.sj c.requires.ti c.requires.tj c.requires.vi c.requires.vj)
