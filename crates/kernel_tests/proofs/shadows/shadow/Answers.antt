use Rattle.std.proofs.Common.{rules, arith, ap}
use Rattle.std.proofs.lemmas.Int.{ints}
use Rattle.shadow_kernels.specs.Counts.{shadow_of}
use Rattle.shadow_kernels.specs.Sizes.{shadow_bounds}
use Rattle.kernel_tests.proofs.shadows.shadow.Goals as goal

pub returns-in-Some : goal.returns-in-Some
returns-in-Some g c =
    let laws = g.met.K.Meets.laws c.args.kernels.now in
    let p = c.args.p.now in
    let q = c.args.q.now in
    let m = g.K.Meets.meet_of c.args.kernels.now p q in
    let s = shadow_bounds m (laws.size p q c.told-p c.told-q c.requires.p_fine c.requires.q_fine) in
    let e = ap shadow_of c.in-Some.ensures in
    record { value = search rules; low = omega (arith, ints, s, e); high = omega (arith, ints, s, e) }
