use Rattle.std.proofs.Common.{arith, refl, ap, [], ◌∷◌}
use Rattle.std.proofs.lemmas.Int.{ints}
use Rattle.shadow_kernels.specs.Counts.{shadow_of}
use Rattle.shadow_kernels.specs.FinePairs.{fine_one, fine_two}
use Rattle.shadow_kernels.specs.Sizes.{turned_shadow}
use Rattle.kernel_tests.proofs.shadows.edge_count.Goals as goal

pub returns : goal.returns
returns g c =
    let k = c.args.kernels.now in
    let a = c.args.a.now in
    let b = c.args.b.now in
    let d = c.args.c.now in
    let e = c.args.d.now in
    let ab = fine_two a b c.requires.a_fine c.requires.b_fine in
    let de = fine_two d e c.requires.c_fine c.requires.d_fine in
    let lift = g.met.K.Flats.lift_11 k a b d e ab de in
    let at_a = ap shadow_of ((g.met.K.Meets-2.laws k).reverse_q (a ∷ []) (d ∷ e ∷ []) 0 1 (omega arith) (omega arith) refl refl (fine_one a c.requires.a_fine) de) in
    let at_b = ap shadow_of ((g.met.K.Meets-2.laws k).reverse_q (b ∷ []) (d ∷ e ∷ []) 0 1 (omega arith) (omega arith) refl refl (fine_one b c.requires.b_fine) de) in
    let turn_a = turned_shadow (g.K.Meets-2.meet_of k (a ∷ []) (d ∷ e ∷ [])) in
    let turn_b = turned_shadow (g.K.Meets-2.meet_of k (b ∷ []) (d ∷ e ∷ [])) in
    let w = c.shadow.ensures in
    let x = c.shadow-2.ensures in
    let y = c.shadow-3.ensures in
    let z = c.shadow-4.ensures in
    omega (arith, ints, lift, at_a, at_b, turn_a, turn_b, w.value, w.low, w.high, x.value, x.low, x.high, y.value, y.low, y.high, z.value, z.low, z.high)

pub overflow_sub-result : goal.overflow_sub-result
overflow_sub-result g c =
    let w = c.shadow.ensures in
    let x = c.shadow-2.ensures in
    let y = c.shadow-3.ensures in
    let z = c.shadow-4.ensures in
    omega (arith, ints, w.low, w.high, x.low, x.high, y.low, y.high, z.low, z.high)
