use Rattle.std.proofs.Common.{arith, ◌≡◌, ◌≤◌, ◌^◌, ℤ, pos, ◌+ℤ◌, ◌-ℤ◌, ◌*ℤ◌, unsigned_abs, ◌∙◌}
use Rattle.std.proofs.lemmas.Int.{ints}
use Rattle.plane_sheets.proofs.Kept.{kept, kept_wide, step_read, first_same}
use Rattle.plane_sheets.proofs.beside.side.Goals as goal

-- how far it is to a middle, as the code reads it
middle_read : (m a b p a' b' p' : ℤ) → m ≡ kept a +ℤ kept b -ℤ pos 2 *ℤ kept p → a ≡ a' → b ≡ b' → p ≡ p' →
    unsigned_abs a ≤ 2 ^ 30 → unsigned_abs b ≤ 2 ^ 30 → unsigned_abs p ≤ 2 ^ 30 → kept m ≡ a' +ℤ b' -ℤ pos 2 *ℤ p'
middle_read m a b p a' b' p' f g h i j k l = omega (arith, ints, f, g, h, i, j, k, l)

-- products of equal numbers
turn_same : (r x y z w x' y' z' w' : ℤ) → kept_wide r ≡ r → r ≡ x *ℤ w -ℤ y *ℤ z → x ≡ x' → y ≡ y' → z ≡ z' → w ≡ w' → kept_wide r ≡ x' *ℤ w' -ℤ y' *ℤ z'
turn_same r x y z w x' y' z' w' k e f g h i = cc

scalar_same : (r x y z w x' y' z' w' : ℤ) → kept_wide r ≡ r → r ≡ x *ℤ z +ℤ y *ℤ w → x ≡ x' → y ≡ y' → z ≡ z' → w ≡ w' → kept_wide r ≡ x' *ℤ z' +ℤ y' *ℤ w'
scalar_same r x y z w x' y' z' w' k e f g h i = cc

pub returns : goal.returns
returns c =
    let a = c.args.a in
    let b = c.args.b in
    let p = c.args.p in
    let q = c.args.q in
    let eu = step_read c.step-eu.result c.u.result c.u-2.result p.0 q.0 c.step-eu.ensures.value c.u.ensures.value c.u-2.ensures.value c.u.ensures.on_grid c.u-2.ensures.on_grid in
    let ev = step_read c.step-ev.result c.v.result c.v-2.result p.1 q.1 c.step-ev.ensures.value c.v.ensures.value c.v-2.ensures.value c.v.ensures.on_grid c.v-2.ensures.on_grid in
    let du = step_read c.step-du.result c.u-3.result c.u-4.result a.0 b.0 c.step-du.ensures.value c.u-3.ensures.value c.u-4.ensures.value c.u-3.ensures.on_grid
    c.u-4.ensures.on_grid in
    let dv = step_read c.step-dv.result c.v-3.result c.v-4.result a.1 b.1 c.step-dv.ensures.value c.v-3.ensures.value c.v-4.ensures.value c.v-3.ensures.on_grid
    c.v-4.ensures.on_grid in
    let mu = middle_read c.to_middle-mu.result c.u-5.result c.u-6.result c.u-7.result a.0 b.0 p.0 c.to_middle-mu.ensures.value
    c.u-5.ensures.value c.u-6.ensures.value c.u-7.ensures.value c.u-5.ensures.on_grid c.u-6.ensures.on_grid c.u-7.ensures.on_grid in
    let mv = middle_read c.to_middle-mv.result c.v-5.result c.v-6.result c.v-7.result a.1 b.1 p.1 c.to_middle-mv.ensures.value
    c.v-5.ensures.value c.v-6.ensures.value c.v-7.ensures.value c.v-5.ensures.on_grid c.v-6.ensures.on_grid c.v-7.ensures.on_grid in
    let w1 : kept_wide c.turned.result ≡ c.turned.result = omega (arith, ints, c.turned.type_inv) in
    let w2 : kept_wide c.turned-2.result ≡ c.turned-2.result = omega (arith, ints, c.turned-2.type_inv) in
    let w3 : kept_wide c.scalar.result ≡ c.scalar.result = omega (arith, ints, c.scalar.type_inv) in
    let w : kept_wide c.first_of_three.result ≡ c.first_of_three.result = omega (arith, ints, c.first_of_three.type_inv) in
    let x = turn_same c.turned.result _ _ _ _ _ _ _ _ w1 c.turned.ensures eu ev mu mv in
    let y = turn_same c.turned-2.result _ _ _ _ _ _ _ _ w2 c.turned-2.ensures eu ev du dv in
    let z = scalar_same c.scalar.result _ _ _ _ _ _ _ _ w3 c.scalar.ensures eu ev du dv in
    w ∙ c.first_of_three.ensures ∙ first_same _ _ _ _ _ _ x y z
