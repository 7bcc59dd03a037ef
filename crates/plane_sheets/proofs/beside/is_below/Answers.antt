use Rattle.std.proofs.Common.{arith, ◌≡◌, ◌≤◌, ◌^◌, ℤ, pos, ◌+ℤ◌, ◌-ℤ◌, ◌*ℤ◌, int_lt, unsigned_abs, ap, ◌∙◌}
use Rattle.std.proofs.lemmas.Int.{ints}
use Rattle.plane_sheets.proofs.Kept.{kept, kept_wide, first_same}
use Rattle.plane_sheets.proofs.beside.is_below.Goals as goal

-- how far a coordinate is over a middle, as the code reads it
over_read : (r m a b p a' b' p' : ℤ) → r ≡ kept m → m ≡ pos 2 *ℤ kept p -ℤ (kept a +ℤ kept b) → a ≡ a' → b ≡ b' → p ≡ p' →
    unsigned_abs a ≤ 2 ^ 30 → unsigned_abs b ≤ 2 ^ 30 → unsigned_abs p ≤ 2 ^ 30 → kept_wide r ≡ pos 2 *ℤ p' -ℤ (a' +ℤ b')
over_read r m a b p a' b' p' e f g h i j k l = omega (arith, ints, e, f, g, h, i, j, k, l)

-- a step that is widened
wide_step : (r m f t f' t' : ℤ) → r ≡ kept m → m ≡ kept t -ℤ kept f → f ≡ f' → t ≡ t' → unsigned_abs f ≤ 2 ^ 30 → unsigned_abs t ≤ 2 ^ 30 → kept_wide r ≡ t' -ℤ f'
wide_step r m f t f' t' w e d g h k = omega (arith, ints, w, e, d, g, h, k)

pub returns : goal.returns
returns c =
    let a = c.args.a in
    let b = c.args.b in
    let p = c.args.p in
    let x =
    over_read c.from-over.result c.over_middle.result c.v.result c.v-2.result c.v-3.result a.1 b.1 p.1 c.from-over.ensures c.over_middle.ensures.value
    c.v.ensures.value c.v-2.ensures.value c.v-3.ensures.value c.v.ensures.on_grid c.v-2.ensures.on_grid c.v-3.ensures.on_grid in
    let y = wide_step c.from-fall.result c.step.result c.v-4.result c.v-5.result b.1 a.1 c.from-fall.ensures c.step.ensures.value
    c.v-4.ensures.value c.v-5.ensures.value c.v-4.ensures.on_grid c.v-5.ensures.on_grid in
    let z = wide_step c.from-back.result c.step-2.result c.u.result c.u-2.result b.0 a.0 c.from-back.ensures c.step-2.ensures.value
    c.u.ensures.value c.u-2.ensures.value c.u.ensures.on_grid c.u-2.ensures.on_grid in
    let w : kept_wide c.first_of_three.result ≡ c.first_of_three.result = omega (arith, ints, c.first_of_three.type_inv) in
    ap (λ (t : ℤ). int_lt t (pos 0)) (w ∙ c.first_of_three.ensures ∙ first_same _ _ _ _ _ _ x y z)
