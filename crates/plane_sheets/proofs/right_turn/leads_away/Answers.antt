use Rattle.std.proofs.Common.{arith, ◌≡◌, ℤ, pos, ◌+ℤ◌, ◌-ℤ◌, ◌*ℤ◌, int_lt, refl, ap, ◌∙◌}
use Rattle.plane_sheets.proofs.Kept.{kept, kept_sum, step_read}
use Rattle.plane_sheets.proofs.right_turn.leads_away.Goals as goal

-- a sum of products of equal numbers
sum_same : (r q x y z w x' y' z' w' : ℤ) → r ≡ x *ℤ y → q ≡ z *ℤ w → x ≡ x' → y ≡ y' → z ≡ z' → w ≡ w' → r +ℤ q ≡ x' *ℤ y' +ℤ z' *ℤ w'
sum_same r q x y z w x' y' z' w' a b e f g h = cc

pub returns : goal.returns
returns c =
    let s = c.args.s in
    let p = c.args.p in
    let n = c.args.n in
    let pu = step_read (kept c.u.result -ℤ kept c.u-2.result) c.u-2.result c.u.result s.0 p.0 refl
    c.u-2.ensures.value c.u.ensures.value c.u-2.ensures.on_grid c.u.ensures.on_grid in
    let nu = step_read (kept c.u-3.result -ℤ kept c.u-4.result) c.u-4.result c.u-3.result s.0 n.0 refl
    c.u-4.ensures.value c.u-3.ensures.value c.u-4.ensures.on_grid c.u-3.ensures.on_grid in
    let pv = step_read (kept c.v.result -ℤ kept c.v-2.result) c.v-2.result c.v.result s.1 p.1 refl
    c.v-2.ensures.value c.v.ensures.value c.v-2.ensures.on_grid c.v.ensures.on_grid in
    let nv = step_read (kept c.v-3.result -ℤ kept c.v-4.result) c.v-4.result c.v-3.result s.1 n.1 refl
    c.v-4.ensures.value c.v-3.ensures.value c.v-4.ensures.on_grid c.v-3.ensures.on_grid in
    let whole = kept_sum c.product.result c.product-2.result (omega (arith, c.product.ensures.small)) (omega (arith, c.product-2.ensures.small)) in
    ap (λ (t : ℤ). int_lt t (pos 0))
    (whole ∙ sum_same c.product.result c.product-2.result _ _ _ _ _ _ _ _ c.product.ensures.value c.product-2.ensures.value pu nu pv nv)
