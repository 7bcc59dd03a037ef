use Rattle.std.proofs.Common.{◌≡◌, ◌≤◌, ◌^◌, ℤ, pos, [], ◌∷◌, unsigned_abs, to_z, of_z, arith, ap, ◌∙◌}
use mir.Syntax.{w64}
use Rattle.std.proofs.lemmas.Int.{ints}
use Rattle.hole_joining.proofs.obstacles.box_round.Goals as goal

-- a coordinate as it stands after it was kept at 64 bits
kept : (z : ℤ) → unsigned_abs z ≤ 2 ^ 30 → to_z w64 (of_z w64 z) ≡ z
kept z h = omega (arith, ints, h)

pub returns : goal.returns
returns c =
    let left = kept c.u.result c.u.ensures.on_grid ∙ c.u.ensures.value ∙ ap (λ (p : ℤ × ℤ). p.0) c.lesser-low.ensures in
    let bottom = kept c.v.result c.v.ensures.on_grid ∙ c.v.ensures.value ∙ ap (λ (p : ℤ × ℤ). p.1) c.lesser-low.ensures in
    let right = kept c.u-2.result c.u-2.ensures.on_grid ∙ c.u-2.ensures.value ∙ ap (λ (p : ℤ × ℤ). p.0) c.greater-high.ensures in
    let top = kept c.v-2.result c.v-2.ensures.on_grid ∙ c.v-2.ensures.value ∙ ap (λ (p : ℤ × ℤ). p.1) c.greater-high.ensures in
    λ j. record { low = left j ∷ bottom j ∷ pos 0 ∷ []; high = right j ∷ top j ∷ pos 0 ∷ [] }
