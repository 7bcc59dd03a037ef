use Rattle.std.proofs.Common.{arith, rules, ◌≡◌, ℤ, ◌*ℤ◌, [], ◌∷◌, to_z, of_z, w32, w64, FitsSigned}
use Rattle.std.proofs.lemmas.Int.{ints}
use Rattle.mb_base.specs.declared.TheConstants.{UNIT}
use Rattle.lean.proofs.grid.fine_box.Goals as goal

-- an i32 in fine steps, as it stands after it was kept
kept : (z f : ℤ) → FitsSigned w32 z → f ≡ UNIT *ℤ to_z w32 (of_z w32 z) → to_z w64 (of_z w64 f) ≡ UNIT *ℤ z
kept z f fits e = omega (arith, ints, fits, e)

pub returns : goal.returns
returns c =
    let b = c.args.bounds in
    let low_x = kept b.x.low c.fine_steps.result (search rules) c.fine_steps.ensures in
    let low_y = kept b.y.low c.fine_steps-2.result (search rules) c.fine_steps-2.ensures in
    let low_z = kept b.z.low c.fine_steps-3.result (search rules) c.fine_steps-3.ensures in
    let high_x = kept b.x.high c.fine_steps-4.result (search rules) c.fine_steps-4.ensures in
    let high_y = kept b.y.high c.fine_steps-5.result (search rules) c.fine_steps-5.ensures in
    let high_z = kept b.z.high c.fine_steps-6.result (search rules) c.fine_steps-6.ensures in
    λ i. record { low = low_x i ∷ low_y i ∷ low_z i ∷ []; high = high_x i ∷ high_y i ∷ high_z i ∷ [] }
