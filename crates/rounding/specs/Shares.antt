-- A rounded share of a difference lies between 0 and the difference.
use Rattle.std.specs.Prelude.{ℕ, ◌+◌, ◌*◌, ◌<◌, ◌≤◌, ℤ, pos, negsuc, ◌+ℤ◌, ◌*ℤ◌, ◌≤ℤ◌, ◌<ℤ◌}
use Rattle.std.proofs.Common.{arith, inl, inr}
use Rattle.std.proofs.Math.Nat.{mul-le-mul_right}
use Rattle.std.proofs.lemmas.Int.{ints, by_lt_z}
use borrow.Author.Differences.{up, down}
use Rattle.side_terms.specs.Fine.{LiesBetween}
use Rattle.rounding.specs.Nearest.{rounded}
use Rattle.rounding.specs.Floor.{floor_at_least, floor_at_most}

-- of a difference that is not below 0
share_up : (w : ℤ) (a b : ℕ) → 0 < a + b → pos 0 ≤ℤ w → (pos 0 ≤ℤ rounded (w *ℤ pos a) (pos (a + b))) × (rounded (w *ℤ pos a) (pos (a + b)) ≤ℤ w)
share_up (pos n) a b p h = (
  floor_at_least (pos (2 * (n * a) + (a + b))) (pos 0) (2 * (a + b)) (omega arith) (omega (arith, ints)),
  floor_at_most (pos (2 * (n * a) + (a + b))) (pos n) (2 * (a + b)) (omega arith) (omega (arith, ints)),
)
share_up (negsuc n) a b p h = absurd (omega (arith, ints))

-- of a difference that is not above 0
share_down : (w : ℤ) (a b : ℕ) → 0 < a + b → w ≤ℤ pos 0 → (w ≤ℤ rounded (w *ℤ pos a) (pos (a + b))) × (rounded (w *ℤ pos a) (pos (a + b)) ≤ℤ pos 0)
share_down w a b p h =
    let below : up w ≤ down w = omega (arith, ints) in
    let wa = mul-le-mul_right a below in
    let wb = mul-le-mul_right b below in (
      floor_at_least (pos 2 *ℤ (w *ℤ pos a) +ℤ pos (a + b)) w (2 * (a + b)) (omega arith) (omega (arith, ints, wa, wb)),
      floor_at_most (pos 2 *ℤ (w *ℤ pos a) +ℤ pos (a + b)) (pos 0) (2 * (a + b)) (omega arith) (omega (arith, ints, wa, wb)),
    )

-- of any difference, by weights that are numbers
share_pos : (w : ℤ) (a b : ℕ) → 0 < a + b → LiesBetween (pos 0) w (rounded (w *ℤ pos a) (pos (a + b)))
share_pos w a b p = by_lt_z w (pos 0)
    (λ l. let h : w ≤ℤ pos 0 = omega (arith, ints) in inr (share_down w a b p h))
    (λ l. inl (share_up w a b p l))

-- a rounded share lies between 0 and the difference
pub share_between : (w a b : ℤ) → pos 0 ≤ℤ a → pos 0 ≤ℤ b → pos 0 <ℤ (a +ℤ b) → LiesBetween (pos 0) w (rounded (w *ℤ a) (a +ℤ b))
share_between w (pos a) (pos b) h k p = share_pos w a b (omega (arith, ints))
share_between w (negsuc a) b h k p = absurd (omega (arith, ints))
share_between w (pos a) (negsuc b) h k p = absurd (omega (arith, ints))
