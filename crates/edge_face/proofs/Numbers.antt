-- A number that fits eight bits reads back from them as itself, and so do small sums and differences.
use Rattle.std.proofs.Common.{arith, ◌≡◌, ◌≤◌, unsigned_abs, ℤ, ◌+ℤ◌, ◌-ℤ◌, ◌<◌, ap, ◌∙◌}
use Rattle.std.specs.Int.{w8}
use Rattle.std.specs.Int.Signed.{mag}
use Rattle.std.proofs.lemmas.Int.{ints, to_z-of_z}
use Rattle.shadow_kernels.proofs.Values.{seen}

-- a number, and what it is equal to
pub kept : (z : ℤ) {n : ℤ} → mag z < 128 → z ≡ n → seen w8 z ≡ n
kept z fits e = to_z-of_z w8 z (record { sfits = fits }) ∙ e

-- a difference and a sum of such
pub kept_less : (r x y : ℤ) {a b : ℤ} → mag r < 128 → r ≡ seen w8 x -ℤ seen w8 y → seen w8 x ≡ a → seen w8 y ≡ b → seen w8 r ≡ a -ℤ b
kept_less r x y {a} {b} fits e h k = kept r fits (e ∙ ap (λ (z : ℤ). z -ℤ seen w8 y) h ∙ ap (λ (z : ℤ). a -ℤ z) k)

pub kept_sum : (r x y z : ℤ) {a b c : ℤ} → mag r < 128 → r ≡ seen w8 x +ℤ (seen w8 y +ℤ seen w8 z) → seen w8 x ≡ a → seen w8 y ≡ b → seen w8 z ≡ c → seen w8 r ≡ a +ℤ (b +ℤ c)
kept_sum r x y z {a} {b} {c} fits e h k l =
    kept r fits (e ∙ ap (λ (n : ℤ). n +ℤ (seen w8 y +ℤ seen w8 z)) h ∙ ap (λ (n : ℤ). a +ℤ (n +ℤ seen w8 z)) k ∙ ap (λ (n : ℤ). a +ℤ (b +ℤ n)) l)

-- a small number
small : (z : ℤ) → unsigned_abs z ≤ 1 → seen w8 z ≡ z
small z h = omega (arith, ints)

-- a difference of differences of small numbers
pub kept_lifted : (r e s a b : ℤ) → mag r < 128 → r ≡ (seen w8 e -ℤ seen w8 s) -ℤ (seen w8 a -ℤ seen w8 b) →
    unsigned_abs e ≤ 1 → unsigned_abs s ≤ 1 → unsigned_abs a ≤ 1 → unsigned_abs b ≤ 1 → seen w8 r ≡ (e -ℤ s) -ℤ (a -ℤ b)
kept_lifted r e s a b fits h he hs ha hb =
    kept r fits (h ∙ same (seen w8 e) (seen w8 s) (seen w8 a) (seen w8 b) e s a b (small e he) (small s hs) (small a ha) (small b hb))
  where
    same : (x y z w x' y' z' w' : ℤ) → x ≡ x' → y ≡ y' → z ≡ z' → w ≡ w' → ((x -ℤ y) -ℤ (z -ℤ w)) ≡ ((x' -ℤ y') -ℤ (z' -ℤ w'))
    same x y z w x' y' z' w' e f g h = cc
