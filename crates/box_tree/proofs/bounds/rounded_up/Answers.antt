use Rattle.std.proofs.Common.{◌≡◌, ◌∙◌, ◌^◌, ◌*◌, ◌+◌, ◌-◌, ◌<◌, ◌≤◌, ℕ, zero, suc, ℤ, pos, negsuc, neg_ℤ, to_z, of_z, SFits, arith, ap, sym, inl, inr}
use Rattle.std.specs.Int.{w64, int_shr}
use Rattle.std.proofs.Math.Pow.{pow_pos}
use Rattle.std.proofs.lemmas.Bool.{cases_lt}
use Rattle.std.proofs.lemmas.Int.{ints, to_z-of_z}
use Rattle.std.proofs.lemmas.Nat.{mul-le, pow-add}
use Rattle.box_tree.specs.Coarse.{fine}
use Rattle.box_tree.proofs.Quantized.{fine_shifted, fine_turned}
use Rattle.box_tree.proofs.bounds.rounded_up.Goals as goal

-- the least number of 64 bits
abbrev least : ℤ
least = negsuc (2 ^ 63 - 1)

-- it alone has no opposite
alone : (z : ℤ) → SFits w64 z → (SFits w64 (neg_ℤ z) → ⊥) → z ≡ least
alone (pos zero) fits none = absurd (none (record { sfits = omega arith }))
alone (pos (suc n)) fits none = absurd (none (record { sfits = omega (arith, fits.sfits) }))
alone (negsuc n) fits none = elim (cases_lt (suc n) (2 ^ 63)) as (λ _. negsuc n ≡ least) [
  | inl l ↦ absurd (none (record { sfits = l }))
  | inr l ↦ ap negsuc (omega (arith, l, fits.sfits))
]

-- two steps to the other side
twice : (m : ℤ) → neg_ℤ (neg_ℤ m) ≡ m
twice m = omega (arith, ints)

-- it is a whole number of any steps
turned : (s : ℕ) → s < 64 → to_z w64 (of_z w64 (int_shr least s)) ≡ neg_ℤ (int_shr (neg_ℤ least) s)
turned s small =
    let k = 2 ^ (63 - s) in
    let m = neg_ℤ (pos k) in
    let sum : 63 - s + s ≡ 63 = omega (arith, small) in
    let many : k * 2 ^ s ≡ 2 ^ 63 = sym (pow-add 2 (63 - s) s) ∙ ap (λ n. 2 ^ n) sum in
    let few : k * 1 ≤ k * 2 ^ s = mul-le k 1 k (2 ^ s) (omega arith) (omega (arith, pow_pos s)) in
    let whole : least ≡ fine s m = sym (fine_turned s (pos k) ∙ ap (λ n. neg_ℤ (pos n)) many) in
    let down : int_shr least s ≡ m = ap (λ z. int_shr z s) whole ∙ fine_shifted s m in
    let up : int_shr (neg_ℤ least) s ≡ neg_ℤ m = ap (λ z. int_shr (neg_ℤ z) s) whole ∙ ap (λ z. int_shr z s) (sym (fine_turned s m)) ∙ fine_shifted s (neg_ℤ m) in
    let kept : to_z w64 (of_z w64 m) ≡ m = omega (arith, ints, few, many) in
    ap (λ z. to_z w64 (of_z w64 z)) down ∙ kept ∙ sym (ap neg_ℤ up ∙ twice m)

pub returns-in-None : goal.returns-in-None
returns-in-None c =
    let at = c.args.at in
    let kept = to_z-of_z w64 at c.ranges.at in
    let none : SFits w64 (neg_ℤ (to_z w64 (of_z w64 at))) → ⊥ = c.in-None.ensures in
    let is_least = alone at c.ranges.at (rw kept at none) in
    rw (kept, is_least) (turned c.args.shift c.requires)
