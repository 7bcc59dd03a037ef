-- The zero bits with which numbers end.
use Rattle.std.proofs.Common.{◌≡◌, ◌∙◌, ℕ, zero, suc, ℤ, ◌+◌, ◌-◌, ◌/◌, ◌%◌, ◌^◌, ◌<◌, ◌≤◌, refl, sym, ap, subst, arith}
use Rattle.std.specs.Prelude.{unsigned_abs, max}
use Rattle.std.specs.Int.{w64, trailing_zeros}
use Rattle.std.specs.Int.RustNames.{bit_or}
use Rattle.std.proofs.Math.Pow.{shr_mono}
use Rattle.std.proofs.lemmas.Nat.{le_or_l, le_or_r, or_mod, mod-pow-add}
use lib.Count.{count_trailing_zeros, under}
use Rattle.box_tree.specs.declared.extent.Extent.{Extent}
use Rattle.box_tree.specs.Coarse.{IsWhole}
use Rattle.box_tree.specs.Extents.{IsCovered}
use Rattle.box_tree.proofs.Quantized.{whole_from}

-- by the last bit, and the zero bits before it
by_last : (d t n : ℕ) → n % 2 ≡ d → n / 2 % 2 ^ t ≡ 0 → n % 2 ^ under d t ≡ 0
by_last zero t n even h =
    let first : n / 2 ^ 1 % 2 ^ t ≡ 0 = h in
    let last : n % 2 ^ 1 ≡ 0 = even in
    let both : n % 2 ^ (t + 1) ≡ 0 = omega (arith, mod-pow-add n t 1, first, last) in
    let more : suc t ≡ t + 1 = omega arith in
    ap (λ k. n % 2 ^ k) more ∙ both
by_last (suc d) t n odd h = omega arith

-- a number ends with as many zero bits as are counted
trailing_shared : (w n : ℕ) → n % 2 ^ count_trailing_zeros w n ≡ 0
unfolding count_trailing_zeros
trailing_shared zero n = omega arith
trailing_shared (suc w) n = by_last (n % 2) (count_trailing_zeros w (n / 2)) n refl (trailing_shared w (n / 2))

-- and with fewer
fewer_shared : (n j k : ℕ) → j ≤ k → n % 2 ^ k ≡ 0 → n % 2 ^ j ≡ 0
fewer_shared n j k few h =
    let P : ℕ → Type 0 = λ i. n % 2 ^ i ≡ 0 in
    let all : (k - j) + j ≡ k = omega (arith, few) in
    omega (arith, mod-pow-add n (k - j) j, subst P (sym all) h)

-- what an extent covers, it covers with another number
pub covered_still : (e : Extent) (d m : ℕ) → m ≡ max e.most d → (z : ℤ) → IsCovered e z → IsCovered (record { digits = bit_or e.digits d; most = m }) z
covered_still e d m most z h = record {
  shares = λ k none. h.shares k (omega (arith, or_mod e.digits d k, le_or_l (e.digits % 2 ^ k) (d % 2 ^ k), none));
  within = omega (arith, h.within, most);
}

-- and that number, whatever its sign
pub covered_new : (e : Extent) (d m : ℕ) → m ≡ max e.most d → (z : ℤ) → d ≡ unsigned_abs z → IsCovered (record { digits = bit_or e.digits d; most = m }) z
covered_new e d m most z same =
    let shared : (k : ℕ) → bit_or e.digits d % 2 ^ k ≡ 0 → d % 2 ^ k ≡ 0 = λ k none. omega (arith, or_mod e.digits d k, le_or_r (e.digits % 2 ^ k) (d % 2 ^ k), none) in
    record {
      shares = λ k none. ap (λ n. n % 2 ^ k) (sym same) ∙ shared k none;
      within = omega (arith, most, same);
    }

-- what an extent covers is whole, in steps of the zero bits that are shared
pub covered_whole : (e : Extent) (z : ℤ) (shift : ℕ) → shift ≤ trailing_zeros w64 e.digits → e.most / 2 ^ shift < 2 ^ 31 - 1 → IsCovered e z → IsWhole shift z
covered_whole e z shift few small h =
    let divides = h.shares shift (fewer_shared e.digits shift (trailing_zeros w64 e.digits) few (trailing_shared 64 e.digits)) in
    whole_from shift z divides (omega (arith, small, shr_mono {a = unsigned_abs z} {b = e.most} shift h.within))
