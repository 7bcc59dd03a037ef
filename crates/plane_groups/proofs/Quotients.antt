-- Quotients are no larger than what is divided.
use Rattle.std.specs.Prelude.{◌≡◌, ◌≤◌, ◌/◌, ℕ, zero, suc, ℤ, pos, negsuc, neg_ℤ, Bool, true, false, cond, int_div, unsigned_abs}
use Rattle.std.proofs.Common.{arith, div-le_self, refl, sym, subst}

abs_back : (n : ℕ) → unsigned_abs (neg_ℤ (pos n)) ≡ n
abs_back zero = refl
abs_back (suc n) = refl

abs_turned : (z : ℤ) → unsigned_abs (neg_ℤ z) ≡ unsigned_abs z
abs_turned (pos n) = abs_back n
abs_turned (negsuc n) = refl

quotient_small : (z : ℤ) (g m : ℕ) → unsigned_abs z ≤ m → unsigned_abs (int_div z (pos g)) ≤ m
quotient_small (pos a) g m h = omega (arith, div-le_self a g, h)
quotient_small (negsuc a) g m h = subst (λ (t : ℕ). t ≤ m) (sym (abs_back (suc a / g))) (omega (arith, div-le_self (suc a) g, h))

pub part_small : (b : Bool) (z : ℤ) (g m : ℕ) → unsigned_abs z ≤ m → unsigned_abs (cond b (int_div z (pos g)) (neg_ℤ (int_div z (pos g)))) ≤ m
part_small true z g m h = quotient_small z g m h
part_small false z g m h = subst (λ (t : ℕ). t ≤ m) (sym (abs_turned (int_div z (pos g)))) (quotient_small z g m h)
