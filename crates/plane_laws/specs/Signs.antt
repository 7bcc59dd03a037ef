-- Strict signs of whole numbers, and of their products.
use Rattle.std.specs.Prelude.{◌≡◌, ℤ, pos, neg_ℤ, ◌+ℤ◌, ◌*ℤ◌, ◌≤ℤ◌, ◌<ℤ◌, Bool, true, false, not}
use Rattle.std.proofs.Common.{arith}
use Rattle.std.proofs.lemmas.Int.{ints}
use Rattle.chain_laws.specs.Products.{mul-neg, neg-mul, pos_mul, pos_factor}

-- above 0 (true) or below it (false)
abbrev pub Signed : Bool → ℤ → Type 0
Signed true z = pos 0 <ℤ z
Signed false z = z <ℤ pos 0

-- the same, or 0
abbrev pub Weak : Bool → ℤ → Type 0
Weak true z = pos 0 ≤ℤ z
Weak false z = z ≤ℤ pos 0

-- the sign of a product
abbrev pub like : Bool → Bool → Bool
like true t = t
like false t = not t

-- that of two numbers with their signs
pub signed_mul : (s t : Bool) (a b : ℤ) → Signed s a → Signed t b → Signed (like s t) (a *ℤ b)
signed_mul true true a b h k = pos_mul a b h k
signed_mul true false a b h k = let p = pos_mul a (neg_ℤ b) h (omega (arith, ints)) in omega (arith, ints, p, mul-neg a b)
signed_mul false true a b h k = let p = pos_mul (neg_ℤ a) b (omega (arith, ints)) k in omega (arith, ints, p, neg-mul a b)
signed_mul false false a b h k = let p = pos_mul (neg_ℤ a) (neg_ℤ b) (omega (arith, ints)) (omega (arith, ints)) in omega (arith, ints, p, neg-mul a (neg_ℤ b), mul-neg a b)

-- the sign of a factor
pub signed_factor : (s t : Bool) (a b : ℤ) → Signed s a → Signed t (a *ℤ b) → Signed (like s t) b
signed_factor true true a b h k = pos_factor a b h k
signed_factor true false a b h k = let p = pos_factor a (neg_ℤ b) h (omega (arith, ints, mul-neg a b)) in omega (arith, ints, p)
signed_factor false true a b h k = let p = pos_factor (neg_ℤ a) (neg_ℤ b) (omega (arith, ints)) (omega (arith, ints, neg-mul a (neg_ℤ b), mul-neg a b)) in omega (arith, ints, p)
signed_factor false false a b h k = let p = pos_factor (neg_ℤ a) b (omega (arith, ints)) (omega (arith, ints, neg-mul a b)) in omega (arith, ints, p)

-- of three numbers that add up to nothing, two of one sign give the third the other
third : (r : Bool) (u v w : ℤ) → u +ℤ v +ℤ w ≡ pos 0 → Signed r u → Signed r v → Signed (not r) w
third true u v w e h k = omega (arith, ints)
third false u v w e h k = omega (arith, ints)

-- so the third factor's sign follows where two products have one sign
pub third_below : (r : Bool) (u k v l w m : ℤ) → u *ℤ k +ℤ v *ℤ l +ℤ w *ℤ m ≡ pos 0 → Signed r (u *ℤ k) → Signed r (v *ℤ l) → w <ℤ pos 0 → Signed r m
third_below true u k v l w m e h i j = signed_factor false false w m j (third true (u *ℤ k) (v *ℤ l) (w *ℤ m) e h i)
third_below false u k v l w m e h i j = signed_factor false true w m j (third false (u *ℤ k) (v *ℤ l) (w *ℤ m) e h i)

-- where the third number is above 0
pub third_above : (r : Bool) (u k v l w m : ℤ) → u *ℤ k +ℤ v *ℤ l +ℤ w *ℤ m ≡ pos 0 → Signed (not r) (u *ℤ k) → Signed (not r) (v *ℤ l) → pos 0 <ℤ w → Signed r m
third_above true u k v l w m e h i j = signed_factor true true w m j (third false (u *ℤ k) (v *ℤ l) (w *ℤ m) e h i)
third_above false u k v l w m e h i j = signed_factor true false w m j (third true (u *ℤ k) (v *ℤ l) (w *ℤ m) e h i)

-- the sign of a negative
pub signed_neg : (s : Bool) (z : ℤ) → Signed (not s) z → Signed s (neg_ℤ z)
signed_neg true z h = omega (arith, ints)
signed_neg false z h = omega (arith, ints)

-- and back
pub neg_signed : (s : Bool) (z : ℤ) → Signed s z → Signed (not s) (neg_ℤ z)
neg_signed true z h = omega (arith, ints)
neg_signed false z h = omega (arith, ints)
