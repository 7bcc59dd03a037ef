-- Areas of places of the grid: the doubled area of three places of a square is at most that of the square.
use Rattle.std.specs.Prelude.{◌≡◌, ◌≤◌, ◌+◌, ◌*◌, ◌^◌, ℕ, suc, ℤ, pos, negsuc, neg_ℤ, ◌-ℤ◌, ◌*ℤ◌, unsigned_abs}
use Rattle.std.proofs.Common.{arith, subst, sym, to_z, of_z, w64}
use Rattle.std.proofs.lemmas.Int.{ints, unsigned_abs-mul}
use Rattle.std.proofs.lemmas.Nat.{mul-le}
use Rattle.mesh_terms.specs.Points.{IsOnGrid}

-- a number as it stands after it was kept at 64 bits
abbrev pub kept : ℤ → ℤ
kept z = to_z w64 (of_z w64 z)

-- one that fits stays
pub kept_same : (z : ℤ) → unsigned_abs z ≤ 2 ^ 62 → kept z ≡ z
kept_same z h = omega (arith, ints, h)

-- the product of two ways is small
pub product_small : (x y : ℤ) → unsigned_abs x ≤ 2 ^ 31 → unsigned_abs y ≤ 2 ^ 31 → unsigned_abs (x *ℤ y) ≤ 2 ^ 62
product_small x y h k = subst (λ (t : ℕ). t ≤ 2 ^ 62) (sym (unsigned_abs-mul x y)) (mul-le (unsigned_abs x) (unsigned_abs y) (2 ^ 31) (2 ^ 31) h k)

-- and stays
pub kept_product : (x y : ℤ) → unsigned_abs x ≤ 2 ^ 31 → unsigned_abs y ≤ 2 ^ 31 → kept (kept x *ℤ kept y) ≡ x *ℤ y
kept_product x y h k =
    let e : kept x ≡ x = omega (arith, ints, h) in
    let f : kept y ≡ y = omega (arith, ints, k) in
    rw (e, f) (kept_same (x *ℤ y) (product_small x y h k))

-- differences of numbers up to t with signs
pp : (p q t : ℕ) → p ≤ t → q ≤ t → unsigned_abs (pos p -ℤ pos q) ≤ t
pp p q t h k = omega (arith, ints, h, k)

nn : (p q t : ℕ) → p ≤ t → q ≤ t → unsigned_abs (neg_ℤ (pos p) -ℤ neg_ℤ (pos q)) ≤ t
nn p q t h k = omega (arith, ints, h, k)

pn : (p q t : ℕ) → p + q ≤ t → unsigned_abs (pos p -ℤ neg_ℤ (pos q)) ≤ t
pn p q t h = omega (arith, ints, h)

np : (p q t : ℕ) → p + q ≤ t → unsigned_abs (neg_ℤ (pos p) -ℤ pos q) ≤ t
np p q t h = omega (arith, ints, h)

-- sums of two products, of which a factor of the first is small together with one of the second
outer : (s a b c d : ℕ) → a + d ≤ s → b ≤ s → c ≤ s → a * b + c * d ≤ s * s
outer s a b c d h k l = omega (arith, mul-le a b a s (omega arith) k, mul-le c d s d l (omega arith), mul-le (a + d) s s s h (omega arith))

inner : (s a b c d : ℕ) → b + c ≤ s → a ≤ s → d ≤ s → a * b + c * d ≤ s * s
inner s a b c d h k l = omega (arith, mul-le a b s b k (omega arith), mul-le c d c s (omega arith) l, mul-le (b + c) s s s h (omega arith))

pub square_small : (s : ℕ) (x y u v : ℤ) → unsigned_abs x ≤ s → unsigned_abs y ≤ s → unsigned_abs u ≤ s → unsigned_abs v ≤ s →
    unsigned_abs (x -ℤ u) ≤ s → unsigned_abs (y -ℤ v) ≤ s → unsigned_abs (x *ℤ v -ℤ y *ℤ u) ≤ s * s
square_small s (pos a) (pos c) (pos d) (pos b) x y u v h k = pp (a * b) (c * d) (s * s) (mul-le a b s s x v) (mul-le c d s s y u)
square_small s (pos a) (pos c) (pos d) (negsuc b) x y u v h k = np (a * suc b) (c * d) (s * s) (inner s a (suc b) c d (omega (arith, ints, k)) x u)
square_small s (pos a) (pos c) (negsuc d) (pos b) x y u v h k = pn (a * b) (c * suc d) (s * s) (outer s a b c (suc d) (omega (arith, ints, h)) v y)
square_small s (pos a) (pos c) (negsuc d) (negsuc b) x y u v h k = nn (a * suc b) (c * suc d) (s * s) (mul-le a (suc b) s s x v) (mul-le c (suc d) s s y u)
square_small s (pos a) (negsuc c) (pos d) (pos b) x y u v h k = pn (a * b) (suc c * d) (s * s) (inner s a b (suc c) d (omega (arith, ints, k)) x u)
square_small s (pos a) (negsuc c) (pos d) (negsuc b) x y u v h k = nn (a * suc b) (suc c * d) (s * s) (mul-le a (suc b) s s x v) (mul-le (suc c) d s s y u)
square_small s (pos a) (negsuc c) (negsuc d) (pos b) x y u v h k = pp (a * b) (suc c * suc d) (s * s) (mul-le a b s s x v) (mul-le (suc c) (suc d) s s y u)
square_small s (pos a) (negsuc c) (negsuc d) (negsuc b) x y u v h k = np (a * suc b) (suc c * suc d) (s * s) (outer s a (suc b) (suc c) (suc d) (omega (arith, ints, h)) v y)
square_small s (negsuc a) (pos c) (pos d) (pos b) x y u v h k = np (suc a * b) (c * d) (s * s) (outer s (suc a) b c d (omega (arith, ints, h)) v y)
square_small s (negsuc a) (pos c) (pos d) (negsuc b) x y u v h k = pp (suc a * suc b) (c * d) (s * s) (mul-le (suc a) (suc b) s s x v) (mul-le c d s s y u)
square_small s (negsuc a) (pos c) (negsuc d) (pos b) x y u v h k = nn (suc a * b) (c * suc d) (s * s) (mul-le (suc a) b s s x v) (mul-le c (suc d) s s y u)
square_small s (negsuc a) (pos c) (negsuc d) (negsuc b) x y u v h k = pn (suc a * suc b) (c * suc d) (s * s) (inner s (suc a) (suc b) c (suc d) (omega (arith, ints, k)) x u)
square_small s (negsuc a) (negsuc c) (pos d) (pos b) x y u v h k = nn (suc a * b) (suc c * d) (s * s) (mul-le (suc a) b s s x v) (mul-le (suc c) d s s y u)
square_small s (negsuc a) (negsuc c) (pos d) (negsuc b) x y u v h k = pn (suc a * suc b) (suc c * d) (s * s) (outer s (suc a) (suc b) (suc c) d (omega (arith, ints, h)) v y)
square_small s (negsuc a) (negsuc c) (negsuc d) (pos b) x y u v h k = np (suc a * b) (suc c * suc d) (s * s) (inner s (suc a) b (suc c) (suc d) (omega (arith, ints, k)) x u)
square_small s (negsuc a) (negsuc c) (negsuc d) (negsuc b) x y u v h k = pp (suc a * suc b)
    (suc c * suc d) (s * s) (mul-le (suc a) (suc b) s s x v) (mul-le (suc c) (suc d) s s y u)

-- the doubled area of three places of the grid
pub area_small : (si sj ti tj vi vj : ℤ) → IsOnGrid si → IsOnGrid sj → IsOnGrid ti → IsOnGrid tj → IsOnGrid vi → IsOnGrid vj →
    unsigned_abs ((ti -ℤ si) *ℤ (vj -ℤ sj) -ℤ (tj -ℤ sj) *ℤ (vi -ℤ si)) ≤ 2 ^ 62
area_small si sj ti tj vi vj a b c d e f =
    square_small (2 ^ 31) (ti -ℤ si) (tj -ℤ sj) (vi -ℤ si) (vj -ℤ sj) (omega (arith, ints, a, c))
    (omega (arith, ints, b, d)) (omega (arith, ints, a, e)) (omega (arith, ints, b, f))
    (omega (arith, ints, a, c, e)) (omega (arith, ints, b, d, f))
