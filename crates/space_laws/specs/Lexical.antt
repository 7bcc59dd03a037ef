-- Three numbers that decide where the first is 0, then where the second is: as the digits of a number to a great base.
use Rattle.std.specs.Prelude.{◌≡◌, ℤ, pos, neg_ℤ, ◌+ℤ◌, ◌-ℤ◌, ◌*ℤ◌, ◌≤ℤ◌, ◌<ℤ◌, Bool, true, false, if◌then◌else◌}
use Rattle.std.specs.Ordering.{int_eq}
use Rattle.std.proofs.Common.{arith, refl, ap, ◌∙◌}
use Rattle.std.proofs.lemmas.Int.{ints, by_lt_z}
use Rattle.chain_laws.specs.Products.{mul-add, mul-sub, mul-neg}
use Rattle.plane_laws.specs.Signs.{Signed}
use Rattle.plane_laws.specs.Moved.{IsUnder, nonneg_mul, times_one, times_zero}
use Rattle.plane_laws.specs.Decisions.{Vector, leading}

-- the height over a plane, or where that is 0 the first number of the normal that is not 0
abbrev pub height_or_lead : Vector → ℤ → ℤ
height_or_lead n h = if int_eq h (pos 0) then leading n else h

-- four numbers as digits
abbrev pub digits : ℤ → ℤ → ℤ → ℤ → ℤ → ℤ
digits m h x y z = ((m *ℤ m) *ℤ m) *ℤ h +ℤ (m *ℤ m) *ℤ x +ℤ m *ℤ y +ℤ z

-- a number of one sign times one that is not negative
record Kept (c m n : ℤ) : Type 0 where
  high : (c *ℤ n) ≤ℤ (c *ℤ m -ℤ c)
  low : neg_ℤ (c *ℤ m -ℤ c) ≤ℤ (c *ℤ n)

-- a number under m, times c, stays under c times m
kept : (c m n : ℤ) → pos 0 ≤ℤ c → IsUnder m n → Kept c m n
kept c m n h u =
    let p = nonneg_mul c (m -ℤ pos 1 -ℤ n) h (omega (arith, ints, u.high)) in
    let q = nonneg_mul c (m -ℤ pos 1 +ℤ n) h (omega (arith, ints, u.low)) in
    let e = mul-sub c (m -ℤ pos 1) n in
    let f = mul-add c (m -ℤ pos 1) n in
    let g = mul-sub c m (pos 1) in
    let o = times_one c in
    record { high = omega (arith, ints, p, e, g, o); low = omega (arith, ints, q, f, g, o) }

-- at least c, or at most -c
up_to : (c h : ℤ) → pos 0 ≤ℤ c → pos 0 <ℤ h → c ≤ℤ (c *ℤ h)
up_to c h k l = let p = nonneg_mul c (h -ℤ pos 1) k (omega (arith, ints)) in omega (arith, ints, p, mul-sub c h (pos 1), times_one c)

-- a number below 0 times c
down_to : (c h : ℤ) → pos 0 ≤ℤ c → h <ℤ pos 0 → (c *ℤ h) ≤ℤ neg_ℤ c
down_to c h k l = let p = up_to c (neg_ℤ h) k (omega (arith, ints)) in omega (arith, ints, p, mul-neg c h)

-- nothing times a number
zero_at : (c h : ℤ) → h ≡ pos 0 → c *ℤ h ≡ pos 0
zero_at c h e = ap (λ (t : ℤ). c *ℤ t) e ∙ times_zero c

-- both above 0, both below, or both 0
pub data OneSign (a b : ℤ) : Type 0 where
  both_above : pos 0 <ℤ a → pos 0 <ℤ b → OneSign a b
  both_below : a <ℤ pos 0 → b <ℤ pos 0 → OneSign a b
  both_zero : a ≡ pos 0 → b ≡ pos 0 → OneSign a b

module _ (m h x y z : ℤ) (great : pos 1 <ℤ m) (ux : IsUnder m x) (uy : IsUnder m y) (uz : IsUnder m z) where
  -- the square is not negative
  square : pos 0 ≤ℤ (m *ℤ m)
  square = nonneg_mul m m (omega (arith, ints)) (omega (arith, ints))

  -- nor is the cube
  cube : pos 0 ≤ℤ ((m *ℤ m) *ℤ m)
  cube = nonneg_mul (m *ℤ m) m square (omega (arith, ints))

  -- the first number decides where it is not 0
  by_h : (h <ℤ pos 0 → OneSign h (digits m h x y z)) × (pos 0 <ℤ h → OneSign h (digits m h x y z))
  by_h =
      let kx = kept (m *ℤ m) m x square ux in
      let ky = kept m m y (omega (arith, ints)) uy in (
        λ l. let d = down_to ((m *ℤ m) *ℤ m) h cube l in both_below l (omega (arith, ints, d, kx.high, ky.high, uz.high)),
        λ l. let u = up_to ((m *ℤ m) *ℤ m) h cube l in both_above l (omega (arith, ints, u, kx.low, ky.low, uz.low)),
      )

  -- the second decides where the first is 0
  by_x : h ≡ pos 0 → (x <ℤ pos 0 → OneSign x (digits m h x y z)) × (pos 0 <ℤ x → OneSign x (digits m h x y z))
  by_x e =
      let o = zero_at ((m *ℤ m) *ℤ m) h e in
      let ky = kept m m y (omega (arith, ints)) uy in (
        λ l. let d = down_to (m *ℤ m) x square l in both_below l (omega (arith, ints, o, d, ky.high, uz.high)),
        λ l. let u = up_to (m *ℤ m) x square l in both_above l (omega (arith, ints, o, u, ky.low, uz.low)),
      )

  -- the third decides where these are 0
  by_y : h ≡ pos 0 → x ≡ pos 0 → (y <ℤ pos 0 → OneSign y (digits m h x y z)) × (pos 0 <ℤ y → OneSign y (digits m h x y z))
  by_y e f =
      let o = zero_at ((m *ℤ m) *ℤ m) h e in
      let p = zero_at (m *ℤ m) x f in (
        λ l. let d = down_to m y (omega (arith, ints)) l in both_below l (omega (arith, ints, o, p, d, uz.high)),
        λ l. let u = up_to m y (omega (arith, ints)) l in both_above l (omega (arith, ints, o, p, u, uz.low)),
      )

  -- else the last decides
  by_z : h ≡ pos 0 → x ≡ pos 0 → y ≡ pos 0 → OneSign z (digits m h x y z)
  by_z e f g =
      let same : digits m h x y z ≡ z = omega (arith, ints, zero_at ((m *ℤ m) *ℤ m) h e, zero_at (m *ℤ m) x f, zero_at m y g) in
      by_lt_z z (pos 0)
      (λ l. both_below l (omega (arith, ints, same)))
      (λ k. by_lt_z (pos 0) z (λ l. both_above l (omega (arith, ints, same))) (λ l. both_zero (omega (arith, ints)) (omega (arith, ints, same))))

-- tests of 0
eq_yes : (z : ℤ) → z ≡ pos 0 → int_eq z (pos 0) ≡ true
eq_yes z e = ap (λ (t : ℤ). int_eq t (pos 0)) e

-- a number below 0 is not 0
eq_below : (z : ℤ) → z <ℤ pos 0 → int_eq z (pos 0) ≡ false
eq_below z h = grind (arith, ints)

-- nor is one above 0
eq_above : (z : ℤ) → pos 0 <ℤ z → int_eq z (pos 0) ≡ false
eq_above z h = grind (arith, ints)

-- the number that decides has the sign of the digits
pub decides : (m h : ℤ) (n : Vector) → pos 1 <ℤ m → IsUnder m n.x → IsUnder m n.y → IsUnder m n.z → OneSign (height_or_lead n h) (digits m h n.x n.y n.z)
decides m h n great ux uy uz =
    by_lt_z h (pos 0)
    (λ l. rw (eq_below h l) ((by_h m h n.x n.y n.z great ux uy uz).0 l))
    (λ k. by_lt_z (pos 0) h
    (λ l. rw (eq_above h l) ((by_h m h n.x n.y n.z great ux uy uz).1 l))
    (λ l. let e : h ≡ pos 0 = omega (arith, ints) in
    rw (eq_yes h e)
    (by_lt_z n.x (pos 0)
    (λ i. rw (eq_below n.x i) ((by_x m h n.x n.y n.z great ux uy uz e).0 i))
    (λ i. by_lt_z (pos 0) n.x
    (λ j. rw (eq_above n.x j) ((by_x m h n.x n.y n.z great ux uy uz e).1 j))
    (λ j. let f : n.x ≡ pos 0 = omega (arith, ints) in
    rw (eq_yes n.x f)
    (by_lt_z n.y (pos 0)
    (λ q. rw (eq_below n.y q) ((by_y m h n.x n.y n.z great ux uy uz e f).0 q))
    (λ q. by_lt_z (pos 0) n.y
    (λ r. rw (eq_above n.y r) ((by_y m h n.x n.y n.z great ux uy uz e f).1 r))
    (λ r. let g : n.y ≡ pos 0 = omega (arith, ints) in
    rw (eq_yes n.y g) (by_z m h n.x n.y n.z great ux uy uz e f g)))))))))

-- a height that is not 0 decides itself
pub lead_signed : (s : Bool) (n : Vector) (h : ℤ) → Signed s h → Signed s (height_or_lead n h)
lead_signed true n h k = rw (eq_above h k) k
lead_signed false n h k = rw (eq_below h k) k

-- numbers that are above 0, below it, or 0 together
pub one_sign_signed : (s : Bool) (a b : ℤ) → OneSign a b → Signed s a → Signed s b
one_sign_signed true a b (both_above h k) l = k
one_sign_signed false a b (both_above h k) l = absurd (omega (arith, ints, h, l))
one_sign_signed true a b (both_below h k) l = absurd (omega (arith, ints, h, l))
one_sign_signed false a b (both_below h k) l = k
one_sign_signed true a b (both_zero h k) l = absurd (omega (arith, ints, h, l))
one_sign_signed false a b (both_zero h k) l = absurd (omega (arith, ints, h, l))

-- a number is 0 where one of the same sign is
zero_of : (a b : ℤ) → OneSign a b → b ≡ pos 0 → a ≡ pos 0
zero_of a b (both_above h k) e = absurd (omega (arith, ints, k, e))
zero_of a b (both_below h k) e = absurd (omega (arith, ints, k, e))
zero_of a b (both_zero h k) e = h

-- digits that make 0 are 0
pub digits_zero : (m x y z : ℤ) → pos 1 <ℤ m → IsUnder m x → IsUnder m y → IsUnder m z → digits m (pos 0) x y z ≡ pos 0 → (x ≡ pos 0) × (y ≡ pos 0) × (z ≡ pos 0)
digits_zero m x y z great ux uy uz e =
    let nx : x ≡ pos 0 =
    by_lt_z x (pos 0)
    (λ l. zero_of x _ ((by_x m (pos 0) x y z great ux uy uz refl).0 l) e)
    (λ k. by_lt_z (pos 0) x (λ l. zero_of x _ ((by_x m (pos 0) x y z great ux uy uz refl).1 l) e) (λ l. omega (arith, ints, k, l))) in
    let ny : y ≡ pos 0 =
    by_lt_z y (pos 0)
    (λ l. zero_of y _ ((by_y m (pos 0) x y z great ux uy uz refl nx).0 l) e)
    (λ k. by_lt_z (pos 0) y (λ l. zero_of y _ ((by_y m (pos 0) x y z great ux uy uz refl nx).1 l) e) (λ l. omega (arith, ints, k, l))) in
    (nx, ny, zero_of z _ (by_z m (pos 0) x y z great ux uy uz refl nx ny) e)
