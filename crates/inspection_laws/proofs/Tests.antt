-- What tests of signs say.
use Rattle.std.specs.Prelude.{◌≡◌, ◌≢◌, ℤ, pos, neg_ℤ, ◌+ℤ◌, ◌-ℤ◌, ◌*ℤ◌, ◌≤ℤ◌, ◌<ℤ◌, ◌⊎◌, Bool, true, false, not, ◌&&◌, ◌||◌, int_lt}
use Rattle.std.specs.Ordering.{int_eq}
use Rattle.std.proofs.Common.{arith, refl, sym, ap, inl, inr, ◌∙◌}
use Rattle.std.proofs.lemmas.Int.{ints}
use Rattle.std.proofs.lemmas.Bool.Decides.{Decides-int_eq}
use Rattle.plane_laws.specs.Decisions.{Vector, same_sign}
use Rattle.plane_laws.specs.Signs.{Signed, Weak}
use Rattle.inspection_terms.specs.Cuts.{HasCorner}
use Rattle.inspection_terms.specs.Inspected.{has_corner, same_place}
use Rattle.inspection_terms.specs.Triangles.{Corners}
use Rattle.inspection_laws.specs.Signs.{agree, are_opposite, is_zero}
use Rattle.inspection_laws.proofs.Numbers.{by_sign}

-- tests of 0
pub zero_yes : (z : ℤ) → z ≡ pos 0 → is_zero z ≡ true
zero_yes z e = (Decides-int_eq z (pos 0)).1 e

pub yes_zero : (z : ℤ) → is_zero z ≡ true → z ≡ pos 0
yes_zero z e = (Decides-int_eq z (pos 0)).0 e

-- both parts of a test
pub both : (a b : Bool) → (a && b) ≡ true → (a ≡ true) × (b ≡ true)
both true b e = (refl, e)
both false b e = absurd (cc)

pub and : (a b : Bool) → a ≡ true → b ≡ true → (a && b) ≡ true
and a b e f = cc

-- one of two
pub either : (a b : Bool) → (a || b) ≡ true → (a ≡ true) ⊎ (b ≡ true)
either true b e = inl refl
either false b e = inr e

pub or_left : (a b : Bool) → a ≡ true → (a || b) ≡ true
or_left a b e = cc

pub or_right : (a b : Bool) → b ≡ true → (a || b) ≡ true
or_right true b e = refl
or_right false b e = e

pub is_not : (a : Bool) → not a ≡ true → a ≡ false
is_not true e = absurd (cc)
is_not false e = refl

pub no : (a : Bool) → (a ≡ true → ⊥) → a ≡ false
no true f = absurd (f refl)
no false f = refl

-- one above 0 and the other below it
pub data Opposite (a b : ℤ) : Type 0 where
  rising : a <ℤ pos 0 → pos 0 <ℤ b → Opposite a b
  falling : pos 0 <ℤ a → b <ℤ pos 0 → Opposite a b

pub opposite_yes : (a b : ℤ) → Opposite a b → are_opposite a b ≡ true
opposite_yes a b (rising h k) = grind (arith, ints)
opposite_yes a b (falling h k) = grind (arith, ints)

lt_is : (a b : ℤ) → int_lt a b ≡ true → a <ℤ b
lt_is a b e = grind (arith, ints)

pub yes_opposite : (a b : ℤ) → are_opposite a b ≡ true → Opposite a b
yes_opposite a b e = by (either (int_lt a (pos 0) && int_lt (pos 0) b) (int_lt (pos 0) a && int_lt b (pos 0)) e) where
  by : ((int_lt a (pos 0) && int_lt (pos 0) b) ≡ true) ⊎ ((int_lt (pos 0) a && int_lt b (pos 0)) ≡ true) → Opposite a b
  by (inl k) = let h = both (int_lt a (pos 0)) (int_lt (pos 0) b) k in rising (lt_is a (pos 0) h.0) (lt_is (pos 0) b h.1)
  by (inr k) = let h = both (int_lt (pos 0) a) (int_lt b (pos 0)) k in falling (lt_is (pos 0) a h.0) (lt_is b (pos 0) h.1)

-- the other way round
pub opposite_back : (a b : ℤ) → Opposite a b → Opposite b a
opposite_back a b (rising h k) = falling k h
opposite_back a b (falling h k) = rising k h

pub opposite_neg : (a b : ℤ) → Opposite (neg_ℤ a) (neg_ℤ b) → Opposite a b
opposite_neg a b (rising h k) = falling (omega (arith, ints, h)) (omega (arith, ints, k))
opposite_neg a b (falling h k) = rising (omega (arith, ints, h)) (omega (arith, ints, k))

-- three numbers of one sign, or 0
pub record HaveWeak (s : Bool) (a b c : ℤ) : Type 0 where
  pub first : Weak s a
  pub second : Weak s b
  pub third : Weak s c

-- no two numbers of one sign are opposite
weak_apart : (s : Bool) (a b : ℤ) → Weak s a → Weak s b → Opposite a b → ⊥
weak_apart true a b h k (rising l m) = omega (arith, ints, h, l)
weak_apart true a b h k (falling l m) = omega (arith, ints, k, m)
weak_apart false a b h k (rising l m) = omega (arith, ints, k, m)
weak_apart false a b h k (falling l m) = omega (arith, ints, h, l)

pub agree_yes : (s : Bool) (a b c : ℤ) → HaveWeak s a b c → agree a b c ≡ true
agree_yes s a b c h =
    three (are_opposite a b) (are_opposite b c) (are_opposite c a)
    (no _ (λ e. weak_apart s a b h.first h.second (yes_opposite a b e)))
    (no _ (λ e. weak_apart s b c h.second h.third (yes_opposite b c e)))
    (no _ (λ e. weak_apart s c a h.third h.first (yes_opposite c a e)))
  where
    three : (x y z : Bool) → x ≡ false → y ≡ false → z ≡ false → (not x && not y && not z) ≡ true
    three x y z e f g = cc

-- three numbers that agree have one sign, or are 0
pub yes_agree : (a b c : ℤ) → agree a b c ≡ true → (s : Bool) × HaveWeak s a b c
yes_agree a b c e = by_sign a
    (λ h. (false, record { first = omega (arith, ints, h); second = not_above b (λ k. ab (rising h k)); third = not_above c (λ k. ca (falling k h)) }))
    (λ h. by_sign b
    (λ k. (false, record { first = omega (arith, ints, h); second = omega (arith, ints, k); third = not_above c (λ l. bc (rising k l)) }))
    (λ k. by_sign c
    (λ l. (false, record { first = omega (arith, ints, h); second = omega (arith, ints, k); third = omega (arith, ints, l) }))
    (λ l. (false, record { first = omega (arith, ints, h); second = omega (arith, ints, k); third = omega (arith, ints, l) }))
    (λ l. (true, record { first = omega (arith, ints, h); second = omega (arith, ints, k); third = omega (arith, ints, l) })))
    (λ k. (true, record { first = omega (arith, ints, h); second = omega (arith, ints, k); third = not_below c (λ l. bc (falling k l)) })))
    (λ h. (true, record { first = omega (arith, ints, h); second = not_below b (λ k. ab (falling h k)); third = not_below c (λ k. ca (rising k h)) }))
  where
    parts : (x y z : Bool) → (not x && not y && not z) ≡ true → (x ≡ false) × (y ≡ false) × (z ≡ false)
    parts true y z e = absurd (cc)
    parts false true z e = absurd (cc)
    parts false false true e = absurd (cc)
    parts false false false e = (refl, refl, refl)

    contrary : (x : Bool) → x ≡ false → x ≡ true → ⊥
    contrary x e f = absurd (cc)

    ab : Opposite a b → ⊥
    ab o = contrary _ (parts (are_opposite a b) (are_opposite b c) (are_opposite c a) e).0 (opposite_yes a b o)

    bc : Opposite b c → ⊥
    bc o = contrary _ (parts (are_opposite a b) (are_opposite b c) (are_opposite c a) e).1 (opposite_yes b c o)

    ca : Opposite c a → ⊥
    ca o = contrary _ (parts (are_opposite a b) (are_opposite b c) (are_opposite c a) e).2 (opposite_yes c a o)

    not_above : (z : ℤ) → (pos 0 <ℤ z → ⊥) → z ≤ℤ pos 0
    not_above z f = by_sign z (λ h. omega (arith, ints, h)) (λ h. omega (arith, ints, h)) (λ h. absurd (f h))

    not_below : (z : ℤ) → (z <ℤ pos 0 → ⊥) → pos 0 ≤ℤ z
    not_below z f = by_sign z (λ h. absurd (f h)) (λ h. omega (arith, ints, h)) (λ h. omega (arith, ints, h))

-- not both on one side
pub data Parted (g h : ℤ) : Type 0 where
  up : pos 0 ≤ℤ g → h ≤ℤ pos 0 → Parted g h
  down : g ≤ℤ pos 0 → pos 0 ≤ℤ h → Parted g h

pub parted_neg : (g h : ℤ) → Parted (neg_ℤ g) (neg_ℤ h) → Parted g h
parted_neg g h (up k l) = down (omega (arith, ints, k)) (omega (arith, ints, l))
parted_neg g h (down k l) = up (omega (arith, ints, k)) (omega (arith, ints, l))

pub parted_yes : (g h : ℤ) → Parted g h → not (same_sign g h) ≡ true
parted_yes g h (up k l) = grind (arith, ints)
parted_yes g h (down k l) = grind (arith, ints)

pub yes_parted : (g h : ℤ) → not (same_sign g h) ≡ true → Parted g h
yes_parted g h e = by_sign g
    (λ k. by_sign h
    (λ l. absurd (contrary _ e (let s : same_sign g h ≡ true = grind (arith, ints) in s)))
    (λ l. down (omega (arith, ints, k)) (omega (arith, ints, l)))
    (λ l. down (omega (arith, ints, k)) (omega (arith, ints, l))))
    (λ k. by_sign h
    (λ l. up (omega (arith, ints, k)) (omega (arith, ints, l)))
    (λ l. up (omega (arith, ints, k)) (omega (arith, ints, l)))
    (λ l. down (omega (arith, ints, k)) (omega (arith, ints, l))))
    (λ k. by_sign h
    (λ l. up (omega (arith, ints, k)) (omega (arith, ints, l)))
    (λ l. up (omega (arith, ints, k)) (omega (arith, ints, l)))
    (λ l. absurd (contrary _ e (let s : same_sign g h ≡ true = grind (arith, ints) in s))))
  where
    contrary : (x : Bool) → not x ≡ true → x ≡ true → ⊥
    contrary true e f = absurd (cc)
    contrary false e f = absurd (cc)

-- a place at which two lie is one
pub yes_place : (p q : Vector) → same_place p q ≡ true → p ≡ q
yes_place p q e =
    let h = both (int_eq p.x q.x && int_eq p.y q.y) (int_eq p.z q.z) e in
    let k = both (int_eq p.x q.x) (int_eq p.y q.y) h.0 in
    same p.x p.y p.z q.x q.y q.z ((Decides-int_eq p.x q.x).0 k.0) ((Decides-int_eq p.y q.y).0 k.1) ((Decides-int_eq p.z q.z).0 h.1)
  where
    same : (x y z x' y' z' : ℤ) → x ≡ x' → y ≡ y' → z ≡ z' → ◌≡◌ {A = Vector} (record { x = x; y = y; z = z }) (record { x = x'; y = y'; z = z' })
    same x y z x' y' z' e f g = cc

pub place_yes : (p q : Vector) → p ≡ q → same_place p q ≡ true
place_yes p q e =
    and _ _ (and _ _ ((Decides-int_eq p.x q.x).1 (ap (λ (v : Vector). v.x) e)) ((Decides-int_eq p.y q.y).1 (ap (λ (v : Vector). v.y) e)))
    ((Decides-int_eq p.z q.z).1 (ap (λ (v : Vector). v.z) e))

-- corners
pub corner_yes : (t : Corners) (p : Vector) → HasCorner t p → has_corner t p ≡ true
corner_yes t p (inl e) = or_left _ _ (or_left _ _ (place_yes p t.0 e))
corner_yes t p (inr (inl e)) = or_left _ _ (or_right _ _ (place_yes p t.1 e))
corner_yes t p (inr (inr e)) = or_right _ _ (place_yes p t.2 e)

pub yes_corner : (t : Corners) (p : Vector) → has_corner t p ≡ true → HasCorner t p
yes_corner t p e = by (either (same_place p t.0 || same_place p t.1) (same_place p t.2) e) where
  first : (same_place p t.0 ≡ true) ⊎ (same_place p t.1 ≡ true) → HasCorner t p
  first (inl h) = inl (yes_place p t.0 h)
  first (inr h) = inr (inl (yes_place p t.1 h))

  by : ((same_place p t.0 || same_place p t.1) ≡ true) ⊎ (same_place p t.2 ≡ true) → HasCorner t p
  by (inl h) = first (either (same_place p t.0) (same_place p t.1) h)
  by (inr h) = inr (inr (yes_place p t.2 h))
