-- Whether a vertex is above a face, by the volume that it makes with the face where it is moved by a hair.
use Rattle.std.specs.Prelude.{◌≡◌, ℤ, pos, neg_ℤ, ◌*ℤ◌, ◌<ℤ◌, Bool, true, false, not, int_lt, if◌then◌else◌}
use Rattle.std.specs.Ordering.{int_eq}
use Rattle.std.proofs.Common.{arith, refl, sym, ap, ◌∙◌}
use Rattle.std.proofs.lemmas.Int.{ints}
use Rattle.plane_laws.specs.Signs.{Signed, signed_mul}
use Rattle.plane_laws.specs.Decisions.{Vector, same_sign, leading, is_above, face_normal, vertex_above}
use Rattle.plane_laws.specs.Above.{opposite, above_turned, height_over, height_back}
use Rattle.solid_terms.specs.Solids.{one_sign, volume}
use Rattle.space_laws.specs.Volumes.{unit}
use Rattle.space_laws.specs.Lexical.{height_or_lead, OneSign}
use Rattle.space_laws.specs.Lexical.OneSign.{both_above, both_below, both_zero}
use Rattle.space_laws.specs.Space.{Seen}
use Rattle.solid_laws.specs.Moved.{moved_volume}

-- the number that decides has the normal's sign in z, or has not
pub pull : (n : Vector) (h : ℤ) → is_above n h ≡ same_sign (height_or_lead n h) n.z
pull n h = by (int_eq h (pos 0)) where
  by : (b : Bool) → (if b then same_sign (leading n) n.z else same_sign h n.z) ≡ same_sign (if b then leading n else h) n.z
  by true = refl
  by false = refl

-- above by the moved volume
pub above_is : (p u v t : Vector) → vertex_above p u v t ≡ same_sign (moved_volume p u v t) (neg_ℤ (face_normal u v t).z)
above_is p u v t =
    let n = face_normal u v t in
    sym (above_turned n (height_over u v t p)) ∙ ap (λ (z : ℤ). is_above (opposite n) z) (sym (height_back u v t p)) ∙ pull (opposite n) (volume p u v t)

-- where the number that decides is 0, the normal has no number in z
pub lead_zero : (n : Vector) (h : ℤ) → height_or_lead n h ≡ pos 0 → n.z ≡ pos 0
lead_zero n h e = by (int_eq h (pos 0)) (int_eq n.x (pos 0)) (int_eq n.y (pos 0)) refl refl refl e where
  yes : (z : ℤ) → z ≡ pos 0 → int_eq z (pos 0) ≡ true
  yes z e = ap (λ (t : ℤ). int_eq t (pos 0)) e

  by : (r s t : Bool) → int_eq h (pos 0) ≡ r → int_eq n.x (pos 0) ≡ s → int_eq n.y (pos 0) ≡ t → (if r then (if s then (if t then n.z else n.y) else n.x) else h) ≡ pos 0 →
      n.z ≡ pos 0
  by true true true er es et e = e
  by true true false er es et e = let k = yes n.y e in absurd (cc)
  by true false t er es et e = let k = yes n.x e in absurd (cc)
  by false s t er es et e = let k = yes h e in absurd (cc)

-- signs that are alike
same_yes : (r : Bool) (a b : ℤ) → Signed r a → Signed r b → same_sign a b ≡ true
same_yes true a b h k = grind (arith, ints)
same_yes false a b h k = grind (arith, ints)

-- signs that differ
same_no : (r : Bool) (a b : ℤ) → Signed r a → Signed (not r) b → same_sign a b ≡ false
same_no true a b h k = grind (arith, ints)
same_no false a b h k = grind (arith, ints)

-- a face that is met: what its shadow is
pub seen_by : (side : Bool) (n v v' z s : ℤ) (above : Bool) → OneSign v v' → (v ≡ pos 0 → neg_ℤ z ≡ pos 0) → Signed side z → n ≡ unit side → s ≡ (if above then n else pos 0) →
    above ≡ same_sign v (neg_ℤ z) → Seen n v' s
seen_by true n v v' z s above (both_above h k) f hz en es ea =
    let g = ea ∙ same_no true v (neg_ℤ z) h (omega (arith, ints, hz)) in
    let d = es ∙ ap (λ (b : Bool). if b then n else pos 0) g in record { sight = true; volume = k; shadow = omega (arith, ints, en, d) }
seen_by false n v v' z s above (both_above h k) f hz en es ea =
    let g = ea ∙ same_yes true v (neg_ℤ z) h (omega (arith, ints, hz)) in
    let d = es ∙ ap (λ (b : Bool). if b then n else pos 0) g in record { sight = true; volume = k; shadow = omega (arith, ints, en, d) }
seen_by true n v v' z s above (both_below h k) f hz en es ea =
    let g = ea ∙ same_yes false v (neg_ℤ z) h (omega (arith, ints, hz)) in
    let d = es ∙ ap (λ (b : Bool). if b then n else pos 0) g in record { sight = false; volume = k; shadow = omega (arith, ints, en, d) }
seen_by false n v v' z s above (both_below h k) f hz en es ea =
    let g = ea ∙ same_no false v (neg_ℤ z) h (omega (arith, ints, hz)) in
    let d = es ∙ ap (λ (b : Bool). if b then n else pos 0) g in record { sight = false; volume = k; shadow = omega (arith, ints, en, d) }
seen_by true n v v' z s above (both_zero h k) f hz en es ea = let e = f h in absurd (omega (arith, ints, e, hz))
seen_by false n v v' z s above (both_zero h k) f hz en es ea = let e = f h in absurd (omega (arith, ints, e, hz))

-- a multiple of a number has its sign
pub scaled : (c a b b' : ℤ) → pos 0 <ℤ c → b' ≡ c *ℤ b → OneSign a b → OneSign a b'
scaled c a b b' h e (both_above i k) = let p = signed_mul true true c b h k in both_above i (omega (arith, ints, e, p))
scaled c a b b' h e (both_below i k) = let p = signed_mul true false c b h k in both_below i (omega (arith, ints, e, p))
scaled c a b b' h e (both_zero i k) = both_zero i (e ∙ ap (λ (t : ℤ). c *ℤ t) k ∙ nothing c) where
  nothing : (c : ℤ) → c *ℤ pos 0 ≡ pos 0
  nothing c = omega (arith, ints)

-- tests of numbers with one sign
pub record SameTests (a b : ℤ) : Type 0 where
  pub above : int_lt (pos 0) a ≡ int_lt (pos 0) b
  pub below : int_lt a (pos 0) ≡ int_lt b (pos 0)

-- and they come out alike
pub same_tests : (a b : ℤ) → OneSign a b → SameTests a b
same_tests a b (both_above h k) = record { above = yes a h ∙ sym (yes b k); below = no a h ∙ sym (no b k) } where
  yes : (z : ℤ) → pos 0 <ℤ z → int_lt (pos 0) z ≡ true
  yes z h = grind (arith, ints)

  no : (z : ℤ) → pos 0 <ℤ z → int_lt z (pos 0) ≡ false
  no z h = grind (arith, ints)
same_tests a b (both_below h k) = record { above = no a h ∙ sym (no b k); below = yes a h ∙ sym (yes b k) } where
  yes : (z : ℤ) → z <ℤ pos 0 → int_lt z (pos 0) ≡ true
  yes z h = grind (arith, ints)

  no : (z : ℤ) → z <ℤ pos 0 → int_lt (pos 0) z ≡ false
  no z h = grind (arith, ints)
same_tests a b (both_zero h k) = record { above = ap (λ (z : ℤ). int_lt (pos 0) z) (h ∙ sym k); below = ap (λ (z : ℤ). int_lt z (pos 0)) (h ∙ sym k) }

-- four numbers by four of the same signs
pub one_sign_same : (a0 a1 a2 a3 b0 b1 b2 b3 : ℤ) → OneSign a0 b0 → OneSign a1 b1 → OneSign a2 b2 → OneSign a3 b3 → one_sign a0 a1 a2 a3 ≡ one_sign b0 b1 b2 b3
one_sign_same a0 a1 a2 a3 b0 b1 b2 b3 h0 h1 h2 h3 =
    let t0 = same_tests a0 b0 h0 in
    let t1 = same_tests a1 b1 h1 in
    let t2 = same_tests a2 b2 h2 in
    let t3 = same_tests a3 b3 h3 in
    rw (t0.above, t1.above, t2.above, t3.above, t0.below, t1.below, t2.below, t3.below) refl
