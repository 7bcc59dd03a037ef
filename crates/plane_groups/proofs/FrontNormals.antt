-- Normals turned to the front, without a common divisor.
use Rattle.std.specs.Prelude.{◌≡◌, ◌≢◌, ◌⊎◌, ℕ, zero, suc, ◌*◌, ◌%◌, ◌<◌, ◌≤◌, ℤ, pos, negsuc, neg_ℤ, ◌*ℤ◌, ◌<ℤ◌, List, [], ◌∷◌, true, false, Bool, cond, not, ◌&&◌, ◌||◌, int_div, int_lt, unsigned_abs}
use Rattle.std.specs.Int.{◌∣◌, IsGcd}
use Rattle.std.specs.Ordering.{int_eq}
use Rattle.std.proofs.Common.{arith, refl, sym, ap, subst, ◌∙◌, inl, inr}
use Rattle.std.proofs.Math.IntN.{*ℤ-zero, *ℤ_comm}
use Rattle.std.proofs.Math.Nat.{eq-one_of_dvd-one, eq-zero_of_zero-dvd}
use Rattle.std.proofs.lemmas.Bool.{and_from, and_parts, both_ways, cases_Bool, false_from_ne_true, not-false}
use Rattle.std.proofs.lemmas.Bool.Decides.{Decides-int_eq}
use Rattle.std.proofs.lemmas.Int.{ints, unsigned_abs-mul}
use Rattle.std.proofs.lemmas.Nat.Gcd.{IsGcd-from_mod, IsGcd-from_zero, dvd_antisymm}
use Rattle.chain_laws.specs.Products.{mul-neg, neg-mul, pos_mul}
use Rattle.plane_laws.specs.Moved.{times_one}
use Rattle.mesh_terms.specs.Points.{coordinate_of}
use Rattle.sheet_terms.specs.Cuts.{is_none}
use Rattle.sheet_terms.specs.Twins.{is_up}
use Rattle.edge_cutting.specs.Divisors.{IsCommonDivisor}
use Rattle.edge_cutting.proofs.CommonDivisors.{of_three, whole_quotient}
use Rattle.edge_cutting.proofs.Multiples.{AreParallel, IsPrimitive, IsTimes, multiple_of, same_size}
use Rattle.edge_cutting.proofs.Parts.{reduced}
use Rattle.plane_groups.specs.Keys.{common_of, divisor_of_three, divisor_of_two, divisor_within, front_normal, front_part}

-- Euclid's numbers are greatest common divisors
within_is : (n a b : ℕ) → b ≤ n → IsGcd a b (divisor_within n a b)
unfolding divisor_within
within_is n a zero low = zero_case n
  where
    zero_case : (n : ℕ) → IsGcd a 0 (divisor_within n a 0)
    zero_case zero = IsGcd-from_zero a 0 refl
    zero_case (suc n) = IsGcd-from_zero a 0 refl
within_is zero a (suc b) low = absurd (omega (arith, low))
within_is (suc n) a (suc b) low = IsGcd-from_mod a (suc b) (divisor_within n (suc b) (a % suc b)) (within_is n (suc b) (a % suc b) (omega arith))

pub two_is : (a b : ℕ) → IsGcd a b (divisor_of_two a b)
two_is a b = within_is b a b (omega arith)

pub three_is : (x y z : ℕ) → IsCommonDivisor x y z (divisor_of_three x y z)
three_is x y z = of_three x y z (divisor_of_two x y) (divisor_of_three x y z) (two_is x y) (two_is z (divisor_of_two x y))

-- how many times a front part a number is
abbrev pub signed_divisor : List ℤ → ℤ
signed_divisor n = cond (is_up n) (pos (common_of n)) (neg_ℤ (pos (common_of n)))

quotient_is : (b : Bool) (z : ℤ) (g : ℕ) → g ∣ unsigned_abs z → cond b (pos g) (neg_ℤ (pos g)) *ℤ front_part b g z ≡ z
quotient_is true z g h = whole_quotient z g h
quotient_is false z g h =
    omega (arith, ints, neg-mul (pos g) (neg_ℤ (int_div z (pos g))), mul-neg (pos g) (int_div z (pos g)), whole_quotient z g h)

-- a front normal: its multiple is the normal, and it has no common divisor
pub record IsFront (n front : List ℤ) (d : ℤ) : Type 0 where
  pub some : d ≢ pos 0
  pub x : coordinate_of n 0 ≡ d *ℤ coordinate_of front 0
  pub y : coordinate_of n 1 ≡ d *ℤ coordinate_of front 1
  pub z : coordinate_of n 2 ≡ d *ℤ coordinate_of front 2
  pub primitive : IsPrimitive (coordinate_of front 0) (coordinate_of front 1) (coordinate_of front 2)

-- three numbers that are none
pub none_test : (n : List ℤ) → coordinate_of n 0 ≡ pos 0 → coordinate_of n 1 ≡ pos 0 → coordinate_of n 2 ≡ pos 0 → is_none n ≡ true
none_test n x y z =
    let t : ℕ → Bool = λ i. int_eq (coordinate_of n i) (pos 0) in
    let by : (w : ℤ) → w ≡ pos 0 → int_eq w (pos 0) ≡ true = λ w. (Decides-int_eq w (pos 0)).1 in
    and_from (t 0 && t 1) (t 2) (and_from (t 0) (t 1) (by (coordinate_of n 0) x) (by (coordinate_of n 1) y)) (by (coordinate_of n 2) z)

no_size : (z : ℤ) → unsigned_abs z ≡ 0 → z ≡ pos 0
no_size (pos zero) e = refl
no_size (pos (suc m)) e = absurd (omega (arith, e))
no_size (negsuc m) e = absurd (omega (arith, e))

pub front_is : (n : List ℤ) → is_none n ≡ false → IsFront n (front_normal n) (signed_divisor n)
front_is n some =
    let size : ℕ → ℕ = λ i. unsigned_abs (coordinate_of n i) in
    let g = divisor_of_three (size 0) (size 1) (size 2) in
    let all = three_is (size 0) (size 1) (size 2) in
    let up = is_up n in
    let q : ℕ → ℤ = λ i. front_part up g (coordinate_of n i) in
    let x = quotient_is up (coordinate_of n 0) g all.first in
    let y = quotient_is up (coordinate_of n 1) g all.second in
    let z = quotient_is up (coordinate_of n 2) g all.third in
    let above : 0 < g = positive g (λ e. both_ways (is_none n) some
    (none_test n (gone (coordinate_of n 0) (subst (λ t. t ∣ size 0) e all.first)) (gone (coordinate_of n 1) (subst (λ t. t ∣ size 1) e all.second))
    (gone (coordinate_of n 2) (subst (λ t. t ∣ size 2) e all.third)))) in
    let sizes : (b : Bool) (t w : ℤ) → cond b (pos g) (neg_ℤ (pos g)) *ℤ t ≡ w → unsigned_abs w ≡ g * unsigned_abs t = λ b t w e. ap unsigned_abs (sym e)
    ∙ unsigned_abs-mul _ t ∙ ap (λ m. m * unsigned_abs t) (signed b g) in
    record {
      some = not_none up g above;
      x = sym x;
      y = sym y;
      z = sym z;
      primitive = reduced g (size 0) (size 1) (size 2) (unsigned_abs (q 0)) (unsigned_abs (q 1)) (unsigned_abs (q 2)) above all (sizes up (q 0) (coordinate_of n 0) x)
          (sizes up (q 1) (coordinate_of n 1) y) (sizes up (q 2) (coordinate_of n 2) z);
    }
  where
    positive : (g : ℕ) → (g ≡ 0 → ⊥) → 0 < g
    positive zero h = absurd (h refl)
    positive (suc g) h = omega arith

    gone : (w : ℤ) → 0 ∣ unsigned_abs w → w ≡ pos 0
    gone w h = no_size w (eq-zero_of_zero-dvd h)

    not_none : (b : Bool) (g : ℕ) → 0 < g → cond b (pos g) (neg_ℤ (pos g)) ≢ pos 0
    not_none true g h e = omega (arith, ints, e, h)
    not_none false g h e = omega (arith, ints, e, h)

    signed : (b : Bool) (g : ℕ) → unsigned_abs (cond b (pos g) (neg_ℤ (pos g))) ≡ g
    signed true g = refl
    signed false zero = refl
    signed false (suc g) = refl

-- what the tests of a sign say
test_above : (z : ℤ) → pos 0 <ℤ z → int_lt (pos 0) z ≡ true
test_above z h = grind (arith, ints)

test_some : (z : ℤ) → pos 0 <ℤ z → int_eq z (pos 0) ≡ false
test_some z h = grind (arith, ints)

test_below : (z : ℤ) → z <ℤ pos 0 → int_lt (pos 0) z ≡ false
test_below z h = grind (arith, ints)

test_less : (z : ℤ) → z <ℤ pos 0 → int_eq z (pos 0) ≡ false
test_less z h = grind (arith, ints)

-- the tests of a sign
record HasSign (z w : ℤ) : Type 0 where
  above : int_lt (pos 0) z ≡ int_lt (pos 0) w
  none : int_eq z (pos 0) ≡ int_eq w (pos 0)

-- a multiple by a number above 0 has the same sign
sign_kept : (k z : ℤ) → pos 0 <ℤ k → HasSign (k *ℤ z) z
sign_kept k (pos zero) up = let e : k *ℤ pos 0 ≡ pos 0 = omega (arith, ints, *ℤ-zero k) in record { above = ap (λ t. int_lt (pos 0) t) e; none = ap (λ t. int_eq t (pos 0)) e }
sign_kept k (pos (suc n)) up =
    let p = pos_mul k (pos (suc n)) up (omega (arith, ints)) in
    record {
      above = test_above (k *ℤ pos (suc n)) p ∙ sym (test_above (pos (suc n)) (omega (arith, ints)));
      none = test_some (k *ℤ pos (suc n)) p
          ∙ sym (test_some (pos (suc n)) (omega (arith, ints)));
    }
sign_kept k (negsuc n) up =
    let p = pos_mul k (pos (suc n)) up (omega (arith, ints)) in
    let q : (k *ℤ negsuc n) <ℤ pos 0 = omega (arith, ints, p, mul-neg k (pos (suc n))) in
    record {
      above = test_below (k *ℤ negsuc n) q ∙ sym (test_below (negsuc n) (omega (arith, ints)));
      none = test_less (k *ℤ negsuc n) q
          ∙ sym (test_less (negsuc n) (omega (arith, ints)));
    }

-- what is told of a normal by the tests of its coordinates: whether the first is above 0, or is 0, and so on
abbrev up_from : Bool → Bool → Bool → Bool → Bool → Bool
up_from s e t f u = s || (e && (t || (f && u)))

same_tests : (s e t f u s' e' t' f' u' : Bool) → s ≡ s' → e ≡ e' → t ≡ t' → f ≡ f' → u ≡ u' → up_from s e t f u ≡ up_from s' e' t' f' u'
same_tests s e t f u s' e' t' f' u' hs he ht hf hu = rw (hs, he, ht, hf, hu) refl

-- so the first number other than 0 is above 0 in both or in neither
up_by : (a b : List ℤ) → HasSign (coordinate_of a 0) (coordinate_of b 0) → HasSign (coordinate_of a 1) (coordinate_of b 1) →
    HasSign (coordinate_of a 2) (coordinate_of b 2) → is_up a ≡ is_up b
up_by a b x y z = same_tests _ _ _ _ _ _ _ _ _ _ x.above x.none y.above y.none z.above

-- the opposite way
up_opposite : (a b : List ℤ) → is_none a ≡ false → coordinate_of b 0 ≡ neg_ℤ (coordinate_of a 0) → coordinate_of b 1 ≡ neg_ℤ (coordinate_of a 1) →
    coordinate_of b 2 ≡ neg_ℤ (coordinate_of a 2) →
    is_up b ≡ not (is_up a)
up_opposite a b some x y z =
    let s : ℕ → Bool = λ i. int_lt (pos 0) (coordinate_of a i) in
    let e : ℕ → Bool = λ i. int_eq (coordinate_of a i) (pos 0) in
    let turned : (u v : ℤ) → v ≡ neg_ℤ u → (int_lt (pos 0) v ≡ (not (int_lt (pos 0) u) && not (int_eq u (pos 0)))) × (int_eq v (pos 0) ≡ int_eq u (pos 0)) =
    λ u v q. (above_turned u v q, none_turned u v q) in
    let tx = turned (coordinate_of a 0) (coordinate_of b 0) x in
    let ty = turned (coordinate_of a 1) (coordinate_of b 1) y in
    let tz = turned (coordinate_of a 2) (coordinate_of b 2) z in
    same_tests _ _ _ _ _ _ _ _ _ _ tx.0 tx.1 ty.0 ty.1 tz.0
    ∙ (by (s 0) (e 0) (s 1) (e 1) (s 2) (e 2) (both (coordinate_of a 0)) (both (coordinate_of a 1)) (both (coordinate_of a 2)) some)
  where
    above_turned : (u v : ℤ) → v ≡ neg_ℤ u → int_lt (pos 0) v ≡ (not (int_lt (pos 0) u) && not (int_eq u (pos 0)))
    above_turned u v q = rw q (grind (arith, ints))

    none_turned : (u v : ℤ) → v ≡ neg_ℤ u → int_eq v (pos 0) ≡ int_eq u (pos 0)
    none_turned u v q = rw q (grind (arith, ints))

    both : (u : ℤ) → (int_lt (pos 0) u && int_eq u (pos 0)) ≡ false
    both u = grind (arith, ints)

    by : (s e t f u g : Bool) → (s && e) ≡ false → (t && f) ≡ false → (u && g) ≡ false → (e && f && g) ≡ false →
        ((not s && not e) || (e && ((not t && not f) || (f && (not u && not g))))) ≡ not (s || (e && (t || (f && u))))
    by true true t f u g a b c d = absurd cc
    by true false t f u g a b c d = refl
    by false false t f u g a b c d = refl
    by false true true true u g a b c d = absurd cc
    by false true true false u g a b c d = refl
    by false true false false u g a b c d = refl
    by false true false true true true a b c d = absurd cc
    by false true false true true false a b c d = refl
    by false true false true false true a b c d = absurd cc
    by false true false true false false a b c d = refl

-- what is none is not above 0
down_none : (n : List ℤ) → is_none n ≡ true → is_up n ≡ false
down_none n h =
    let t : ℕ → Bool = λ i. int_eq (coordinate_of n i) (pos 0) in
    let all = and_parts (t 0 && t 1) (t 2) h in
    let two = and_parts (t 0) (t 1) all.0 in
    let x = (Decides-int_eq (coordinate_of n 0) (pos 0)).0 two.0 in
    let y = (Decides-int_eq (coordinate_of n 1) (pos 0)).0 two.1 in
    let z = (Decides-int_eq (coordinate_of n 2) (pos 0)).0 all.1 in
    rw (x, y, z) refl

-- once, and once the other way round
one_times : (z : ℤ) → pos 1 *ℤ z ≡ z
one_times z = omega (arith, ints, *ℤ_comm (pos 1) z, times_one z)

minus_times : (z : ℤ) → negsuc 0 *ℤ z ≡ neg_ℤ z
minus_times z = omega (arith, ints, neg-mul (pos 1) z, one_times z)

-- of two ways in one direction, or opposite ones, without a common divisor, both of them front, each is the other
module _ (m n : List ℤ) where
  abbrev AreSame : Type 0
  AreSame = (coordinate_of n 0 ≡ coordinate_of m 0) × (coordinate_of n 1 ≡ coordinate_of m 1) × (coordinate_of n 2 ≡ coordinate_of m 2)

  abbrev IsTimesOf : ℤ → Type 0
  IsTimesOf k = IsTimes k (coordinate_of m 0) (coordinate_of m 1) (coordinate_of m 2) (coordinate_of n 0) (coordinate_of n 1) (coordinate_of n 2)

  as_multiple : IsPrimitive (coordinate_of n 0) (coordinate_of n 1) (coordinate_of n 2) → (k : ℤ) → IsTimesOf k →
      IsPrimitive (k *ℤ coordinate_of m 0) (k *ℤ coordinate_of m 1) (k *ℤ coordinate_of m 2)
  as_multiple pn k t =
      subst (λ z. IsPrimitive (k *ℤ coordinate_of m 0) (k *ℤ coordinate_of m 1) z) t.z
      (subst (λ y. IsPrimitive (k *ℤ coordinate_of m 0) y (coordinate_of n 2)) t.y (subst (λ x. IsPrimitive x (coordinate_of n 1) (coordinate_of n 2)) t.x pn))

  pub same_front : is_up m ≡ true → is_up n ≡ true → IsPrimitive (coordinate_of m 0) (coordinate_of m 1) (coordinate_of m 2) →
      IsPrimitive (coordinate_of n 0) (coordinate_of n 1) (coordinate_of n 2) →
      AreParallel (coordinate_of m 0) (coordinate_of m 1) (coordinate_of m 2) (coordinate_of n 0) (coordinate_of n 1) (coordinate_of n 2) → AreSame
  same_front um un pm pn h =
      let k = multiple_of (coordinate_of m 0) (coordinate_of m 1) (coordinate_of m 2) (coordinate_of n 0) (coordinate_of n 1) (coordinate_of n 2) pm h in
      by k.factor k.times (eq-one_of_dvd-one (same_size k.factor (coordinate_of m 0) (coordinate_of m 1) (coordinate_of m 2) (as_multiple pn k.factor k.times)))
    where
      some : is_none m ≡ false
      some = false_from_ne_true (is_none m) (λ y. both_ways (is_up m) (down_none m y) um)

      by : (k : ℤ) → IsTimesOf k → unsigned_abs k ≡ 1 → AreSame
      by (pos zero) t e = absurd (omega (arith, e))
      by (pos (suc zero)) t e = (t.x ∙ one_times (coordinate_of m 0), t.y ∙ one_times (coordinate_of m 1), t.z ∙ one_times (coordinate_of m 2))
      by (pos (suc (suc k))) t e = absurd (omega (arith, e))
      by (negsuc (suc k)) t e = absurd (omega (arith, e))
      by (negsuc zero) t e =
          absurd (both_ways (is_up n)
          (up_opposite m n some (t.x ∙ minus_times (coordinate_of m 0)) (t.y ∙ minus_times (coordinate_of m 1)) (t.z ∙ minus_times (coordinate_of m 2)) ∙ ap not um) un)

-- a front normal is a front one
module _ (n : List ℤ) where
  -- the front normal as many times as the common divisor says
  abbrev times : List ℤ
  times =
      let part : ℕ → ℤ = λ i. pos (common_of n) *ℤ coordinate_of (front_normal n) i in part 0 ∷ part 1 ∷ part 2 ∷ []

  same_sign : pos 0 <ℤ pos (common_of n) → is_up times ≡ is_up (front_normal n)
  same_sign up =
      let g = common_of n in
      let front = front_normal n in
      up_by times front (sign_kept (pos g) (coordinate_of front 0) up) (sign_kept (pos g) (coordinate_of front 1) up) (sign_kept (pos g) (coordinate_of front 2) up)

  above_none : (b : Bool) → cond b (pos (common_of n)) (neg_ℤ (pos (common_of n))) ≢ pos 0 → pos 0 <ℤ pos (common_of n)
  above_none b h = positive (common_of n) (λ e. h (ap (λ t. cond b (pos t) (neg_ℤ (pos t))) e ∙ zero_of b))
    where
      zero_of : (b : Bool) → cond b (pos 0) (neg_ℤ (pos 0)) ≡ pos 0
      zero_of true = refl
      zero_of false = refl

      positive : (m : ℕ) → (m ≡ 0 → ⊥) → pos 0 <ℤ pos m
      positive zero k = absurd (k refl)
      positive (suc m) k = omega (arith, ints)

  up_same : (i : ℕ → ℤ) → coordinate_of n 0 ≡ i 0 → coordinate_of n 1 ≡ i 1 → coordinate_of n 2 ≡ i 2 → is_up n ≡ is_up (i 0 ∷ i 1 ∷ i 2 ∷ [])
  up_same i x y z = rw (x, y, z) refl

  none_opposite : (some : is_none n ≡ false) → coordinate_of n 0 ≡ neg_ℤ (coordinate_of times 0) → coordinate_of n 1 ≡ neg_ℤ (coordinate_of times 1) →
      coordinate_of n 2 ≡ neg_ℤ (coordinate_of times 2) → is_none times ≡ false
  none_opposite some x y z = false_from_ne_true (is_none times) (λ h.
      let t : ℕ → Bool = λ i. int_eq (coordinate_of times i) (pos 0) in
      let all = and_parts (t 0 && t 1) (t 2) h in
      let two = and_parts (t 0) (t 1) all.0 in
      let zero_of : (w v : ℤ) → w ≡ neg_ℤ v → int_eq v (pos 0) ≡ true → w ≡ pos 0 = λ w v q k. q ∙ ap neg_ℤ ((Decides-int_eq v (pos 0)).0 k) in
      both_ways (is_none n) some
      (none_test n (zero_of (coordinate_of n 0) (coordinate_of times 0) x two.0) (zero_of (coordinate_of n 1) (coordinate_of times 1) y two.1)
      (zero_of (coordinate_of n 2) (coordinate_of times 2) z all.1)))

  pub front_up : (some : is_none n ≡ false) → is_up (front_normal n) ≡ true
  front_up some = by (is_up n) refl (front_is n some)
    where
      by : (b : Bool) → is_up n ≡ b → IsFront n (front_normal n) (signed_divisor n) → is_up (front_normal n) ≡ true
      by true e h =
          let front = front_normal n in
          let g = common_of n in
          let d : signed_divisor n ≡ pos g = ap (λ b. cond b (pos g) (neg_ℤ (pos g))) e in
          let up = above_none (is_up n) h.some in
          let same : (i : ℕ) → coordinate_of n i ≡ signed_divisor n *ℤ coordinate_of front i → coordinate_of n i ≡ pos g *ℤ coordinate_of front i = λ i q. q
          ∙ ap (λ t. t *ℤ coordinate_of front i) d in
          sym (same_sign up) ∙ sym (up_same (λ i. pos g *ℤ coordinate_of front i) (same 0 h.x) (same 1 h.y) (same 2 h.z)) ∙ e
      by false e h =
          let front = front_normal n in
          let g = common_of n in
          let d : signed_divisor n ≡ neg_ℤ (pos g) = ap (λ b. cond b (pos g) (neg_ℤ (pos g))) e in
          let up = above_none (is_up n) h.some in
          let opposite : (i : ℕ) → coordinate_of n i ≡ signed_divisor n *ℤ coordinate_of front i → coordinate_of n i ≡ neg_ℤ (pos g *ℤ coordinate_of front i) = λ i q.
          q ∙ ap (λ t. t *ℤ coordinate_of front i) d ∙ neg-mul (pos g) (coordinate_of front i) in
          let not_none : is_none times ≡ false = none_opposite some (opposite 0 h.x) (opposite 1 h.y) (opposite 2 h.z) in
          let turned : is_up n ≡ not (is_up times) = up_opposite times n not_none (opposite 0 h.x) (opposite 1 h.y) (opposite 2 h.z) in
          sym (same_sign up) ∙ not-false (is_up times) (sym turned ∙ e)

-- a greatest common divisor is that one
pub divisor_same : (x y z g : ℕ) → IsCommonDivisor x y z g → g ≡ divisor_of_three x y z
divisor_same x y z g h = let k = three_is x y z in dvd_antisymm (k.most g h.first h.second h.third) (h.most (divisor_of_three x y z) k.first k.second k.third)

-- it is above 0 where a number is some
pub common_some : (n : List ℤ) → is_none n ≡ false → 0 < common_of n
common_some n some = by (common_of n) (front_is n some).some (cases_Bool (is_up n))
  where
    by : (g : ℕ) → cond (is_up n) (pos g) (neg_ℤ (pos g)) ≢ pos 0 → (is_up n ≡ true) ⊎ (is_up n ≡ false) → 0 < g
    by (suc g) h k = omega arith
    by zero h (inl y) = absurd (h (ap (λ b. cond b (pos 0) (neg_ℤ (pos 0))) y))
    by zero h (inr y) = absurd (h (ap (λ b. cond b (pos 0) (neg_ℤ (pos 0))) y))
