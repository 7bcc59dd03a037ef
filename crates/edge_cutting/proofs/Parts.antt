-- Parts of ways, and common steps of points.
use Rattle.std.specs.Prelude.{◌≡◌, ℕ, ◌*◌, ◌<◌, ◌≤◌, ◌^◌, ℤ, pos, ◌-ℤ◌, ◌*ℤ◌, List, true, int_div, unsigned_abs}
use Rattle.std.specs.Int.{◌∣◌, w32, w64}
use Rattle.std.proofs.Common.{arith, of_z, sym, ap, subst, to_z, ◌∙◌, inl, inr}
use Rattle.std.proofs.Math.Nat.{dvd_of_mul-dvd-mul_left, eq-zero_of_zero-dvd, mul-dvd-mul_left, one-dvd}
use Rattle.std.proofs.lemmas.Bool.{cases_lt}
use Rattle.std.proofs.lemmas.Int.{ints, unsigned_abs-mul}
use Rattle.std.proofs.lemmas.Nat.{mul-le}
use Rattle.std.proofs.lemmas.Nat.Gcd.{dvd-zero, le_of_dvd}
use Rattle.mesh_terms.specs.Points.{coordinate_of}
use Rattle.tidy_terms.specs.PointTriples.{same_point}
use Rattle.edge_cutting.specs.Divisors.{IsCommonDivisor}
use Rattle.edge_cutting.specs.Spans.{IsCommonStep, LeadsTo}
use Rattle.edge_cutting.specs.declared.steps.Steps.{Steps}
use Rattle.edge_cutting.proofs.CommonDivisors.{whole_quotient}
use Rattle.edge_cutting.proofs.Nearer.{same_from}

-- a number as it stands after it was kept at 64 bits
abbrev pub kept : ℤ → ℤ
kept z = to_z w64 (of_z w64 z)

-- one of so many parts of a way
pub part_is : (from to : ℤ) (count : ℕ) → unsigned_abs from ≤ 2 ^ 30 → unsigned_abs to ≤ 2 ^ 30 → 0 < count → count ≤ 2 ^ 31 → count ∣ unsigned_abs (to -ℤ from) →
    to -ℤ from ≡ pos count *ℤ kept (int_div (kept (kept to -ℤ kept from)) (to_z w64 count))
part_is from to count hf ht some few whole =
    let d = to -ℤ from in
    let q = int_div d (pos count) in
    let way : kept (kept to -ℤ kept from) ≡ d = omega (arith, ints, hf, ht) in
    let number : to_z w64 count ≡ pos count = omega (arith, ints, few) in
    let exact : pos count *ℤ q ≡ d = whole_quotient d count whole in
    let size : count * unsigned_abs q ≡ unsigned_abs d = sym (unsigned_abs-mul (pos count) q) ∙ ap unsigned_abs exact in
    let less : 1 * unsigned_abs q ≤ count * unsigned_abs q = mul-le 1 (unsigned_abs q) count (unsigned_abs q) some (omega arith) in
    let small : unsigned_abs q ≤ 2 ^ 31 = omega (arith, ints, less, size, hf, ht) in
    let stays : kept q ≡ q = omega (arith, ints, small) in
    sym exact ∙ ap (λ t. pos count *ℤ t) (sym stays) ∙ ap (λ t. pos count *ℤ kept (int_div t (pos count))) (sym way)
    ∙ ap (λ t. pos count *ℤ kept (int_div (kept (kept to -ℤ kept from)) t)) (sym number)

-- a common divisor is no greater than what it divides
pub common_small : (x y z g n : ℕ) → IsCommonDivisor x y z g → x ≤ n → y ≤ n → z ≤ n → g ≤ n
common_small x y z g n h a b c = elim (cases_lt 0 x) as (λ _. g ≤ n) [
  | inl l ↦ omega (arith, le_of_dvd l h.first, a)
  | inr p ↦ elim (cases_lt 0 y) as (λ _. g ≤ n) [
    | inl l ↦ omega (arith, le_of_dvd l h.second, b)
    | inr q ↦ elim (cases_lt 0 z) as (λ _. g ≤ n) [
      | inl l ↦ omega (arith, le_of_dvd l h.third, c)
      | inr r ↦
          let none : (t : ℕ) → t ≤ 0 → 0 ∣ t = λ t e. let is : t ≡ 0 = omega (arith, e) in subst (λ s. 0 ∣ s) (sym is) (dvd-zero 0) in
          omega (arith, eq-zero_of_zero-dvd (h.most 0 (none x p) (none y q) (none z r)))
    ]
  ]
]

-- a size that is none
no_way : (x y : ℤ) → unsigned_abs (y -ℤ x) ≡ 0 → x ≡ y
no_way x y e = omega (arith, ints, e)

-- points that have no common step are one
pub no_step : (p q : List ℤ) (g : ℕ) → IsCommonStep p q g → g ≤ 0 → same_point p q ≡ true
no_step p q g h low =
    let zero_step : g ≡ 0 = omega (arith, low) in
    let none : (i : ℕ) → g ∣ unsigned_abs (coordinate_of q i -ℤ coordinate_of p i) → coordinate_of p i ≡ coordinate_of q i = λ i d.
    no_way (coordinate_of p i) (coordinate_of q i) (eq-zero_of_zero-dvd (subst (λ t. t ∣ unsigned_abs (coordinate_of q i -ℤ coordinate_of p i)) zero_step d)) in
    same_from p q (none 0 h.first) (none 1 h.second) (none 2 h.third)

-- the same of numbers that are these
pub part_of : (from to f t : ℤ) (count : ℕ) → f ≡ from → t ≡ to → unsigned_abs from ≤ 2 ^ 30 → unsigned_abs to ≤ 2 ^ 30 → 0 < count → count ≤ 2 ^ 31 →
    count ∣ unsigned_abs (to -ℤ from) → to -ℤ from ≡ pos count *ℤ kept (int_div (kept (kept t -ℤ kept f)) (to_z w64 count))
part_of from to f t count ef et hf ht some few whole = rw (ef, et) (part_is from to count hf ht some few whole)

-- a way between coordinates that were kept at 32 bits
pub kept_way : (p q p' q' : List ℤ) (i : ℕ) → p' ≡ p → q' ≡ q → unsigned_abs (coordinate_of p i) ≤ 2 ^ 30 → unsigned_abs (coordinate_of q i) ≤ 2 ^ 30 →
    coordinate_of q i -ℤ coordinate_of p i ≡ to_z w32 (of_z w32 (coordinate_of q' i)) -ℤ to_z w32 (of_z w32 (coordinate_of p' i))
kept_way p q p' q' i e f hp hq = rw (e, f) (omega (arith, ints, hp, hq))

-- what is left of three numbers without their greatest common divisor has none but 1
pub reduced : (g x y z u v w : ℕ) → 0 < g → IsCommonDivisor x y z g → x ≡ g * u → y ≡ g * v → z ≡ g * w → IsCommonDivisor u v w 1
reduced g x y z u v w some h ex ey ez = record {
  first = one-dvd u;
  second = one-dvd v;
  third = one-dvd w;
  most = λ d a b c.
      let whole : g * d ∣ g =
      h.most (g * d) (subst (λ t. g * d ∣ t) (sym ex) (mul-dvd-mul_left d g a)) (subst (λ t. g * d ∣ t) (sym ey) (mul-dvd-mul_left d g b))
      (subst (λ t. g * d ∣ t) (sym ez) (mul-dvd-mul_left d g c)) in
      let one : g * d ∣ g * 1 = subst (λ t. g * d ∣ t) (omega arith) whole in
      dvd_of_mul-dvd-mul_left d some one;
}

-- steps that lead from one point to another, as many as their common divisor
pub leads_to : (p q : List ℤ) (s : Steps) → 0 < s.count → IsCommonStep p q s.count →
    coordinate_of s.start 0 ≡ coordinate_of p 0 → coordinate_of s.start 1 ≡ coordinate_of p 1 → coordinate_of s.start 2 ≡ coordinate_of p 2 →
    coordinate_of q 0 -ℤ coordinate_of p 0 ≡ pos s.count *ℤ coordinate_of s.step 0 →
    coordinate_of q 1 -ℤ coordinate_of p 1 ≡ pos s.count *ℤ coordinate_of s.step 1 →
    coordinate_of q 2 -ℤ coordinate_of p 2 ≡ pos s.count *ℤ coordinate_of s.step 2 → LeadsTo p q s
leads_to p q s some common sx sy sz ex ey ez =
    let size : (w t : ℤ) → w ≡ pos s.count *ℤ t → unsigned_abs w ≡ s.count * unsigned_abs t = λ w t e. ap unsigned_abs e ∙ unsigned_abs-mul (pos s.count) t in
    let way : ℕ → ℤ = λ i. coordinate_of q i -ℤ coordinate_of p i in
    let step : ℕ → ℤ = λ i. coordinate_of s.step i in
    record {
      start_x = sx;
      start_y = sy;
      start_z = sz;
      end_x = ex;
      end_y = ey;
      end_z = ez;
      least = reduced s.count _ _ _ _ _ _ some common (size (way 0) (step 0) ex) (size (way 1) (step 1) ey) (size (way 2) (step 2) ez);
    }

-- a number of at most so many bits stays
pub kept_small : (z : ℤ) → unsigned_abs z ≤ 2 ^ 31 → kept z ≡ z
kept_small z h = omega (arith, ints, h)

-- a coordinate that was kept at 32 bits, then at 64
pub kept_coordinate : (p p' : List ℤ) (i : ℕ) (z : ℤ) → p' ≡ p → unsigned_abs (coordinate_of p i) ≤ 2 ^ 30 → z ≡ to_z w32 (of_z w32 (coordinate_of p' i)) →
    kept z ≡ coordinate_of p i
kept_coordinate p p' i z e h is =
    let here : to_z w32 (of_z w32 (coordinate_of p' i)) ≡ coordinate_of p i = rw e (omega (arith, ints, h)) in
    let same : z ≡ coordinate_of p i = is ∙ here in
    rw same (omega (arith, ints, h))
