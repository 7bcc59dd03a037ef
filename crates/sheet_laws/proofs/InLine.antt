-- Three points on a line: in any order, and what lies on a line with two different points lies on a line.
use Rattle.std.specs.Prelude.{◌≡◌, ◌≢◌, ◌⊎◌, ℕ, zero, suc, ℤ, pos, negsuc, ◌-ℤ◌, ◌*ℤ◌, List, true, false, Bool, ◌&&◌}
use Rattle.std.specs.Ordering.{int_eq}
use Rattle.std.proofs.Common.{arith, refl, sym, ap, ◌∙◌, inl, inr}
use Rattle.std.proofs.Math.IntN.{*ℤ-zero, *ℤ_comm}
use Rattle.std.proofs.lemmas.Bool.{and_from, and_parts, both_ways}
use Rattle.std.proofs.lemmas.Bool.Decides.{Decides-int_eq}
use Rattle.std.proofs.lemmas.Int.{ints}
use Rattle.chain_laws.specs.Products.{mul-sub, product}
use Rattle.mesh_terms.specs.Points.{coordinate_of, cross_on, cross_product}
use Rattle.plane_laws.specs.Areas.{Place, area, area_is, exchanged}
use Rattle.sheet_terms.specs.Cuts.{are_in_line}

-- a point seen along the third axis of two
abbrev pub on_axes : ℕ → ℕ → List ℤ → Place
on_axes i j p = record { x = coordinate_of p i; y = coordinate_of p j }

-- a coordinate of the cross product is a doubled area
pub cross_is : (i j : ℕ) (p q r : List ℤ) → cross_on i j p q r ≡ area (on_axes i j p) (on_axes i j q) (on_axes i j r)
cross_is i j p q r =
    let qp = coordinate_of q j -ℤ coordinate_of p j in
    let rp = coordinate_of r i -ℤ coordinate_of p i in
    ap (λ t. (coordinate_of q i -ℤ coordinate_of p i) *ℤ (coordinate_of r j -ℤ coordinate_of p j) -ℤ t) (*ℤ_comm qp rp) ∙ area_is (on_axes i j p) (on_axes i j q) (on_axes i j r)

-- on a line: the three areas are none
pub record InLine (p q r : List ℤ) : Type 0 where
  pub x : area (on_axes 1 2 p) (on_axes 1 2 q) (on_axes 1 2 r) ≡ pos 0
  pub y : area (on_axes 2 0 p) (on_axes 2 0 q) (on_axes 2 0 r) ≡ pos 0
  pub z : area (on_axes 0 1 p) (on_axes 0 1 q) (on_axes 0 1 r) ≡ pos 0

-- the test says it
pub line_of : (p q r : List ℤ) → are_in_line p q r ≡ true → InLine p q r
line_of p q r h =
    let n = cross_product p q r in
    let t : ℕ → Bool = λ i. int_eq (coordinate_of n i) (pos 0) in
    let all = and_parts (t 0 && t 1) (t 2) h in
    let two = and_parts (t 0) (t 1) all.0 in
    let by : (z : ℤ) → int_eq z (pos 0) ≡ true → z ≡ pos 0 = λ z. (Decides-int_eq z (pos 0)).0 in
    record {
      x = sym (cross_is 1 2 p q r) ∙ by (coordinate_of n 0) two.0;
      y = sym (cross_is 2 0 p q r) ∙ by (coordinate_of n 1) two.1;
      z = sym (cross_is 0 1 p q r) ∙ by (coordinate_of n 2) all.1;
    }

pub from_line : (p q r : List ℤ) → InLine p q r → are_in_line p q r ≡ true
from_line p q r h =
    let n = cross_product p q r in
    let t : ℕ → Bool = λ i. int_eq (coordinate_of n i) (pos 0) in
    let by : (z : ℤ) → z ≡ pos 0 → int_eq z (pos 0) ≡ true = λ z. (Decides-int_eq z (pos 0)).1 in
    and_from (t 0 && t 1) (t 2)
    (and_from (t 0) (t 1) (by (coordinate_of n 0) (cross_is 1 2 p q r ∙ h.x)) (by (coordinate_of n 1) (cross_is 2 0 p q r ∙ h.y)))
    (by (coordinate_of n 2) (cross_is 0 1 p q r ∙ h.z))

-- in other orders
pub line_round : (p q r : List ℤ) → InLine p q r → InLine q r p
line_round p q r h = record { x = omega (arith, ints, h.x); y = omega (arith, ints, h.y); z = omega (arith, ints, h.z) }

pub line_back : (p q r : List ℤ) → InLine p q r → InLine r q p
line_back p q r h = record { x = omega (arith, ints, h.x); y = omega (arith, ints, h.y); z = omega (arith, ints, h.z) }

pub line_twice : (p q : List ℤ) → InLine p q p
line_twice p q = record { x = omega (arith, ints); y = omega (arith, ints); z = omega (arith, ints) }

pub line_start : (p q : List ℤ) → InLine p p q
line_start p q = record { x = omega (arith, ints); y = omega (arith, ints); z = omega (arith, ints) }

-- a product is none where a factor is none
pub none_of : (d z : ℤ) → d ≢ pos 0 → d *ℤ z ≡ pos 0 → z ≡ pos 0
none_of d (pos zero) some e = refl
none_of (pos zero) (pos (suc n)) some e = absurd (some refl)
none_of (pos (suc m)) (pos (suc n)) some e = absurd (omega (arith, ints, e, (product (pos (suc m)) (pos (suc n))).is))
none_of (negsuc m) (pos (suc n)) some e = absurd (omega (arith, ints, e, (product (negsuc m) (pos (suc n))).is))
none_of (pos zero) (negsuc n) some e = absurd (some refl)
none_of (pos (suc m)) (negsuc n) some e = absurd (omega (arith, ints, e, (product (pos (suc m)) (negsuc n)).is))
none_of (negsuc m) (negsuc n) some e = absurd (omega (arith, ints, e, (product (negsuc m) (negsuc n)).is))

-- three ways from one point, in coordinates that go round: each of two has no cross product with the first
pub record AreAlong (di dj dk xi xj xk : ℤ) : Type 0 where
  pub jk : dj *ℤ xk ≡ xj *ℤ dk
  pub ki : dk *ℤ xi ≡ xk *ℤ di
  pub ij : di *ℤ xj ≡ xi *ℤ dj

-- then the first one times their cross product is none
module _ (di dj dk xi xj xk yi yj yk : ℤ) (x : AreAlong di dj dk xi xj xk) (y : AreAlong di dj dk yi yj yk) where
  abbrev minor : ℤ
  minor = xj *ℤ yk -ℤ yj *ℤ xk

  first_none : di *ℤ minor ≡ pos 0
  first_none =
      omega (
        arith,
        ints,
        mul-sub di (xj *ℤ yk) (yj *ℤ xk),
        ap (λ t. di *ℤ t) (*ℤ_comm xj yk),
        exchanged di yk xj,
        exchanged di yj xk,
        ap (λ t. yk *ℤ t) x.ij,
        ap (λ t. yj *ℤ t) (sym x.ki ∙ *ℤ_comm dk xi),
        ap (λ t. yj *ℤ t) (*ℤ_comm xk di),
        exchanged yk xi dj,
        exchanged yj xi dk,
        ap (λ t. xi *ℤ t) (*ℤ_comm yk dj ∙ y.jk),
      )

  second_none : dj *ℤ minor ≡ pos 0
  second_none =
      omega (
        arith,
        ints,
        mul-sub dj (xj *ℤ yk) (yj *ℤ xk),
        exchanged dj xj yk,
        exchanged dj yj xk,
        ap (λ t. xj *ℤ t) y.jk,
        ap (λ t. yj *ℤ t) x.jk,
        exchanged xj yj dk,
      )

  third_none : dk *ℤ minor ≡ pos 0
  third_none =
      omega (
        arith,
        ints,
        mul-sub dk (xj *ℤ yk) (yj *ℤ xk),
        ap (λ t. dk *ℤ t) (*ℤ_comm xj yk),
        exchanged dk yk xj,
        ap (λ t. dk *ℤ t) (*ℤ_comm yj xk),
        exchanged dk xk yj,
        ap (λ t. yk *ℤ t) (*ℤ_comm dk xj ∙ sym x.jk),
        ap (λ t. xk *ℤ t) (*ℤ_comm dk yj ∙ sym y.jk),
        exchanged yk dj xk,
        exchanged xk dj yk,
        ap (λ t. dj *ℤ t) (*ℤ_comm yk xk),
      )

-- two points differ in a coordinate
abbrev pub Differ : List ℤ → List ℤ → Type 0
Differ p q = (coordinate_of q 0 -ℤ coordinate_of p 0 ≢ pos 0) ⊎ ((coordinate_of q 1 -ℤ coordinate_of p 1 ≢ pos 0) ⊎ (coordinate_of q 2 -ℤ coordinate_of p 2 ≢ pos 0))

pub differ_back : (p q : List ℤ) → Differ p q → Differ q p
differ_back p q (inl h) = inl (λ e. h (omega (arith, ints, e)))
differ_back p q (inr (inl h)) = inr (inl (λ e. h (omega (arith, ints, e))))
differ_back p q (inr (inr h)) = inr (inr (λ e. h (omega (arith, ints, e))))

-- an area by the ways from its first place
way_area : (i j : ℕ) (p q x : List ℤ) → area (on_axes i j p) (on_axes i j q) (on_axes i j x) ≡ pos 0 →
    (coordinate_of q i -ℤ coordinate_of p i) *ℤ (coordinate_of x j -ℤ coordinate_of p j) ≡ (coordinate_of x i -ℤ coordinate_of p i) *ℤ (coordinate_of q j -ℤ coordinate_of p j)
way_area i j p q x none = omega (arith, ints, area_is (on_axes i j p) (on_axes i j q) (on_axes i j x), none)

-- the ways to a point on the line
pub ways : (p q x : List ℤ) → InLine p q x →
    AreAlong (coordinate_of q 0 -ℤ coordinate_of p 0) (coordinate_of q 1 -ℤ coordinate_of p 1) (coordinate_of q 2 -ℤ coordinate_of p 2)
    (coordinate_of x 0 -ℤ coordinate_of p 0) (coordinate_of x 1 -ℤ coordinate_of p 1) (coordinate_of x 2 -ℤ coordinate_of p 2)
ways p q x h = record { jk = way_area 1 2 p q x h.x; ki = way_area 2 0 p q x h.y; ij = way_area 0 1 p q x h.z }

-- the same, from the next coordinate on
next_along : (di dj dk xi xj xk : ℤ) → AreAlong di dj dk xi xj xk → AreAlong dj dk di xj xk xi
next_along di dj dk xi xj xk h = record { jk = h.ki; ki = h.ij; ij = h.jk }

-- so the cross product is none where the first way is some
cross_none : (di dj dk xi xj xk yi yj yk : ℤ) → AreAlong di dj dk xi xj xk → AreAlong di dj dk yi yj yk → (di ≢ pos 0) ⊎ ((dj ≢ pos 0) ⊎ (dk ≢ pos 0)) →
    xj *ℤ yk -ℤ yj *ℤ xk ≡ pos 0
cross_none di dj dk xi xj xk yi yj yk x y (inl some) = none_of di (xj *ℤ yk -ℤ yj *ℤ xk) some (first_none di dj dk xi xj xk yi yj yk x y)
cross_none di dj dk xi xj xk yi yj yk x y (inr (inl some)) = none_of dj (xj *ℤ yk -ℤ yj *ℤ xk) some (second_none di dj dk xi xj xk yi yj yk x y)
cross_none di dj dk xi xj xk yi yj yk x y (inr (inr some)) = none_of dk (xj *ℤ yk -ℤ yj *ℤ xk) some (third_none di dj dk xi xj xk yi yj yk x y)

turned_some : (a b c : ℤ) → (a ≢ pos 0) ⊎ ((b ≢ pos 0) ⊎ (c ≢ pos 0)) → (b ≢ pos 0) ⊎ ((c ≢ pos 0) ⊎ (a ≢ pos 0))
turned_some a b c (inl h) = inr (inr h)
turned_some a b c (inr (inl h)) = inl h
turned_some a b c (inr (inr h)) = inr (inl h)

-- what lies on the line of two different points lies on a line with either
pub line_through : (p q x y : List ℤ) → Differ p q → InLine p q x → InLine p q y → InLine p x y
line_through p q x y some hx hy =
    let d : ℕ → ℤ = λ i. coordinate_of q i -ℤ coordinate_of p i in
    let u : ℕ → ℤ = λ i. coordinate_of x i -ℤ coordinate_of p i in
    let v : ℕ → ℤ = λ i. coordinate_of y i -ℤ coordinate_of p i in
    let a = ways p q x hx in
    let b = ways p q y hy in
    let a1 = next_along (d 0) (d 1) (d 2) (u 0) (u 1) (u 2) a in
    let b1 = next_along (d 0) (d 1) (d 2) (v 0) (v 1) (v 2) b in
    let a2 = next_along (d 1) (d 2) (d 0) (u 1) (u 2) (u 0) a1 in
    let b2 = next_along (d 1) (d 2) (d 0) (v 1) (v 2) (v 0) b1 in
    let some1 = turned_some (d 0) (d 1) (d 2) some in
    record {
      x = sym (area_is (on_axes 1 2 p) (on_axes 1 2 x) (on_axes 1 2 y)) ∙ cross_none (d 0) (d 1) (d 2) (u 0) (u 1) (u 2) (v 0) (v 1) (v 2) a b some;
      y = sym (area_is (on_axes 2 0 p) (on_axes 2 0 x) (on_axes 2 0 y)) ∙ cross_none (d 1) (d 2) (d 0) (u 1) (u 2) (u 0) (v 1) (v 2) (v 0) a1 b1 some1;
      z = sym (area_is (on_axes 0 1 p) (on_axes 0 1 x) (on_axes 0 1 y))
          ∙ cross_none (d 2) (d 0) (d 1) (u 2) (u 0) (u 1) (v 2) (v 0) (v 1) a2 b2 (turned_some (d 1) (d 2) (d 0) some1);
    }

-- two points of a triangle that is not flat differ
all_none : (i j : ℕ) (p q r : List ℤ) → coordinate_of q i -ℤ coordinate_of p i ≡ pos 0 → coordinate_of q j -ℤ coordinate_of p j ≡ pos 0 → cross_on i j p q r ≡ pos 0
all_none i j p q r a b =
    let x = coordinate_of r j -ℤ coordinate_of p j in
    let y = coordinate_of r i -ℤ coordinate_of p i in
    omega (arith, ints, ap (λ t. t *ℤ x) a, ap (λ t. t *ℤ y) b, *ℤ_comm (pos 0) x, *ℤ_comm (pos 0) y, *ℤ-zero x, *ℤ-zero y)

pub is_zero : (z : ℤ) → (z ≡ pos 0) ⊎ (z ≢ pos 0)
is_zero (pos zero) = inl refl
is_zero (pos (suc n)) = inr (λ e. omega (arith, ints, e))
is_zero (negsuc n) = inr (λ e. omega (arith, ints, e))

pub corners_differ : (p q r : List ℤ) → are_in_line p q r ≡ false → Differ p q
corners_differ p q r apart =
    by (is_zero (coordinate_of q 0 -ℤ coordinate_of p 0)) (is_zero (coordinate_of q 1 -ℤ coordinate_of p 1)) (is_zero (coordinate_of q 2 -ℤ coordinate_of p 2))
  where
    Zero : ℕ → Type 0
    Zero i = coordinate_of q i -ℤ coordinate_of p i ≡ pos 0

    by : Zero 0 ⊎ (Zero 0 → ⊥) → Zero 1 ⊎ (Zero 1 → ⊥) → Zero 2 ⊎ (Zero 2 → ⊥) → Differ p q
    by (inr a) b c = inl a
    by (inl a) (inr b) c = inr (inl b)
    by (inl a) (inl b) (inr c) = inr (inr c)
    by (inl a) (inl b) (inl c) =
        absurd (both_ways (are_in_line p q r) apart (from_line p q r (record {
          x = sym (cross_is 1 2 p q r) ∙ all_none 1 2 p q r b c;
          y = sym (cross_is 2 0 p q r) ∙ all_none 2 0 p q r c a;
          z = sym (cross_is 0 1 p q r) ∙ all_none 0 1 p q r a b;
        })))
