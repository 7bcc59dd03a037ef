-- Edges that don't reach the height from which a ray begins don't cross it, so that they aren't missed in sums.
use Rattle.std.proofs.Common.{arith, ◌≡◌, ℕ, ◌<◌, ◌≤◌, ℤ, pos, neg_ℤ, ◌+ℤ◌, ◌-ℤ◌, ◌*ℤ◌, ◌≤ℤ◌, List, [], ◌∷◌, Bool, true, false, not, cond, ◌&&◌, filter, get_or, int_lt, length, refl, sym, ap, subst, ◌∙◌, inl, inr}
use Rattle.std.specs.Ordering.{int_eq}
use Rattle.std.specs.List.{All, sum_by}
use Rattle.std.specs.List.Sorted.{IsPermutation}
use Rattle.std.proofs.lemmas.Bool.{cases_Bool, both_ways}
use Rattle.std.proofs.lemmas.Int.{ints, clamps}
use Rattle.std.proofs.lemmas.List.{get_or-map, length-map}
use Rattle.std.proofs.lemmas.List.Sorted.{All-permutation, sum_by-IsPermutation}
use Rattle.std.proofs.lemmas.List.Sums.{sum_by-cons}
use Rattle.chain_terms.specs.Sums.{total, upto}
use Rattle.chain_laws.specs.Sums.{total-permutation}
use Rattle.chain_laws.proofs.Ascending.{total-filter}
use Rattle.chain_laws.proofs.Places.{get_or-up_from, length-up_from, total-upto_same}
use Rattle.box_tree.specs.Touching.{box_at, no_box, touches, touching_numbers}
use Rattle.box_tree.proofs.NearNumbers.{touching_below}
use Rattle.box_tree.proofs.Points.{common_touching}
use Rattle.mb_base.specs.declared.point.Box3.{Box3}
use Rattle.face_plane.specs.Planes.{Plane}
use Rattle.sheet_terms.specs.Numbers.{beside, crossing, first_of_three, height}
use Rattle.plane_sheets.specs.Boxed.{edge_height, height_at, middle_of, shadow_of, shadows_of}
use Rattle.plane_sheets.specs.Found.{HasCrossing}
use Rattle.plane_sheets.specs.Sides.{crosses}

-- where the first of three numbers is below 0 the first is no greater, and where it is not, no less
first_below : (x y z : ℤ) → int_lt (first_of_three x y z) (pos 0) ≡ true → x ≤ℤ pos 0
first_below x y z h = elim (cases_Bool (int_eq x (pos 0))) as (λ _. x ≤ℤ pos 0) [
  | inl zero ↦ grind (arith, ints, zero)
  | inr other ↦ let e : int_lt x (pos 0) ≡ true = ap (λ b. int_lt (cond b (cond (int_eq y (pos 0)) z y) x) (pos 0)) (sym other) ∙ h in grind (arith, ints, e)
]

first_over : (x y z : ℤ) → int_lt (first_of_three x y z) (pos 0) ≡ false → pos 0 ≤ℤ x
first_over x y z h = elim (cases_Bool (int_eq x (pos 0))) as (λ _. pos 0 ≤ℤ x) [
  | inl zero ↦ grind (arith, ints, zero)
  | inr other ↦ let e : int_lt x (pos 0) ≡ false = ap (λ b. int_lt (cond b (cond (int_eq y (pos 0)) z y) x) (pos 0)) (sym other) ∙ h in grind (arith, ints, e)
]

-- a segment from no higher than the middle to no lower touches its height
touches_up : (a b p q : ℤ × ℤ) → (pos 2 *ℤ p.1) ≤ℤ (a.1 +ℤ b.1) → (a.1 +ℤ b.1) ≤ℤ (pos 2 *ℤ q.1) → touches (shadow_of p q) (middle_of a b) ≡ true
touches_up a b p q low high = common_touching (shadow_of p q) (middle_of a b) (record {
  x = a.1 +ℤ b.1;
  y = pos 0;
  z = pos 0;
  in_first = record {
    low_x = omega (arith, ints, clamps, low, high);
    high_x = omega (arith, ints, clamps, low, high);
    low_y = omega (arith, ints);
    high_y = omega (arith, ints);
    low_z = omega (arith, ints);
    high_z = omega (arith, ints);
  };
  in_second = record {
    low_x = omega (arith, ints);
    high_x = omega (arith, ints);
    low_y = omega (arith, ints);
    high_y = omega (arith, ints);
    low_z = omega (arith, ints);
    high_z = omega (arith, ints);
  };
})

touches_down : (a b p q : ℤ × ℤ) → (pos 2 *ℤ q.1) ≤ℤ (a.1 +ℤ b.1) → (a.1 +ℤ b.1) ≤ℤ (pos 2 *ℤ p.1) → touches (shadow_of p q) (middle_of a b) ≡ true
touches_down a b p q low high = common_touching (shadow_of p q) (middle_of a b) (record {
  x = a.1 +ℤ b.1;
  y = pos 0;
  z = pos 0;
  in_first = record {
    low_x = omega (arith, ints, clamps, low, high);
    high_x = omega (arith, ints, clamps, low, high);
    low_y = omega (arith, ints);
    high_y = omega (arith, ints);
    low_z = omega (arith, ints);
    high_z = omega (arith, ints);
  };
  in_second = record {
    low_x = omega (arith, ints);
    high_x = omega (arith, ints);
    low_y = omega (arith, ints);
    high_y = omega (arith, ints);
    low_z = omega (arith, ints);
    high_z = omega (arith, ints);
  };
})

-- by where its ends lie
abbrev crossed_by : Bool → Bool → Bool → Bool → ℤ
crossed_by f t l r = cond (f && not t && l) (pos 1) (cond (not f && t && r) (neg_ℤ (pos 1)) (pos 0))

-- a segment that doesn't touch the height doesn't cross the ray
apart : (f t l r m : Bool) → (f ≡ true → t ≡ false → m ≡ true) → (f ≡ false → t ≡ true → m ≡ true) → m ≡ false → crossed_by f t l r ≡ pos 0
apart true true l r m up down off = refl
apart false false l r m up down off = refl
apart true false l r m up down off = absurd (both_ways m off (up refl refl))
apart false true l r m up down off = absurd (both_ways m off (down refl refl))

not_touching : (a b p q : ℤ × ℤ) → touches (shadow_of p q) (middle_of a b) ≡ false → crossing a b p q ≡ pos 0
not_touching a b p q off =
    let f = int_lt (height a b p) (pos 0) in
    let t = int_lt (height a b q) (pos 0) in
    let over : (r : ℤ × ℤ) → (pos 2 *ℤ r.1 -ℤ (a.1 +ℤ b.1)) ≤ℤ pos 0 → (pos 2 *ℤ r.1) ≤ℤ (a.1 +ℤ b.1) = λ r h. omega (arith, ints, h) in
    let under : (r : ℤ × ℤ) → pos 0 ≤ℤ (pos 2 *ℤ r.1 -ℤ (a.1 +ℤ b.1)) → (a.1 +ℤ b.1) ≤ℤ (pos 2 *ℤ r.1) = λ r h. omega (arith, ints, h) in
    apart f t (int_lt (pos 0) (beside a b p q)) (int_lt (beside a b p q) (pos 0)) (touches (shadow_of p q) (middle_of a b))
    (λ y n. touches_up a b p q (over p (first_below (pos 2 *ℤ p.1 -ℤ (a.1 +ℤ b.1)) (a.1 -ℤ b.1) (a.0 -ℤ b.0) y))
    (under q (first_over (pos 2 *ℤ q.1 -ℤ (a.1 +ℤ b.1)) (a.1 -ℤ b.1) (a.0 -ℤ b.0) n)))
    (λ n y. touches_down a b p q (over q (first_below (pos 2 *ℤ q.1 -ℤ (a.1 +ℤ b.1)) (a.1 -ℤ b.1) (a.0 -ℤ b.0) y))
    (under p (first_over (pos 2 *ℤ p.1 -ℤ (a.1 +ℤ b.1)) (a.1 -ℤ b.1) (a.0 -ℤ b.0) n))) off

-- a term that is left out
left_out : (b : Bool) (x c : ℤ) → (b ≡ false → c ≡ pos 0) → cond b (x *ℤ c) (pos 0) ≡ x *ℤ c
left_out true x c h = refl
left_out false x c h = let z : x *ℤ pos 0 ≡ pos 0 = omega (arith, ints) in sym (ap (λ (d : ℤ). x *ℤ d) (h refl) ∙ z)

-- and one of a sum of sizes
no_less : (p : ℕ → Bool) (g : ℕ → ℕ) (xs : List ℕ) → sum_by g (filter p xs) ≤ sum_by g xs
no_less p g [] = omega arith
no_less p g (x ∷ xs) = elim (cases_Bool (p x)) as (λ _. sum_by g (filter p (x ∷ xs)) ≤ sum_by g (x ∷ xs)) [
  | inl y ↦ rw y (omega (arith, no_less p g xs, sum_by-cons g x xs, sum_by-cons g x (filter p xs)))
  | inr n ↦ rw n (omega (arith, no_less p g xs, sum_by-cons g x xs))
]

-- the edges that touch the height of a middle, in any order
pub near_crossing : (at : Plane) (es : List (ℕ × ℕ)) (e : ℕ) (near : List ℕ) →
    IsPermutation (touching_numbers (shadows_of at es) (middle_of (at (get_or es e (0, 0)).0) (at (get_or es e (0, 0)).1))) near → HasCrossing at es e near
near_crossing at es e near moved =
    let boxes = shadows_of at es in
    let area = middle_of (at (get_or es e (0, 0)).0) (at (get_or es e (0, 0)).1) in
    let p : ℕ → Bool = λ i. touches (box_at boxes i) area in
    let count : length boxes ≡ length es = length-map es (λ (d : ℕ × ℕ). shadow_of (at d.0) (at d.1)) in
    let within : All (λ i. i < length es) (touching_numbers boxes area) = subst (λ n. All (λ i. i < n) (touching_numbers boxes area)) count (touching_below boxes area) in
    let none : (i : ℕ) → i < length es → p i ≡ false → crosses at es e i ≡ pos 0 =
    λ i l off. not_touching (at (get_or es e (0, 0)).0) (at (get_or es e (0, 0)).1) (at (get_or es i (0, 0)).0) (at (get_or es i (0, 0)).1)
    (ap (λ b. touches b area) (sym (get_or-map (λ (d : ℕ × ℕ). shadow_of (at d.0) (at d.1)) es i (0, 0) no_box l)) ∙ off) in
    record {
      below = All-permutation (λ i. i < length es) _ near moved within;
      sums = λ f. total-permutation (λ i. f i *ℤ crosses at es e i) _ near moved ∙ total-filter (λ i. f i *ℤ crosses at es e i) p (upto (length boxes))
          ∙ total-upto_same _ _ (length boxes) (λ i l. left_out (p i) (f i) (crosses at es e i) (none i (subst (λ n. i < n) count l)))
          ∙ ap (λ n. total (λ i. f i *ℤ crosses at es e i) (upto n)) count;
      sizes = λ g. omega (arith, sum_by-IsPermutation g _ near moved, no_less p g (upto (length boxes)), ap (λ n. sum_by g (upto n)) count);
    }

-- all edges
pub all_crossing : (at : Plane) (es : List (ℕ × ℕ)) (e : ℕ) (near : List ℕ) → near ≡ upto (length es) → HasCrossing at es e near
all_crossing at es e near same = subst (HasCrossing at es e) (sym same) (record {
  below = λ k d h. let l : k < length es = omega (arith, h, length-up_from 0 (length es)) in
      omega (arith, l, get_or-up_from 0 (length es) k d l);
  sums = λ f. refl;
  sizes = λ g. omega arith;
})

-- what a tree over the boxes of the edges finds
pub found_crossing : (at : Plane) (es : List (ℕ × ℕ)) (e : ℕ) (boxes : List Box3) (area : Box3) (m : ℤ) (near : List ℕ) → boxes ≡ shadows_of at es →
    edge_height at es e ≡ m → area ≡ height_at m → IsPermutation (touching_numbers boxes area) near → HasCrossing at es e near
found_crossing at es e boxes area m near same own height moved =
    let middle : Box3 = middle_of (at (get_or es e (0, 0)).0) (at (get_or es e (0, 0)).1) in
    let area_is : area ≡ middle = height ∙ ap height_at (sym own) in
    near_crossing at es e near (subst (λ (bs : List Box3). IsPermutation (touching_numbers bs middle) near) same
    (subst (λ (r : Box3). IsPermutation (touching_numbers boxes r) near) area_is moved))
