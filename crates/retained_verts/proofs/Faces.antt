-- A copy stands in none or two of the lists of a source face.
use Rattle.std.proofs.Common.{◌≡◌, ℕ, ◌+◌, ◌*◌, ◌/◌, ◌<◌, ◌≤◌, inl, inr, Bool, true, false, cond, ◌==◌, ℤ, pos, negsuc, neg_ℤ, ◌-ℤ◌, List, ◌++◌, map, length, get_or, int_lt, count_by, refl, arith, ap, sym, ◌∙◌}
use Rattle.std.proofs.lemmas.Int.{ints}
use Rattle.std.proofs.lemmas.Bool.{cases_eq, eq-eqb, ne_eqb, le-ltb}
use Rattle.chain_terms.specs.Chains.{all_edges}
use Rattle.chain_terms.specs.Ranks.{twin}
use Rattle.chain_terms.specs.Sums.{upto}
use Rattle.chain_laws.specs.Sums.{IsWithin}
use Rattle.lean.proofs.Triangles.{half_of_face}
use Rattle.mesh_terms.specs.Meshes.{Triple, HasThree}
use Rattle.side_terms.specs.Lists.{ListName, at_same, at_end, way, way_round}
use Rattle.retained_verts.proofs.Units.{above, above_neg, below, below_neg, count_lists, count_none, count_one, unit_parts}
use Rattle.retained_verts.proofs.Ways.{at_same_is, not_both, one_of_three, same, same_few, same_no, same_yes, way_is, way_round_is}

-- of so many lists the value is above 0, and of as many below
pub record CountsTo (value : ListName → ℤ) (names : List ListName) (s : ℕ) : Type 0 where
  pub ups : count_by (λ name. int_lt (pos 0) (value name)) names ≡ s
  pub downs : count_by (λ name. int_lt (value name) (pos 0)) names ≡ s

-- by the three half-edges and the pairs
pub counted : (value : ListName → ℤ) (half pair : ℕ → ListName) (n u d s : ℕ) →
    count_by (λ k. int_lt (pos 0) (value (pair k))) (upto n) ≡ u → count_by (λ k. int_lt (value (pair k)) (pos 0)) (upto n) ≡ d →
    above (value (half 0)) + (above (value (half 1)) + (above (value (half 2)) + u)) ≡ s → below (value (half 0)) + (below (value (half 1)) + (below (value (half 2)) + d)) ≡ s →
    CountsTo value (map half (upto 3) ++ map pair (upto n)) s
counted value half pair n u d s up down ups downs = record {
  ups = omega (arith, count_lists (λ name. int_lt (pos 0) (value name)) half pair n, up, ups);
  downs = omega (arith, count_lists (λ name. int_lt (value name) (pos 0)) half pair n, down, downs);
}

-- where every value is 0
pub counted_none : (value : ListName → ℤ) (half pair : ℕ → ListName) (n : ℕ) → ((i : ℕ) → value (half i) ≡ pos 0) → ((k : ℕ) → value (pair k) ≡ pos 0) →
    CountsTo value (map half (upto 3) ++ map pair (upto n)) 0
counted_none value half pair n halves pairs =
    let up : (i : ℕ) → above (value (half i)) ≡ 0 = λ i. ap above (halves i) in
    let down : (i : ℕ) → below (value (half i)) ≡ 0 = λ i. ap below (halves i) in
    counted value half pair n 0 0 0 (count_none (λ k. int_lt (pos 0) (value (pair k))) n (λ k. ap (int_lt (pos 0)) (pairs k)))
    (count_none (λ k. int_lt (value (pair k)) (pos 0)) n (λ k. ap (λ z. int_lt z (pos 0)) (pairs k)))
    (omega (arith, up 0, up 1, up 2)) (omega (arith, down 0, down 1, down 2))

-- the half-edges of a face against a vertex
pub ends_at : (ts : List Triple) (f a : ℕ) → f < length ts → (let t = get_or ts f (0, 0, 0) in let es = all_edges ts in
    (at_end es (3 * f + 0) a ≡ pos (same t.0 a) -ℤ pos (same t.1 a)) × (at_end es (3 * f + 1) a ≡ pos (same t.1 a) -ℤ pos (same t.2 a)) × (at_end es
    (3 * f + 2) a ≡ pos (same t.2 a) -ℤ pos (same t.0 a)))
ends_at ts f a below =
    let t = get_or ts f (0, 0, 0) in
    let es = all_edges ts in
    let of : (e e' : ℕ × ℕ) → e ≡ e' → at_same e.0 a -ℤ at_same e.1 a ≡ pos (same e'.0 a) -ℤ pos (same e'.1 a) =
    λ e e' same_edge. ap (λ (x : ℕ × ℕ). at_same x.0 a -ℤ at_same x.1 a) same_edge ∙ omega (arith, ints, at_same_is e'.0 a, at_same_is e'.1 a) in (
      of (get_or es (3 * f + 0) (0, 0)) (t.0, t.1) (half_of_face ts f 0 below (omega arith)),
      of (get_or es (3 * f + 1) (0, 0)) (t.1, t.2)
          (half_of_face ts f 1 below (omega arith)),
      of (get_or es (3 * f + 2) (0, 0)) (t.2, t.0) (half_of_face ts f 2 below (omega arith)),
    )

-- three vertices, one of which at most is a
pub at_most_one : (t : Triple) (a : ℕ) → HasThree t → same t.0 a + (same t.1 a + same t.2 a) ≤ 1
at_most_one t a three = elim (cases_eq t.0 a) as (λ _. same t.0 a + (same t.1 a + same t.2 a) ≤ 1) [
  | inl e ↦ omega (arith, same_few t.0 a, same_no t.1 a (λ x. three.ab (e ∙ sym x)), same_no t.2 a (λ x. three.ca (x ∙ sym e)))
  | inr n ↦ elim (cases_eq t.1 a) as (λ _. same t.0 a + (same t.1 a + same t.2 a) ≤ 1) [
    | inl e ↦ omega (arith, same_no t.0 a n, same_few t.1 a, same_no t.2 a (λ x. three.bc (e ∙ sym x)))
    | inr m ↦ omega (arith, same_no t.0 a n, same_no t.1 a m, same_few t.2 a)
  ]
]

-- the difference of two numbers of 0 or 1
difference_within : (z : ℤ) (m n : ℕ) → m ≤ 1 → n ≤ 1 → z ≡ pos m -ℤ pos n → IsWithin z 1
difference_within z m n a b e = record { low = omega (arith, ints, a, b, e); high = omega (arith, ints, a, b, e) }

-- differences round three numbers of which one at most is 1
round_three : (a b c : ℕ) (x y z : ℤ) → a + (b + c) ≤ 1 → x ≡ pos a -ℤ pos b → y ≡ pos b -ℤ pos c → z ≡ pos c -ℤ pos a →
    (above x + (above y + (above z + 0)) ≡ a + (b + c)) × (below x + (below y + (below z + 0)) ≡ a + (b + c))
round_three a b c x y z few p q r =
    let i = unit_parts x (difference_within x a b (omega (arith, few)) (omega (arith, few)) p) in
    let j = unit_parts y (difference_within y b c (omega (arith, few)) (omega (arith, few)) q) in
    let k = unit_parts z (difference_within z c a (omega (arith, few)) (omega (arith, few)) r) in
    (omega (arith, ints, few, p, q, r, i.value, i.one, j.value, j.one, k.value, k.one), omega (arith, ints, few, p, q, r, i.value, i.one, j.value, j.one, k.value, k.one))

-- a vertex in the lists of a face
pub vertex_counts : (value : ListName → ℤ) (half pair : ℕ → ListName) (n : ℕ) (ts : List Triple) (f a : ℕ) → f < length ts → HasThree (get_or ts f (0, 0, 0)) →
    ((i : ℕ) → value (half i) ≡ at_end (all_edges ts) (3 * f + i) a) → ((k : ℕ) → value (pair k) ≡ pos 0) →
    CountsTo value (map half (upto 3) ++ map pair (upto n)) (same (get_or ts f (0, 0, 0)).0 a + (same (get_or ts f (0, 0, 0)).1 a + same (get_or ts f (0, 0, 0)).2 a))
vertex_counts value half pair n ts f a below three halves pairs =
    let t = get_or ts f (0, 0, 0) in
    let at = ends_at ts f a below in
    let sides = round_three (same t.0 a) (same t.1 a) (same t.2 a) (value (half 0)) (value (half 1)) (value (half 2)) (at_most_one t a three) (halves 0 ∙ at.0)
    (halves 1 ∙ at.1) (halves 2 ∙ at.2) in
    counted value half pair n 0 0 (same t.0 a + (same t.1 a + same t.2 a))
    (count_none (λ k. int_lt (pos 0) (value (pair k))) n (λ k. ap (int_lt (pos 0)) (pairs k)))
    (count_none (λ k. int_lt (value (pair k)) (pos 0)) n (λ k. ap (λ z. int_lt z (pos 0)) (pairs k)))
    sides.0 sides.1

-- three differences, with a minus, and their sum, where one of all six numbers at most is 1
three_and_sum : (a b c a' b' c' : ℕ) (x y z w : ℤ) → a + (b + c) + (a' + (b' + c')) ≤ 1 → x ≡ neg_ℤ (pos a -ℤ pos a') → y ≡ neg_ℤ (pos b -ℤ pos b') → z ≡ neg_ℤ (pos c -ℤ pos c') →
    w ≡ pos (a + (b + c)) -ℤ pos (a' + (b' + c')) →
    (above x + (above y + (above z + above w)) ≡ a + (b + c) + (a' + (b' + c'))) × (below x + (below y + (below z + below w)) ≡ a + (b + c) + (a' + (b' + c')))
three_and_sum a b c a' b' c' x y z w few p q r s =
    let i = unit_parts x (difference_within x a' a (omega (arith, few)) (omega (arith, few)) (omega (arith, ints, p))) in
    let j = unit_parts y (difference_within y b' b (omega (arith, few)) (omega (arith, few)) (omega (arith, ints, q))) in
    let k = unit_parts z (difference_within z c' c (omega (arith, few)) (omega (arith, few)) (omega (arith, ints, r))) in
    let l = unit_parts w (difference_within w (a + (b + c)) (a' + (b' + c')) (omega (arith, few)) (omega (arith, few)) s) in (
      omega (arith, ints, few, p, q, r, s, i.value, i.one, j.value, j.one, k.value, k.one, l.value, l.one),
      omega (arith, ints, few, p, q, r, s, i.value, i.one, j.value, j.one, k.value, k.one, l.value, l.one),
    )

-- a value at one number alone, tested
test_above : (t : Bool) (w : ℤ) → int_lt (pos 0) (cond t w (pos 0)) ≡ cond t (int_lt (pos 0) w) false
test_above true w = refl
test_above false w = refl

test_below : (t : Bool) (w : ℤ) → int_lt (cond t w (pos 0)) (pos 0) ≡ cond t (int_lt w (pos 0)) false
test_below true w = refl
test_below false w = refl

-- a crossing of an edge in the lists of a face with that edge
pub edge_counts : (value : ListName → ℤ) (half pair : ℕ → ListName) (n : ℕ) (es : List (ℕ × ℕ)) (f e other : ℕ) → other < n → (e / 3 ≡ twin es e / 3 → ⊥) →
    ((i : ℕ) → value (half i) ≡ neg_ℤ (way es (3 * f + i) e)) → ((k : ℕ) → value (pair k) ≡ cond (other == k) (way_round es f e) (pos 0)) →
    CountsTo value (map half (upto 3) ++ map pair (upto n)) (same f (e / 3) + same f (twin es e / 3))
edge_counts value half pair n es f e other inside apart halves pairs =
    let t = twin es e in
    let w = way_round es f e in
    let first = one_of_three f e in
    let second = one_of_three f t in
    let few = not_both f (e / 3) (t / 3) apart in
    let at : (i : ℕ) → value (half i) ≡ neg_ℤ (pos (same (3 * f + i) e) -ℤ pos (same (3 * f + i) t)) = λ i. halves i ∙ ap neg_ℤ (way_is es (3 * f + i) e) in
    let whole : w ≡ pos (same (3 * f + 0) e + (same (3 * f + 1) e + same (3 * f + 2) e)) -ℤ pos
    (same (3 * f + 0) t + (same (3 * f + 1) t + same (3 * f + 2) t)) = omega (arith, ints, way_round_is es f e, first, second) in
    let sides = three_and_sum (same (3 * f + 0) e) (same (3 * f + 1) e) (same (3 * f + 2) e) (same (3 * f + 0) t) (same (3 * f + 1) t) (same (3 * f + 2) t)
    (value (half 0)) (value (half 1)) (value (half 2)) w
    (omega (arith, first, second, few)) (at 0) (at 1) (at 2) whole in
    counted value half pair n (above w) (below w) (same f (e / 3) + same f (t / 3))
    (count_one (λ k. int_lt (pos 0) (value (pair k))) (int_lt (pos 0) w) other n inside (λ k. ap (int_lt (pos 0)) (pairs k) ∙ test_above (other == k) w))
    (count_one (λ k. int_lt (value (pair k)) (pos 0)) (int_lt w (pos 0)) other n inside (λ k. ap (λ z. int_lt z (pos 0)) (pairs k) ∙ test_below (other == k) w))
    (omega (arith, sides.0, first, second)) (omega (arith, sides.1, first, second))

-- where the sum round a face is below 0 or above 0
not_below : (z : ℤ) (n : ℕ) → z ≡ pos n → int_lt z (pos 0) ≡ false
not_below z n e = ap (λ y. int_lt y (pos 0)) e ∙ le-ltb n 0 (omega arith)

below_at : (es : List (ℕ × ℕ)) (k e : ℕ) → (e / 3 ≡ twin es e / 3 → ⊥) → int_lt (way_round es k e) (pos 0) ≡ cond (twin es e / 3 == k) true false
below_at es k e apart =
    let w = way_round es k e in
    let b = twin es e / 3 in
    let is = way_round_is es k e in
    elim (cases_eq b k) as (λ _. int_lt w (pos 0) ≡ cond (b == k) true false) [
      | inl y ↦
          let least : w ≡ negsuc 0 = omega (arith, ints, is, same_yes k b (sym y), same_no k (e / 3) (λ x. apart (sym x ∙ sym y))) in
          ap (λ z. int_lt z (pos 0)) least ∙ sym (ap (λ t. cond t true false) (eq-eqb b k y))
      | inr n ↦ not_below w (same k (e / 3)) (omega (arith, ints, is, same_no k b (λ x. n (sym x)))) ∙ sym (ap (λ t. cond t true false) (ne_eqb b k n))
    ]

above_at : (es : List (ℕ × ℕ)) (k e : ℕ) → (e / 3 ≡ twin es e / 3 → ⊥) → int_lt (pos 0) (way_round es k e) ≡ cond (e / 3 == k) true false
above_at es k e apart =
    let w = way_round es k e in
    let a = e / 3 in
    let is = way_round_is es k e in
    elim (cases_eq a k) as (λ _. int_lt (pos 0) w ≡ cond (a == k) true false) [
      | inl y ↦
          let most : w ≡ pos 1 = omega (arith, ints, is, same_yes k a (sym y), same_no k (twin es e / 3) (λ x. apart (y ∙ x))) in
          ap (int_lt (pos 0)) most ∙ sym (ap (λ t. cond t true false) (eq-eqb a k y))
      | inr n ↦
          let none : neg_ℤ w ≡ pos (same k (twin es e / 3)) = omega (arith, ints, is, same_no k a (λ x. n (sym x))) in
          sym (below_neg w) ∙ not_below (neg_ℤ w) (same k (twin es e / 3)) none ∙ sym (ap (λ t. cond t true false) (ne_eqb a k n))
    ]

-- a crossing of an edge in the lists of the face that it crosses: the pairs with the two faces of the edge
pub face_counts : (value : ListName → ℤ) (half pair : ℕ → ListName) (n : ℕ) (es : List (ℕ × ℕ)) (e : ℕ) → e / 3 < n → twin es e / 3 < n → (e / 3 ≡ twin es e / 3 → ⊥) →
    ((i : ℕ) → value (half i) ≡ pos 0) → ((k : ℕ) → value (pair k) ≡ neg_ℤ (way_round es k e)) →
    CountsTo value (map half (upto 3) ++ map pair (upto n)) 1
face_counts value half pair n es e inside inside' apart halves pairs =
    let up : (i : ℕ) → above (value (half i)) ≡ 0 = λ i. ap above (halves i) in
    let down : (i : ℕ) → below (value (half i)) ≡ 0 = λ i. ap below (halves i) in
    counted value half pair n 1 1 1
    (count_one (λ k. int_lt (pos 0) (value (pair k))) true (twin es e / 3) n inside' (λ k. ap (int_lt (pos 0)) (pairs k) ∙ above_neg (way_round es k e) ∙ below_at es k e apart))
    (count_one (λ k. int_lt (value (pair k)) (pos 0)) true (e / 3) n inside (λ k. ap (λ z. int_lt z (pos 0)) (pairs k) ∙ below_neg (way_round es k e) ∙ above_at es k e apart))
    (omega (arith, up 0, up 1, up 2)) (omega (arith, down 0, down 1, down 2))
