-- Triangles that are kept at hand: one number more, and what is counted of them.
use Rattle.std.specs.Prelude.{◌≡◌, ℕ, ◌+◌, ◌<◌, ◌≤◌, List, [], ◌∷◌, ◌++◌, Bool, true, false, cond, ◌&&◌, nat_lt, count_by}
use Rattle.std.specs.List.Sorted.{IsPermutation}
use Rattle.std.proofs.Common.{arith, refl, sym, ap, ◌∙◌}
use Rattle.std.proofs.lemmas.Bool.Decides.{nat_tests}
use Rattle.std.proofs.lemmas.List.Sorted.{sum_by-IsPermutation}
use Rattle.box_tree.specs.Touching.{touching_numbers}
use Rattle.mb_base.specs.declared.point.Box3.{Box3}
use Rattle.mesh_terms.specs.Meshes.{Mesh}
use Rattle.inspection_terms.specs.Triangles.{Corners, corners_at}
use Rattle.inspection_laws.specs.Boxes.{boxes_of}
use Rattle.inspection_laws.specs.Signs.{are_cutting}
use Rattle.inspection_laws.proofs.Counting.{count-append, count-cons, count-same}
use Rattle.self_cuts.specs.Faces.{places}
use Rattle.self_cuts.specs.Hands.{AreAtHand}
use Rattle.self_cuts.specs.declared.seen.Seen.{Seen}

-- of the numbers as many pass a test as of the triangles at hand and of the numbers to come
abbrev pub AreKept : Mesh → ℕ → List ℕ → List Seen → List ℕ → Type 0
AreKept m end numbers seen rest =
    (test : ℕ → Corners → Bool) → count_by (λ s. nat_lt s end && test s (corners_at m s)) numbers
    ≡ count_by (λ o. test o.number (places o.triangle)) seen + count_by (λ s. nat_lt s end && test s (corners_at m s)) rest

below : (k t : ℕ) → k < t → nat_lt k t ≡ true
below k t h = grind (arith, nat_tests)

not_below : (k t : ℕ) → t ≤ k → nat_lt k t ≡ false
not_below k t h = grind (arith, nat_tests)

-- at first all are to come, in any order
pub kept_first : (m : Mesh) (end : ℕ) (numbers rest : List ℕ) (seen : List Seen) → seen ≡ [] → IsPermutation numbers rest → AreKept m end numbers seen rest
kept_first m end numbers rest seen none same test =
    omega (
      arith,
      sum_by-IsPermutation (λ s. cond (nat_lt s end && test s (corners_at m s)) 1 0) numbers rest same,
      ap (count_by (λ o. test o.number (places o.triangle))) none,
    )

-- one number before the end
pub kept_more : (m : Mesh) (end : ℕ) (numbers rest more : List ℕ) (seen : List Seen) (n : ℕ) (o : Seen) →
    rest ≡ n ∷ more → n < end → o.number ≡ n → places o.triangle ≡ corners_at m n →
    AreKept m end numbers seen rest → AreKept m end numbers (seen ++ o ∷ []) more
kept_more m end numbers rest more seen n o step low number triangle kept test =
    let left = λ (s : ℕ). nat_lt s end && test s (corners_at m s) in
    let right = λ (o : Seen). test o.number (places o.triangle) in
    let same : left n ≡ right o = ap (λ (b : Bool). b && test n (corners_at m n)) (below n end low) ∙ sym (λ i. test (number i) (triangle i)) in
    omega (
      arith,
      kept test,
      ap (count_by left) step,
      count-cons left n more,
      ap {B = ℕ} (λ (b : Bool). cond b 1 0) same,
      count-append right seen (o ∷ []),
      count-cons right o [],
    )

-- one number that is not
pub kept_less : (m : Mesh) (end : ℕ) (numbers rest more : List ℕ) (seen : List Seen) (n : ℕ) → rest ≡ n ∷ more → end ≤ n →
    AreKept m end numbers seen rest → AreKept m end numbers seen more
kept_less m end numbers rest more seen n step high kept test =
    let left = λ (s : ℕ). nat_lt s end && test s (corners_at m s) in
    let same : left n ≡ false = ap (λ (b : Bool). b && test n (corners_at m n)) (not_below n end high) in
    omega (arith, kept test, ap (count_by left) step, count-cons left n more, ap {B = ℕ} (λ (b : Bool). cond b 1 0) same)

-- at last none is to come
pub kept_all : (m : Mesh) (area : Box3) (end : ℕ) (rest : List ℕ) (seen : List Seen) → rest ≡ [] →
    AreKept m end (touching_numbers (boxes_of m) area) seen rest → AreAtHand m area end seen
kept_all m area end rest seen none kept = record { counted = λ test. omega (arith, kept test, ap (count_by (λ s. nat_lt s end && test s (corners_at m s))) none) }

-- before the number 0 there is none
pub none_at_hand : (m : Mesh) (area : Box3) (end : ℕ) (seen : List Seen) → end ≡ 0 → seen ≡ [] → AreAtHand m area end seen
none_at_hand m area end seen first none = record {
  counted = λ test.
      none_of (λ s. nat_lt s end && test s (corners_at m s))
      (λ s. ap (λ (b : Bool). b && test s (corners_at m s)) (not_below s end (omega arith))) (touching_numbers (boxes_of m) area)
      ∙ sym (ap (count_by (λ o. test o.number (places o.triangle))) none);
} where
  none_of : (p : ℕ → Bool) → ((s : ℕ) → p s ≡ false) → (xs : List ℕ) → count_by p xs ≡ 0
  none_of p h [] = refl
  none_of p h (x ∷ xs) = omega (arith, count-cons p x xs, ap {B = ℕ} (λ (b : Bool). cond b 1 0) (h x), none_of p h xs)

-- of the triangles at hand as many come before t and cut a triangle as of those that touch the area
pub hand_count : (m : Mesh) (area : Box3) (end t : ℕ) (seen : List Seen) (c : Corners) → t < end → AreAtHand m area end seen →
    count_by (λ o. nat_lt o.number t && are_cutting (places o.triangle) c) seen
    ≡ count_by (λ s. nat_lt s t && are_cutting (corners_at m s) c) (touching_numbers (boxes_of m) area)
hand_count m area end t seen c low kept =
    sym (kept.counted (λ s x. nat_lt s t && are_cutting x c))
    ∙ count-same (λ s. nat_lt s end && (nat_lt s t && are_cutting (corners_at m s) c)) (λ s. nat_lt s t && are_cutting (corners_at m s) c) (touching_numbers (boxes_of m) area)
    (λ s. by s (nat_lt s t) (are_cutting (corners_at m s) c) refl)
  where
    lower : (s : ℕ) → nat_lt s t ≡ true → s < t
    lower s e = grind (arith, nat_tests)

    none : (b : Bool) → (b && false) ≡ false
    none true = refl
    none false = refl

    by : (s : ℕ) (a b : Bool) → nat_lt s t ≡ a → (nat_lt s end && (a && b)) ≡ (a && b)
    by s true b e = ap (λ (d : Bool). d && b) (below s end (let l = lower s e in omega arith))
    by s false b e = none (nat_lt s end)

-- of numbers to come the first passes the test, or does not
pub first_counted : (p : ℕ → Bool) (count k n : ℕ) (rest more : List ℕ) → count + count_by p rest ≡ k → rest ≡ n ∷ more → true ≡ p n → count + 1 + count_by p more ≡ k
first_counted p count k n rest more e step is = omega (arith, e, ap (count_by p) step, count-cons p n more, ap {B = ℕ} (λ (b : Bool). cond b 1 0) is)
