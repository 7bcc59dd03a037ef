-- Two sorted lists of edges, read side by side from the front.
use Rattle.std.proofs.Common.{◌≡◌, ◌<◌, ◌≤◌, ◌+◌, ℕ, Bool, true, false, List, [], ◌∷◌, get_or, length, suc, subst, is_lt, Equal, Greater, refl, ◌∙◌, ap, arith}
use Rattle.std.specs.List.Sorted.{IsSorted}
use Rattle.chain_terms.specs.Chains.{dir, is_edge, one_if}
use Rattle.mesh_terms.specs.OpenEdges.{is_lesser}
use Rattle.halfedge.specs.Pairing.{Half, ends, ends_of, half_cmp}
use Rattle.halfedge.specs.Surplus.{IsLeastSurplus}
use Rattle.halfedge.proofs.Order.{edge_cmp, not_lesser_half, one_edge, through, before, lesser_is_other, is_itself, not_below_itself, not_lesser_from_cmp, not_greater_from_cmp, greater_from_cmp}

-- no edge that is lesser than an edge of the list stands after it
abbrev pub IsRising : List (ℕ × ℕ) → Type 0
IsRising [] = Unit {0}
IsRising (x ∷ xs) = ((q : ℕ × ℕ) → is_lesser q x ≡ true → dir xs q.0 q.1 ≡ 0) × IsRising xs

-- the edge is not lesser than the first of the list
abbrev pub IsReached : List (ℕ × ℕ) → ℕ × ℕ → Type 0
IsReached [] p = ⊥
IsReached (x ∷ xs) p = is_lesser p x ≡ false

-- two lists are read down to left and right: each edge no more often in the first, and as often from the first edge of left on
pub record AreRead (es others left right : List (ℕ × ℕ)) : Type 0 where
  pub left_rising : IsRising left
  pub right_rising : IsRising right
  pub fewer : (a b : ℕ) → dir right a b + dir es a b ≤ dir left a b + dir others a b
  pub same : (p : ℕ × ℕ) → IsReached left p → dir others p.0 p.1 + dir left p.0 p.1 ≤ dir es p.0 p.1 + dir right p.0 p.1

-- an edge that is not x is counted without x
past : (x : ℕ × ℕ) (xs : List (ℕ × ℕ)) (a b : ℕ) → is_edge x a b ≡ false → dir (x ∷ xs) a b ≡ dir xs a b
past x xs a b other = grind (arith, ap one_if other)

-- the first edge occurs
first_occurs : (x : ℕ × ℕ) (xs : List (ℕ × ℕ)) → 0 < dir (x ∷ xs) x.0 x.1
first_occurs x xs = omega (arith, ap one_if (is_itself x))

-- an edge that is lesser than the first of a rising list does not occur
pub none_lesser : (x q : ℕ × ℕ) (xs : List (ℕ × ℕ)) → IsRising (x ∷ xs) → is_lesser q x ≡ true → dir (x ∷ xs) q.0 q.1 ≡ 0
none_lesser x q xs rising less = past x xs q.0 q.1 (lesser_is_other q x less) ∙ rising.0 q less

-- a list without its first edge is sorted where the list is
pub later_sorted : (x : Half) (xs : List Half) → IsSorted half_cmp (x ∷ xs) → IsSorted half_cmp xs
later_sorted x xs sorted k d low in_list =
    let P : ℕ → Type 0 = λ n. is_lt (half_cmp (get_or (x ∷ xs) n d) (get_or (x ∷ xs) (suc k) d)) ≡ false in
    let next : suc k + 1 ≡ suc (k + 1) = omega arith in
    subst P next (sorted (suc k) d (omega arith) (omega (arith, in_list)))

-- what a sort leaves is rising
pub rising_from_sorted : (xs : List Half) → IsSorted half_cmp xs → IsRising (ends_of xs)
rising_from_sorted [] sorted = tt
rising_from_sorted (x ∷ []) sorted = (λ q less. refl, tt)
rising_from_sorted (x ∷ y ∷ ys) sorted =
    let later : IsRising (ends_of (y ∷ ys)) = rising_from_sorted (y ∷ ys) (later_sorted x (y ∷ ys) sorted) in
    let up : is_lesser (ends y) (ends x) ≡ false = not_lesser_half y x (sorted 0 x (omega arith) (omega arith)) in
    (λ q less. none_lesser (ends y) q (ends_of ys) later (before (ends x) q (ends y) less up), later)

-- nothing was read
pub read_none : (es others : List Half) → IsSorted half_cmp es → IsSorted half_cmp others → AreRead (ends_of es) (ends_of others) (ends_of es) (ends_of others)
read_none es others up others_up = record {
  left_rising = rising_from_sorted es up;
  right_rising = rising_from_sorted others others_up;
  fewer = λ a b. omega arith;
  same = λ p reached. omega arith;
}

-- what is left, as it is written
rewritten : (es others left right l r : List (ℕ × ℕ)) → left ≡ l → right ≡ r → AreRead es others left right → AreRead es others l r
rewritten es others left right l r left_is right_is read = subst (λ l. AreRead es others l r) left_is (subst (λ r. AreRead es others left r) right_is read)

-- an edge that is not lesser than what is left is not lesser than the first
reached_before : (x : ℕ × ℕ) (xs : List (ℕ × ℕ)) → IsRising (x ∷ xs) → (p : ℕ × ℕ) → IsReached xs p → is_lesser p x ≡ false
reached_before x [] rising p reached = absurd reached
reached_before x (z ∷ zs) rising p reached = by (is_lesser p x) refl
  where
    by : (t : Bool) → is_lesser p x ≡ t → is_lesser p x ≡ false
    by false reached_too = reached_too
    by true less = absurd (omega (arith, rising.0 z (through x p z less reached), first_occurs z zs))

-- the same edge is read from both lists
matched : (es others : List (ℕ × ℕ)) (x y : ℕ × ℕ) (xs ys : List (ℕ × ℕ)) → AreRead es others (x ∷ xs) (y ∷ ys) → is_lesser y x ≡ false →
    is_lesser x y ≡ false → AreRead es others xs ys
matched es others x y xs ys read not_less not_more = record {
  left_rising = read.left_rising.1;
  right_rising = read.right_rising.1;
  fewer = λ a b. omega (arith, read.fewer a b, ap one_if (one_edge x y not_more not_less a b));
  same = λ p reached. omega (arith, read.same p (reached_before x xs read.left_rising p reached), ap one_if (one_edge x y not_more not_less p.0 p.1));
}

-- both next edges are one edge, and are read
pub read_both : (es others : List (ℕ × ℕ)) (left right : List Half) (x y : Half) (xs ys : List Half) → AreRead es others (ends_of left) (ends_of right) →
    left ≡ x ∷ xs → right ≡ y ∷ ys → edge_cmp (ends y) (ends x) ≡ Equal
    → AreRead es others (ends_of xs) (ends_of ys)
read_both es others left right x y xs ys read left_is right_is equal =
    let at : AreRead es others (ends_of (x ∷ xs)) (ends_of (y ∷ ys)) = rewritten es others (ends_of left) (ends_of right) (ends_of (x ∷ xs)) (ends_of (y ∷ ys))
    (ap ends_of left_is) (ap ends_of right_is) read in
    matched es others (ends x) (ends y) (ends_of xs) (ends_of ys) at (not_lesser_from_cmp (ends y) (ends x) (ap is_lt equal)) (not_greater_from_cmp (ends y) (ends x) equal)

-- the first list has its next edge more often, where the second list's next edge is greater
pub surplus_found : (es others : List (ℕ × ℕ)) (left right : List Half) (x y : Half) (xs ys : List Half) → AreRead es others (ends_of left) (ends_of right) →
    left ≡ x ∷ xs → right ≡ y ∷ ys → edge_cmp (ends y) (ends x) ≡ Greater
    → IsLeastSurplus es others (ends x)
surplus_found es others left right x y xs ys read left_is right_is greater =
    let at : AreRead es others (ends_of (x ∷ xs)) (ends_of (y ∷ ys)) = rewritten es others (ends_of left) (ends_of right) (ends_of (x ∷ xs)) (ends_of (y ∷ ys))
    (ap ends_of left_is) (ap ends_of right_is) read in
    let none : dir (ends_of (y ∷ ys)) (ends x).0 (ends x).1 ≡ 0 = none_lesser (ends y) (ends x) (ends_of ys) at.right_rising (greater_from_cmp (ends y) (ends x) greater) in
    record {
      more = omega (arith, at.same (ends x) (not_below_itself (ends x)), first_occurs (ends x) (ends_of xs), none);
      least = λ q less. omega (arith, at.fewer q.0 q.1, none_lesser (ends x) q (ends_of xs) at.left_rising less);
    }

-- so it has where the second list is at its end
pub surplus_at_end : (es others : List (ℕ × ℕ)) (left right : List Half) (x : Half) (xs : List Half) → AreRead es others (ends_of left) (ends_of right) →
    left ≡ x ∷ xs → length right ≡ 0 → IsLeastSurplus es others (ends x)
surplus_at_end es others left [] x xs read left_is at_end =
    let at : AreRead es others (ends_of (x ∷ xs)) [] = rewritten es others (ends_of left) [] (ends_of (x ∷ xs)) [] (ap ends_of left_is) refl read in
    record {
      more = omega (arith, at.same (ends x) (not_below_itself (ends x)), first_occurs (ends x) (ends_of xs));
      least = λ q less. omega (arith, at.fewer q.0 q.1, none_lesser (ends x) q (ends_of xs) at.left_rising less);
    }
surplus_at_end es others left (y ∷ ys) x xs read left_is at_end = absurd (omega (arith, at_end))
