-- Points by x, then by y, then by z: what a sort gives is what insertion gives.
use Rattle.std.proofs.Common.{◌≡◌, ◌∙◌, ◌++◌, ◌+◌, ◌<◌, ◌≤◌, ℕ, ℤ, Bool, List, [], ◌∷◌, true, false, ap, arith, cond, get_or, is_lt, length, refl, subst, sym, take}
use Rattle.std.specs.Prelude.{◌&&◌, ◌||◌, ◌↔◌, IfSome, IsSome, None, Option, Some, if◌then◌else◌, int_lt}
use Rattle.std.specs.Cmp.{IsStrictWeakOrder}
use Rattle.std.specs.Cmp.Lexicographic.{slice_cmp}
use Rattle.std.specs.List.{All}
use Rattle.std.specs.List.Sorted.{IsPermutation, IsSorted}
use Rattle.std.specs.Ordering.{int_cmp, int_eq, is_eq, ordering_then}
use Rattle.std.specs.declared.cmp.Ordering.{Ordering}
use Rattle.std.specs.declared.cmp.Ordering.TheVariants.{Equal, Greater, Less}
use Rattle.std.proofs.lemmas.Bool.{both_ways}
use Rattle.std.proofs.lemmas.Bool.Decides.{Decides-int_eq}
use Rattle.std.proofs.lemmas.Cmp.{int_cmp_total, lists_total}
use Rattle.std.proofs.lemmas.List.{take_all, take_more}
use Rattle.std.proofs.lemmas.List.Elements.{All-contains, All-head, All-push, All-tail}
use Rattle.std.proofs.lemmas.List.MinMax.{ranks_by}
use Rattle.std.proofs.lemmas.List.Sorted.{All-permutation, IsPermutation-sym, sum_by-IsPermutation}
use Rattle.chain_laws.proofs.Sorting.{sorted_same, tie-parts}
use Rattle.mesh_terms.specs.Points.{IsOnGrid, IsPoint, coordinate_of}
use Rattle.sheet_terms.specs.Crossings.{is_lower}
use Rattle.sheet_terms.specs.Places.{ordered, put}
use Rattle.plane_filling.proofs.Sorted.{ordered-permutation, ordered-sorted}

-- the order that arrays of coordinates have
abbrev before : List ℤ → List ℤ → Bool
before p q = is_lt (slice_cmp int_cmp p q)

before_order : IsStrictWeakOrder before
before_order = ranks_by (lists_total int_cmp_total) (λ (p : List ℤ). p)

-- one coordinate decides where it is less or more, else the next do
decided : (x y : ℤ) (o : Ordering) → is_lt (ordering_then (int_cmp x y) o) ≡ (int_lt x y || (int_eq x y && is_lt o))
decided x y o = by (int_lt x y) (int_lt y x)
  where
    by : (s t : Bool) → is_lt (ordering_then (cond s Less (cond t Greater Equal)) o) ≡ (s || (is_eq (cond s Less (cond t Greater Equal)) && is_lt o))
    by true t = refl
    by false true = refl
    by false false = refl

decided_last : (x y : ℤ) → is_lt (ordering_then (int_cmp x y) Equal) ≡ int_lt x y
decided_last x y = by (int_lt x y) (int_lt y x)
  where
    by : (s t : Bool) → is_lt (ordering_then (cond s Less (cond t Greater Equal)) Equal) ≡ s
    by true t = refl
    by false true = refl
    by false false = refl

-- a point by its coordinates
abbrev pub shape : List ℤ → List ℤ
shape p = coordinate_of p 0 ∷ coordinate_of p 1 ∷ coordinate_of p 2 ∷ []

pub three_of : (p : List ℤ) → length p ≡ 3 → p ≡ shape p
three_of [] e = absurd (omega (arith, e))
three_of (x ∷ []) e = absurd (omega (arith, e))
three_of (x ∷ y ∷ []) e = absurd (omega (arith, e))
three_of (x ∷ y ∷ z ∷ []) e = refl
three_of (x ∷ y ∷ z ∷ w ∷ r) e = absurd (omega (arith, e))

-- for points that is the order of the definition
shape_agrees : (p q : List ℤ) → before (shape p) (shape q) ≡ is_lower p q
shape_agrees p q =
    let x = coordinate_of p 0 in
    let y = coordinate_of p 1 in
    let z = coordinate_of p 2 in
    let u = coordinate_of q 0 in
    let v = coordinate_of q 1 in
    let w = coordinate_of q 2 in
    let last = ordering_then (int_cmp z w) Equal in
    decided x u (ordering_then (int_cmp y v) last)
    ∙ ap (λ b. int_lt x u || (int_eq x u && b)) (decided y v last ∙ ap (λ b. int_lt y v || (int_eq y v && b)) (decided_last z w))

agrees : (p q : List ℤ) → IsPoint p → IsPoint q → before p q ≡ is_lower p q
agrees p q a b = (λ i. before (three_of p a.three i) (three_of q b.three i)) ∙ shape_agrees p q

-- so insertion by either is one
put_agrees : (x : List ℤ) (ys : List (List ℤ)) → IsPoint x → All IsPoint ys → put before x ys ≡ put is_lower x ys
put_agrees x [] a all = refl
put_agrees x (y ∷ ys) a all =
    let here = agrees x y a (All-head IsPoint y ys all) in
    let rest = put_agrees x ys a (All-tail IsPoint y ys all) in
    λ i. if here i then x ∷ y ∷ ys else y ∷ rest i

ordered_agrees : (xs : List (List ℤ)) → All IsPoint xs → ordered before xs ≡ ordered is_lower xs
ordered_agrees [] all = refl
ordered_agrees (x ∷ xs) all =
    put_agrees x (ordered before xs) (All-head IsPoint x xs all)
    (All-permutation IsPoint xs (ordered before xs) (ordered-permutation before before_order xs) (All-tail IsPoint x xs all))
    ∙ ap (put is_lower x) (ordered_agrees xs (All-tail IsPoint x xs all))

-- a coordinate of two points of which neither comes before the other
level : (x y : ℤ) (b c : Bool) → (int_lt x y || (int_eq x y && b)) ≡ false → (int_lt y x || (int_eq y x && c)) ≡ false → (x ≡ y) × (b ≡ false) × (c ≡ false)
level x y b c h k = by (int_lt x y) (int_lt y x) refl refl h k
  where
    by : (s t : Bool) → int_lt x y ≡ s → int_lt y x ≡ t → (s || (is_eq (cond s Less (cond t Greater Equal)) && b)) ≡ false →
        (t || (is_eq (cond t Less (cond s Greater Equal)) && c)) ≡ false → (x ≡ y) × (b ≡ false) × (c ≡ false)
    by true t m n f g = absurd (both_ways true f refl)
    by false true m n f g = absurd (both_ways true g refl)
    by false false m n f g = ((Decides-int_eq x y).0 (λ i. is_eq (cond (m i) Less (cond (n i) Greater Equal))), f, g)

-- such points are one
one_point : (p q : List ℤ) → IsPoint p → IsPoint q → is_lower p q ≡ false → is_lower q p ≡ false → p ≡ q
one_point p q a b h k =
    let x = coordinate_of p 0 in
    let y = coordinate_of p 1 in
    let z = coordinate_of p 2 in
    let u = coordinate_of q 0 in
    let v = coordinate_of q 1 in
    let w = coordinate_of q 2 in
    let first = level x u (int_lt y v || (int_eq y v && int_lt z w)) (int_lt v y || (int_eq v y && int_lt w z)) h k in
    let second = level y v (int_lt z w) (int_lt w z) first.1 first.2 in
    let third : z ≡ w = (Decides-int_eq z w).0 (λ i. is_eq (cond (second.1 i) Less (cond (second.2 i) Greater Equal))) in
    three_of p a.three ∙ (λ i. first.0 i ∷ second.0 i ∷ third i ∷ []) ∙ sym (three_of q b.three)

-- sorted points are those in order
pub points_sorted : (xs ys : List (List ℤ)) → All IsPoint xs → IsPermutation xs ys → IsSorted (slice_cmp int_cmp) ys → ys ≡ ordered is_lower xs
points_sorted xs ys all moved up =
    let zs = ordered before xs in
    let there = ordered-permutation before before_order xs in
    sorted_same before before_order ys zs up (ordered-sorted before before_order xs)
    (λ p. sum_by-IsPermutation (λ x. cond (p x) 1 0) xs ys moved ∙ sym (sum_by-IsPermutation (λ x. cond (p x) 1 0) xs zs there))
    (λ x y a b t.
    let px = All-contains IsPoint ys x (All-permutation IsPoint xs ys moved all) a in
    let py = All-contains IsPoint zs y (All-permutation IsPoint xs zs there all) b in
    let parts = tie-parts before x y t in
    one_point x y px py (sym (agrees x y px py) ∙ parts.0) (sym (agrees y x py px) ∙ parts.1))
    ∙ ordered_agrees xs all

-- one point more
pub points_more : (found points new : List (List ℤ)) (i : ℕ) (p : List ℤ) → i < length found → p ≡ get_or found i [] → points ≡ take i found →
    new ≡ points ++ p ∷ [] → new ≡ take (i + 1) found
points_more found points new i p low is so_far pushed =
    pushed ∙ (λ j. so_far j ++ is j ∷ []) ∙ sym (take_more found i [] low)

pub grid_more : (found : List (List ℤ)) (i : ℕ) → i < length found → IsPoint (get_or found i []) → All IsPoint (take i found) → All IsPoint (take (i + 1) found)
grid_more found i low one all = subst (All IsPoint) (sym (take_more found i [] low)) (All-push IsPoint (take i found) (get_or found i []) all one)

-- an array whose coordinates are on the grid is a point
pub point_is : (at : List ℤ) (o : Option (List ℤ)) (x y z : ℤ) → x ≡ coordinate_of at 0 → y ≡ coordinate_of at 1 → z ≡ coordinate_of at 2 → length at ≡ 3 →
    (IsSome o ↔ (IsOnGrid x × IsOnGrid y × IsOnGrid z)) → IfSome o (λ p. p ≡ x ∷ y ∷ z ∷ []) → IfSome o (λ p. (p ≡ at) × IsPoint at)
point_is at None x y z e f g long grid is = is
point_is at (Some p) x y z e f g long grid is =
    let on = grid.0 refl in
    (is ∙ (λ i. e i ∷ f i ∷ g i ∷ []) ∙ sym (three_of at long), record { three = long; x = subst IsOnGrid e on.0; y = subst IsOnGrid f on.1; z = subst IsOnGrid g on.2 })

-- all that were found are points, so their sorted list is the one in order
pub sorted_are : (found ys points : List (List ℤ)) (n : ℕ) → length ys ≤ n → points ≡ take n ys → All IsPoint (take n ys) → IsPermutation found ys →
    IsSorted (slice_cmp int_cmp) ys → points ≡ ordered is_lower found
sorted_are found ys points n end is all moved up =
    let whole = take_all n ys end in
    is ∙ whole ∙ points_sorted found ys (All-permutation IsPoint ys found (IsPermutation-sym found ys moved) (subst (All IsPoint) whole all)) moved up
