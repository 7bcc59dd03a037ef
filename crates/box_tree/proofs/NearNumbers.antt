-- Ascending numbers, and what is left out of a list.
use Rattle.std.proofs.Common.{Equal, Greater, ◌≡◌, ◌∙◌, ℕ, ◌<◌, ◌≤◌, ◌+◌, ◌==◌, cond, List, [], ◌∷◌, Option, None, Bool, true, false, length, get_or, refl, sym, ap, arith, inl, inr}
use Rattle.std.specs.List.{All, cons_option, filter, filter_map}
use Rattle.std.specs.List.Sorted.{IsPermutation, IsSorted}
use Rattle.std.specs.Ordering.{is_lt, nat_cmp}
use Rattle.std.proofs.lemmas.Bool.{cases_Bool, cond_both, le-ltb}
use Rattle.std.proofs.lemmas.Cmp.{nat_cmp_total}
use Rattle.std.proofs.lemmas.List.{get_or_default}
use Rattle.std.proofs.lemmas.List.Elements.{All-head, All-tail}
use Rattle.std.proofs.lemmas.List.Sorted.{ranks_by, sum_by-IsPermutation}
use Rattle.std.proofs.lemmas.List.Sums.{count_by-le-length, length-filter}
use Rattle.chain_terms.specs.Sums.{upto}
use Rattle.chain_laws.specs.Ascending.{Ascends}
use Rattle.chain_laws.proofs.Ascending.{filter-ascends, kept_at}
use Rattle.chain_laws.proofs.Places.{length-up_from}
use Rattle.chain_laws.proofs.Sorting.{sorted_same, tie, tie-parts}
use Rattle.mb_base.specs.declared.point.Box3.{Box3}
use Rattle.box_tree.specs.Touching.{box_at, touches, touching_numbers}

-- no number comes before one that is not greater
not_less : (x y : ℕ) → y ≤ x → is_lt (nat_cmp x y) ≡ false
not_less x y h = rw (le-ltb x y h) (cond_both (x == y) Equal Greater (λ o. is_lt o ≡ false) (λ e. refl) (λ e. refl))

-- numbers of which neither comes before the other are the same
tied : (x y : ℕ) → tie (λ x y. is_lt (nat_cmp x y)) x y ≡ true → x ≡ y
tied x y h = let level = tie-parts (λ x y. is_lt (nat_cmp x y)) x y h in grind (arith, level.0, level.1)

-- ascending numbers in another order, sorted
pub sorted_numbers : (xs ys : List ℕ) → Ascends xs → IsPermutation xs ys → IsSorted nat_cmp ys → ys ≡ xs
sorted_numbers xs ys up moved sorted =
    sorted_same (λ x y. is_lt (nat_cmp x y)) (ranks_by nat_cmp_total (λ x. x)) ys xs sorted (λ k d low high. not_less (get_or xs (k + 1) d) (get_or xs k d) (later k d high))
    (λ p. sum_by-IsPermutation (λ x. cond (p x) 1 0) xs ys moved) (λ x y a b h. tied x y h)
  where
    later : (k d : ℕ) → k + 1 < length xs → get_or xs k d ≤ get_or xs (k + 1) d
    later k d h = omega (arith, up k (k + 1) (omega arith) h, get_or_default xs k d 0 (omega (arith, h)), get_or_default xs (k + 1) d 0 h)

-- what is left out of a filter is not missed where it has no value
pub filter_map-filter : {X Y : Type 0} (f : X → Option Y) (p : X → Bool) (xs : List X) → All (λ x. p x ≡ false → f x ≡ None) xs → filter_map f (filter p xs) ≡ filter_map f xs
filter_map-filter f p [] none = refl
filter_map-filter f p (x ∷ xs) none =
    let rest = filter_map-filter f p xs (All-tail (λ x. p x ≡ false → f x ≡ None) x xs none) in
    elim (cases_Bool (p x)) as (λ _. filter_map f (filter p (x ∷ xs)) ≡ filter_map f (x ∷ xs)) [
      | inl y ↦ rw y (ap (cons_option (f x)) rest)
      | inr n ↦ rw n (rest ∙ ap (λ o. cons_option o (filter_map f xs)) (sym (All-head (λ x. p x ≡ false → f x ≡ None) x xs none n)))
    ]

-- the numbers of the boxes that touch an area ascend
pub touching_ascends : (boxes : List Box3) (area : Box3) → Ascends (touching_numbers boxes area)
touching_ascends boxes area = filter-ascends (λ k. touches (box_at boxes k) area) 0 (length boxes)

-- each is the number of a box
pub touching_below : (boxes : List Box3) (area : Box3) → All (λ f. f < length boxes) (touching_numbers boxes area)
touching_below boxes area k d h =
    let p : ℕ → Bool = λ g. touches (box_at boxes g) area in
    let kept = kept_at p 0 (length boxes) k h in
    omega (arith, kept.high, get_or_default (filter p (upto (length boxes))) k d 0 h)

-- and there are no more than boxes
pub touching_few : (boxes : List Box3) (area : Box3) → length (touching_numbers boxes area) ≤ length boxes
touching_few boxes area =
    let p : ℕ → Bool = λ g. touches (box_at boxes g) area in
    omega (arith, length-filter p (upto (length boxes)), count_by-le-length p (upto (length boxes)), length-up_from 0 (length boxes))
