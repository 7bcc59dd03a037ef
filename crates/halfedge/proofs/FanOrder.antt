-- Half-edges in the order of their starts.
use Rattle.std.proofs.Common.{◌≡◌, ◌<◌, ◌≤◌, ◌+◌, ℕ, false, List, length, get_or, is_lt, sym, ◌∙◌, ap, subst, arith}
use Rattle.std.specs.Cmp.{IsStrictWeakOrder}
use Rattle.std.specs.List.{Contains}
use Rattle.std.proofs.lemmas.Bool.Decides.{nat_tests}
use Rattle.std.proofs.lemmas.Cmp.{then_total, on_total, nat_cmp_total}
use Rattle.std.proofs.lemmas.List.{get_or_default, get_or-map, length-map}
use Rattle.std.proofs.lemmas.List.MinMax.{ranks_by}
use Rattle.std.proofs.lemmas.List.Sorted.{sorted_far, Contains-permutation, IsPermutation-sym, length_permutation}
use Rattle.chain_terms.specs.Ranks.{start}
use Rattle.halfedge.specs.Pairing.{Half, numbered}
use Rattle.halfedge.specs.Numbering.{by_starts, pair_cmp, AreInOrder, ordered_at}
use Rattle.halfedge.proofs.Positions.{length-numbered, numbered_at}

-- pairs are ordered
pair_order : IsStrictWeakOrder (λ x y. is_lt (pair_cmp x y))
pair_order = ranks_by (then_total (on_total (λ (e : ℕ × ℕ). e.0) nat_cmp_total) (on_total (λ (e : ℕ × ℕ). e.1) nat_cmp_total)) (λ e. e)

-- of two pairs of which the second is not before the first
first_ascends : (e f : ℕ × ℕ) → is_lt (pair_cmp f e) ≡ false → e.0 ≤ f.0
first_ascends e f h = grind (arith, nat_tests, h)

-- and begin with the same number
second_ascends : (e f : ℕ × ℕ) → is_lt (pair_cmp f e) ≡ false → e.0 ≡ f.0 → e.1 ≤ f.1
second_ascends e f h same = grind (arith, nat_tests, h, same)

-- half-edge h behind its start
abbrev start_of : List (ℕ × ℕ) → ℕ → ℕ × ℕ
start_of es h = (start es h, h)

-- as many as half-edges
length-by_starts : (es : List (ℕ × ℕ)) → length (by_starts es) ≡ length es
length-by_starts es = length-map (numbered 0 es) (λ e. (e.0, e.2)) ∙ length-numbered 0 es

-- each at its own place
by_starts_at : (es : List (ℕ × ℕ)) (h : ℕ) (d : ℕ × ℕ) → h < length es → get_or (by_starts es) h d ≡ start_of es h
by_starts_at es h d below =
    let first : 0 + h ≡ h = omega arith in
    get_or-map (λ (e : Half). start_and_number e) (numbered 0 es) h (0, 0, 0) d (omega (arith, below, length-numbered 0 es))
    ∙ ap (λ (e : Half). start_and_number e) (numbered_at 0 es h (0, 0, 0) below) ∙ ap (λ n. with_start n) first
  where
    start_and_number : Half → ℕ × ℕ
    start_and_number e = (e.0, e.2)

    with_start : ℕ → ℕ × ℕ
    with_start n = (start es h, n)

-- the order has each half-edge
pub order_length : (es order : List (ℕ × ℕ)) → AreInOrder es order → length order ≡ length es
order_length es order known = length_permutation (by_starts es) order known.moved ∙ length-by_starts es

-- what a place of the order holds
record HoldsStart (es order : List (ℕ × ℕ)) (i : ℕ) : Type 0 where
  half : ℕ
  within : half < length es
  is : (d : ℕ × ℕ) → get_or order i d ≡ start_of es half

-- each place holds one
holds_start : (es order : List (ℕ × ℕ)) → AreInOrder es order → (i : ℕ) → i < length order → HoldsStart es order i
holds_start es order known i below =
    of_member (Contains-permutation order (by_starts es) (get_or order i (0, 0)) (IsPermutation-sym (by_starts es) order known.moved)
    (i, below, get_or_default order i (get_or order i (0, 0)) (0, 0) below))
  where
    of_member : Contains (by_starts es) (get_or order i (0, 0)) → HoldsStart es order i
    of_member (j, l, e) =
        let within : j < length es = omega (arith, l, length-by_starts es) in
        record { half = j; within = within; is = λ d. get_or_default order i d (0, 0) below ∙ sym e ∙ by_starts_at es j (get_or order i (0, 0)) within }

-- a place of the order holds a half-edge behind its start
pub ordered_below : (es order : List (ℕ × ℕ)) → AreInOrder es order → (i : ℕ) → i < length order → ordered_at order i < length es
ordered_below es order known i below =
    let held = holds_start es order known i below in
    subst (λ h. h < length es) (sym (ap (λ (e : ℕ × ℕ). e.1) (held.is (0, 0)))) held.within

-- the whole pair
pub ordered_is : (es order : List (ℕ × ℕ)) → AreInOrder es order → (i : ℕ) → i < length order → (d : ℕ × ℕ) → get_or order i d ≡ start_of es (ordered_at order i)
ordered_is es order known i below d =
    let held = holds_start es order known i below in
    held.is d ∙ ap (start_of es) (sym (ap (λ (e : ℕ × ℕ). e.1) (held.is (0, 0))))

-- each half-edge has its place
pub order_place : (es order : List (ℕ × ℕ)) → AreInOrder es order → (h : ℕ) → h < length es → (i : ℕ) × (i < length order) × (ordered_at order i ≡ h)
order_place es order known h below =
    of_member (Contains-permutation (by_starts es) order (start_of es h) known.moved (h, omega (arith, below, length-by_starts es), by_starts_at es h (start_of es h) below))
  where
    of_member : Contains order (start_of es h) → (i : ℕ) × (i < length order) × (ordered_at order i ≡ h)
    of_member (i, l, e) = (i, l, ap (λ (e : ℕ × ℕ). e.1) (get_or_default order i (0, 0) (start_of es h) l ∙ e))

-- starts ascend
pub starts_ascend : (es order : List (ℕ × ℕ)) → AreInOrder es order → (i j : ℕ) → i ≤ j → j < length order → start es (ordered_at order i) ≤ start es (ordered_at order j)
starts_ascend es order known i j low below =
    let first = ordered_is es order known i (omega (arith, low, below)) (0, 0) in
    let second = ordered_is es order known j below (0, 0) in
    let up = first_ascends (get_or order i (0, 0)) (get_or order j (0, 0)) (sorted_far (λ x y. is_lt (pair_cmp x y)) pair_order order known.up i j (0, 0) low below) in
    omega (arith, up, ap (λ (e : ℕ × ℕ). e.0) first, ap (λ (e : ℕ × ℕ). e.0) second)

-- and at one start the half-edges
pub halves_ascend : (es order : List (ℕ × ℕ)) → AreInOrder es order → (i j : ℕ) → i ≤ j → j < length order →
    start es (ordered_at order i) ≡ start es (ordered_at order j) → ordered_at order i ≤ ordered_at order j
halves_ascend es order known i j low below same =
    let first = ordered_is es order known i (omega (arith, low, below)) (0, 0) in
    let second = ordered_is es order known j below (0, 0) in
    second_ascends (get_or order i (0, 0)) (get_or order j (0, 0)) (sorted_far (λ x y. is_lt (pair_cmp x y)) pair_order order known.up i j (0, 0) low below)
    (ap (λ (e : ℕ × ℕ). e.0) first ∙ same ∙ sym (ap (λ (e : ℕ × ℕ). e.0) second))
