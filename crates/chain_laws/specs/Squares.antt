-- Differences of tests round a square and round a triangle, as signed counts.
use Rattle.std.specs.Prelude.{◌≡◌, ◌≤◌, ℤ, pos, neg_ℤ, nat_abs, ◌-ℤ◌, List, [], ◌∷◌, true, false, Bool, ◌⊎◌}
use Rattle.std.specs.List.{sum_by}
use Rattle.std.proofs.Common.{arith, refl, inl, inr}
use Rattle.std.proofs.lemmas.Int.{ints}
use Rattle.chain_terms.specs.Sums.{total}
use Rattle.chain_terms.specs.Chains.{one_if}

-- the difference of two tests
abbrev pub less : Bool → Bool → ℤ
less p q = pos (one_if p) -ℤ pos (one_if q)

-- the differences along the sides of a square of the four tests of a, b against c, d
abbrev pub square : Bool → Bool → Bool → Bool → List ℤ
square ac ad bc bd = less bc bd ∷ neg_ℤ (less ac ad) ∷ less bd ad ∷ neg_ℤ (less bc ac) ∷ []

-- the differences along the sides of a triangle
abbrev pub triangle : Bool → Bool → Bool → List ℤ
triangle a b c = less a b ∷ less b c ∷ less c a ∷ []

-- neighbours in the square differ everywhere
abbrev pub Alternates : Bool → Bool → Bool → Bool → Type 0
Alternates ac ad bc bd = ((ac ≡ true) × (ad ≡ false) × (bc ≡ false) × (bd ≡ true)) ⊎ ((ac ≡ false) × (ad ≡ true) × (bc ≡ true) × (bd ≡ false))

-- round a square the differences add up to nothing
pub square_whole : (ac ad bc bd : Bool) → total (λ z. z) (square ac ad bc bd) ≡ pos 0
square_whole ac ad bc bd = omega (arith, ints)

-- round a triangle too
pub triangle_whole : (a b c : Bool) → total (λ z. z) (triangle a b c) ≡ pos 0
triangle_whole a b c = omega (arith, ints)

-- at most three sides of a square that doesn't alternate have a difference
pub square_weight : (ac ad bc bd : Bool) → (Alternates ac ad bc bd → ⊥) → sum_by nat_abs (square ac ad bc bd) ≤ 3
square_weight true false false true h = absurd (h (inl (refl, refl, refl, refl)))
square_weight false true true false h = absurd (h (inr (refl, refl, refl, refl)))
square_weight true true true true h = omega arith
square_weight true true true false h = omega arith
square_weight true true false true h = omega arith
square_weight true true false false h = omega arith
square_weight true false true true h = omega arith
square_weight true false true false h = omega arith
square_weight true false false false h = omega arith
square_weight false true true true h = omega arith
square_weight false true false true h = omega arith
square_weight false true false false h = omega arith
square_weight false false true true h = omega arith
square_weight false false true false h = omega arith
square_weight false false false true h = omega arith
square_weight false false false false h = omega arith

-- at most two sides of a triangle have one
pub triangle_weight : (a b c : Bool) → sum_by nat_abs (triangle a b c) ≤ 2
triangle_weight true true true = omega arith
triangle_weight true true false = omega arith
triangle_weight true false true = omega arith
triangle_weight true false false = omega arith
triangle_weight false true true = omega arith
triangle_weight false true false = omega arith
triangle_weight false false true = omega arith
triangle_weight false false false = omega arith
