-- The entries with a count on each side of a signed list, above and not above.
use Rattle.std.specs.Prelude.{◌≡◌, ◌≢◌, ◌<◌, ◌≤◌, ℤ, pos, nat_abs, List, [], ◌∷◌, map, true, false, Bool, nat_lt, count_by}
use Rattle.std.specs.List.Sorted.{IsPermutation}
use Rattle.std.proofs.Common.{arith, refl, ap, inl, inr}
use Rattle.std.proofs.lemmas.Bool.{cases_Bool, ltb-true, ltb-false}
use Rattle.std.proofs.lemmas.List.Sums.{sum_by-cons}
use Rattle.chain_terms.specs.Chains.{one_if}
use Rattle.chain_laws.specs.Counts.{one_if-true, one_if-false, count_by-cons, count_by-map}
use Rattle.chain_laws.specs.Firsts.{first_of, first_of-permutation, Passing, passing}
use Rattle.chain_laws.specs.Signs.{size_at, whole, number, weight, weight_at, number_sides, one_on_each_side}

-- the entry has a count and stands on side b
abbrev pub counts_at : Bool → (ℤ × Bool) → Bool
counts_at b e = nat_lt 0 (size_at b e)

-- it has: its count is not 0, and its mark is b
pub counts_at-parts : (b : Bool) (e : ℤ × Bool) → counts_at b e ≡ true → (e.0 ≢ pos 0) × (e.1 ≡ b)
counts_at-parts true (z, true) h = (λ e. let l = ltb-true 0 (nat_abs z) h in omega (arith, l, ap nat_abs e), refl)
counts_at-parts true (z, false) h = absurd (omega (arith, ltb-true 0 0 h))
counts_at-parts false (z, true) h = absurd (omega (arith, ltb-true 0 0 h))
counts_at-parts false (z, false) h = (λ e. let l = ltb-true 0 (nat_abs z) h in omega (arith, l, ap nat_abs e), refl)

-- it adds to the weight of its side, at least as much as to the count of entries
pub counts_at-size : (b : Bool) (e : ℤ × Bool) → one_if (counts_at b e) ≤ size_at b e
counts_at-size b e = elim (cases_Bool (counts_at b e)) as (λ _. one_if (counts_at b e) ≤ size_at b e) [
  | inl y ↦ omega (arith, one_if-true (counts_at b e) y, ltb-true 0 (size_at b e) y)
  | inr n ↦ omega (arith, one_if-false (counts_at b e) n)
]

-- no more entries count on a side than its weight
pub counts_at-weight : (b : Bool) (es : List (ℤ × Bool)) → count_by (counts_at b) es ≤ weight_at b es
counts_at-weight b [] = omega arith
counts_at-weight b (e ∷ es) = omega (arith, counts_at-weight b es, counts_at-size b e, count_by-cons (counts_at b) e es, sum_by-cons (size_at b) e es)

-- where a side has weight, some entry counts there
pub counts_at-some : (b : Bool) (es : List (ℤ × Bool)) → 0 < weight_at b es → 0 < count_by (counts_at b) es
counts_at-some b [] h = absurd (omega (arith, h))
counts_at-some b (e ∷ es) h = elim (cases_Bool (counts_at b e)) as (λ _. 0 < count_by (counts_at b) (e ∷ es)) [
  | inl y ↦ omega (arith, count_by-cons (counts_at b) e es, one_if-true (counts_at b e) y)
  | inr n ↦ omega (arith, count_by-cons (counts_at b) e es, counts_at-some b es (omega (arith, h, sum_by-cons (size_at b) e es, ltb-false 0 (size_at b e) n)))
]

-- where the whole is 0 and the number is not, some entry counts above and some not above
pub entry_at : (es : List (ℤ × Bool)) → whole es ≡ pos 0 → number es ≢ pos 0 → (b : Bool) → Passing (counts_at b) es
entry_at es none some b = passing (counts_at b) es (counts_at-some b es (number_sides es none some b))

-- whole 0, a weight of at most 3 and a number that is not 0: one entry counts on each side
pub one_counts : (es : List (ℤ × Bool)) → whole es ≡ pos 0 → weight es ≤ 3 → number es ≢ pos 0 → (b : Bool) → count_by (counts_at b) es ≡ 1
one_counts es none few some b = omega (arith, counts_at-weight b es, counts_at-some b es (number_sides es none some b), one_at b)
  where
    one_at : (b : Bool) → weight_at b es ≡ 1
    one_at true = (one_on_each_side es none few some).0
    one_at false = (one_on_each_side es none few some).1

-- and what the first entry on a side carries is the same in every order of the list
pub first_at-permutation : {X Y : Type 0} (entry : X → ℤ × Bool) (v : X → Y) (d : Y) (xs ys : List X) → whole (map entry xs) ≡ pos 0 →
    weight (map entry xs) ≤ 3 → number (map entry xs) ≢ pos 0 →
    IsPermutation xs ys → (b : Bool) → first_of (λ x. counts_at b (entry x)) v d ys ≡ first_of (λ x. counts_at b (entry x)) v d xs
first_at-permutation entry v d xs ys none few some moved b =
    first_of-permutation (λ x. counts_at b (entry x)) v d xs ys (omega (arith, count_by-map (counts_at b) entry xs, one_counts (map entry xs) none few some b)) moved
