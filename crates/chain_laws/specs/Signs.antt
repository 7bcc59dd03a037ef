-- Signed lists: entries of a signed count and a mark "above". The number adds up the counts that are above.
use Rattle.std.specs.Prelude.{◌≡◌, ◌≢◌, ℕ, zero, suc, ◌+◌, ◌<◌, ◌≤◌, ℤ, pos, negsuc, nat_abs, neg_ℤ, ◌+ℤ◌, ◌-ℤ◌, List, [], ◌∷◌, length, true, false, Bool, not, cond, ◌⊎◌}
use Rattle.std.specs.List.{sum_by, All}
use Rattle.std.proofs.Common.{arith, refl, inl, inr}
use Rattle.std.proofs.lemmas.Int.{ints}
use Rattle.std.proofs.lemmas.Bool.{cases_eq, cases_lt}
use Rattle.std.proofs.lemmas.List.Sums.{sum_by-cons, sum_by-le}
use Rattle.std.proofs.lemmas.List.Elements.{All-weaker}
use Rattle.chain_terms.specs.Sums.{total}
use Rattle.chain_laws.specs.Sums.{IsWithin, size_within}

-- the count of an entry on one side, above (true) or not (false), else 0
abbrev pub signed_at : Bool → (ℤ × Bool) → ℤ
signed_at true e = cond e.1 e.0 (pos 0)
signed_at false e = cond e.1 (pos 0) e.0

-- its size there
abbrev pub size_at : Bool → (ℤ × Bool) → ℕ
size_at true e = cond e.1 (nat_abs e.0) 0
size_at false e = cond e.1 0 (nat_abs e.0)

-- the sum of all counts
abbrev pub whole : List (ℤ × Bool) → ℤ
whole es = total (λ e. e.0) es

-- the sum of the counts on one side
abbrev pub sum_at : Bool → List (ℤ × Bool) → ℤ
sum_at b es = total (signed_at b) es

-- the sum of the counts above
abbrev pub number : List (ℤ × Bool) → ℤ
number es = sum_at true es

-- the sum of the sizes; for counts from -1 to 1 it is how many are not 0
abbrev pub weight : List (ℤ × Bool) → ℕ
weight es = sum_by (λ e. nat_abs e.0) es

-- the sum of the sizes on one side
abbrev pub weight_at : Bool → List (ℤ × Bool) → ℕ
weight_at b es = sum_by (size_at b) es

-- the whole is the sum above and the sum not above
pub whole_by_sides : (es : List (ℤ × Bool)) → whole es ≡ sum_at true es +ℤ sum_at false es
whole_by_sides [] = refl
whole_by_sides ((z, true) ∷ es) = omega (arith, ints, whole_by_sides es)
whole_by_sides ((z, false) ∷ es) = omega (arith, ints, whole_by_sides es)

-- the weight is that above and that not above
pub weight_by_sides : (es : List (ℤ × Bool)) → weight es ≡ weight_at true es + weight_at false es
weight_by_sides [] = refl
weight_by_sides ((z, true) ∷ es) =
    omega (arith, weight_by_sides es, sum_by-cons (λ e. nat_abs e.0) (z, true) es, sum_by-cons (size_at true) (z, true) es, sum_by-cons (size_at false) (z, true) es)
weight_by_sides ((z, false) ∷ es) =
    omega (arith, weight_by_sides es, sum_by-cons (λ e. nat_abs e.0) (z, false) es, sum_by-cons (size_at true) (z, false) es, sum_by-cons (size_at false) (z, false) es)

-- what is counted up and what is counted down: the sum is their difference, the weight their sum
pub record Parts (s : ℤ) (w : ℕ) : Type 0 where
  pub up : ℕ
  pub down : ℕ
  pub sum : s ≡ pos up -ℤ pos down
  pub weight : w ≡ up + down

-- a count is up or down by its size
pub parts_of_one : (z : ℤ) → Parts z (nat_abs z)
parts_of_one (pos n) = record { up = n; down = 0; sum = omega (arith, ints); weight = omega arith }
parts_of_one (negsuc n) = record { up = 0; down = n + 1; sum = omega (arith, ints); weight = omega arith }

-- so is an entry on one side
pub parts_at_one : (b : Bool) (e : ℤ × Bool) → Parts (signed_at b e) (size_at b e)
parts_at_one true (z, true) = parts_of_one z
parts_at_one true (z, false) = parts_of_one (pos 0)
parts_at_one false (z, true) = parts_of_one (pos 0)
parts_at_one false (z, false) = parts_of_one z

-- and each side of a list
pub parts_at : (b : Bool) (es : List (ℤ × Bool)) → Parts (sum_at b es) (weight_at b es)
parts_at b [] = parts_of_one (pos 0)
parts_at b (e ∷ es) =
    let one = parts_at_one b e in
    let rest = parts_at b es in
    record {
      up = one.up + rest.up;
      down = one.down + rest.down;
      sum = omega (arith, ints, one.sum, rest.sum);
      weight = omega (arith, one.weight, rest.weight, sum_by-cons (size_at b) e es);
    }

-- twice the number differs from the whole by at most the weight
pub number_within : (es : List (ℤ × Bool)) → IsWithin (number es +ℤ number es -ℤ whole es) (weight es)
number_within es =
    let above = parts_at true es in
    let below = parts_at false es in
    record {
      low = omega (arith, ints, whole_by_sides es, weight_by_sides es, above.sum, above.weight, below.sum, below.weight);
      high = omega (arith, ints, whole_by_sides es, weight_by_sides es, above.sum, above.weight, below.sum, below.weight);
    }

-- where the whole is 0, a weight of at most 3 gives a number from -1 to 1
pub number_of_three : (es : List (ℤ × Bool)) → whole es ≡ pos 0 → weight es ≤ 3 → IsWithin (number es) 1
number_of_three es none few = let h = number_within es in record { low = omega (arith, ints, none, few, h.low); high = omega (arith, ints, none, few, h.high) }

-- and one of at most 5 a number from -2 to 2
pub number_of_five : (es : List (ℤ × Bool)) → whole es ≡ pos 0 → weight es ≤ 5 → IsWithin (number es) 2
number_of_five es none few = let h = number_within es in record { low = omega (arith, ints, none, few, h.low); high = omega (arith, ints, none, few, h.high) }

-- a number that is twice another
pub record Even (z : ℤ) : Type 0 where
  pub half : ℤ
  pub twice : z ≡ half +ℤ half

-- the weight and the whole are odd together or even together
pub weight_parity : (es : List (ℤ × Bool)) → Even (pos (weight es) -ℤ whole es)
weight_parity es =
    let above = parts_at true es in
    let below = parts_at false es in
    record { half = pos (above.down + below.down); twice = omega (arith, ints, whole_by_sides es, weight_by_sides es, above.sum, above.weight, below.sum, below.weight) }

-- where the whole is 0, a weight of at most 3 is 0 or 2
pub weight_of_three : (es : List (ℤ × Bool)) → whole es ≡ pos 0 → weight es ≤ 3 → (weight es ≡ 0) ⊎ (weight es ≡ 2)
weight_of_three es none few = let parity = weight_parity es in elim (cases_eq (weight es) 0) as (λ _. (weight es ≡ 0) ⊎ (weight es ≡ 2)) [
  | inl y ↦ inl y
  | inr n ↦ inr (omega (arith, ints, none, few, n, parity.twice))
]

-- a number that is not 0 has counts on both sides
pub number_sides : (es : List (ℤ × Bool)) → whole es ≡ pos 0 → number es ≢ pos 0 → (b : Bool) → 0 < weight_at b es
number_sides es none some true = let above = parts_at true es in elim (cases_lt 0 (weight_at true es)) as (λ _. 0 < weight_at true es) [
  | inl l ↦ l
  | inr z ↦ absurd (some (omega (arith, ints, z, above.sum, above.weight)))
]
number_sides es none some false = let below = parts_at false es in elim (cases_lt 0 (weight_at false es)) as (λ _. 0 < weight_at false es) [
  | inl l ↦ l
  | inr z ↦ absurd (some (omega (arith, ints, z, none, below.sum, below.weight, whole_by_sides es)))
]

-- at a weight of at most 3 there is then one count on each side
pub one_on_each_side : (es : List (ℤ × Bool)) → whole es ≡ pos 0 → weight es ≤ 3 → number es ≢ pos 0 → (weight_at true es ≡ 1) × (weight_at false es ≡ 1)
one_on_each_side es none few some =
    let above = parts_at true es in
    let below = parts_at false es in
    let a = number_sides es none some true in
    let b = number_sides es none some false in (
      omega (arith, ints, none, few, a, b, whole_by_sides es, weight_by_sides es, above.sum, above.weight, below.sum, below.weight),
      omega (arith, ints, none, few, a, b, whole_by_sides es, weight_by_sides es, above.sum, above.weight, below.sum, below.weight),
    )

-- every entry with a count is on side b
abbrev pub AllAre : Bool → List (ℤ × Bool) → Type 0
AllAre b [] = Unit {0}
AllAre b (e ∷ es) = (e.0 ≢ pos 0 → e.1 ≡ b) × AllAre b es

-- a whole number is 0 or it is not
pub zero_or_not : (z : ℤ) → (z ≡ pos 0) ⊎ (z ≢ pos 0)
zero_or_not (pos zero) = inl refl
zero_or_not (pos (suc n)) = inr (λ e. omega (arith, ints, e))
zero_or_not (negsuc n) = inr (λ e. omega (arith, ints, e))

-- an entry that is on side b, if it counts, has no size on the other
pub size_of_other : (b : Bool) (z : ℤ) (c : Bool) → (z ≢ pos 0 → c ≡ b) → size_at (not b) (z, c) ≡ 0
size_of_other b z c h = elim (zero_or_not z) as (λ _. size_at (not b) (z, c) ≡ 0) [
  | inl e ↦ rw e (nothing b c)
  | inr n ↦ rw (h n) (other b)
]
  where
    nothing : (b c : Bool) → size_at (not b) (pos 0, c) ≡ 0
    nothing true true = refl
    nothing true false = refl
    nothing false true = refl
    nothing false false = refl

    other : (b : Bool) → size_at (not b) (z, b) ≡ 0
    other true = refl
    other false = refl

-- then the other side has no weight
pub weight_of_other : (b : Bool) (es : List (ℤ × Bool)) → AllAre b es → weight_at (not b) es ≡ 0
weight_of_other b [] h = refl
weight_of_other b (e ∷ es) h = omega (arith, size_of_other b e.0 e.1 h.0, weight_of_other b es h.1, sum_by-cons (size_at (not b)) e es)

-- where all counts are above, the number is the whole
pub number_all_above : (es : List (ℤ × Bool)) → AllAre true es → number es ≡ whole es
number_all_above es h = let below = parts_at false es in omega (arith, ints, weight_of_other true es h, below.sum, below.weight, whole_by_sides es)

-- where none is above, it is 0
pub number_none_above : (es : List (ℤ × Bool)) → AllAre false es → number es ≡ pos 0
number_none_above es h = let above = parts_at true es in omega (arith, ints, weight_of_other false es h, above.sum, above.weight)

-- the entry with the count turned; its mark stays
abbrev pub turned : (ℤ × Bool) → ℤ × Bool
turned e = (neg_ℤ e.0, e.1)

-- a number and its negative have one size
pub nat_abs-neg : (z : ℤ) → nat_abs (neg_ℤ z) ≡ nat_abs z
nat_abs-neg (pos zero) = refl
nat_abs-neg (pos (suc n)) = refl
nat_abs-neg (negsuc n) = refl

-- counts from -1 to 1 weigh no more than their number
pub weight_of_units : (es : List (ℤ × Bool)) → All (λ e. IsWithin e.0 1) es → weight es ≤ length es
weight_of_units es h =
    let sizes : All (λ e. nat_abs e.0 ≤ 1) es = All-weaker (λ e. IsWithin e.0 1) (λ e. nat_abs e.0 ≤ 1) (λ e w. size_within e.0 1 w) es h in
    omega (arith, sum_by-le (λ e. nat_abs e.0) 1 es sizes)
