-- A rank as a sum over all places.
use Rattle.std.proofs.Common.{◌≡◌, ◌≤◌, ◌+◌, inl, inr, ℕ, zero, suc, ℤ, Bool, true, false, List, [], ◌∷◌, length, get_or, refl, sym, ◌∙◌, ap, arith}
use Rattle.std.specs.Prelude.{◌&&◌, nat_lt, pos, ◌+ℤ◌}
use Rattle.std.proofs.lemmas.Bool.{cases_lt, lt-ltb, le-ltb}
use Rattle.std.proofs.lemmas.Int.{ints}
use Rattle.chain_terms.specs.Chains.{one_if}
use Rattle.chain_terms.specs.Ranks.{rank}
use Rattle.chain_terms.specs.Sums.{total, up_from, upto}
use Rattle.chain_laws.specs.Sums.{total-zero}
use Rattle.chain_laws.proofs.Places.{total-upto_same}

-- a sum from one number further on
total-shift : (f : ℕ → ℤ) (k n : ℕ) → total f (up_from (suc k) n) ≡ total (λ i. f (suc i)) (up_from k n)
total-shift f k zero = refl
total-shift f k (suc n) = ap (λ z. f (suc k) +ℤ z) (total-shift f (suc k) n)

-- one where place g passes and is before i
abbrev pub counts : {X : Type 0} → (X → Bool) → List X → X → ℕ → ℕ → ℤ
counts p xs d i g = pos (one_if (p (get_or xs g d) && nat_lt g i))

-- no place is before 0
none_before : (b c : Bool) → c ≡ false → pos (one_if (b && c)) ≡ pos 0
none_before true c e = ap (λ x. pos (one_if x)) e
none_before false c e = refl

-- the first place is before a later one
here : (b c : Bool) → c ≡ true → one_if (b && c) ≡ one_if b
here true c e = ap one_if e
here false c e = refl

-- both one further
before_suc : (g i : ℕ) → nat_lt (suc g) (suc i) ≡ nat_lt g i
before_suc g i = elim (cases_lt g i) as (λ _. nat_lt (suc g) (suc i) ≡ nat_lt g i) [
  | inl less ↦ lt-ltb (suc g) (suc i) (omega (arith, less)) ∙ sym (lt-ltb g i less)
  | inr more ↦ le-ltb (suc g) (suc i) (omega (arith, more)) ∙ sym (le-ltb g i more)
]

-- the rank counts the places before that pass
pub rank_sum : {X : Type 0} (p : X → Bool) (xs : List X) (d : X) (i : ℕ) → i ≤ length xs → pos (rank p xs i) ≡ total (counts p xs d i) (upto (length xs))
rank_sum p [] d i low = refl
rank_sum p (x ∷ xs) d zero low =
    sym (total-upto_same (counts p (x ∷ xs) d 0) (λ g. pos 0) (length (x ∷ xs))
    (λ g b. none_before (p (get_or (x ∷ xs) g d)) (nat_lt g 0) (le-ltb g 0 (omega arith))) ∙ total-zero (upto (length (x ∷ xs))))
rank_sum p (x ∷ xs) d (suc i) low =
    let each = total-upto_same (λ g. counts p (x ∷ xs) d (suc i) (suc g)) (counts p xs d i) (length xs) (λ g b. ap (λ c. pos (one_if (p (get_or xs g d) && c))) (before_suc g i)) in
    let later : total (counts p (x ∷ xs) d (suc i)) (up_from 1 (length xs)) ≡ pos (rank p xs i) = total-shift (counts p (x ∷ xs) d (suc i)) 0 (length xs) ∙ each
    ∙ sym (rank_sum p xs d i (omega (arith, low))) in
    sum_of (one_if (p x)) (rank p xs i) ∙ sym (λ j. pos (here (p x) (nat_lt 0 (suc i)) (lt-ltb 0 (suc i) (omega arith)) j) +ℤ later j)
  where
    sum_of : (a b : ℕ) → pos (a + b) ≡ pos a +ℤ pos b
    sum_of a b = omega (arith, ints)
