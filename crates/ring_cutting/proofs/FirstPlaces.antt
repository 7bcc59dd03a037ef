-- The first number below another that passes a test.
use Rattle.std.specs.Prelude.{◌≡◌, ℕ, ◌+◌, ◌<◌, ◌≤◌, true, false, Bool, Option, Some, None, cond, length, get_or, nat_lt}
use Rattle.std.specs.List.{position, position_or_len}
use Rattle.std.proofs.Common.{arith, sym, ap, ◌∙◌, inl, inr}
use Rattle.std.proofs.lemmas.Bool.{cases_lt, lt-ltb, le-ltb, both_ways}
use Rattle.std.proofs.lemmas.List.Sums.{passes_at_first, fails_before_first, position_or_len_is}
use Rattle.chain_terms.specs.Sums.{upto}
use Rattle.chain_laws.proofs.Places.{length-up_from, get_or-up_from}

-- a number below n stands at its own place
at_upto : (n i : ℕ) → i < n → get_or (upto n) i 0 ≡ i
at_upto n i h = let none : 0 + i ≡ i = omega arith in get_or-up_from 0 n i 0 h ∙ none

many : (n : ℕ) → length (upto n) ≡ n
many n = length-up_from 0 n

-- the first number that passes
pub passes : (p : ℕ → Bool) (n : ℕ) → position_or_len p (upto n) < n → p (position_or_len p (upto n)) ≡ true
passes p n h = ap p (sym (at_upto n (position_or_len p (upto n)) h)) ∙ passes_at_first p (upto n) 0 (omega (arith, h, many n))

-- none comes before it
pub not_before : (p : ℕ → Bool) (n k : ℕ) → k < n → p k ≡ true → position_or_len p (upto n) ≤ k
not_before p n k h y = elim (cases_lt k (position_or_len p (upto n))) as (λ _. position_or_len p (upto n) ≤ k) [
  | inl l ↦ absurd (both_ways (p k) (ap p (sym (at_upto n k h)) ∙ fails_before_first p (upto n) k 0 l) y)
  | inr l ↦ l
]

-- one that passes, with none before it
pub first_place : (p : ℕ → Bool) (n i : ℕ) → i < n → ((k : ℕ) → k < i → p k ≡ false) → p i ≡ true → position_or_len p (upto n) ≡ i
first_place p n i h before here =
    position_or_len_is p (upto n) i 0 (omega (arith, h, many n)) (λ k l. ap p (at_upto n k (omega (arith, l, h))) ∙ before k l)
    (λ l. ap p (at_upto n i h) ∙ here)

-- where none passes it is n
pub no_place : (p : ℕ → Bool) (n : ℕ) → ((k : ℕ) → k < n → p k ≡ false) → position_or_len p (upto n) ≡ n
no_place p n none =
    position_or_len_is p (upto n) n 0 (omega (arith, many n)) (λ k l. ap p (at_upto n k l) ∙ none k l) (λ l. absurd (omega (arith, l, many n)))

-- the same as an option
pub first_is : (p : ℕ → Bool) (n i : ℕ) → i < n → ((k : ℕ) → k < i → p k ≡ false) → p i ≡ true → position p (upto n) ≡ Some i
first_is p n i h before here =
    let e = first_place p n i h before here in
    ap (λ j. cond (nat_lt j (length (upto n))) (Some j) None) e
    ∙ ap (λ b. cond b (Some i) None) (lt-ltb i (length (upto n)) (omega (arith, h, many n)))

pub first_none : (p : ℕ → Bool) (n : ℕ) → ((k : ℕ) → k < n → p k ≡ false) → position p (upto n) ≡ None
first_none p n none =
    let e = no_place p n none in
    ap (λ j. cond (nat_lt j (length (upto n))) (Some j) None) e ∙ ap (λ b. cond b (Some n) None) (le-ltb n (length (upto n)) (omega (arith, many n)))

-- what such an option says
pub some_first : (p : ℕ → Bool) (n i : ℕ) → Some i ≡ position p (upto n) → (position_or_len p (upto n) < n) × (i ≡ position_or_len p (upto n))
some_first p n i h =
    elim (cases_lt (position_or_len p (upto n)) (length (upto n))) as (λ _. (position_or_len p (upto n) < n) × (i ≡ position_or_len p (upto n))) [
      | inl l ↦
          let e : Some i ≡ Some (position_or_len p (upto n)) =
          h ∙ ap (λ b. cond b (Some (position_or_len p (upto n))) None) (lt-ltb (position_or_len p (upto n)) (length (upto n)) l) in
          (omega (arith, l, many n), cc)
      | inr l ↦
          let e : ◌≡◌ {A = Option ℕ} (Some i) None =
          h ∙ ap (λ b. cond b (Some (position_or_len p (upto n))) None) (le-ltb (position_or_len p (upto n)) (length (upto n)) l) in
          cc
    ]

pub none_first : (p : ℕ → Bool) (n : ℕ) → ◌≡◌ {A = Option ℕ} None (position p (upto n)) → n ≤ position_or_len p (upto n)
none_first p n h = elim (cases_lt (position_or_len p (upto n)) (length (upto n))) as (λ _. n ≤ position_or_len p (upto n)) [
  | inl l ↦
      let e : ◌≡◌ {A = Option ℕ} None (Some (position_or_len p (upto n))) =
      h ∙ ap (λ b. cond b (Some (position_or_len p (upto n))) None) (lt-ltb (position_or_len p (upto n)) (length (upto n)) l) in
      cc
  | inr l ↦ omega (arith, l, many n)
]
