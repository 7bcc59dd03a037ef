-- Two places of one cycle whose images are exchanged: from then on neither meets the other.
use Rattle.std.proofs.Common.{◌≡◌, ◌≢◌, ◌<◌, ◌≤◌, ◌+◌, ◌-◌, ℕ, zero, suc, Bool, true, false, sym, ◌∙◌, ap, arith, inl, inr}
use Rattle.std.specs.Prelude.{◌==◌}
use Rattle.std.proofs.lemmas.Bool.{both_ways, cases_Bool, cases_eq, eq-eqb, eqb-true}
use Rattle.chain_terms.specs.Permutations.{times}
use Rattle.chain_laws.proofs.Walks.{times-add}

-- the first number up to m with a test, which m has
pub record IsFirst (q : ℕ → Bool) (m k : ℕ) : Type 0 where
  pub within : k ≤ m
  pub passes : q k ≡ true
  pub before : (j : ℕ) → j < k → q j ≡ false

-- there is one, whatever may still be ahead
first_ahead : (q : ℕ → Bool) (m : ℕ) → q m ≡ true → (ahead i : ℕ) → m ≡ i + ahead → ((j : ℕ) → j < i → q j ≡ false) → (k : ℕ) × IsFirst q m k
first_ahead q m passes zero i e none =
    let here : m ≡ i = omega (arith, e) in (i, record { within = omega (arith, e); passes = ap q (sym here) ∙ passes; before = none })
first_ahead q m passes (suc ahead) i e none = elim (cases_Bool (q i)) as (λ _. (k : ℕ) × IsFirst q m k) [
  | inl is ↦ (i, record { within = omega (arith, e); passes = is; before = none })
  | inr not_so ↦
      first_ahead q m passes ahead (suc i) (omega (arith, e))
      (λ j l. elim (cases_eq j i) as (λ _. q j ≡ false) [
        | inl same ↦ ap q same ∙ not_so
        | inr apart ↦ none j (omega (arith, l, apart))
      ])
]

pub first_of : (q : ℕ → Bool) (m : ℕ) → q m ≡ true → (k : ℕ) × IsFirst q m k
first_of q m passes = first_ahead q m passes m 0 (omega arith) (λ j l. absurd (omega (arith, l)))

-- f' is f with the images of a and b exchanged, at least where going along f from a leads
pub record IsExchanged (f f' : ℕ → ℕ) (a b : ℕ) : Type 0 where
  pub apart : a ≢ b
  pub at_a : f' a ≡ f b
  pub at_b : f' b ≡ f a
  pub others : (n : ℕ) → times f n a ≢ a → times f n a ≢ b → f' (times f n a) ≡ f (times f n a)

module _ (f f' : ℕ → ℕ) (a b : ℕ) (is : IsExchanged f f' a b) where
  -- a walk from a to b that doesn't meet b before
  module _ (k : ℕ) (there : times f k a ≡ b) (before : (j : ℕ) → j < k → times f j a ≢ b) where
    some : 0 < k
    some = elim (cases_eq k 0) as (λ _. 0 < k) [
      | inl e ↦ absurd (is.apart (sym (ap (λ n. times f n a) e) ∙ there))
      | inr apart ↦ omega (arith, apart)
    ]

    -- nor a
    not_again : (i : ℕ) → 0 < i → i ≤ k → times f i a ≢ a
    not_again i i_some low again = elim (cases_eq i k) as (λ _. ⊥) [
      | inl e ↦ is.apart (sym again ∙ ap (λ n. times f n a) e ∙ there)
      | inr less ↦
          let parts : k ≡ (k - i) + i = omega (arith, low) in
          before (k - i) (omega (arith, i_some, low, less))
          (ap (times f (k - i)) (sym again) ∙ sym (times-add f (k - i) i a) ∙ ap (λ n. times f n a) (sym parts) ∙ there)
    ]

    -- along f' from b one stays on the way from a to b, behind a
    stays : (m : ℕ) → (i : ℕ) × (0 < i) × (i ≤ k) × (times f' m b ≡ times f i a)
    stays zero = (k, some, omega arith, sym there)
    stays (suc m) = let on = stays m in elim (cases_eq on.0 k) as (λ _. (i : ℕ) × (0 < i) × (i ≤ k) × (times f' (suc m) b ≡ times f i a)) [
      | inl e ↦ (1, omega arith, some, ap f' (on.3 ∙ ap (λ n. times f n a) e ∙ there) ∙ is.at_b)
      | inr apart ↦
          let less : on.0 < k = omega (arith, on.2, apart) in
          (suc on.0, omega arith, less, ap f' on.3 ∙ is.others on.0 (not_again on.0 on.1 on.2) (before on.0 less))
    ]

    parted : (m : ℕ) → times f' m b ≢ a
    parted m met = let on = stays m in not_again on.0 on.1 on.2 (sym on.3 ∙ met)

  -- so b never meets a again
  pub exchanged_part : (n : ℕ) → times f n a ≡ b → (m : ℕ) → times f' m b ≢ a
  exchanged_part n there =
      let first = first_of (λ j. times f j a == b) n (eq-eqb (times f n a) b there) in
      parted first.0 (eqb-true (times f first.0 a) b first.1.passes)
      (λ j low met. both_ways (times f j a == b) (first.1.before j low) (eq-eqb (times f j a) b met))
