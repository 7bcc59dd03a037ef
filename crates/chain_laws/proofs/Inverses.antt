-- A sum over all numbers below n may be taken in the order of a map that has an inverse.
use Rattle.std.specs.Prelude.{◌≡◌, ℕ, ◌<◌, ℤ, ◌==◌}
use Rattle.std.proofs.Common.{sym, ap, ◌∙◌, inl, inr}
use Rattle.std.proofs.lemmas.Bool.{eqb-true, eqb-false, cases_Bool}
use Rattle.chain_terms.specs.Sums.{total, upto}
use Rattle.chain_laws.specs.Sums.{total-swap}
use Rattle.chain_terms.specs.Permutations.{AreInverse}
use Rattle.chain_laws.proofs.Places.{where_same, where_same-apart, where_same-at, total-upto_same, one_hit, one_hit_of}

-- h is t k exactly where k is s h
pub where_same-turned : (s t : ℕ → ℕ) (n : ℕ) → AreInverse s t n → (z : ℤ) (h k : ℕ) → h < n → k < n → where_same h (t k) z ≡ where_same k (s h) z
where_same-turned s t n inverse z h k hn kn = elim (cases_Bool (h == t k)) as (λ _. where_same h (t k) z ≡ where_same k (s h) z) [
  | inl y ↦ let e = eqb-true h (t k) y in where_same-at h (t k) z e ∙ sym (where_same-at k (s h) z (sym (ap s e ∙ inverse.back k kn)))
  | inr y ↦ let d = eqb-false h (t k) y in where_same-apart h (t k) z d ∙ sym (where_same-apart k (s h) z (λ e. d (sym (ap t e ∙ inverse.forth h hn))))
]

-- a sum over all numbers is the sum over their images
pub inverse_sum : (f : ℕ → ℤ) (s t : ℕ → ℕ) (n : ℕ) → AreInverse s t n → total f (upto n) ≡ total (λ k. f (t k)) (upto n)
inverse_sum f s t n inverse =
    let spread_out = total-upto_same f (λ h. total (λ k. where_same k (s h) (f h)) (upto n)) n (λ h b. sym (one_hit (f h) (s h) n (inverse.below h b))) in
    let turn = total-upto_same (λ h. total (λ k. where_same k (s h) (f h)) (upto n)) (λ h. total (λ k. where_same h (t k) (f h)) (upto n)) n
    (λ h b. total-upto_same (λ k. where_same k (s h) (f h)) (λ k. where_same h (t k) (f h)) n (λ k d. sym (where_same-turned s t n inverse (f h) h k b d))) in
    let exchange = total-swap (λ h k. where_same h (t k) (f h)) (upto n) (upto n) in
    let gather = total-upto_same (λ k. total (λ h. where_same h (t k) (f h)) (upto n)) (λ k. f (t k)) n (λ k b. one_hit_of f (t k) n (inverse.above k b)) in
    spread_out ∙ turn ∙ exchange ∙ gather
