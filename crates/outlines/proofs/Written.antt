-- Lists of a value for each number below n, of which one is written.
use Rattle.std.proofs.Common.{◌≡◌, ℕ, ◌+◌, ◌<◌, ◌==◌, cond, List, length, get_or, map, set, sym, ap, subst, ◌∙◌, inl, inr, arith}
use Rattle.std.specs.Prelude.{replicate}
use Rattle.std.proofs.lemmas.Bool.{cases_Bool, eqb-false, eqb-true}
use Rattle.std.proofs.lemmas.List.{get_or-map, get_or-replicate, get_or-set_other, get_or-set_same, length-map, length-replicate, length-set, same_lists}
use Rattle.chain_terms.specs.Sums.{upto}
use Rattle.chain_laws.proofs.Places.{get_or-up_from, length-up_from}

-- as many values as numbers
pub values_long : {Y : Type 0} (f : ℕ → Y) (n : ℕ) → length (map f (upto n)) ≡ n
values_long f n = length-map (upto n) f ∙ length-up_from 0 n

-- the value of a number
pub value_at : {Y : Type 0} (f : ℕ → Y) (n k : ℕ) (d : Y) → k < n → get_or (map f (upto n)) k d ≡ f k
value_at f n k d low = get_or-map f (upto n) k 0 d (omega (arith, low, length-up_from 0 n)) ∙ ap f (omega (arith, get_or-up_from 0 n k 0 low))

-- one value for all
pub same_value : {Y : Type 0} (f : ℕ → Y) (n : ℕ) (y : Y) → ((v : ℕ) → f v ≡ y) → replicate n y ≡ map f (upto n)
same_value f n y each = same_lists (replicate n y) (map f (upto n)) (length-replicate n y ∙ sym (values_long f n)) (λ k d low.
    let inside : k < n = omega (arith, low, length-replicate n y) in get_or-replicate n k y d inside ∙ sym (each k) ∙ sym (value_at f n k d inside))

-- one value written
pub written : {Y : Type 0} (f g : ℕ → Y) (n i : ℕ) (y : Y) → i < n → ((v : ℕ) → g v ≡ cond (i == v) y (f v)) → set (map f (upto n)) i y ≡ map g (upto n)
written f g n i y low each =
    let old = map f (upto n) in
    same_lists (set old i y) (map g (upto n)) (length-set old i y ∙ values_long f n ∙ sym (values_long g n)) (λ k d high.
    let inside : k < n = omega (arith, high, length-set old i y, values_long f n) in
    let new : get_or (map g (upto n)) k d ≡ cond (i == k) y (f k) = value_at g n k d inside ∙ each k in
    elim (cases_Bool (i == k)) as (λ _. get_or (set old i y) k d ≡ get_or (map g (upto n)) k d) [
      | inl s ↦
          subst (λ j. get_or (set old i y) j d ≡ y) (eqb-true i k s) (get_or-set_same old i y d (omega (arith, low, values_long f n))) ∙ sym (new ∙ ap (λ b. cond b y (f k)) s)
      | inr o ↦
          get_or-set_other old i k y d (λ e. eqb-false i k o (sym e)) ∙ value_at f n k d inside ∙ sym (new ∙ ap (λ b. cond b y (f k)) o)
    ])
