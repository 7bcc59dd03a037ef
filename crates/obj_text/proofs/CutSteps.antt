-- A text cut at its first byte that passes a test.
use Rattle.std.proofs.Common.{◌≡◌, ℕ, zero, suc, ◌<◌, ◌≤◌, Bool, true, false, cond, List, [], ◌∷◌, length, take, drop, Option, Some, None, refl, ap, ◌∙◌, arith}
use Rattle.std.specs.Prelude.{nat_lt, position}
use Rattle.std.specs.List.{position_or_len}
use Rattle.std.proofs.lemmas.Bool.Decides.{nat_tests}
use Rattle.text_terms.proofs.Cuts.{cut_at-here, cut_at-past}
use Rattle.text_terms.specs.Numbers.{cut_at}
use Rattle.grid_number.proofs.Positions.{position_or_len-here, position_or_len-past}

-- where no byte passes all of the text stands before the cut
cut_at-none : (p : ℕ → Bool) (xs : List ℕ) → length xs ≤ position_or_len p xs → cut_at p xs ≡ (xs, None)
cut_at-none p [] far = refl
cut_at-none p (c ∷ cs) far = by_test (p c) refl far (cut_at-none p cs) where
  by_test : (b : Bool) → p c ≡ b → suc (length cs) ≤ position_or_len p (c ∷ cs) → (length cs ≤ position_or_len p cs → cut_at p cs ≡ (cs, None)) → cut_at p (c ∷ cs) ≡ (c ∷ cs, None)
  by_test true e far later = absurd (omega (arith, position_or_len-here p c cs e))
  by_test false e far later =
      cut_at-past p c cs e ∙ ap (λ (r : List ℕ × Option (List ℕ)). (c ∷ r.0, r.1)) (later (omega (arith, position_or_len-past p c cs e)))

-- else the text is cut at the first that does
cut_at-some : (p : ℕ → Bool) (xs : List ℕ) (n : ℕ) → n < length xs → position_or_len p xs ≡ n → cut_at p xs ≡ (take n xs, Some (drop (suc n) xs))
cut_at-some p [] n inside place = absurd (omega arith)
cut_at-some p (c ∷ cs) zero inside place = by_test (p c) refl place where
  by_test : (b : Bool) → p c ≡ b → position_or_len p (c ∷ cs) ≡ 0 → cut_at p (c ∷ cs) ≡ ([], Some cs)
  by_test true e place = cut_at-here p c cs e
  by_test false e place = absurd (omega (arith, position_or_len-past p c cs e))
cut_at-some p (c ∷ cs) (suc n) inside place = by_test (p c) refl place (cut_at-some p cs n (omega arith)) where
  by_test : (b : Bool) → p c ≡ b → position_or_len p (c ∷ cs) ≡ suc n → (position_or_len p cs ≡ n → cut_at p cs ≡ (take n cs, Some (drop (suc n) cs))) →
      cut_at p (c ∷ cs) ≡ (c ∷ take n cs, Some (drop (suc n) cs))
  by_test true e place later = absurd (omega (arith, position_or_len-here p c cs e))
  by_test false e place later =
      cut_at-past p c cs e ∙ ap (λ (r : List ℕ × Option (List ℕ)). (c ∷ r.0, r.1)) (later (omega (arith, position_or_len-past p c cs e)))

-- without a place nothing passes
pub cut_at-no_position : (p : ℕ → Bool) (xs : List ℕ) → position p xs ≡ None → cut_at p xs ≡ (xs, None)
cut_at-no_position p xs none = by_test (nat_lt (position_or_len p xs) (length xs)) refl none where
  by_test : (b : Bool) → nat_lt (position_or_len p xs) (length xs) ≡ b → cond b (Some (position_or_len p xs)) None ≡ None → cut_at p xs ≡ (xs, None)
  by_test true e h = absurd (cc)
  by_test false e h = cut_at-none p xs (grind (arith, nat_tests, e))

-- with one the text is cut there
pub cut_at-position : (p : ℕ → Bool) (xs : List ℕ) (n : ℕ) → position p xs ≡ Some n → cut_at p xs ≡ (take n xs, Some (drop (suc n) xs))
cut_at-position p xs n some = by_test (nat_lt (position_or_len p xs) (length xs)) refl some where
  by_test : (b : Bool) → nat_lt (position_or_len p xs) (length xs) ≡ b → cond b (Some (position_or_len p xs)) None ≡ Some n → cut_at p xs ≡ (take n xs, Some (drop (suc n) xs))
  by_test true e h =
      let here : position_or_len p xs ≡ n = cc in
      let inside : position_or_len p xs < length xs = grind (arith, nat_tests, e) in
      cut_at-some p xs n (omega arith) here
  by_test false e h = absurd (cc)
