-- What stands at the front of a text before the first byte that fails a test.
use Rattle.std.proofs.Common.{◌≡◌, ℕ, Bool, true, false, not, List, [], ◌∷◌, take, refl, ap, ◌∙◌}
use Rattle.std.specs.Prelude.{◌&&◌}
use Rattle.std.specs.List.{position_or_len}
use Rattle.grid_number.proofs.Positions.{position_or_len-here, position_or_len-past}
use Rattle.text_terms.proofs.Digits.{both}

-- all of it passes
pub all-front : (test : ℕ → Bool) (all : List ℕ → Bool) → all [] ≡ true → ((c : ℕ) (cs : List ℕ) → all (c ∷ cs) ≡ (test c && all cs)) →
    (cs : List ℕ) → all (take (position_or_len (λ c. not (test c)) cs) cs) ≡ true
all-front test all none more [] = none
all-front test all none more (c ∷ cs) = by_test (test c) refl (all-front test all none more cs) where
  by_test : (b : Bool) → test c ≡ b → all (take (position_or_len (λ c. not (test c)) cs) cs) ≡ true → all (take (position_or_len (λ c. not (test c)) (c ∷ cs)) (c ∷ cs)) ≡ true
  by_test true e h =
      let front = take (position_or_len (λ c. not (test c)) cs) cs in
      rw (position_or_len-past (λ c. not (test c)) c cs (ap not e)) (more c front ∙ both (test c) (all front) e h)
  by_test false e h = rw (position_or_len-here (λ c. not (test c)) c cs (ap not e)) none
