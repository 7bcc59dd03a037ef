-- Numbers that are followed by others.
use Rattle.std.specs.Prelude.{ℕ, List, get_or, length, map}
use Rattle.chain_terms.specs.Sums.{upto}

-- each number with the one that follows it
abbrev pub steps_of : List ℕ → List (ℕ × ℕ)
steps_of next = map (λ i. (i, get_or next i 0)) (upto (length next))
