-- How often numbers were met.
use Rattle.std.specs.Prelude.{◌≡◌, ℕ, ◌<◌, List, length, count_by, get_or, take, drop, ◌==◌}

-- how often each number below n was met at the first i places of a list
pub record AreUses (lows places uses : List ℕ) (n i : ℕ) : Type 0 where
  pub full : length uses ≡ n
  pub each : (s : ℕ) → s < n → get_or uses s 0 ≡ count_by (λ p. get_or lows p 0 == s) (take i places)

-- how often it is met at the places after them
pub record AreLeft (lows places uses : List ℕ) (n i : ℕ) : Type 0 where
  pub full : length uses ≡ n
  pub each : (s : ℕ) → s < n → get_or uses s 0 ≡ count_by (λ p. get_or lows p 0 == s) (drop i places)
