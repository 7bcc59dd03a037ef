-- Maps of the numbers below n that have an inverse, and going along one of them.
use Rattle.std.specs.Prelude.{◌≡◌, ℕ, zero, suc, ◌<◌, ◌≤◌}

-- s and t keep below n, and each undoes the other there
pub record AreInverse (s t : ℕ → ℕ) (n : ℕ) : Type 0 where
  pub below : (x : ℕ) → x < n → s x < n
  pub above : (x : ℕ) → x < n → t x < n
  pub back : (x : ℕ) → x < n → s (t x) ≡ x
  pub forth : (x : ℕ) → x < n → t (s x) ≡ x

-- s, k times over
abbrev pub times : (ℕ → ℕ) → ℕ → ℕ → ℕ
times s zero x = x
times s (suc k) x = s (times s k x)

-- going along s from x leads back to x, in 1 to n steps
pub record Returns (s : ℕ → ℕ) (n x : ℕ) : Type 0 where
  pub steps : ℕ
  pub some : 0 < steps
  pub few : steps ≤ n
  pub back : times s steps x ≡ x
