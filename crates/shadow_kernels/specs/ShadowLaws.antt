-- The laws of a shadow test.
use Rattle.std.specs.Prelude.{◌≡◌, ◌≢◌, ℕ, ◌+◌, ◌<◌, pos, negsuc, ◌≤ℤ◌, true, false, Option, None, IfSome, List, length, swap}
use Rattle.mb_base.specs.declared.point.Corner.{Corner}
use Rattle.side_terms.specs.Corners.{AllFine}
use Rattle.side_terms.specs.Boxes.{IsInBox, IsBelow, AreApart}
use Rattle.shadow_kernels.specs.declared.Spot.{Spot}
use Rattle.shadow_kernels.specs.declared.Meet.{Meet}
use Rattle.shadow_kernels.specs.Counts.{count_of, turned}

-- a shadow test: what it answers for the corners of p and of q
abbrev pub ShadowTest : Type 0
ShadowTest = List Corner → List Corner → Option Meet

-- P's values of a spot lie in the box of ps, and Q's in the box of qs
pub record IsInHull (ps qs : List Corner) (s : Spot) : Type 0 where
  pub px : IsInBox 0 ps s.x
  pub py : IsInBox 1 ps s.py
  pub pz : IsInBox 2 ps s.pz
  pub qx : IsInBox 0 qs s.x
  pub qy : IsInBox 1 qs s.qy
  pub qz : IsInBox 2 qs s.qz

-- a test answers only where the count is not 0. This is no law: only what counts answers by their number needs it
abbrev pub HasCounts : ℕ → ℕ → ShadowTest → Type 0
HasCounts m n test = (p q : List Corner) → length p ≡ m → length q ≡ n → AllFine p → AllFine q → IfSome (test p q) (λ a. a.count ≢ pos 0)

-- the laws of a test of simplices of P with m corners and of Q with n
pub record ShadowLaws (m n : ℕ) (test : ShadowTest) : Type 0 where
  -- exchanging two corners of p turns the sign of the count, and keeps the rest
  pub reverse_p : (p q : List Corner) (i j : ℕ) → i < j → j < m → length p ≡ m → length q ≡ n → AllFine p → AllFine q → test (swap p i j) q ≡ turned (test p q)
  -- exchanging two corners of q does so too
  pub reverse_q : (p q : List Corner) (i j : ℕ) → i < j → j < n → length p ≡ m → length q ≡ n → AllFine p → AllFine q → test p (swap q i j) ≡ turned (test p q)
  -- the count is -1, 0 or 1
  pub size : (p q : List Corner) → length p ≡ m → length q ≡ n → AllFine p → AllFine q → (negsuc 0 ≤ℤ count_of (test p q)) × (count_of (test p q) ≤ℤ pos 1)
  -- but for two vertices, P's values at the spot lie in the box of p, and Q's in the box of q
  pub hull : (p q : List Corner) → 2 < m + n → length p ≡ m → length q ≡ n → AllFine p → AllFine q → IfSome (test p q) (λ a. IsInHull p q a.spot)
  -- where the boxes are strictly apart on one of the first m + n - 2 axes, there is no answer
  pub apart : (p q : List Corner) (i : ℕ) → length p ≡ m → length q ≡ n → AllFine p → AllFine q → i + 2 < m + n → AreApart i p q → test p q ≡ None
  -- where they are strictly apart on the next axis, an answer says whether p lies on the greater side
  pub side : (p q : List Corner) (i : ℕ) → length p ≡ m → length q ≡ n → AllFine p → AllFine q → i + 2 ≡ m + n →
      IfSome (test p q) (λ a. (IsBelow i p q → a.above ≡ false) × (IsBelow i q p → a.above ≡ true))
