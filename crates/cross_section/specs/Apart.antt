-- Strictly apart is said either way round.
use Rattle.std.specs.Prelude.{ℕ, ◌+◌, ◌<◌, List}
use Rattle.std.proofs.Common.{arith, inl, inr}
use Rattle.mb_base.specs.declared.point.Corner.{Corner}
use Rattle.side_terms.specs.Boxes.{AreApart}

-- exchanged, the two lists of corners stay apart
pub apart_back : (i : ℕ) (ps qs : List Corner) → AreApart i ps qs → AreApart i qs ps
apart_back i ps qs (inl h) = inr h
apart_back i ps qs (inr h) = inl h

-- x and y are the first of the axes on which two edges must not be apart
pub axis_low : (i : ℕ) → i < 2 → i + 2 < 2 + 2
axis_low i low = omega (arith, low)
