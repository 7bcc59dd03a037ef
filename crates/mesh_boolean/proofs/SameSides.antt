-- Equal sides.
use Rattle.std.proofs.Common.{◌≡◌, sym, subst}
use Rattle.side_terms.specs.Sides.{Side}

-- what is so of two sides is so of the same two
pub same_sides : (P : Side → Side → Type 0) (p q s t : Side) → s ≡ p → t ≡ q → P p q → P s t
same_sides P p q s t first second there = subst (λ x. P x t) (sym first) (subst (P p) (sym second) there)
