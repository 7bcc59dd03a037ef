-- The steps that the numbers of two sides take are those of the meshes whose sides they are.
use Rattle.std.proofs.Common.{◌≡◌, ◌+◌, ◌≤◌, ℕ, subst}
use Rattle.side_terms.specs.Sides.{Side}
use Rattle.winding.specs.Windings.{components_of}

pub few_sums : (old new : ℕ) (p q first second : Side) → p ≡ first → q ≡ second → new ≤ old + components_of p + components_of q →
    new ≤ old + components_of first + components_of second
few_sums old new p q first second is_first is_second few =
    subst (λ s. new ≤ old + components_of s + components_of second) is_first (subst (λ s. new ≤ old + components_of p + components_of s) is_second few)
