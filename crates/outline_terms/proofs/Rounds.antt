-- Sums round all loops.
use Rattle.std.proofs.Common.{◌≡◌, ℕ, ℤ, pos, List, [], ◌∷◌, refl, ◌∙◌, arith}
use Rattle.std.specs.Prelude.{◌-ℤ◌}
use Rattle.std.specs.List.{flat_map}
use Rattle.std.proofs.lemmas.Int.{ints}
use Rattle.chain_terms.specs.Paths.{last_of, path, round_edges}
use Rattle.chain_terms.specs.Sums.{total}
use Rattle.chain_laws.specs.Sums.{total-flat_map, total-same, total-zero}
use Rattle.chain_laws.proofs.Paths.{total-round_edges}

-- differences along a path add up to that of its ends
path_differences : (g : ℕ → ℤ) (x : ℕ) (r : List ℕ) → total (λ e. g e.1 -ℤ g e.0) (path x r) ≡ g (last_of x r) -ℤ g x
path_differences g x [] = omega (arith, ints)
path_differences g x (y ∷ r) = omega (arith, ints, path_differences g y r)

-- and once round to nothing
round_differences : (g : ℕ → ℤ) (r : List ℕ) → total (λ e. g e.1 -ℤ g e.0) (round_edges r) ≡ pos 0
round_differences g [] = refl
round_differences g (x ∷ r) = omega (arith, ints, total-round_edges (λ e. g e.1 -ℤ g e.0) x r, path_differences g x r)

-- differences add up to nothing round all loops
pub loop_differences : (g : ℕ → ℤ) (loops : List (List ℕ)) → total (λ e. g e.1 -ℤ g e.0) (flat_map round_edges loops) ≡ pos 0
loop_differences g loops =
    total-flat_map (λ e. g e.1 -ℤ g e.0) round_edges loops
    ∙ total-same (λ l. total (λ e. g e.1 -ℤ g e.0) (round_edges l)) (λ l. pos 0) (round_differences g) loops ∙ total-zero loops
