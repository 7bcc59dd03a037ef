-- A small mesh, split.
use Rattle.std.proofs.Common.{◌≡◌, [], ◌∷◌, refl}
use Rattle.pinch_split.specs.Split.{split_from, split_triples}

-- two two-sided triangles on the same three vertices: each vertex has two fans
two_each : split_from 3 ((0, 1, 2) ∷ (0, 2, 1) ∷ (0, 1, 2) ∷ (0, 2, 1) ∷ []) ≡ 0 ∷ 0 ∷ 1 ∷ 1 ∷ 2 ∷ 2 ∷ []
two_each = refl

-- and the sheets come apart
apart : split_triples 3 ((0, 1, 2) ∷ (0, 2, 1) ∷ (0, 1, 2) ∷ (0, 2, 1) ∷ []) ≡ (0, 2, 4) ∷ (0, 4, 2) ∷ (1, 3, 5) ∷ (1, 5, 3) ∷ []
apart = refl
