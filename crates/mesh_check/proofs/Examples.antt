-- Small lists of triples, reduced.
use Rattle.std.proofs.Common.{◌≡◌, [], ◌∷◌, refl}
use Rattle.mesh_check.specs.Reduced.{kept_triples}

-- a two-sided triangle goes
two_sided : kept_triples ((0, 1, 2) ∷ (0, 2, 1) ∷ []) ≡ []
two_sided = refl

-- a rotation is no opposite
turned : kept_triples ((0, 1, 2) ∷ (1, 2, 0) ∷ []) ≡ (0, 1, 2) ∷ (1, 2, 0) ∷ []
turned = refl

-- the first ones go
first_go : kept_triples ((3, 4, 5) ∷ (0, 1, 2) ∷ (1, 2, 0) ∷ (2, 1, 0) ∷ (2, 0, 1) ∷ []) ≡ (3, 4, 5) ∷ (1, 2, 0) ∷ (2, 0, 1) ∷ []
first_go = refl
