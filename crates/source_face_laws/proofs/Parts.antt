-- The triangles of all fillings, face by face.
use Rattle.std.proofs.Common.{◌≡◌, ℕ, ◌<◌, List, [], ◌∷◌, get_or, arith}
use Rattle.std.specs.List.{All, Contains, flat_map}
use Rattle.std.proofs.lemmas.List.Elements.{All-append, All-head, All-nil, All-tail}
use Rattle.std.proofs.lemmas.List.Folds.{flat_map-map}
use Rattle.chain_terms.specs.Sums.{upto}
use Rattle.chain_laws.proofs.Places.{get_or-up_from, length-up_from}
use Rattle.mesh_terms.specs.Meshes.{Triple}
use Rattle.side_terms.specs.Sides.{Side}
use Rattle.side_terms.specs.Lists.{Copy}
use Rattle.ring_cutting.specs.Cuts.{Cut}
use Rattle.source_face_terms.specs.Segments.{source_count}
use Rattle.source_face_terms.specs.Filled.{all_filled, all_triples, filled_face}

-- the triangles of the filling of a face
abbrev pub part_of : Side → Side → List Copy → ℕ → List Triple
part_of p q cs x = (filled_face p q cs x).triples

-- those of all faces, face by face
pub parts : (p q : Side) (cs : List Copy) → all_triples (all_filled p q cs) ≡ flat_map (part_of p q cs) (upto (source_count p q))
parts p q cs = flat_map-map (λ (c : Cut). c.triples) (filled_face p q cs) (upto (source_count p q))

-- what holds of the triangles of each face holds of all
pub all_parts : (P : Triple → Type 0) (part : ℕ → List Triple) (xs : List ℕ) → All (λ x. All P (part x)) xs → All P (flat_map part xs)
all_parts P part [] h = All-nil P
all_parts P part (x ∷ xs) h =
    All-append P (part x) (flat_map part xs) (All-head (λ x. All P (part x)) x xs h) (all_parts P part xs (All-tail (λ x. All P (part x)) x xs h))

-- a number below n is among those
pub among : (n x : ℕ) → x < n → Contains (upto n) x
among n x below = let same : ◌≡◌ {A = ℕ} (get_or (upto n) x x) x = omega (arith, get_or-up_from 0 n x x below) in (x, omega (arith, below, length-up_from 0 n), same)
