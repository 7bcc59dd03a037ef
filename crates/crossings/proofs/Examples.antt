-- Numbers by half-edge of a cube and a post that stands through its top, computed by the definitions.
use Rattle.std.proofs.Common.{◌≡◌, ℕ, ◌+◌, ◌*◌, ℤ, pos, negsuc, List, [], ◌∷◌, refl}
use Rattle.chain_terms.specs.Chains.{all_edges}
use Rattle.chain_terms.specs.Sums.{total, upto}
use Rattle.mb_base.specs.declared.results.Hit.{Hit}
use Rattle.mesh_terms.specs.Meshes.{Triple}
use Rattle.side_terms.specs.Conservation.{half_number}

-- the triangles of a box
abbrev pub box : List Triple
box = (0, 3, 1) ∷ (0, 2, 3) ∷ (4, 5, 7) ∷ (4, 7, 6) ∷ (0, 1, 4) ∷ (1, 5, 4) ∷ (1, 3, 7) ∷ (1, 7, 5) ∷ (3, 2, 6) ∷ (3, 6, 7) ∷ (0, 4, 6) ∷ (0, 6, 2) ∷ []

-- a hit at a point on the top
abbrev pub at_top : ℕ → ℕ → ℤ → ℤ → ℤ → Hit
at_top edge face number x y = record { edge = edge; face = face; number = number; at = x ∷ y ∷ pos 10 ∷ [] }

-- the cube's edges with the post's faces
abbrev pub cube_hits : List Hit
cube_hits = at_top 8 4 (pos 1) (pos 4) (pos 4) ∷ at_top 8 6 (negsuc 0) (pos 6) (pos 6) ∷ []

-- the post's edges with the cube's faces
abbrev pub post_hits : List Hit
post_hits =
    at_top 13 2 (pos 1) (pos 5) (pos 4) ∷ at_top 14 3 (negsuc 0) (pos 3) (pos 4) ∷ at_top 15 2 (pos 1) (pos 6) (pos 4) ∷ at_top 19 3 (pos 1) (pos 6) (pos 7)
    ∷ at_top 20 2 (negsuc 0) (pos 6) (pos 5) ∷ at_top 25 3 (pos 1) (pos 3) (pos 7) ∷ at_top 26 3 (negsuc 0) (pos 5) (pos 7) ∷ at_top 32 3 (negsuc 0) (pos 3) (pos 5) ∷ []

abbrev pub cube_number : ℕ → ℕ → ℤ
cube_number h f = half_number (all_edges box) cube_hits h f

abbrev pub post_number : ℕ → ℕ → ℤ
post_number h f = half_number (all_edges box) post_hits h f

-- the diagonal of the top crosses a wall of the post, its twin crosses it the other way, and another edge not at all
diagonal : cube_number 8 4 ≡ pos 1
diagonal = refl

back : cube_number 9 4 ≡ negsuc 0
back = refl

beside : cube_number 7 4 ≡ pos 0
beside = refl

-- a half of the top and that wall have one number, round either
round_top : total (λ i. cube_number (3 * 2 + i) 4) (upto 3) ≡ pos 1
round_top = refl

round_wall : total (λ i. post_number (3 * 4 + i) 2) (upto 3) ≡ pos 1
round_wall = refl

-- the other half of the top and that wall
round_other : total (λ i. cube_number (3 * 3 + i) 4) (upto 3) ≡ negsuc 0
round_other = refl

round_wall_back : total (λ i. post_number (3 * 4 + i) 3) (upto 3) ≡ negsuc 0
round_wall_back = refl

-- the lower end of a diagonal of that wall lies in the cube and the upper one outside, 1 more crossing than before
up_a_diagonal : total (post_number 13) (upto 12) ≡ pos 1
up_a_diagonal = refl
