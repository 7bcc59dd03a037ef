-- Triangles whose corners are the values of a function of the half-edges.
use Rattle.std.proofs.Common.{◌≡◌, ◌<◌, ◌+◌, ◌*◌, ℕ, zero, suc, List, [], ◌∷◌, ◌++◌, map, length, get_or, refl, sym, ◌∙◌, ap, arith}
use Rattle.std.proofs.lemmas.List.{map-append, length-map}
use Rattle.chain_terms.specs.Chains.{all_edges}
use Rattle.chain_terms.specs.Ranks.{start, finish}
use Rattle.chain_terms.specs.Sums.{up_from, upto}
use Rattle.chain_laws.proofs.Places.{upto_more, length-up_from}
use Rattle.mesh_terms.specs.Halves.{next_half}
use Rattle.halfedge.proofs.Edges.{length-all_edges, next_starts}
use Rattle.pinch_split.specs.Split.{corner_values}
use Rattle.pinch_split.specs.Given.{corners}

-- the triangles from number k on: half-edge h of them starts at the value of half-edge 3 k + h
starts_from : (f : ℕ → ℕ) (k n h : ℕ) → h < 3 * n → start (all_edges (map (corner_values f) (up_from k n))) h ≡ f (3 * k + h)
starts_from f k zero h below = absurd (omega (arith, below))
starts_from f k (suc n) zero below = ap f (omega arith)
starts_from f k (suc n) (suc zero) below = refl
starts_from f k (suc n) (suc (suc zero)) below = refl
starts_from f k (suc n) (suc (suc (suc h))) below =
    let further : 3 * suc k + h ≡ 3 * k + suc (suc (suc h)) = omega arith in
    starts_from f (suc k) n h (omega (arith, below)) ∙ ap f further

-- each half-edge starts at its value
pub start_value : (f : ℕ → ℕ) (n h : ℕ) → h < 3 * n → start (all_edges (map (corner_values f) (upto n))) h ≡ f h
start_value f n h below = starts_from f 0 n h below ∙ ap f (omega arith)

-- as many triangles
pub length-corners : (f : ℕ → ℕ) (n : ℕ) → length (map (corner_values f) (upto n)) ≡ n
length-corners f n = length-map (upto n) (corner_values f) ∙ length-up_from 0 n

-- and half-edges
pub length-corner_edges : (f : ℕ → ℕ) (n : ℕ) → length (all_edges (map (corner_values f) (upto n))) ≡ 3 * n
length-corner_edges f n = omega (arith, length-all_edges (map (corner_values f) (upto n)), length-corners f n)

-- and ends at the value of the next
pub finish_value : (f : ℕ → ℕ) (n h : ℕ) → h < 3 * n → finish (all_edges (map (corner_values f) (upto n))) h ≡ f (next_half h)
finish_value f n h below =
    sym (next_starts (map (corner_values f) (upto n)) h (omega (arith, below, length-corner_edges f n))) ∙ start_value f n (next_half h) (omega (arith, below))

-- one more triangle
pub corners_more : (of : List ℕ) (n : ℕ) → corners of (n + 1) ≡ corners of n ++ corner_values (λ h. get_or of h 0) n ∷ []
corners_more of n = ap (map (corner_values (λ h. get_or of h 0))) (upto_more n) ∙ map-append (corner_values (λ h. get_or of h 0)) (upto n) (n ∷ [])
