-- Lists of triangles as the code holds them, and their half-edges.
use Rattle.std.proofs.Common.{◌≡◌, ℕ, zero, suc, ◌+◌, ◌*◌, ◌/◌, ◌%◌, ◌<◌, List, [], ◌∷◌, ◌++◌, length, get_or, take, refl, arith, ap, ◌∙◌}
use Rattle.std.specs.List.{All}
use Rattle.std.proofs.lemmas.List.{take_more, map_push, length-map, get_or-map}
use Rattle.chain_terms.specs.Chains.{edges, all_edges}
use Rattle.chain_terms.specs.Ranks.{start}
use Rattle.mesh_terms.specs.Meshes.{Triple, IsBelow, triple_of, triples_of}
use Rattle.halfedge.proofs.Edges.{length-all_edges}
use Rattle.halfedge.proofs.Starts as starts
use Rattle.halfedge.proofs.Starts.{start_read}

-- what holds of all triangles holds of the one at a place
pub triple_at : (P : Triple → Type 0) (ts : List Triple) (xs : List (List ℕ)) (i : ℕ) → triples_of xs ≡ ts → All P ts → i < length xs → P (triple_of (get_or xs i []))
triple_at P ts xs i e all h =
    let long : i < length (triples_of xs) = omega (arith, length-map xs triple_of, h) in
    let here : P (get_or (triples_of xs) i (triple_of [])) = (rw (← e) at all) i (triple_of []) long in
    rw (get_or-map triple_of xs i [] (triple_of []) h) at here

-- so the vertices of one are below what those of all are below
pub face_below : (n : ℕ) (ts : List Triple) (xs : List (List ℕ)) (f : ℕ) → triples_of xs ≡ ts → All (IsBelow n) ts → f < length ts → IsBelow n (triple_of (get_or xs f []))
face_below n ts xs f e all h = triple_at (IsBelow n) ts xs f e all (omega (arith, h, ap length e, length-map xs triple_of))

-- the first i + 1 triangles
pub triples_more : (xs : List (List ℕ)) (i : ℕ) → i < length xs → triples_of (take (i + 1) xs) ≡ triples_of (take i xs) ++ triple_of (get_or xs i []) ∷ []
triples_more xs i h = ap triples_of (take_more xs i [] h) ∙ map_push triple_of (take i xs) (get_or xs i [])

-- a half-edge starts at a vertex of its triangle
pub start_listed : (xs : List (List ℕ)) (h : ℕ) → h < 3 * length xs → start (all_edges (triples_of xs)) h ≡ get_or (get_or xs (h / 3) []) (h % 3) 0
start_listed xs h low = start_read xs h low

-- the half-edges of triangle f are its edges
pub half_of_face : (ts : List Triple) (f i : ℕ) → f < length ts → i < 3 → get_or (all_edges ts) (3 * f + i) (0, 0) ≡ get_or (edges (get_or ts f (0, 0, 0))) i (0, 0)
half_of_face [] f i below three = absurd (omega (arith, below))
half_of_face (t ∷ ts) zero zero below three = refl
half_of_face (t ∷ ts) zero (suc zero) below three = refl
half_of_face (t ∷ ts) zero (suc (suc zero)) below three = refl
half_of_face (t ∷ ts) zero (suc (suc (suc i))) below three = absurd (omega (arith, three))
half_of_face (t ∷ ts) (suc f) i below three =
    let later : 3 * suc f + i ≡ suc (suc (suc (3 * f + i))) = omega arith in
    rw later (half_of_face ts f i (omega (arith, below)) three)

-- and the vertex is one of so many
pub start_below : (n : ℕ) (ts : List Triple) (h : ℕ) → All (IsBelow n) ts → h < 3 * length ts → start (all_edges ts) h < n
start_below n ts h all low = starts.start_below n ts all h (omega (arith, low, length-all_edges ts))
