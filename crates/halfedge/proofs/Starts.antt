-- Where half-edges start and end, read off the triples.
use Rattle.std.proofs.Common.{◌≡◌, ◌<◌, ◌*◌, ◌/◌, ◌%◌, ℕ, zero, suc, List, [], ◌∷◌, length, get_or, refl, sym, ◌∙◌, ap, arith}
use Rattle.std.specs.List.{All}
use Rattle.std.proofs.lemmas.List.Elements.{All-head, All-tail}
use Rattle.chain_terms.specs.Chains.{edges, all_edges}
use Rattle.chain_terms.specs.Ranks.{start}
use Rattle.mesh_terms.specs.Meshes.{Triple, IsBelow, triple_of, triples_of}

-- half-edge h is one of the three of its triangle
edge_of_triangle : (xs : List (List ℕ)) (h : ℕ) → h < 3 * length xs → get_or (all_edges (triples_of xs)) h (0, 0) ≡ get_or (edges (triple_of (get_or xs (h / 3) []))) (h % 3) (0, 0)
edge_of_triangle [] h low = absurd (omega (arith, low))
edge_of_triangle (x ∷ xs) zero low = refl
edge_of_triangle (x ∷ xs) (suc zero) low = refl
edge_of_triangle (x ∷ xs) (suc (suc zero)) low = refl
edge_of_triangle (x ∷ xs) (suc (suc (suc h))) low =
    let of : suc (h / 3) ≡ suc (suc (suc h)) / 3 = omega arith in
    let in_it : h % 3 ≡ suc (suc (suc h)) % 3 = omega arith in
    edge_of_triangle xs h (omega (arith, low)) ∙ (λ i. get_or (edges (triple_of (get_or (x ∷ xs) (of i) []))) (in_it i) (0, 0))

-- the one of the three at a place
pub triangle_edge : (xs : List (List ℕ)) (h r : ℕ) → h < 3 * length xs → h % 3 ≡ r →
    get_or (edges (triple_of (get_or xs (h / 3) []))) r (0, 0) ≡ get_or (all_edges (triples_of xs)) h (0, 0)
triangle_edge xs h r low is = ap (λ n. get_or (edges (triple_of (get_or xs (h / 3) []))) n (0, 0)) (sym is) ∙ sym (edge_of_triangle xs h low)

-- an edge of a triple starts at the number at its place
edge_starts : (x : List ℕ) (r : ℕ) → r < 3 → start (edges (triple_of x)) r ≡ get_or x r 0
edge_starts x zero low = refl
edge_starts x (suc zero) low = refl
edge_starts x (suc (suc zero)) low = refl
edge_starts x (suc (suc (suc r))) low = absurd (omega (arith, low))

-- the start of a half-edge stands in its triple
pub start_read : (xs : List (List ℕ)) (h : ℕ) → h < 3 * length xs → start (all_edges (triples_of xs)) h ≡ get_or (get_or xs (h / 3) []) (h % 3) 0
start_read xs h low = ap (λ (e : ℕ × ℕ). e.0) (edge_of_triangle xs h low) ∙ edge_starts (get_or xs (h / 3) []) (h % 3) (omega arith)

-- it is below the number of points
pub start_below : (n : ℕ) (ts : List Triple) → All (IsBelow n) ts → (h : ℕ) → h < length (all_edges ts) → start (all_edges ts) h < n
start_below n [] below h low = absurd (omega (arith, low))
start_below n (t ∷ ts) below zero low = (All-head (IsBelow n) t ts below).a
start_below n (t ∷ ts) below (suc zero) low = (All-head (IsBelow n) t ts below).b
start_below n (t ∷ ts) below (suc (suc zero)) low = (All-head (IsBelow n) t ts below).c
start_below n (t ∷ ts) below (suc (suc (suc h))) low = start_below n ts (All-tail (IsBelow n) t ts below) h (omega (arith, low))
