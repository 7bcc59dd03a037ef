-- Lists of half-edges, made triangle by triangle.
use Rattle.std.proofs.Common.{◌≡◌, ◌<◌, ◌+◌, ◌*◌, ℕ, List, [], ◌∷◌, ◌++◌, length, get_or, map, take, sym, ◌∙◌, ap, arith}
use Rattle.std.specs.List.{All}
use Rattle.std.proofs.lemmas.List.{get_or-map, length-map, map-append, same_lists, take_more}
use Rattle.std.proofs.lemmas.List.Concat.{flat_map-append}
use Rattle.chain_terms.specs.Chains.{all_edges, edges}
use Rattle.chain_terms.specs.Ranks.{start}
use Rattle.chain_terms.specs.Sums.{upto}
use Rattle.halfedge.proofs.Edges.{length-all_edges}
use Rattle.halfedge.proofs.Listed.{listed}
use Rattle.chain_laws.proofs.Places.{length-up_from}
use Rattle.mesh_terms.specs.Meshes.{IsBelow, Triple, triple_of, triples_of}
use Rattle.pinch_split.proofs.Whole.{start_below}
use Rattle.places_by_key.proofs.Upto.{get_or-map-upto, length-map-upto}
use Rattle.sheet_terms.specs.Vertices.{first_as}
use Rattle.fan_laws.proofs.Members.{first_not_behind}

-- as many half-edges as three a triangle
pub edge_count : (ts : List (List ℕ)) → length (all_edges (triples_of ts)) ≡ 3 * length ts
edge_count ts = length-all_edges (triples_of ts) ∙ ap (λ n. 3 * n) (length-map ts triple_of)

-- one triangle more
edges_more : (ts : List (List ℕ)) (i a b c : ℕ) → i < length ts → triple_of (get_or ts i []) ≡ (a, b, c) →
    all_edges (triples_of (take (i + 1) ts)) ≡ all_edges (triples_of (take i ts)) ++ (a, b) ∷ (b, c) ∷ (c, a) ∷ []
edges_more ts i a b c low is =
    ap (λ l. all_edges (triples_of l)) (take_more ts i [] low) ∙ ap all_edges (map-append triple_of (take i ts) (get_or ts i [] ∷ []))
    ∙ flat_map-append edges (triples_of (take i ts)) (triple_of (get_or ts i []) ∷ []) ∙ ap (λ (t : Triple). all_edges (triples_of (take i ts)) ++ edges t) is

pub edges_step : (ts : List (List ℕ)) (i a b c : ℕ) (old new : List (ℕ × ℕ)) → i < length ts → triple_of (get_or ts i []) ≡ (a, b, c) →
    old ≡ all_edges (triples_of (take i ts)) → new ≡ old ++ (a, b) ∷ (b, c) ∷ (c, a) ∷ [] → new ≡ all_edges (triples_of (take (i + 1) ts))
edges_step ts i a b c old new low is before after =
    after ∙ ap (λ l. l ++ (a, b) ∷ (b, c) ∷ (c, a) ∷ []) before ∙ sym (edges_more ts i a b c low is)

pub starts_step : (ts : List (List ℕ)) (i a b c : ℕ) (old new : List ℕ) → i < length ts → triple_of (get_or ts i []) ≡ (a, b, c) →
    old ≡ map (λ e. e.0) (all_edges (triples_of (take i ts))) → new ≡ old ++ a ∷ b ∷ c ∷ [] → new ≡ map (λ e. e.0) (all_edges (triples_of (take (i + 1) ts)))
starts_step ts i a b c old new low is before after =
    after ∙ ap (λ l. l ++ a ∷ b ∷ c ∷ []) before ∙ sym (map-append (λ e. e.0) (all_edges (triples_of (take i ts))) ((a, b) ∷ (b, c) ∷ (c, a) ∷ []))
    ∙ ap (map (λ e. e.0)) (sym (edges_more ts i a b c low is))

-- where all start
pub starts_listed : (es : List (ℕ × ℕ)) → map (λ e. e.0) es ≡ map (start es) (upto (length es))
starts_listed es =
    same_lists (map (λ e. e.0) es) (map (start es) (upto (length es))) (length-map es (λ e. e.0) ∙ sym (length-map (upto (length es)) (start es) ∙ length-up_from 0 (length es)))
    (λ k d low.
    let within : k < length es = omega (arith, low, length-map es (λ (e : ℕ × ℕ). e.0)) in
    get_or-map (λ e. e.0) es k (0, 0) d within ∙ sym (listed (start es) (length es) k d within))

-- the first that is the same is one of the pairs
pub firsts_low : (pairs : List (ℕ × ℕ)) (firsts : List ℕ) → firsts ≡ map (first_as pairs) (upto (length pairs)) → All (λ k. k < length pairs) firsts
firsts_low pairs firsts is k d low =
    let many : length firsts ≡ length pairs = ap length is ∙ length-map-upto (first_as pairs) (length pairs) in
    let k_low : k < length pairs = omega (arith, low, many) in
    let here : get_or firsts k d ≡ first_as pairs k = ap (λ l. get_or l k d) is ∙ get_or-map-upto (first_as pairs) (length pairs) k d k_low in
    omega (arith, here, first_not_behind pairs k k_low, k_low)

pub firsts_many : (pairs : List (ℕ × ℕ)) (firsts : List ℕ) → firsts ≡ map (first_as pairs) (upto (length pairs)) → length firsts ≡ length pairs
firsts_many pairs firsts is = ap length is ∙ length-map-upto (first_as pairs) (length pairs)

-- all start at places
pub starts_low : (n : ℕ) (ts : List Triple) → All (IsBelow n) ts → (starts : List ℕ) → starts ≡ map (start (all_edges ts)) (upto (length (all_edges ts))) → All (λ v. v < n) starts
starts_low n ts below starts is k d low =
    let es = all_edges ts in
    let many : length starts ≡ length es = ap length is ∙ length-map-upto (start es) (length es) in
    let k_low : k < length es = omega (arith, low, many) in
    let here : get_or starts k d ≡ start es k = ap (λ l. get_or l k d) is ∙ get_or-map-upto (start es) (length es) k d k_low in
    omega (arith, here, start_below n ts below k k_low)

pub starts_many : (ts : List Triple) (starts : List ℕ) → starts ≡ map (start (all_edges ts)) (upto (length (all_edges ts))) → length starts ≡ length (all_edges ts)
starts_many ts starts is = ap length is ∙ length-map-upto (start (all_edges ts)) (length (all_edges ts))

-- one value more in a list of values
pub map_step : (f : ℕ → ℕ) (xs : List ℕ) (i x v : ℕ) (old new : List ℕ) → i < length xs → get_or xs i 0 ≡ x → old ≡ map f (take i xs) → new ≡ old ++ v ∷ [] → v ≡ f x →
    new ≡ map f (take (i + 1) xs)
map_step f xs i x v old new low is before after value =
    after ∙ ap (λ l. l ++ v ∷ []) before ∙ ap (λ w. map f (take i xs) ++ w ∷ []) (value ∙ ap f (sym is)) ∙ sym (map-append f (take i xs) (get_or xs i 0 ∷ []))
    ∙ ap (map f) (sym (take_more xs i 0 low))
