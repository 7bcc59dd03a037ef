-- The triangles of an extrusion are closed.
use Rattle.std.proofs.Common.{◌≡◌, ℕ, ◌+◌, ℤ, neg_ℤ, List, [], ◌∷◌, ◌++◌, map, refl, ap, ◌∙◌, arith}
use Rattle.std.specs.Prelude.{◌+ℤ◌, ◌-ℤ◌}
use Rattle.std.specs.List.{flat_map}
use Rattle.std.proofs.lemmas.Int.{ints}
use Rattle.chain_terms.specs.Chains.{all_edges, IsClosed}
use Rattle.chain_terms.specs.Odd.{IsOdd, SameChain, along}
use Rattle.chain_terms.specs.Paths.{round_edges}
use Rattle.chain_terms.specs.Sums.{total}
use Rattle.chain_laws.specs.Chains.{closed_from_sums, odd-renamed, renamed, total-backward}
use Rattle.chain_laws.specs.Sums.{total-append, total-map}
use Rattle.chain_laws.specs.Triples.{all_edges-append, all_edges-opposite, all_edges-renamed, opposite_triple, renamed_triple}
use Rattle.mesh_terms.specs.Meshes.{Triple}
use Rattle.outline_terms.specs.Extrusion.{extruded_triples, walls}
use Rattle.outline_terms.proofs.Rounds.{loop_differences}

-- the walls: the edges below, less those above, and what goes up at each vertex
walls_sum : (n : ℕ) (f : ℕ → ℕ → ℤ) → IsOdd f → (es : List (ℕ × ℕ)) →
    total (along f) (all_edges (flat_map (walls n) es)) ≡ (total (along f) es -ℤ total (λ e. f (e.0 + n) (e.1 + n)) es) +ℤ total (λ e. f e.1 (e.1 + n) -ℤ f e.0 (e.0 + n)) es
walls_sum n f odd [] = refl
walls_sum n f odd (e ∷ es) =
    let a = e.0 in
    let b = e.1 in
    let joined = ap (total (along f)) (all_edges-append (walls n e) (flat_map (walls n) es)) ∙ total-append (along f) (all_edges (walls n e)) (all_edges (flat_map (walls n) es)) in
    omega (arith, ints, joined, walls_sum n f odd es, odd.turns (b + n) a, odd.turns (b + n) (a + n), odd.turns (a + n) a)

-- the sums of odd functions over all three parts
extrusion_sums : (n : ℕ) (ts : List Triple) (loops : List (List ℕ)) → SameChain (all_edges ts) (flat_map round_edges loops) →
    SameChain (all_edges (extruded_triples n ts (flat_map round_edges loops))) []
extrusion_sums n ts loops same f odd =
    let es = flat_map round_edges loops in
    let bottom = map opposite_triple ts in
    let r : ℕ → ℕ = λ v. v + n in
    let top = map (renamed_triple r) ts in
    let sides = flat_map (walls n) es in
    let rest = ap (total (along f)) (all_edges-append top sides) ∙ total-append (along f) (all_edges top) (all_edges sides) in
    let whole = ap (total (along f)) (all_edges-append bottom (top ++ sides)) ∙ total-append (along f) (all_edges bottom) (all_edges (top ++ sides)) in
    let low : total (along f) (all_edges bottom) ≡ neg_ℤ (total (along f) es) = all_edges-opposite ts f odd ∙ total-backward f odd (all_edges ts) ∙ ap neg_ℤ (same f odd) in
    let high : total (along f) (all_edges top) ≡ total (λ e. f (e.0 + n) (e.1 + n)) es =
    ap (total (along f)) (all_edges-renamed r ts) ∙ total-map (along f) (renamed r) (all_edges ts) ∙ same (λ a b. f (a + n) (b + n)) (odd-renamed r f odd) in
    omega (arith, ints, whole, rest, low, high, walls_sum n f odd es, loop_differences (λ v. f v (v + n)) loops)

pub extrusion_closed : (n : ℕ) (ts : List Triple) (loops : List (List ℕ)) →
    SameChain (all_edges ts) (flat_map round_edges loops) → IsClosed (all_edges (extruded_triples n ts (flat_map round_edges loops)))
extrusion_closed n ts loops same = closed_from_sums (all_edges (extruded_triples n ts (flat_map round_edges loops))) (extrusion_sums n ts loops same)
