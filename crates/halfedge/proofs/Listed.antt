-- The list of twins, read at a half-edge.
use Rattle.std.proofs.Common.{◌≡◌, ◌<◌, ◌+◌, ◌*◌, ℕ, List, length, get_or, map, ◌∙◌, ap, arith}
use Rattle.std.proofs.lemmas.List.{length-map, get_or-map}
use Rattle.chain_terms.specs.Chains.{all_edges}
use Rattle.chain_terms.specs.Sums.{upto}
use Rattle.chain_terms.specs.Ranks.{twin}
use Rattle.chain_laws.proofs.Places.{get_or-up_from, length-up_from}
use Rattle.mesh_terms.specs.Meshes.{Triple}
use Rattle.mesh_terms.specs.Twins.{IsTwinned}
use Rattle.halfedge.proofs.Edges.{length-all_edges}

-- a function of the numbers below n, read at one of them
pub listed : (f : ℕ → ℕ) (n i d : ℕ) → i < n → get_or (map f (upto n)) i d ≡ f i
listed f n i d below =
    let first : 0 + i ≡ i = omega arith in
    get_or-map f (upto n) i d d (omega (arith, below, length-up_from 0 n)) ∙ ap f (get_or-up_from 0 n i d below ∙ first)

-- as many as half-edges
pub length-twins : (ts : List Triple) (twins : List ℕ) → IsTwinned ts twins → length twins ≡ 3 * length ts
length-twins ts twins known =
    let es = all_edges ts in
    ap length known.each ∙ length-map (upto (length es)) (twin es) ∙ length-up_from 0 (length es) ∙ length-all_edges ts

-- the list has the twin
pub twin_listed : (ts : List Triple) (twins : List ℕ) → IsTwinned ts twins → (h d : ℕ) → h < 3 * length ts → get_or twins h d ≡ twin (all_edges ts) h
twin_listed ts twins known h d below =
    let es = all_edges ts in
    ap (λ l. get_or l h d) known.each ∙ listed (twin es) (length es) h d (omega (arith, below, length-all_edges ts))
