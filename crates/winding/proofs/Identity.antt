-- The edge identity: along a half-edge the winding number changes by its crossings with all faces.
use Rattle.std.proofs.Common.{◌≡◌, ℕ, ◌<◌, ℤ, pos, neg_ℤ, ◌-ℤ◌, List, length, get_or, map, arith, ap, sym, ◌∙◌}
use Rattle.std.proofs.lemmas.Int.{ints}
use Rattle.std.proofs.lemmas.List.{get_or-map}
use Rattle.std.specs.List.{All}
use Rattle.chain_terms.specs.Chains.{all_edges}
use Rattle.chain_terms.specs.Sums.{total}
use Rattle.chain_terms.specs.Odd.{IsOdd}
use Rattle.chain_laws.specs.Identities.{crossing}
use Rattle.chain_terms.specs.Ranks.{start, finish}
use Rattle.chain_laws.specs.Sums.{total-same}
use Rattle.chain_laws.proofs.Identities.{edge_identity}
use Rattle.chain_laws.proofs.Places.{total-places, total-upto_same}
use Rattle.mesh_terms.specs.Halves.{next_half}
use Rattle.halfedge.proofs.Edges.{length-all_edges, next_below, next_starts}
use Rattle.mb_base.specs.declared.point.Corner.{Corner}
use Rattle.mb_base.specs.declared.results.Hit.{Hit}
use Rattle.mesh_terms.specs.Meshes.{Triple, IsBelow}
use Rattle.side_terms.specs.Corners.{corner_at, blank_corner}
use Rattle.side_terms.specs.Sides.{Side, IsSide}
use Rattle.lean.proofs.Triangles.{start_below}
use Rattle.crossings.specs.Hits.{CrossingTest, hits_of}
use Rattle.side_terms.specs.Conservation.{half_number, EdgeIdentity}
use Rattle.crossings.proofs.Numbers.{edge_number, Turns, half_number_is}
use Rattle.crossings.proofs.Rounds.{Lifts}

-- a half-edge ends at one of the vertices
finish_below : (n : ℕ) (ts : List Triple) (h : ℕ) → All (IsBelow n) ts → h < length (all_edges ts) → finish (all_edges ts) h < n
finish_below n ts h all below =
    let next = next_starts ts h below in
    omega (arith, next, start_below n ts (next_half h) all (omega (arith, next_below ts h below, length-all_edges ts)))

-- between any two corners of a side the winding number changes by minus the numbers of the segment with all faces, whether it is an edge or not
pub crossings_sum : (edges_side faces : Side) (test : CrossingTest) (ends : Triple → ℕ → ℤ) (sides : ℕ → ℕ → (ℕ × ℕ) → ℤ) → IsSide faces → Lifts test edges_side faces ends sides →
    ((a b : ℕ) → IsOdd (λ c d. sides a b (c, d))) → (a b : ℕ) →
    (neg_ℤ (total (λ t. ends t b) faces.triples) -ℤ neg_ℤ (total (λ t. ends t a) faces.triples)) ≡ neg_ℤ (total (λ t. edge_number test edges_side faces t a b) faces.triples)
crossings_sum edges_side faces test ends sides known lifts odd a b =
    let gs = faces.triples in
    edge_identity (λ v t. ends t v) (λ a b c d. sides a b (c, d)) odd gs known.accepted.closed a b
    ∙ ap neg_ℤ (total-same (crossing (λ v t. ends t v) (λ a b c d. sides a b (c, d)) a b) (λ t. edge_number test edges_side faces t a b) (λ t. sym (lifts t a b)) gs)

-- along each half-edge, on the numbers that hits give
pub edges_conserve : (edges_side faces : Side) (test : CrossingTest) (ends : Triple → ℕ → ℤ) (sides : ℕ → ℕ → (ℕ × ℕ) → ℤ) (hits : List Hit) (w : ℕ → ℤ) →
    IsSide edges_side → IsSide faces →
    Turns test edges_side faces → Lifts test edges_side faces ends sides → ((a b : ℕ) → IsOdd (λ c d. sides a b (c, d))) → hits ≡ hits_of test edges_side faces →
    ((v : ℕ) → v < length edges_side.corners → w v ≡ neg_ℤ (total (λ t. ends t v) faces.triples)) →
    EdgeIdentity (all_edges edges_side.triples) (length faces.triples) w (half_number (all_edges edges_side.triples) hits)
edges_conserve edges_side faces test ends sides hits w known faces_known turns lifts odd found winding = record {
  along = λ h below.
      let es = all_edges edges_side.triples in
      let gs = faces.triples in
      let a = start es h in
      let b = finish es h in
      let n = length edges_side.corners in
      let a_below : a < n = start_below n edges_side.triples h known.accepted.mesh.below (omega (arith, below, length-all_edges edges_side.triples)) in
      let b_below : b < n = finish_below n edges_side.triples h known.accepted.mesh.below below in
      let number : Triple → ℤ = λ t. edge_number test edges_side faces t a b in
      let by_face = total-places number (0, 0, 0) gs in
      let listed = total-upto_same (half_number es hits h) (λ f. number (get_or gs f (0, 0, 0))) (length gs)
      (λ f f_below. ap (λ l. half_number es l h f) found ∙ half_number_is test edges_side faces known turns h f below f_below) in
      omega (arith, ints, winding a a_below, winding b b_below, crossings_sum edges_side faces test ends sides faces_known lifts odd a b, by_face, listed);
}

-- the value that a list of winding numbers has at a vertex
pub winding_listed : (f : Corner → ℤ) (corners : List Corner) (ws : List ℤ) → ws ≡ map f corners → (v : ℕ) → v < length corners → get_or ws v (pos 0) ≡ f (corner_at corners v)
winding_listed f corners ws e v below = ap (λ l. get_or l v (pos 0)) e ∙ get_or-map f corners v blank_corner (pos 0) below
