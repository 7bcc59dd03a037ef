-- The pair identity on the numbers by half-edge.
use Rattle.std.proofs.Common.{◌≡◌, ℕ, ◌+◌, ◌*◌, ◌<◌, ℤ, ◌-ℤ◌, List, length, get_or, arith, ap, sym, ◌∙◌}
use Rattle.std.proofs.lemmas.Int.{ints}
use Rattle.chain_terms.specs.Chains.{edges, all_edges}
use Rattle.chain_terms.specs.Sums.{total, upto}
use Rattle.chain_terms.specs.Odd.{along}
use Rattle.chain_terms.specs.Ranks.{start, finish}
use Rattle.chain_laws.specs.Sums.{total-same}
use Rattle.chain_laws.proofs.Identities.{pair_identity}
use Rattle.halfedge.proofs.Edges.{length-all_edges}
use Rattle.mesh_terms.specs.Meshes.{Triple}
use Rattle.side_terms.specs.Sides.{Side, IsSide}
use Rattle.lean.proofs.Triangles.{half_of_face}
use Rattle.crossings.specs.Hits.{CrossingTest, hits_of}
use Rattle.side_terms.specs.Conservation.{half_number, PairIdentity}
use Rattle.crossings.proofs.Numbers.{edge_number, Turns, half_number_is}

-- numbers of half-edges that are those of their ends, added up round a triangle
round_face : (number : ℕ → ℕ → ℤ) (n : ℕ → ℤ) (ts : List Triple) (f : ℕ) → f < length ts →
    ((h : ℕ) → h < length (all_edges ts) → n h ≡ number (start (all_edges ts) h) (finish (all_edges ts) h)) →
    total (λ i. n (3 * f + i)) (upto 3) ≡ total (along number) (edges (get_or ts f (0, 0, 0)))
round_face number n ts f below each =
    let at : (i : ℕ) → i < 3 → n (3 * f + i) ≡ along number (get_or (edges (get_or ts f (0, 0, 0))) i (0, 0)) =
    λ i three. each (3 * f + i) (omega (arith, below, three, length-all_edges ts)) ∙ ap (along number) (half_of_face ts f i below three) in
    omega (arith, ints, at 0 (omega arith), at 1 (omega arith), at 2 (omega arith))

-- the number of an edge and a triangle by the shadows of the ends, and of the edge on the triangle's edges
abbrev pub Lifts : CrossingTest → Side → Side → (Triple → ℕ → ℤ) → (ℕ → ℕ → (ℕ × ℕ) → ℤ) → Type 0
Lifts test side faces ends sides = (t : Triple) (a b : ℕ) → edge_number test side faces t a b ≡ (ends t b -ℤ ends t a) -ℤ total (sides a b) (edges t)

-- the sum round a triangle of P, with a triangle of Q, is that round the triangle of Q
pub pairs_agree : (p q : Side) (test12 test21 : CrossingTest) (up down : Triple → ℕ → ℤ) (sides : (ℕ × ℕ) → (ℕ × ℕ) → ℤ) → IsSide p → IsSide q →
    Turns test12 p q → Turns test21 q p → Lifts test12 p q up (λ a b. sides (a, b)) → Lifts test21 q p down (λ c d e. sides e (c, d)) →
    PairIdentity (length p.triples) (length q.triples) (half_number (all_edges p.triples) (hits_of test12 p q)) (half_number (all_edges q.triples) (hits_of test21 q p))
pairs_agree p q test12 test21 up down sides p_known q_known turn12 turn21 lift12 lift21 = record {
  same = λ f g f_below g_below.
      let s = get_or p.triples f (0, 0, 0) in
      let t = get_or q.triples g (0, 0, 0) in
      let round_p = round_face (edge_number test12 p q t) (λ h. half_number (all_edges p.triples) (hits_of test12 p q) h g) p.triples f f_below
      (λ h inside. half_number_is test12 p q p_known turn12 h g inside g_below) in
      let round_q = round_face (edge_number test21 q p s) (λ h. half_number (all_edges q.triples) (hits_of test21 q p) h f) q.triples g g_below
      (λ h inside. half_number_is test21 q p q_known turn21 h f inside f_below) in
      let lifted_p = total-same (along (edge_number test12 p q t)) (λ e. (up t e.1 -ℤ up t e.0) -ℤ total (sides e) (edges t)) (λ e. lift12 t e.0 e.1) (edges s) in
      let lifted_q = total-same (along (edge_number test21 q p s)) (λ d. (down s d.1 -ℤ down s d.0) -ℤ total (λ e. sides e d) (edges s)) (λ d. lift21 s d.0 d.1) (edges t) in
      round_p ∙ lifted_p ∙ pair_identity (up t) (down s) sides s t ∙ sym (round_q ∙ lifted_q);
}
