-- Winding numbers of outlines change along edges by the crossings.
use Rattle.std.proofs.Common.{◌≡◌, ℕ, ℤ, pos, List, [], ◌∷◌, ap, ◌∙◌, arith}
use Rattle.std.specs.Prelude.{◌+ℤ◌, ◌-ℤ◌}
use Rattle.std.specs.List.{flat_map}
use Rattle.std.proofs.lemmas.Int.{ints}
use Rattle.chain_terms.specs.Paths.{round_edges}
use Rattle.chain_terms.specs.Sums.{total}
use Rattle.chain_laws.specs.Sums.{total-add, total-same, total-sub}
use Rattle.side_terms.specs.Corners.{corner_at}
use Rattle.shadow_kernels.specs.Counts.{shadow_of}
use Rattle.outline_terms.proofs.Rounds.{loop_differences}
use Rattle.outline_pair_terms.specs.Laws.{HasLoops}
use Rattle.outline_pair_terms.specs.Numbers.{FlatSide, FlatTests, LiftEdges, ends_of, flat_number, flat_winding, flat_winding_back}

-- a number that is a difference of two functions of the edge and one of its ends adds up to the first difference
pub telescope : (es : List (ℕ × ℕ)) (loops : List (List ℕ)) → es ≡ flat_map round_edges loops → (number high low : (ℕ × ℕ) → ℤ) (g : ℕ → ℤ) →
    ((e : ℕ × ℕ) → number e ≡ (high e -ℤ low e) +ℤ (g e.1 -ℤ g e.0)) → total number es ≡ total high es -ℤ total low es
telescope es loops is number high low g each =
    let around : total (λ e. g e.1 -ℤ g e.0) es ≡ pos 0 = ap (total (λ e. g e.1 -ℤ g e.0)) is ∙ loop_differences g loops in
    omega (
      arith,
      ints,
      around,
      total-same number (λ e. (high e -ℤ low e) +ℤ (g e.1 -ℤ g e.0)) each es,
      total-add (λ e. high e -ℤ low e) (λ e. g e.1 -ℤ g e.0) es,
      total-sub high low es,
    )

pub edges_conserve : (t : FlatTests) (p q : FlatSide) (loops : List (List ℕ)) → HasLoops q loops → LiftEdges t p.corners q.corners → (a b : ℕ) →
    flat_winding t (corner_at p.corners b) q ≡ flat_winding t (corner_at p.corners a) q +ℤ total (flat_number t p q (a, b)) q.edges
edges_conserve t p q loops h lift a b =
    let sum = telescope q.edges loops h.edges (flat_number t p q (a, b)) (λ e. shadow_of (t.vertex_edge (corner_at p.corners b ∷ []) (ends_of q e)))
    (λ e. shadow_of (t.vertex_edge (corner_at p.corners a ∷ []) (ends_of q e)))
    (λ v. shadow_of (t.edge_vertex (ends_of p (a, b)) (corner_at q.corners v ∷ []))) (λ e. omega (arith, ints, lift a b e.0 e.1)) in
    omega (arith, ints, sum)

pub edges_conserve_back : (t : FlatTests) (p q : FlatSide) (loops : List (List ℕ)) → HasLoops p loops → LiftEdges t p.corners q.corners → (c d : ℕ) →
    flat_winding_back t p (corner_at q.corners d) ≡ flat_winding_back t p (corner_at q.corners c) -ℤ total (λ e. flat_number t p q e (c, d)) p.edges
edges_conserve_back t p q loops h lift c d =
    let sum = telescope p.edges loops h.edges (λ e. flat_number t p q e (c, d))
    (λ e. shadow_of (t.edge_vertex (ends_of p e) (corner_at q.corners d ∷ []))) (λ e. shadow_of (t.edge_vertex (ends_of p e) (corner_at q.corners c ∷ [])))
    (λ v. shadow_of (t.vertex_edge (corner_at p.corners v ∷ []) (ends_of q (c, d)))) (λ e. omega (arith, ints, lift e.0 e.1 c d)) in
    omega (arith, ints, sum)
