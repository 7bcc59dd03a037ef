-- The numbers of two outlines, of their sides.
use Rattle.std.proofs.Common.{◌≡◌, ◌≤◌, ℕ, ℤ, pos, negsuc, neg_ℤ, [], ◌∷◌, map, refl, ap, arith}
use Rattle.std.specs.Prelude.{◌≤ℤ◌, nat_abs}
use Rattle.std.specs.List.{All}
use Rattle.std.proofs.lemmas.Int.{ints}
use Rattle.std.proofs.lemmas.List.Elements.{All-weaker}
use Rattle.chain_laws.specs.Sums.{total-neg}
use Rattle.mb_base.specs.declared.op.Op.{Op}
use Rattle.mb_base.specs.declared.point.Corner.{Corner}
use Rattle.shadow_kernels.specs.Counts.{count_of, shadow_of}
use Rattle.outline_terms.specs.Outlines.{IsOutline, Outline}
use Rattle.outline_terms.proofs.Edges.{edge_from}
use Rattle.outline_pair_terms.specs.Numbers.{FlatSide, FlatTests, LiftEdges, edge_at, ends_of, flat_hits, flat_number, flat_winding_back, p_flat, q_flat}
use Rattle.outline_pair_terms.proofs.Prescribed.{IsHit, all_hits}
use Rattle.outline_pair_terms.proofs.Whole.{p_corners, q_corners}
use Rattle.cross_section.specs.Walks.{ChangesAlong, IsWhole, winding_of}
use Rattle.cross_section.proofs.Walking.{p_changes, q_changes}

-- each corner of an outline's side starts an edge
pub p_whole : (op : Op) (o : Outline) → IsOutline o → IsWhole (p_flat op o)
p_whole op o is = record { starts = λ v low. edge_from o is v (omega (arith, low, p_corners op o)) }

pub q_whole : (o : Outline) → IsOutline o → IsWhole (q_flat o)
q_whole o is = record { starts = λ v low. edge_from o is v (omega (arith, low, q_corners o)) }

-- winding numbers change along any way by the crossings
pub p_walk : (t : FlatTests) (op : Op) (p q : Outline) → LiftEdges t (p_flat op p).corners (q_flat q).corners →
    ChangesAlong (λ c e. shadow_of (t.vertex_edge (c ∷ []) e)) (λ way e. count_of (t.edge_edge way e)) (p_flat op p) (q_flat q)
p_walk t op p q lift = p_changes t (p_flat op p) (q_flat q) q.loops (record { edges = refl }) lift

pub q_walk : (t : FlatTests) (op : Op) (p q : Outline) → LiftEdges t (p_flat op p).corners (q_flat q).corners →
    ChangesAlong (λ c e. neg_ℤ (shadow_of (t.edge_vertex e (c ∷ [])))) (λ way e. neg_ℤ (count_of (t.edge_edge e way))) (q_flat q) (p_flat op p)
q_walk t op p q lift = q_changes t (p_flat op p) (q_flat q) p.loops (record { edges = refl }) lift

-- a sum of turned parts is the turned sum
pub turned_parts : (t : FlatTests) (p q : FlatSide) →
    map (winding_of (λ c e. neg_ℤ (shadow_of (t.edge_vertex e (c ∷ [])))) p) q.corners ≡ map (λ c. flat_winding_back t p c) q.corners
turned_parts t p q =
    let same : (λ (c : Corner). winding_of (λ k e. neg_ℤ (shadow_of (t.edge_vertex e (k ∷ [])))) p c)
    ≡ (λ (c : Corner). flat_winding_back t p c) = λ i c. total-neg (λ e. shadow_of (t.edge_vertex (ends_of p e) (c ∷ []))) p.edges i in
    ap (λ f. map f q.corners) same

-- a hit's number is that of two edges
pub hits_small : (t : FlatTests) (settle : ℤ → ℤ) (p q : FlatSide) →
    ((e f : ℕ × ℕ) → (negsuc 0 ≤ℤ flat_number t p q e f) × (flat_number t p q e f ≤ℤ pos 1)) → All (λ h. nat_abs h.number ≤ 1) (flat_hits t.edge_edge settle p q)
hits_small t settle p q small =
    All-weaker (IsHit t settle p q)
    (λ h. nat_abs h.number ≤ 1) (λ h is. let s = small (edge_at p h.p_edge) (edge_at q h.q_edge) in omega (arith, ints, s.0, s.1, is.number))
    (flat_hits t.edge_edge settle p q) (all_hits t settle p q)
