use Rattle.std.proofs.Common.{◌+◌, ℕ, arith, subst, sym, ◌∙◌}
use Rattle.std.specs.Prelude.{◌≡◌, ◌<◌, Bool, List, length, get_or}
use Rattle.face_plane.specs.Rings.{vertex_after, vertex_at}
use Rattle.mesh_terms.specs.OpenEdges.{is_lesser}
use Rattle.chain_laws.proofs.Paths.{length-round_edges}
use Rattle.chain_terms.specs.Paths.{round_edges}
use Rattle.plane_filling.proofs.Edges.{IsLeastOf, edge_at, least_of_all, less_more, not_less_more}
use Rattle.plane_filling.proofs.starts.least_edge.Goals as goal
use Rattle.plane_filling.proofs.starts.least_edge.Goals.{then-is_lesser_edge, else-is_lesser_edge}

-- the test of two edges of a walk
tested : (walk : List ℕ) (i j : ℕ) (b : Bool) → i < length walk → j < length walk →
    b ≡ is_lesser (vertex_at walk i, vertex_after walk i) (vertex_at walk j, vertex_after walk j) →
    is_lesser (get_or (round_edges walk) i (0, 0)) (get_or (round_edges walk) j (0, 0)) ≡ b
tested walk i j b low high is = (λ k. is_lesser (edge_at walk i (0, 0) low k) (edge_at walk j (0, 0) high k)) ∙ sym is

pub loop-i-preserved : goal.loop-i-preserved
loop-i-preserved c =
    let walk = c.args.walk.now in
    let es = round_edges walk in
    let i = c.loop-i.i in
    let least = c.loop-i.least in
    let h = c.loop-i.invariant in
    let low : i < length walk = c.loop-i-test.true in
    let test = tested walk i least c.is_lesser_edge.result low (omega (arith, h.within, low)) c.is_lesser_edge.ensures in
    let P : ℕ → Type 0 = IsLeastOf es (c.loop-i.i + 1) in
    elim c.if-is_lesser_edge.branch [
      | then-is_lesser_edge w ↦
          subst P (sym w.least-is) (less_more es i least h (test ∙ w.if-is_lesser_edge.true))
      | else-is_lesser_edge w ↦
          subst P (sym w.least-is) (not_less_more es i least h (test ∙ w.if-is_lesser_edge.false))
    ]

pub returns-clause-value : goal.returns-clause-value
returns-clause-value c =
    let walk = c.args.walk.now in
    let end : c.loop-i.i ≡ length (round_edges walk) = omega (arith, c.loop-i-test.false, length-round_edges walk, c.loop-i.auto.i-end) in
    least_of_all (round_edges walk) c.loop-i.least (subst (λ i. IsLeastOf (round_edges walk) i c.loop-i.least) end c.loop-i.invariant)
