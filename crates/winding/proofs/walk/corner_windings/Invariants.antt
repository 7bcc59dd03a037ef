use Rattle.std.proofs.Common.{◌≡◌, ◌≤◌, ◌+◌, ℕ, ℤ, IfSome, List, length, take}
use Rattle.chain_terms.specs.Chains.{all_edges}
use Rattle.spanning_forest.specs.declared.entrance.Entrance.{Entrance}
use Rattle.spanning_forest.specs.Forests.{roots_of, vertices_of}
use Rattle.winding.specs.Segments.{IsKnown}
use Rattle.winding.specs.Windings.{minus_shadows, number_at}
use Rattle.winding.proofs.Known.{AreKnown}
use Rattle.winding.proofs.walk.corner_windings.Given as goal

abbrev pub invariant-loop-entrance : goal.invariant-loop-entrance
invariant-loop-entrance g l =
    let number : ℕ → ℤ = number_at (g.S.VertexFace.vertex_shadow l.shadows) l.vertices l.faces in
    let before : List Entrance = take l.entrance-index l.entrance-items in
    record {
      full : length l.numbers.items ≡ length l.vertices.corners;
      known : AreKnown number l.numbers.items (vertices_of (all_edges l.vertices.triples) before);
      cost : l.steps ≤ l.fn.steps + length (roots_of before);
      from : IfSome l.known (IsKnown (λ c. minus_shadows (g.S.VertexFace.vertex_shadow l.shadows c) l.faces) (length l.faces.triples));
    }
