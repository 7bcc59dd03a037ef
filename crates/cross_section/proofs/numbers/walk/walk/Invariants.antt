use Rattle.std.proofs.Common.{◌≡◌, ◌≤◌, length}
use Rattle.side_terms.specs.Corners.{corner_at}
use Rattle.cross_section.specs.Walks.{winding_of}
use Rattle.cross_section.proofs.Walking.{AreKnown}
use Rattle.cross_section.proofs.numbers.walk.walk.Given as goal

abbrev pub invariant-loop-place : goal.invariant-loop-place
invariant-loop-place g l =
    let number = winding_of (g.T.EdgeTests.part_of l.tests) l.edges in
    record {
      begun : l.begin ≤ l.place;
      full : length l.numbers.items ≡ length l.vertices.corners;
      known : AreKnown (λ v. number (corner_at l.vertices.corners v)) l.list l.place l.numbers.items;
    }
