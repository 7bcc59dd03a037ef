use Rattle.std.proofs.Common.{◌≡◌, ℕ, List, subst}
use Rattle.std.specs.Prelude.{IfOk}
use Rattle.face_plane.specs.Planes.{face_plane}
use Rattle.ring_cutting.specs.Cuts.{cut_ring}
use Rattle.ring_cutting.specs.Placed.{vertices_of}
use Rattle.ring_cutting.proofs.cutting.cut_ring_long_from.Goals as goal

pub returns-then-len-long : goal.returns-then-len-long
returns-then-len-long c =
    let at = face_plane c.args.plane.drop c.args.turned c.args.points.now in
    let ring : vertices_of c.in_ok-places.places.items ≡ c.args.ring = c.in_ok-places.ensures.vertices in
    subst (λ (r : List ℕ). IfOk c.cut_down.result (λ f. f ≡ cut_ring at r)) ring (c.cut_down.ensures at c.in_ok-places.ensures.at)
