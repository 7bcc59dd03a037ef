use Rattle.std.proofs.Common.{◌≡◌, Bool, false, rules}
use Rattle.std.specs.Prelude.{IsTrue}
use Rattle.face_plane.specs.Planes.{face_plane}
use Rattle.plane_filling.proofs.Unforced.{no_ring_forced}
use Rattle.plane_filling.proofs.rings.cut_one.Goals as goal

pub returns-then-not-is_ring : goal.returns-then-not-is_ring
returns-then-not-is_ring c =
    no_ring_forced (face_plane c.args.plane.drop c.args.turned c.args.points.now) c.args.ring (λ ringy. no c.is_ring.result c.if-not-is_ring.true (c.is_ring.ensures.ring.1 ringy))
  where
    no : (t : Bool) → t ≡ false → IsTrue t → ⊥
    no t n y = search rules
