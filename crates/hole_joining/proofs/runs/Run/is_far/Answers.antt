use Rattle.std.proofs.Common.{ℤ, pos, arith, ap, ◌∙◌}
use Rattle.std.specs.Prelude.{◌≤ℤ◌}
use Rattle.std.specs.Int.{int_min}
use Rattle.std.proofs.lemmas.Bool.{leb-true}
use Rattle.std.proofs.lemmas.Int.{ints}
use Rattle.face_plane.specs.Planes.{squared_distance}
use Rattle.hole_joining.proofs.Following.{nearest_first}
use Rattle.hole_joining.proofs.runs.Run.is_far.Goals as goal

pub returns-in-Some : goal.returns-in-Some
returns-in-Some c = λ y p round.
    let r = c.args.self.now in
    let from = c.args.from in
    let near = c.lesser-nearest.ensures ∙ ap (λ (q : ℤ × ℤ). (int_min q.0 r.high.0, int_min q.1 r.high.1)) c.greater.ensures in
    let far = c.squared_distance.ensures ∙ ap (squared_distance from) near in
    let short = leb-true c.in-Some.bridge.squared_length c.squared_distance.result y in
    let told : pos c.in-Some.bridge.squared_length ≤ℤ squared_distance from p = omega (arith, ints, far, short, nearest_first r from p round) in
    rw c.in-Some.is told
