use Rattle.std.proofs.Common.{arith}
use Rattle.face_loops.specs.Segments.{edges_of}
use Rattle.face_loops.proofs.Marks.{goes_on, none_goes_on, marked_alone}
use Rattle.face_loops.proofs.Reading.{length-edges_of}
use Rattle.face_loops.proofs.trail.next_from.Goals as goal

pub returns-in-Some : goal.returns-in-Some
returns-in-Some c =
    goes_on (edges_of c.args.segments.now) c.args.used.now c.args.vertex c.in-Some.place
    (omega (arith, c.requires.full, length-edges_of c.args.segments.now)) c.in-Some.ensures.0 c.if-not-used-place.true c.in-Some.ensures.1
    (c.requires.one_to_one.once c.args.vertex)

pub returns-in_default : goal.returns-in_default
returns-in_default c =
    marked_alone (edges_of c.args.segments.now) c.args.used.now c.args.vertex c.in-Some.place
    c.in-Some.ensures.0 c.if-not-used-place.false c.in-Some.ensures.1 (c.requires.one_to_one.once c.args.vertex)

pub returns-in_default-2 : goal.returns-in_default-2
returns-in_default-2 c = none_goes_on (edges_of c.args.segments.now) c.args.used.now c.args.vertex (λ k below here. absurd (c.in_default.ensures k below here))
