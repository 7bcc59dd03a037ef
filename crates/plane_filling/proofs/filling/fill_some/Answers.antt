use Rattle.std.proofs.lemmas.Bool.{MatchBool-at_false}
use Rattle.plane_filling.specs.Pieces.{piece_of}
use Rattle.plane_filling.proofs.Fillable.{forced_at}
use Rattle.plane_filling.proofs.filling.fill_some.Goals as goal

pub returns-then-not-branch : goal.returns-then-not-branch
returns-then-not-branch c =
    forced_at (piece_of c.args.points.now c.args.regions.now c.args.ways.now) c.args.numbers.now c.loop-number.number-index 0 c.loop-number-test.true
    (MatchBool-at_false _ _ c.if-not-branch.true c.in_ok-fill_one.ensures)
