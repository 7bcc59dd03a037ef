use Rattle.std.proofs.Common.{arith}
use Rattle.grid_number.proofs.Dropped.{digit-at_most}
use Rattle.grid_number.proofs.digits.appended.Goals as goal

pub returns-then-has_room : goal.returns-then-has_room
returns-then-has_room c = omega (arith, c.if-has_room.true, c.from.ensures, digit-at_most c.args.digit c.requires.digit)
