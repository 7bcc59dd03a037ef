use Rattle.std.proofs.Common.{◌≡◌, false}
use Rattle.ring_cutting.specs.Cuts.{covers}
use Rattle.ring_cutting.proofs.Beside.{right_of_ab, right_of_bc, right_of_ca}
use Rattle.ring_cutting.proofs.span.misses.Goals.{then-lies_right-via-then-lies_right, then-lies_right-via-else-lies_right+then-lies_right-2}
use Rattle.ring_cutting.proofs.span.misses.Goals as goal

pub returns-then-lies_right : goal.returns-then-lies_right
returns-then-lies_right c = λ y x h.
    elim c.then-lies_right.branch as (λ _. covers c.args.a c.args.b c.args.c x ≡ false) [
      | then-lies_right-via-then-lies_right w ↦ right_of_ca c.args.a c.args.b c.args.c x (c.lies_right.ensures w.if-lies_right.true x h)
      | then-lies_right-via-else-lies_right+then-lies_right-2 w ↦
          right_of_ab c.args.a c.args.b c.args.c x (w.lies_right-else-lies_right.ensures w.if-lies_right-2.true x h)
    ]

pub returns : goal.returns
returns c = λ y x h. right_of_bc c.args.a c.args.b c.args.c x (c.lies_right-2.ensures y x h)
