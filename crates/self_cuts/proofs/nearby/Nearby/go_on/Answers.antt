use Rattle.std.proofs.Common.{subst, sym}
use Rattle.self_cuts.specs.Hands.{AreAtHand}
use Rattle.self_cuts.specs.declared.nearby.Nearby.{Nearby}
use Rattle.self_cuts.proofs.nearby.Nearby.go_on.Goals as goal
use Rattle.self_cuts.proofs.nearby.Nearby.go_on.Goals.{then-t-eq0+in_ok-move_to, else-t-eq0}

pub returns-clause-at_hand : goal.returns-clause-at_hand
returns-clause-at_hand c =
    let is = λ (near : Nearby). AreAtHand c.args.mesh.now near.area near.end near.seen.items in
    elim c.if-t-eq0.branch [
      | then-t-eq0+in_ok-move_to w ↦ subst is (sym w.self-is) w.in_ok-move_to.ensures
      | else-t-eq0 w ↦ subst is (sym w.self-is) c.requires.at_hand
    ]
